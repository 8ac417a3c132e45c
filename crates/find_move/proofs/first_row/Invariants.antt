-- No row before this one does it.
use Rattle.std.proofs.Common.{◌≡◌, ℕ, false, ◌≤◌, ◌<◌, length}
use Rattle.find_move.specs.Search.{turned}
use Rattle.find_move.proofs.first_row.Given as goal

abbrev pub invariant-loop-row : goal.invariant-loop-row
invariant-loop-row l = (l.row ≤ length l.masks) × ((x : ℕ) → x < l.row → turned l.old l.wanted l.cuts l.orders l.masks x ≡ false)
