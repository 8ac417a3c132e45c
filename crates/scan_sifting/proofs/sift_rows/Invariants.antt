-- `scan_sifting::sift_rows` meets its contract. The invariant: at hand are the open ones among the first i rows. Assumes nothing.
use mathlib.Core.Path.{◌≡◌}
use Prim.Native.Nat.{◌-◌, ◌≤◌}
use lib.ListN.{length}
use Rattle.scan_shared.specs.Filling.{open_by}
use Rattle.scan_sifting.specs.Sifting.{opens, Sifted}
use Rattle.scan_sifting.proofs.sift_rows.Given as goal

abbrev pub invariant-loop-i : goal.invariant-loop-i
invariant-loop-i l =
    (l.i ≤ l.patterns) × (l.count ≡ length (opens (open_by l.signs l.blocked) l.i)) × Sifted (open_by l.signs l.blocked) l.rows l.i l.hand
