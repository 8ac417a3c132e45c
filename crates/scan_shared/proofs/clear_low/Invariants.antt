-- `scan_shared::clear_low` meets its contract. The invariant: the places below c hold no more than 2 ^ 40. Assumes nothing.
use mathlib.Core.Path.{◌≡◌}
use Prim.Native.Nat.{ℕ, ◌-◌, ◌^◌, ◌≤◌, ◌<◌}
use lib.ListN.{length, get_or}
use Rattle.scan_shared.proofs.clear_low.Given as goal

abbrev pub invariant-loop-c : goal.invariant-loop-c
invariant-loop-c l = (length l.low ≡ 21) × ((x : ℕ) → x < l.c → get_or l.low x 0 ≤ 2 ^ 40)
