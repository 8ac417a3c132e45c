-- `generate_permutations`: the rows still to be written, stored from the next place, give all rows. The measure is the number of items left.
use mathlib.Core.Path.{◌≡◌}
use Prim.Native.Nat.{◌≤◌, ◌+◌, ◌<◌}
use lib.ListN.{length, take}
use lib.Seq.{sets}
use Rattle.pattern_orders.specs.Rows.{permutations}
use Rattle.pattern_orders.proofs.Permutations.{rows_from}
use Rattle.pattern_orders.proofs.+generate_permutations.Given as goal

abbrev pub decreases-generate_permutations : goal.decreases-generate_permutations
decreases-generate_permutations l = l.left

abbrev pub invariant-loop-i : goal.invariant-loop-i
invariant-loop-i l =
    (0 < l.left)
    × (l.i ≤ l.left)
    × (length l.items ≡ 4)
    × (length l.row ≡ 4)
    × (length l.out ≡ length l.initial.out)
    × (l.next + length (rows_from (take l.depth l.row) l.left (take l.left l.items) l.i) ≡ l.at + length (permutations l.items l.left l.row l.depth))
    × (sets l.out l.next (rows_from (take l.depth l.row) l.left (take l.left l.items) l.i) ≡ sets l.initial.out l.at (permutations l.items l.left l.row l.depth))
