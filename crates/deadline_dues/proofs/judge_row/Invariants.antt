-- `deadline_dues::judge_row` meets its contract. The invariant: the states to come decide, from the state before and the second of the clock. Assumes nothing.
use mathlib.Core.Path.{◌≡◌}
use Prim.Native.Nat.{◌+◌, ◌-◌, ◌*◌, ◌^◌, ◌≤◌}
use lib.Seq.{slice}
use Rattle.deadline_dues.specs.Dues.{in_time}
use Rattle.deadline_dues.proofs.judge_row.Given as goal

abbrev pub invariant-loop-at : goal.invariant-loop-at
invariant-loop-at l =
    (4 * l.i ≤ l.at)
    × (l.at ≤ 4 * l.i + l.m)
    × (l.from ≤ 9)
    × (l.now ≤ 2 ^ 41 * (1 + (l.at - 4 * l.i)))
    × (in_time l.joint l.stays l.dues 9 l.clock (slice (4 * l.i) (4 * l.i + l.m) l.rows) ≡ in_time l.joint l.stays l.dues l.from l.now (slice l.at (4 * l.i + l.m) l.rows))
