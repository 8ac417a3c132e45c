-- `precedence::grow_marks` meets its contract. The invariant: the words are those up to here. Assumes nothing.
use Prim.Native.Nat.{◌≤◌}
use Rattle.precedence.specs.Words.{MarksGrown}
use Rattle.precedence.proofs.grow_marks.Given as goal

abbrev pub invariant-loop-at : goal.invariant-loop-at
invariant-loop-at l = (l.from ≤ l.at) × (l.at ≤ l.to) × MarksGrown l.members l.route l.from l.at l.initial.grown l.grown
