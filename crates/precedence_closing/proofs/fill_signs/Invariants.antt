-- `precedence_closing::fill_signs` meets its contract. The invariant: the signs of the first i rows stand. Assumes nothing.
use Prim.Native.Nat.{◌-◌, ◌≤◌}
use Rattle.precedence_closing.specs.Closing.{Signed}
use Rattle.precedence_closing.proofs.fill_signs.Given as goal

abbrev pub invariant-loop-i : goal.invariant-loop-i
invariant-loop-i l = (l.i ≤ l.count) × Signed l.rows l.i l.signs
