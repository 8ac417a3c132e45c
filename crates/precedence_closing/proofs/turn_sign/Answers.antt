-- `precedence_closing::turn_sign` meets its contract, by one computed test. Assumes nothing.
use Prim.Native.Nat.{◌%◌}
use native.Mathlib.Omega.{arith}
use borrow.Author.Tests.{eq-eqb, ne_eqb}
use Rattle.precedence_closing.proofs.Signs.{turn_room, turn_is}
use Rattle.precedence_closing.proofs.turn_sign.Goals as goal

pub returns-then-state-eq0 : goal.returns-then-state-eq0
returns-then-state-eq0 c = rw (eq-eqb (c.args.state % 2) 0 c.if-state-eq0.true) at (turn_is c.args.state c.requires)

pub overflow_mul-result : goal.overflow_mul-result
overflow_mul-result c = omega (arith, turn_room c.args.state c.requires)

pub overflow_cast-result : goal.overflow_cast-result
overflow_cast-result c = omega (arith, turn_room c.args.state c.requires)

pub overflow_shl-result : goal.overflow_shl-result
overflow_shl-result c = omega (arith, turn_room c.args.state c.requires)

pub returns : goal.returns
returns c = rw (ne_eqb (c.args.state % 2) 0 c.if-state-eq0.false) at (turn_is c.args.state c.requires)
