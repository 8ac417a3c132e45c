-- `precedence_closing::order_sign` meets its contract, by one computed test. Assumes nothing.
use Prim.Native.Nat.{◌/◌}
use native.Mathlib.Omega.{arith}
use borrow.Author.Tests.{eq-eqb, ne_eqb, le-leb, lt-leb}
use Rattle.precedence_closing.proofs.Signs.{order_room, order_is}
use Rattle.precedence_closing.proofs.order_sign.Goals as goal

pub returns-then-b-eq4 : goal.returns-then-b-eq4
returns-then-b-eq4 c = rw (eq-eqb (c.args.state / 2) 4 c.if-b-eq4.true) at (order_is c.args.state c.args.behind c.requires.0 c.requires.1)

pub returns-then-b-a : goal.returns-then-b-a
returns-then-b-a c =
    rw (ne_eqb (c.args.state / 2) 4 c.if-b-eq4.false, le-leb (c.args.state / 2) (c.args.behind / 2) c.if-b-a.true) at (order_is c.args.state c.args.behind c.requires.0 c.requires.1)

pub overflow_mul-result : goal.overflow_mul-result
overflow_mul-result c = omega (arith, order_room c.args.state c.requires.0, c.requires.1)

pub overflow_add-result-2 : goal.overflow_add-result-2
overflow_add-result-2 c = omega (arith, order_room c.args.state c.requires.0, c.requires.1)

pub overflow_cast-result : goal.overflow_cast-result
overflow_cast-result c = omega (arith, order_room c.args.state c.requires.0, c.requires.1)

pub overflow_shl-result : goal.overflow_shl-result
overflow_shl-result c = omega (arith, order_room c.args.state c.requires.0, c.requires.1)

pub returns : goal.returns
returns c =
    rw (ne_eqb (c.args.state / 2) 4 c.if-b-eq4.false, lt-leb (c.args.state / 2) (c.args.behind / 2) c.if-b-a.false) at (order_is c.args.state c.args.behind c.requires.0 c.requires.1)
