-- `precedence_closing::row_sign` meets its contract: ten signs are the row's. Assumes nothing.
use mathlib.Core.Path.{sym, ap, ◌∙◌}
use Prim.Native.Nat.{◌+◌, ◌*◌}
use native.Mathlib.Omega.{arith}
use lib.ListN.{get_or}
use Rattle.precedence_closing.specs.Closing.{sign}
use Rattle.precedence_closing.proofs.Signs.{four_signs, row_is}
use Rattle.precedence_closing.proofs.row_sign.Goals as goal

pub turn_sign-requires : goal.turn_sign-requires
turn_sign-requires c = c.requires.small (4 * c.args.i) (omega arith) (omega arith)

pub order_sign-requires : goal.order_sign-requires
order_sign-requires c = (c.requires.small (4 * c.args.i) (omega arith) (omega arith), c.requires.small (4 * c.args.i + 1) (omega arith) (omega arith))

pub order_sign-requires-2 : goal.order_sign-requires-2
order_sign-requires-2 c = (c.requires.small (4 * c.args.i) (omega arith) (omega arith), c.requires.small (4 * c.args.i + 2) (omega arith) (omega arith))

pub order_sign-requires-3 : goal.order_sign-requires-3
order_sign-requires-3 c = (c.requires.small (4 * c.args.i) (omega arith) (omega arith), c.requires.small (4 * c.args.i + 3) (omega arith) (omega arith))

pub turn_sign-requires-2 : goal.turn_sign-requires-2
turn_sign-requires-2 c = c.requires.small (4 * c.args.i + 1) (omega arith) (omega arith)

pub order_sign-requires-4 : goal.order_sign-requires-4
order_sign-requires-4 c = (c.requires.small (4 * c.args.i + 1) (omega arith) (omega arith), c.requires.small (4 * c.args.i + 2) (omega arith) (omega arith))

pub order_sign-requires-5 : goal.order_sign-requires-5
order_sign-requires-5 c = (c.requires.small (4 * c.args.i + 1) (omega arith) (omega arith), c.requires.small (4 * c.args.i + 3) (omega arith) (omega arith))

pub turn_sign-requires-3 : goal.turn_sign-requires-3
turn_sign-requires-3 c = c.requires.small (4 * c.args.i + 2) (omega arith) (omega arith)

pub order_sign-requires-6 : goal.order_sign-requires-6
order_sign-requires-6 c = (c.requires.small (4 * c.args.i + 2) (omega arith) (omega arith), c.requires.small (4 * c.args.i + 3) (omega arith) (omega arith))

pub turn_sign-requires-4 : goal.turn_sign-requires-4
turn_sign-requires-4 c = c.requires.small (4 * c.args.i + 3) (omega arith) (omega arith)

pub returns : goal.returns
returns c =
    let rows = c.args.rows.now in
    let at = 4 * c.args.i in
    rw (c.turn_sign.ensures, c.order_sign.ensures, c.order_sign-2.ensures, c.order_sign-3.ensures, c.turn_sign-2.ensures, c.order_sign-4.ensures, c.order_sign-5.ensures, c.turn_sign-3.ensures, c.order_sign-6.ensures, c.turn_sign-4.ensures)
    (four_signs (get_or rows at 0) (get_or rows (at + 1) 0) (get_or rows (at + 2) 0) (get_or rows (at + 3) 0) ∙ sym (ap sign (row_is rows c.args.i (omega (arith, c.requires.places, c.requires.within)))))
