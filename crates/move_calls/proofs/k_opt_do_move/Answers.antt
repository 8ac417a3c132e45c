-- The first six cuts decide as much as all of them.
use Rattle.move_calls.proofs.FirstSix.{from_numbers}
use Rattle.move_calls.proofs.k_opt_do_move.Goals as goal

pub returns : goal.returns
returns c =
    let m = c.do_move_lists in
    from_numbers c.args.k c.args.pattern c.args.round c.args.cuts.now c.cut_numbers-numbers.result c.args.route.now c.args.journal.now _ m.new.route m.new.journal c.cut_numbers-numbers.ensures (rw (c.held_rounds.ensures, c.held_positions.ensures) at m.ensures)
