-- `move_applying::k_opt_do_move` meets its contract. Assumes nothing.
use native.Mathlib.Omega.{arith}
use lib.ListN.{length-take}
use Rattle.theory.specs.Moves.{patterns}
use Rattle.theory.specs.Polish.{move_at}
use Rattle.move_applying.proofs.Copies.{from_start, first_places, from_copy}
use Rattle.move_applying.proofs.k_opt_do_move.Goals as goal

pub slice_bounds-reconnect_pattern-end-2 : goal.slice_bounds-reconnect_pattern-end-2
slice_bounds-reconnect_pattern-end-2 c =
    simp length-take (omega (arith, c.requires.room, c.copy_in.auto.dst))

pub reconnect_pattern-requires : goal.reconnect_pattern-requires
reconnect_pattern-requires c =
    let copied = c.copy_in in
    let route = c.args.route.now in
    let journal = c.args.journal.now in
    let same = first_places route journal _ (from_start route journal _ copied.ensures) in
    record { cut_set = rw same c.requires.cut_set; listed = c.requires.listed; room = rw same (omega arith) }

pub returns : goal.returns
returns c =
    let copied = c.copy_in in
    let route = c.args.route.now in
    let journal = c.args.journal.now in
    let same = first_places route journal _ (from_start route journal _ copied.ensures) in
    record {
      route_after = from_copy (move_at (patterns c.args.k) c.args.positions.now c.args.pattern) _ route _ same c.reconnect_pattern.ensures;
      journal_after = from_start route journal _ copied.ensures;
    }
