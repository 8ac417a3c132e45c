-- `move_applying::k_opt_undo_move` meets its contract. Assumes nothing.
use native.Mathlib.Omega.{arith}
use lib.ListN.{length-take}
use Rattle.move_applying.proofs.Copies.{put_back}
use Rattle.move_applying.proofs.k_opt_undo_move.Goals as goal

pub slice_bounds-copy_in-end : goal.slice_bounds-copy_in-end
slice_bounds-copy_in-end c = simp length-take (omega (arith, c.requires.as_long))

pub copy_in-requires : goal.copy_in-requires
copy_in-requires c = record { room = simp length-take (omega (arith, c.requires.as_long)) }

pub returns : goal.returns
returns c =
    record { route_after = put_back c.args.route.now c.args.journal.now _ c.requires.as_long c.copy_in.ensures }
