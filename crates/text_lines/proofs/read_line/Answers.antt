-- `text_lines::read_line` meets its contract. Assumes nothing.
use lib.ListN.{length}
use Rattle.text_lines.proofs.Places.{line_after, line_none}
use native.Mathlib.Omega.{arith}
use Rattle.text_lines.proofs.read_line.Goals as goal

pub returns-in_err-list : goal.returns-in_err-list
returns-in_err-list c =
    rw c.from_residual.ensures (record { reads = line_none c.args.key.now (length c.args.out.now) c.args.text.now (rw c.in_err-list.was at c.skip_key.ensures); within = omega arith })

pub returns : goal.returns
returns c =
    rw (line_after c.args.key.now (length c.args.out.now) c.args.text.now c.in_ok-list.list.now (rw c.in_ok-list.was at c.skip_key.ensures)) c.read_list.ensures
