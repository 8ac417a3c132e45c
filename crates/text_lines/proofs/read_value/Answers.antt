-- `text_lines::read_value` meets its contract. Assumes nothing.
use Rattle.text_lines.proofs.Places.{value_of, value_none}
use Rattle.text_lines.proofs.read_value.Goals as goal

pub returns-in_err-rest : goal.returns-in_err-rest
returns-in_err-rest c =
    rw c.from_residual.ensures (value_none c.args.key.now c.args.text.now (rw c.in_err-rest.was at c.read_row.ensures))

pub returns : goal.returns
returns c =
    value_of c.args.key.now c.args.text.now c.read_row.new.out c.in_ok-rest.rest.now (rw c.in_ok-rest.was at c.read_row.ensures)
