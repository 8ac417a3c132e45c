-- `text_tables::read_tables` meets its contract. Assumes nothing.
use Rattle.text_tables.proofs.Rows.{legs_missing, latest_missing, service_told}
use Rattle.text_tables.proofs.read_tables.Goals as goal

pub returns-in_err-after_legs : goal.returns-in_err-after_legs
returns-in_err-after_legs c =
    rw c.from_residual.ensures (legs_missing c.args.locations c.args.text.now (rw c.in_err-after_legs.was at c.read_rows.ensures))

pub returns-in_err-after_latest : goal.returns-in_err-after_latest
returns-in_err-after_latest c =
    let legs = rw c.in_ok-after_legs.was at c.read_rows.ensures in
    rw c.from_residual-in_err-after_latest.ensures (latest_missing c.args.locations c.args.text.now legs (rw (c.requires.deadlines, c.in_err-after_latest.was) at c.read_row.ensures))

pub returns : goal.returns
returns c =
    let legs = rw c.in_ok-after_legs.was at c.read_rows.ensures in
    let latest = rw (c.requires.deadlines, c.in_ok-after_latest.was) at c.read_row.ensures in
    let row = c.read_row-2 in
    service_told c.args.locations c.args.text.now legs latest row.new.out row.result (rw c.requires.services at row.ensures)
