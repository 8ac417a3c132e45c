-- `scan_sifting::put_open` meets its contract: four stores are one row. Assumes nothing.
use Rattle.scan_sifting.proofs.Sifting.{row_closed, row_put}
use Rattle.scan_sifting.proofs.put_open.Goals as goal

pub returns-then-signs-i-ne0 : goal.returns-then-signs-i-ne0
returns-then-signs-i-ne0 c = row_closed c.requires c.args.blocked c.if-signs-i-ne0.true

pub returns : goal.returns
returns c =
    row_put c.requires c.args.blocked c.if-signs-i-ne0.false
