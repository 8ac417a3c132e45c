-- `scan_sifting::one_more` meets its contract. Assumes nothing.
use Rattle.scan_sifting.proofs.Sifting.{is_closed, is_open}
use Rattle.scan_sifting.proofs.one_more.Goals as goal

pub returns-then-signs-i-ne0 : goal.returns-then-signs-i-ne0
returns-then-signs-i-ne0 c =
    is_closed c.args.signs.now c.args.blocked c.args.i c.args.count c.if-signs-i-ne0.true

pub returns : goal.returns
returns c =
    is_open c.args.signs.now c.args.blocked c.args.i c.args.count c.if-signs-i-ne0.false
