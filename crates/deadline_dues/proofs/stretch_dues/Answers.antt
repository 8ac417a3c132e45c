-- `deadline_dues::stretch_dues` meets its contract. Assumes nothing.
use Rattle.deadline_dues.proofs.Held.{growing, stretched}
use native.Mathlib.Omega.{arith}
use Rattle.deadline_dues.proofs.stretch_dues.Goals as goal

pub grow_dues-more-requires : goal.grow_dues-more-requires
grow_dues-more-requires c = growing c.requires.0 c.requires.1

pub put_dues-requires : goal.put_dues-requires
put_dues-requires c =
    let p = c.requires.0 in
    record { places = p.held.places; least = omega (arith, p.cut_set.least); most = omega (arith, p.cut_set.most) }

pub returns : goal.returns
returns c =
    rw c.put_dues.ensures (stretched c.requires.0 c.requires.1 _ _ c.grow_dues-more.ensures)
