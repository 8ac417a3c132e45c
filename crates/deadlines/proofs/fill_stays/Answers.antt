-- `deadlines::fill_stays` meets its contract. The invariant: the places up to i hold their sums, and the last of them is at hand.
use native.Mathlib.Omega.{arith}
use Rattle.deadlines.proofs.Stays.{no_stay, one_stay}
use Rattle.deadlines.proofs.fill_stays.Goals as goal

pub loop-i-init : goal.loop-i-init
loop-i-init c =
    (omega arith, no_stay c.args.service.now c.args.route.now c.args.stayed.now c.requires.places)

pub loop-i-preserved : goal.loop-i-preserved
loop-i-preserved c =
    let l = c.loop-i in
    let h = c.loop-i-test.true in
    let v = c.service_of-sum.ensures in
    (omega arith, one_stay c.args.service.now c.args.route.now l.stayed l.i l.sum _ l.invariant.1 h c.requires.short v.is v.small)
