-- `pattern_list_loading::put_digits` meets its contract: the first values are those of the first digits. Assumes nothing.
use mathlib.Core.Path.{refl}
use native.Mathlib.Omega.{arith}
use lib.ListN.{length-set}
use Rattle.pattern_list_loading.proofs.Places.{one_put, all_put}
use Rattle.pattern_list_loading.proofs.put_digits.Goals as goal

pub loop-i-init : goal.loop-i-init
loop-i-init c = (omega arith, c.requires.places, refl)

pub overflow_sub-out : goal.overflow_sub-out
overflow_sub-out c = omega (arith, c.requires.each c.loop-i.i c.loop-i-test.true)

pub loop-i-preserved : goal.loop-i-preserved
loop-i-preserved c =
    let l = c.loop-i in
    let h = c.loop-i-test.true in
    (omega arith, simp length-set l.invariant.1, one_put c.args.digits.now l.out l.i h l.invariant.1 l.invariant.2)

pub returns : goal.returns
returns c =
    let l = c.loop-i in
    all_put c.args.digits.now l.out l.i (omega arith) l.invariant.1 l.invariant.2
