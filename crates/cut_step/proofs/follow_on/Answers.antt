-- `cut_step::follow_on` meets its contract. Assumes nothing.
use mathlib.Core.Path.{◌≡◌, refl, ap, ◌∙◌}
use Prim.Native.Nat.{◌<◌}
use native.Mathlib.Omega.{arith}
use lib.ListN.{length, length-set}
use Rattle.cut_step.proofs.Cuts.{written, written_none, written_one, written_all}
use Rattle.cut_step.proofs.follow_on.Goals as goal

pub loop-place-init : goal.loop-place-init
loop-place-init c = (omega arith, omega arith, refl, written_none _ _ _)

pub loop-place-preserved : goal.loop-place-preserved
loop-place-preserved c =
    let l = c.loop-place in
    let h : l.place < length c.args.cuts.now = omega arith in
    (omega arith, omega arith, length-set l.cuts l.place _ ∙ l.invariant.2, rw l.invariant.3 (written_one _ _ _ _ l.invariant.0 h))

pub returns : goal.returns
returns c =
    let l = c.loop-place in
    let e : l.place ≡ length c.args.cuts.now = omega arith in
    l.invariant.3 ∙ ap (λ n. written c.args.cuts.now c.args.from c.args.first n) e ∙ written_all _ _ _
