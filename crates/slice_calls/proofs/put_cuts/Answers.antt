-- `slice_calls::put_cuts` meets its contract. Assumes nothing.
use mathlib.Core.Path.{◌≡◌, refl, ap, ◌∙◌}
use mathlib.Core.List.{◌++◌}
use lib.ListN.{take, drop, length-set}
use lib.Seq.{take_all, length-take-le}
use native.Mathlib.Omega.{arith}
use Rattle.slice_calls.proofs.Places.{written_more}
use Rattle.slice_calls.proofs.put_cuts.Goals as goal

pub loop-i-init : goal.loop-i-init
loop-i-init c = (omega arith, refl, refl)

pub bounds-cuts-i : goal.bounds-cuts-i
bounds-cuts-i c = omega (arith, c.requires.five, c.requires.most)

pub bounds-place-i : goal.bounds-place-i
bounds-place-i c = let l = c.loop-i in omega (arith, l.invariant.1, c.requires.room)

pub loop-i-preserved : goal.loop-i-preserved
loop-i-preserved c = let l = c.loop-i in (omega arith, simp length-set l.invariant.1, rw l.invariant.2 (written_more c.args.k c.args.cuts c.args.place.now l.i (omega arith) (omega (arith, c.requires.five, c.requires.most)) (omega (arith, c.requires.room))))

pub returns : goal.returns
returns c = let l = c.loop-i in let e : l.i ≡ c.args.k = omega arith in let m = length-take-le c.args.k c.args.cuts (omega (arith, c.requires.five, c.requires.most)) in l.invariant.2 ∙ rw e (ap (λ t. t ++ drop c.args.k c.args.place.now) (take_all c.args.k (take c.args.k c.args.cuts) (omega (arith, m))))
