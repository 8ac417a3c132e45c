-- `slice_calls::held_cuts` meets its contract. Assumes nothing.
use mathlib.Core.Path.{◌≡◌, refl}
use lib.ListN.{length-set}
use native.Mathlib.Omega.{arith}
use Rattle.slice_calls.proofs.Places.{read_more}
use Rattle.slice_calls.proofs.held_cuts.Goals as goal

pub loop-i-init : goal.loop-i-init
loop-i-init c = (omega arith, refl, refl)

pub bounds-cuts-i : goal.bounds-cuts-i
bounds-cuts-i c = let l = c.loop-i in omega (arith, l.invariant.1, c.requires.0)

pub loop-i-preserved : goal.loop-i-preserved
loop-i-preserved c = let l = c.loop-i in (omega arith, simp length-set l.invariant.1, read_more c.args.place.now l.cuts l.i (omega (arith, l.invariant.1, c.requires.0)) (omega (arith, c.requires.1)) l.invariant.2)

pub returns : goal.returns
returns c = let l = c.loop-i in let e : l.i ≡ c.args.held = omega arith in (l.invariant.1, rw e at l.invariant.2)
