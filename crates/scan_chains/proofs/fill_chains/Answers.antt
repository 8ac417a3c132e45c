-- `scan_chains::fill_chains` meets its contract. The invariant: the places of the rows below i stand. Assumes nothing.
use mathlib.Core.Path.{◌≡◌}
use native.Mathlib.Omega.{arith}
use Rattle.scan_chains.proofs.Chains.{no_chains, more_chains}
use Rattle.scan_chains.proofs.fill_chains.Goals as goal

pub loop-i-init : goal.loop-i-init
loop-i-init c = (omega arith, no_chains c.requires)

pub put_chain-requires : goal.put_chain-requires
put_chain-requires c =
    let l = c.loop-i in
    let h = c.loop-i-test.true in
    record { places = c.requires.places; room = l.invariant.1.places; within = omega (arith, c.requires.few, h); known = λ x n m. c.requires.known x (omega (arith, h)) }

pub loop-i-preserved : goal.loop-i-preserved
loop-i-preserved c = (omega arith, more_chains c.loop-i.invariant.1 c.put_chain.ensures)

pub returns : goal.returns
returns c =
    let l = c.loop-i in
    let e : l.i ≡ c.args.count = omega arith in
    rw e at l.invariant.1
