-- `scan_sifting::sift_rows` meets its contract. The invariant: at hand are the open ones among the first i rows. Assumes nothing.
use mathlib.Core.Path.{◌≡◌}
use native.Mathlib.Omega.{arith}
use Rattle.scan_sifting.proofs.Sifting.{none_counted, counted, asked_at, none_sifted, sifted_more}
use Rattle.scan_sifting.proofs.sift_rows.Goals as goal

pub loop-i-init : goal.loop-i-init
loop-i-init c = (omega arith, none_counted _, none_sifted c.requires.hand_places)

pub put_open-count-requires : goal.put_open-count-requires
put_open-count-requires c =
    let g = c.requires in
    let l = c.loop-i in
    record {
      places = g.places;
      hand_places = l.invariant.2.places;
      asked = asked_at _ _ _ (record { sign_places = g.sign_places; few = g.few }) c.loop-i-test.true l.invariant.1;
    }

pub loop-i-preserved : goal.loop-i-preserved
loop-i-preserved c =
    let l = c.loop-i in
    let w = c.put_open-count.ensures in
    (omega (arith, c.loop-i-test.true), counted _ l.i l.count c.put_open-count.result l.invariant.1 w.is, sifted_more l.invariant.1 l.invariant.2 w)

pub returns : goal.returns
returns c =
    let l = c.loop-i in
    let e : l.i ≡ c.args.patterns = omega (arith, l.invariant.0, c.loop-i-test.false) in
    (rw e at l.invariant.1, rw e at l.invariant.2)
