-- `leads` meets its contract. The invariant: no way begins with one of the known segments below p. The measure is the number of segments left.
use Prim.Native.Nat.{◌≤◌}
use native.Mathlib.Omega.{arith}
use Rattle.prefixes.proofs.Tried.{not_reached, known_tried, next_tried, all_tried}
use Prim.Native.Nat.{◌-◌}
use Rattle.prefixes.proofs.+leads.Goals as goal
use Rattle.prefixes.proofs.+leads.Goals.{then-reaches+else-leads, else-reaches}

pub loop-p-preserved : goal.loop-p-preserved
loop-p-preserved t c =
    let l = c.loop-p in
    let m : l.p ≤ c.args.known = omega (arith, c.loop-p-test.true) in
    let h = c.hand_on-next in
    let f = c.farther-further in
    let r = c.reaches in (
      l.invariant.0,
      l.invariant.1,
      omega arith,
      omega arith,
      next_tried c.args.known c.args.cuts.now c.args.stands.now c.args.ahead.now c.args.row c.args.goal c.args.used c.args.unknown c.args.left c.args.places l.p l.invariant.4
          (elim c.if-reaches.branch [
            | then-reaches+else-leads w ↦
                known_tried c.args.known c.args.cuts.now c.args.stands.now c.args.ahead.now c.args.row c.args.goal c.args.used c.args.unknown c.args.left c.args.places l.p w.mark-with_p.result f.result h.result l.invariant.2 m h.ensures f.ensures w.mark-with_p.ensures (w.leads.ensures w.if-leads.false)
            | else-reaches w ↦
                known_tried c.args.known c.args.cuts.now c.args.stands.now c.args.ahead.now c.args.row c.args.goal c.args.used c.args.unknown c.args.left c.args.places l.p c.args.used f.result h.result l.invariant.2 m h.ensures f.ensures (λ q d g. g)
                (not_reached c.args.known c.args.cuts.now c.args.stands.now c.args.ahead.now c.args.row f.result c.args.used c.args.unknown (c.args.left - 1) h.result r.result r.ensures w.if-reaches.false)
          ]),
    )

pub returns-then-unknown-eq0 : goal.returns-then-unknown-eq0
returns-then-unknown-eq0 t c =
    let l = c.loop-p in
    λ e.
    all_tried c.args.known c.args.cuts.now c.args.stands.now c.args.ahead.now c.args.row c.args.goal c.args.used c.args.unknown c.args.left c.args.places
    0 l.invariant.0 (λ i a b. l.invariant.4 i a (omega (arith, c.loop-p-test.false))) (λ u. absurd (omega (arith, c.if-unknown-eq0.true))) (λ u. absurd (omega (arith, c.if-unknown-eq0.true)))

pub returns-then-not-reaches : goal.returns-then-not-reaches
returns-then-not-reaches t c =
    let l = c.loop-p in
    let g = c.gather-next in
    let r = c.reaches-2 in
    λ e.
    all_tried c.args.known c.args.cuts.now c.args.stands.now c.args.ahead.now c.args.row c.args.goal c.args.used c.args.unknown c.args.left c.args.places
    g.result l.invariant.0 (λ i a b. l.invariant.4 i a (omega (arith, c.loop-p-test.false))) (λ u. g.ensures)
    (λ u. not_reached c.args.known c.args.cuts.now c.args.stands.now c.args.ahead.now c.args.row c.args.goal c.args.used (c.args.unknown - 1) (c.args.left - 1) g.result r.result r.ensures c.if-not-reaches.true)

pub returns : goal.returns
returns t c =
    let l = c.loop-p in
    let g = c.gather-next in
    λ e.
    all_tried c.args.known c.args.cuts.now c.args.stands.now c.args.ahead.now c.args.row c.args.goal c.args.used c.args.unknown c.args.left c.args.places
    g.result l.invariant.0 (λ i a b. l.invariant.4 i a (omega (arith, c.loop-p-test.false))) (λ u. g.ensures) (λ u. c.leads-2.ensures e)
