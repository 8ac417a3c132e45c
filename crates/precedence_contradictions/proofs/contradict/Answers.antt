-- `precedence_contradictions::contradict` meets its contract. The invariant: what is left is a set of the pairs. Assumes nothing.
use mathlib.Core.Path.{◌≡◌, sym, ap, ◌∙◌}
use mathlib.Core.Bool.{true, not, false≢true}
use Prim.Native.Nat.{ℕ}
use lib.Dec.{eqb}
use borrow.Author.Tests.{eq-eqb}
use Rattle.theory.specs.Pairs.{visited}
use Rattle.precedence_contradictions.specs.Contrary.{behind_another}
use Rattle.precedence_contradictions.proofs.Left.{staying}
use Rattle.precedence_contradictions.proofs.contradict.Goals as goal

-- Told only where something is left.
not_empty : (n : ℕ) → not (eqb n 0) ≡ true → n ≡ 0 → ⊥
not_empty n e z = false≢true (sym (ap not (eq-eqb n 0 z)) ∙ e)

pub loop-init : goal.loop-init
loop-init c = λ ps m. (λ p. visited p.0 c.args.route.now, c.firsts_visited-left.ensures.is ps m)

pub returns-then-fewer-left : goal.returns-then-fewer-left
returns-then-fewer-left c =
    let l = c.loop in
    record {
      is = λ found ps m.
          let w = l.invariant ps m in
          staying ps c.args.route.now w.0 (sym (c.behind_another-fewer.ensures.is ps m w.0 w.1) ∙ c.if-fewer-left.true ∙ w.1) (λ z. not_empty _ found (w.1 ∙ z));
    }

pub loop-preserved : goal.loop-preserved
loop-preserved c =
    let l = c.loop in
    λ ps m. let w = l.invariant ps m in (behind_another w.0 ps c.args.route.now, c.behind_another-fewer.ensures.is ps m w.0 w.1)

pub returns : goal.returns
returns c = record { is = λ e. absurd (false≢true e) }
