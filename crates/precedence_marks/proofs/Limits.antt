-- Where a route may be cut, with pairs or without. Assumes nothing.
use mathlib.Core.Path.{◌≡◌}
use mathlib.Core.Bool.{true}
use mathlib.Core.Logic.{inl, inr, ⊎_elim}
use mathlib.Core.List.{List, []}
use Prim.Native.Nat.{ℕ}
use native.Mathlib.Omega.{arith}
use lib.ListN.{length}
use Rattle.theory.specs.Pairs.{all, pairs_kept}
use Rattle.precedence.specs.Words.{PairsLent, Readable, FrontFound, BackFound}
use Rattle.precedence_marks.specs.Held.{RouteTellable, HeadLimit, TailSince}
use Rattle.precedence_marks.proofs.Judged.{kept_reach, kept_since}

no_pairs : (ps : List (ℕ × ℕ)) (r : List ℕ) → ps ≡ [] → pairs_kept ps r ≡ true
unfolding pairs_kept all
no_pairs ps r e = rw e

module _ (M r : List ℕ) (given : RouteTellable M r) where
  module _ (none : length M ≡ 0) where
    without : (ps : List (ℕ × ℕ)) → PairsLent ps M → pairs_kept ps r ≡ true
    without ps (inl e) = no_pairs ps r e.0
    without ps (inr m) = absurd (omega (arith, none, m.0))

    pub whole_head : HeadLimit M r (length r)
    whole_head = record { within = omega arith; is = λ ps m. kept_reach ps r (without ps m) }

    pub whole_tail : TailSince M r 0
    whole_tail = record { within = omega arith; is = λ ps m. kept_since ps r (without ps m) }

  module _ (some : length M ≡ 0 → ⊥) where
    pub readable : Readable M r
    readable = record { places = ⊎_elim (λ e. absurd (some e)) (λ e. e) given.sized; short = given.short; known = given.known }

    pub head_found : (reach : ℕ) → FrontFound M r reach → HeadLimit M r reach
    head_found reach w = record { within = w.within; is = λ ps m. ⊎_elim (λ e. absurd (some e.1)) (λ k. w.is ps k.1) m }

    pub tail_found : (since : ℕ) → BackFound M r since → TailSince M r since
    tail_found since w = record { within = w.within; is = λ ps m. ⊎_elim (λ e. absurd (some e.1)) (λ k. w.is ps k.1) m }
