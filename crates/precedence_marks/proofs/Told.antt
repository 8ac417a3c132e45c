-- The words of a cut set's segments, with pairs or without. Assumes nothing.
use mathlib.Core.Path.{◌≡◌}
use mathlib.Core.Logic.{inl, inr, ⊎_elim}
use mathlib.Core.List.{List, []}
use Prim.Native.Nat.{ℕ, ◌+◌, ◌-◌, ◌*◌}
use native.Mathlib.Omega.{arith}
use lib.ListN.{length, get_or}
use Rattle.costs.specs.RouteCosts.{first_cuts}
use Rattle.precedence.specs.Words.{marks, PairsLent}
use Rattle.precedence_marks.specs.Held.{SegmentsMarked, MarksAsked, MarksReached, MarksKept, MarksTellable, MarksTold}
use Rattle.precedence_marks.proofs.Filling.{reached_held}

-- Of no pairs every word is 0.
unmarked : (ps : List (ℕ × ℕ)) (cs r D : List ℕ) (count : ℕ) → ps ≡ [] → length D ≡ 17 → ((c : ℕ) → get_or D c 0 ≡ 0) → SegmentsMarked ps cs r count D
unfolding marks
unmarked ps cs r D count e places zeros =
    rw e (record {
      places = places;
      each = λ i l m. record { first = zeros (i - 1); second = zeros (4 + i - 1); breaks = zeros (8 + (2 * i - 2)); turns = zeros (8 + (2 * i - 2) + 1) };
    })

module _ (M r cs D : List ℕ) (given : MarksTellable M r cs D) where
  pub told_none : length M ≡ 0 → MarksTold M r cs D D
  told_none none = record { places = given.places; behind = given.behind; is = by }
    where
      by : (ps : List (ℕ × ℕ)) → PairsLent ps M → MarksKept ps M r (first_cuts cs) D → SegmentsMarked ps cs r (length cs - 1) D × MarksKept ps M r (first_cuts cs) D
      by ps (inl e) (inl k) = (unmarked ps cs r D (length cs - 1) e.0 k.1 k.2, inl k)
      by ps (inl e) (inr k) = absurd (omega (arith, none, k.0))
      by ps (inr m) k = absurd (omega (arith, none, m.0))

  module _ (some : length M ≡ 0 → ⊥) where
    many : length M ≡ 2048
    many = ⊎_elim (λ e. absurd (some e)) (λ e. e) given.sized

    pub to_reach : MarksAsked M r cs D
    to_reach =
        record {
          readable = record { places = many; short = given.short; known = given.known };
          cut_set = given.cut_set;
          places = given.places;
          before = given.before;
          behind = given.behind;
        }

    pub told_some : (D' : List ℕ) → MarksReached M r cs D D' → MarksTold M r cs D D'
    told_some D' w = record { places = w.places; behind = omega (arith, w.reach); is = by }
      where
        by : (ps : List (ℕ × ℕ)) → PairsLent ps M → MarksKept ps M r (first_cuts cs) D → SegmentsMarked ps cs r (length cs - 1) D' × MarksKept ps M r (first_cuts cs) D'
        by ps (inl e) k = absurd (some e.1)
        by ps (inr m) (inl k) = absurd (some k.0)
        by ps (inr m) (inr k) = let s = w.is ps m.1 k.1 in (s, inr (k.0, reached_held ps r cs D' given.cut_set w.reach s))
