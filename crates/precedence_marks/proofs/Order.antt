-- A row of states in order: along the row, and as a middle that keeps its pairs. Assumes nothing.
use mathlib.Core.Path.{◌≡◌, refl, sym, ap, ◌∙◌}
use mathlib.Core.Bool.{Bool, true, false, not, ◌&&◌, ◌||◌}
use mathlib.Core.List.{List, [], ◌∷◌, ◌++◌, map, flatten, Memᴰ}
use Prim.Native.Nat.{ℕ, ◌+◌, ◌/◌, ◌≤◌, ◌<◌}
use native.Mathlib.Numerals.{add-one}
use lib.Bits.{bit_and, bit_or}
use lib.Dec.{eqb}
use lib.ListN.{length, get_or}
use lib.Seq.{slice, slice-cons, slice_empty}
use borrow.Author.Tests.{eq-eqb, ne_eqb}
use Rattle.theory.specs.Pairs.{visited, pair_kept, pairs_kept, back_kept}
use Rattle.precedence.specs.Words.{marks}
use Rattle.precedence.proofs.Words.{marks_same, marks_or, marks_and, no_marks, none_marked, all_same, all_and}
use Rattle.precedence.proofs.Kept.{visited_append, kept_append}
use Rattle.precedence.proofs.Tails.{back_none, back_whole}
use Rattle.precedence_marks.specs.Held.{in_order}

-- ---- along the row

module _ (D rows : List ℕ) (passed at end state : ℕ) (whole : Bool) (h : at < end) (k : end ≤ length rows) (is : state ≡ get_or rows at 0) (so_far : whole ≡ in_order D passed (slice at end rows)) where
  next : whole ≡ (eqb (bit_or (bit_and (get_or D (state / 2) 0) passed) (get_or D (8 + state) 0)) 0 && in_order D (bit_or passed (get_or D (4 + state / 2) 0)) (slice (at + 1) end rows))
  unfolding in_order
  next = so_far ∙ rw (slice-cons at end rows 0 h k, is, add-one at)

  pub next_broken : (bit_or (bit_and (get_or D (state / 2) 0) passed) (get_or D (8 + state) 0) ≡ 0 → ⊥) → whole ≡ false
  next_broken n = next ∙ rw (ne_eqb _ 0 n)

  pub next_kept : bit_or (bit_and (get_or D (state / 2) 0) passed) (get_or D (8 + state) 0) ≡ 0 → whole ≡ in_order D (bit_or passed (get_or D (4 + state / 2) 0)) (slice (at + 1) end rows)
  next_kept e = next ∙ rw (eq-eqb _ 0 e)

pub no_states : (D rows : List ℕ) (passed at end : ℕ) (whole : Bool) → at ≡ end → whole ≡ in_order D passed (slice at end rows) → whole ≡ true
unfolding in_order
no_states D rows passed at end whole e so_far = so_far ∙ rw (e, slice_empty end rows)

-- ---- as a middle

-- Behind the stops g, a part and then others: the part must fit behind g, and the others behind both.
back_append : (ps : List (ℕ × ℕ)) (g xs ys : List ℕ) → back_kept ps g (xs ++ ys) ≡ (back_kept ps g xs && back_kept ps (g ++ xs) ys)
unfolding back_kept
back_append ps g xs ys =
    all_same _ _ ps each
    ∙ all_and (λ p. pair_kept p xs && not (visited p.1 g && visited p.0 xs)) (λ p. pair_kept p ys && not (visited p.1 (g ++ xs) && visited p.0 ys)) ps
  where
    table : (k l g a b v : Bool) → (((k && l) && not (v && b)) && not (g && (a || b))) ≡ ((k && not (g && a)) && (l && not ((g || v) && b)))
    table true true true true true true = refl
    table true true true false true true = refl
    table true true false a true true = refl
    table true true true true false true = refl
    table true true true false false true = refl
    table true true false a false true = refl
    table true true true true b false = refl
    table true true true false b false = refl
    table true true false a b false = refl
    table true false true true b v = refl
    table true false true false b v = refl
    table true false false a b v = refl
    table false l g a b v = refl

    each : (p : ℕ × ℕ) → (pair_kept p (xs ++ ys) && not (visited p.1 g && visited p.0 (xs ++ ys))) ≡ ((pair_kept p xs && not (visited p.1 g && visited p.0 xs)) && (pair_kept p ys && not (visited p.1 (g ++ xs) && visited p.0 ys)))
    each p =
        rw (kept_append p xs ys, visited_append p.0 xs ys, visited_append p.1 g xs)
        (table (pair_kept p xs) (pair_kept p ys) (visited p.1 g) (visited p.0 xs) (visited p.0 ys) (visited p.1 xs))

-- The words of a state, as it is placed.
pub record StateWords (ps : List (ℕ × ℕ)) (part : List ℕ) (firsts seconds broken : ℕ) : Type 0 where
  pub first : firsts ≡ marks (λ p. visited p.0 part) ps
  pub second : seconds ≡ marks (λ p. visited p.1 part) ps
  pub breaks : broken ≡ marks (λ p. not (pair_kept p part)) ps

-- A state fits behind g exactly if no word of it meets what is passed.
fits : (ps : List (ℕ × ℕ)) (g part : List ℕ) (f s b passed : ℕ) → passed ≡ marks (λ p. visited p.1 g) ps → StateWords ps part f s b → eqb (bit_or (bit_and f passed) b) 0 ≡ back_kept ps g part
unfolding back_kept
fits ps g part f s b passed e w =
    rw (e, w.first, w.breaks)
    (ap (λ n. eqb (bit_or n (marks (λ p. not (pair_kept p part)) ps)) 0) (marks_and (λ p. visited p.0 part) (λ p. visited p.1 g) ps)
    ∙ ap (λ n. eqb n 0) (marks_or (λ p. visited p.0 part && visited p.1 g) (λ p. not (pair_kept p part)) ps)
    ∙ none_marked (λ p. (visited p.0 part && visited p.1 g) || not (pair_kept p part)) ps
    ∙ all_same _ _ ps (λ p. table (pair_kept p part) (visited p.0 part) (visited p.1 g)))
  where
    table : (k f s : Bool) → not ((f && s) || not k) ≡ (k && not (s && f))
    table true true true = refl
    table false true true = refl
    table true true false = refl
    table false true false = refl
    table true false true = refl
    table true false false = refl
    table false false s = refl

module _ (ps : List (ℕ × ℕ)) (part : ℕ → List ℕ) (count : ℕ) (D : List ℕ) (words : (s : ℕ) → s < count → StateWords ps (part s) (get_or D (s / 2) 0) (get_or D (4 + s / 2) 0) (get_or D (8 + s) 0)) where
  along : (g : List ℕ) (passed : ℕ) → passed ≡ marks (λ p. visited p.1 g) ps → (ss : List ℕ) → ((s : ℕ) → Memᴰ s ss → s < count) →
      in_order D passed ss ≡ back_kept ps g (flatten (map part ss))
  unfolding in_order flatten
  along g passed e [] h = sym (back_none ps g)
  along g passed e (s ∷ ss) h =
      let k : s < count = h s (Memᴰ.head refl) in
      let more : bit_or passed (get_or D (4 + s / 2) 0) ≡ marks (λ p. visited p.1 (g ++ part s)) ps =
      rw (e, (words s k).second) (marks_or (λ p. visited p.1 g) (λ p. visited p.1 (part s)) ps ∙ marks_same _ _ ps (λ p. sym (visited_append p.1 g (part s)))) in
      rw (fits ps g (part s) _ _ _ passed e (words s k), along (g ++ part s) (bit_or passed (get_or D (4 + s / 2) 0)) more ss (λ x m. h x (Memᴰ.tail m)), back_append ps g (part s) (flatten (map part ss)))

  -- A row of states is in order exactly if its segments, one behind the other as they are placed, keep every pair.
  pub row_kept : (ss : List ℕ) → ((s : ℕ) → Memᴰ s ss → s < count) → in_order D 0 ss ≡ pairs_kept ps (flatten (map part ss))
  unfolding visited
  row_kept ss h = along [] 0 (sym (no_marks ps)) ss h ∙ back_whole ps (flatten (map part ss))
