-- Where the segments of a cut set lie in the route, and where they begin and end.
use mathlib.Core.Path.{◌≡◌, refl, sym, ap, ◌∙◌}
use mathlib.Core.Bool.{Bool, true, false, cond}
use mathlib.Core.List.{List, [], ◌∷◌, ◌++◌, reverse, reverse-cons}
use Prim.Native.Nat.{ℕ, zero, suc, ◌-◌, ◌≤◌, ◌<◌}
use native.Mathlib.Omega.{arith}
use native.Mathlib.Decide.{ℕ_discrete, dec_lt}
use borrow.Author.Tests.{lt-ltb, le-ltb}
use lib.ListN.{length, get_or, take, drop, drop_of_length-le, take-append-drop}
use lib.Seq.{slice, slice-cons, take-suc, drop-cons, drop-append-le, length-take-le, drop-length}
use Rattle.theory.specs.Moves.{Rising}
use Rattle.theory.specs.Route.{segments, reverse_if}
use Rattle.theory.specs.Costs.{last_of, first_of}
use Rattle.theory.specs.Tables.{Stops, CutSet}
use Rattle.theory.proofs.Delta.{gap}
use Rattle.costs.specs.RouteCosts.{stop_at, first_cuts}

-- ---- first and last stops

pub last_snoc : (a : ℕ) (l : List ℕ) (x : ℕ) → last_of a (l ++ (x ∷ [])) ≡ x
unfolding last_of
last_snoc a [] x = refl
last_snoc a (y ∷ l) x = last_snoc y l x

first_snoc : (l : List ℕ) (x a : ℕ) → first_of (l ++ (x ∷ [])) a ≡ first_of l x
unfolding first_of
first_snoc [] x a = refl
first_snoc (y ∷ l) x a = refl

first_reverse : (l : List ℕ) (a : ℕ) → first_of (reverse l) a ≡ last_of a l
unfolding first_of last_of
first_reverse [] a = refl
first_reverse (x ∷ l) a = rw (reverse-cons x l) (first_snoc (reverse l) x a ∙ first_reverse l x)

last_reverse : (l : List ℕ) (a : ℕ) → last_of a (reverse l) ≡ first_of l a
unfolding first_of last_of
last_reverse [] a = refl
last_reverse (x ∷ l) a = rw (reverse-cons x l) (last_snoc a (reverse l) x)

module _ (r : List ℕ) (start end : ℕ) (h : start < end) (k : end ≤ length r) where
  first_slice : (a : ℕ) → first_of (slice start end r) a ≡ get_or r start 0
  unfolding first_of
  first_slice a = rw (slice-cons start end r 0 h k)

  last_slice : (a : ℕ) → last_of a (slice start end r) ≡ get_or r (end - 1) 0
  last_slice a =
      let e : end ≡ suc (end - 1) = omega arith in
      let parted : slice start end r ≡ slice start (end - 1) r ++ (get_or r (end - 1) 0 ∷ []) =
      ap (λ n. slice start n r) e
      ∙ ap (drop start) (take-suc r (end - 1) 0 (omega arith))
      ∙ drop-append-le start (take (end - 1) r) (get_or r (end - 1) 0 ∷ []) (omega (arith, length-take-le (end - 1) r (omega arith))) in
      rw parted (last_snoc a (slice start (end - 1) r) (get_or r (end - 1) 0))

  -- As placed: reversed, a segment begins at its last stop and ends at its first.
  pub first_placed : (b : Bool) (a : ℕ) → first_of (reverse_if b (slice start end r)) a ≡ cond b (get_or r (end - 1) 0) (get_or r start 0)
  unfolding reverse_if
  first_placed true a = first_reverse (slice start end r) a ∙ last_slice a
  first_placed false a = first_slice a

  pub last_placed : (b : Bool) (a : ℕ) → last_of a (reverse_if b (slice start end r)) ≡ cond b (get_or r start 0) (get_or r (end - 1) 0)
  unfolding reverse_if
  last_placed true a = last_reverse (slice start end r) a ∙ first_slice a
  last_placed false a = last_slice a

-- ---- the segments of a cut set

pub head_at : (cs r : List ℕ) → 0 < length cs → get_or (segments 0 cs r) 0 [] ≡ take (get_or cs 0 0) r
unfolding segments
head_at [] r h = absurd (omega arith)
head_at (c ∷ cs) r h = refl

middle_at : (from : ℕ) (cs r : List ℕ) (i : ℕ) → suc i < length cs → get_or (segments from cs r) (suc i) [] ≡ slice (get_or cs i 0) (get_or cs (suc i) 0) r
unfolding segments
middle_at from [] r i h = absurd (omega arith)
middle_at from (c ∷ []) r i h = absurd (omega arith)
middle_at from (c ∷ d ∷ cs) r zero h = refl
middle_at from (c ∷ d ∷ cs) r (suc i) h = middle_at c (d ∷ cs) r i (omega arith)

pub tail_at : (from : ℕ) (cs r : List ℕ) → 0 < length cs → get_or (segments from cs r) (length cs) [] ≡ drop (get_or cs (length cs - 1) 0) r
unfolding segments
tail_at from [] r h = absurd (omega arith)
tail_at from (c ∷ []) r h = refl
tail_at from (c ∷ d ∷ cs) r h =
    let e : suc (suc (length cs)) - 1 ≡ suc (suc (length cs) - 1) = omega arith in
    rw e (tail_at c (d ∷ cs) r (omega arith))

pub cuts_parted : (cuts : List ℕ) → 1 ≤ length cuts → cuts ≡ first_cuts cuts ++ (get_or cuts (length cuts - 1) 0 ∷ [])
cuts_parted cuts h =
    let e : suc (length cuts - 1) ≡ length cuts = omega arith in
    sym (take-append-drop (length cuts - 1) cuts) ∙ ap (λ l. take (length cuts - 1) cuts ++ l) (drop-cons cuts (length cuts - 1) 0 (omega arith) ∙ ap (λ l. get_or cuts (length cuts - 1) 0 ∷ l) (ap (λ n. drop n cuts) e ∙ drop-length cuts))

pub first_many : (cuts : List ℕ) → length (first_cuts cuts) ≡ length cuts - 1
first_many cuts = length-take-le (length cuts - 1) cuts (omega arith)

cut_within : (low n : ℕ) (cs : List ℕ) (i : ℕ) → Rising low cs n → i < length cs → get_or cs i 0 ≤ n
cut_within low n [] i t h = absurd (omega arith)
cut_within low n (c ∷ cs) zero t h = t.1
cut_within low n (c ∷ cs) (suc i) t h = cut_within (suc c) n cs i t.2 (omega arith)

module _ (cs r : List ℕ) (cut_set : CutSet (length cs) (length r) cs) where
  pub cut_below : (i : ℕ) → i < length cs → get_or cs i 0 ≤ length r
  cut_below i h = cut_within 0 (length r) cs i cut_set.rising h

  pub segment_is : (i : ℕ) → 1 ≤ i → i < length cs → get_or (segments 0 cs r) i [] ≡ slice (get_or cs (i - 1) 0) (get_or cs i 0) r
  segment_is i h k = let e : i ≡ suc (i - 1) = omega arith in
      ap (λ j. get_or (segments 0 cs r) j []) e ∙ middle_at 0 cs r (i - 1) (omega arith) ∙ ap (λ j. slice (get_or cs (i - 1) 0) (get_or cs j 0) r) (sym e)

  pub segment_filled : (i : ℕ) → 1 ≤ i → i < length cs → get_or cs (i - 1) 0 < get_or cs i 0
  segment_filled i h k = let e : suc (i - 1) ≡ i = omega arith in
      rw e at (gap (length r) 0 cs (i - 1) cut_set.rising (omega arith))

  head_is : get_or (segments 0 cs r) 0 [] ≡ take (get_or cs 0 0) r
  head_is = head_at cs r (omega (arith, cut_set.least))

  -- Cut 0 makes the depot a the head's end.
  pub head_empty : (a : ℕ) → get_or cs 0 0 ≡ 0 → a ≡ last_of a (get_or (segments 0 cs r) 0 [])
  unfolding last_of
  head_empty a e = rw (head_is, e)

  pub head_filled : (a : ℕ) → 0 < get_or cs 0 0 → get_or r (get_or cs 0 0 - 1) 0 ≡ last_of a (get_or (segments 0 cs r) 0 [])
  head_filled a h = rw head_is (sym (last_slice r 0 (get_or cs 0 0) h (cut_below 0 (omega (arith, cut_set.least))) a))

  pub last_cut : get_or cs (length cs - 1) 0 ≤ length r
  last_cut = cut_below (length cs - 1) (omega (arith, cut_set.least))

  -- Cut n makes the end harbour a the tail's start.
  tail_empty : (a : ℕ) → get_or cs (length cs - 1) 0 ≡ length r → a ≡ first_of (get_or (segments 0 cs r) (length cs) []) a
  unfolding first_of
  tail_empty a e = rw (tail_at 0 cs r (omega (arith, cut_set.least)), e, drop_of_length-le r {i = length r} (omega arith))

  tail_filled : (a : ℕ) → get_or cs (length cs - 1) 0 < length r → get_or r (get_or cs (length cs - 1) 0) 0 ≡ first_of (get_or (segments 0 cs r) (length cs) []) a
  unfolding first_of
  tail_filled a h = rw (tail_at 0 cs r (omega (arith, cut_set.least)), drop-cons r (get_or cs (length cs - 1) 0) 0 h)

  pub tail_is : (a : ℕ) → stop_at a r (get_or cs (length cs - 1) 0) ≡ first_of (get_or (segments 0 cs r) (length cs) []) a
  tail_is a = by (dec_lt (get_or cs (length cs - 1) 0) (length r))
    where
      by : Dec (get_or cs (length cs - 1) 0 < length r) → stop_at a r (get_or cs (length cs - 1) 0) ≡ first_of (get_or (segments 0 cs r) (length cs) []) a
      by (yes h) = rw (lt-ltb _ _ h) (tail_filled a h)
      by (no n) = rw (le-ltb (get_or cs (length cs - 1) 0) (length r) (omega arith)) (tail_empty a (omega (arith, last_cut)))

  -- Both are locations.
  module _ (locations a : ℕ) (stops : Stops locations r) (known : a < locations) where
    pub head_known : last_of a (get_or (segments 0 cs r) 0 []) < locations
    head_known = by (ℕ_discrete (get_or cs 0 0) 0)
      where
        by : Dec (get_or cs 0 0 ≡ 0) → last_of a (get_or (segments 0 cs r) 0 []) < locations
        by (yes e) = rw (← (head_empty a e)) known
        by (no n) = rw (← (head_filled a (omega arith))) (stops.known _ (omega (arith, cut_below 0 (omega (arith, cut_set.least)))))

    pub tail_known : first_of (get_or (segments 0 cs r) (length cs) []) a < locations
    tail_known = by (ℕ_discrete (get_or cs (length cs - 1) 0) (length r))
      where
        by : Dec (get_or cs (length cs - 1) 0 ≡ length r) → first_of (get_or (segments 0 cs r) (length cs) []) a < locations
        by (yes e) = rw (← (tail_empty a e)) known
        by (no n) = rw (← (tail_filled a (omega (arith, last_cut)))) (stops.known _ (omega (arith, last_cut)))
