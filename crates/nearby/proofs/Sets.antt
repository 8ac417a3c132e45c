-- The sets of the walk: each has k cuts with segments of at least m, and none comes twice. Assumes nothing.
use mathlib.Core.Path.{◌≡◌, refl, sym, ap, ◌∙◌, subst}
use mathlib.Core.Bool.{Bool, true, false, cond, not, ◌&&◌}
use mathlib.Core.Logic.{⊎_elim}
use mathlib.Core.List.Memᴰ
use mathlib.Core.List.{List, [], ◌∷◌, ◌++◌, map, flat_map, append-nil, flatten, tail-eq_of_cons-eq, Memᴰ}
use Prim.Native.Nat.{ℕ, zero, suc, ◌+◌, ◌-◌, ◌*◌, ◌≤◌}
use native.Mathlib.Nat.{mul-suc, mul-one, mul_comm, suc-mul}
use native.Mathlib.Numerals.{add-one}
use native.Mathlib.Omega.{arith}
use lib.Dec.{ltb, eqb, leb}
use lib.ListN.{length, get_or, take}
use lib.Ieee.{Float, lt}
use borrow.Author.Tests.{not-true, eqb-false, ltb-false}
use Rattle.theory.specs.Moves.{upfrom}
use Rattle.std.specs.List.{list_any}
use Rattle.theory.proofs.Moves.{of_flat_map, upfrom_range}
use Rattle.theory.proofs.Distinct.{Distinct, distinct_upfrom, distinct_append}
use Rattle.nearby_nearest.specs.Neighbours.{passing, nearest, nearest_first, neighbours, eligible, distance}
use Rattle.nearby_nearest.proofs.Passing.{of_passing}
use Rattle.nearby_from_cut.specs.Branch.{none_there, goes_on, turns, branch}
use Rattle.nearby_from_cut.proofs.Turns.{kept_range}
use Rattle.nearby.specs.Walk.{walk, nearby_sets, Spaced}

-- ---- a set of a branch begins with an entry, and goes on with a set under it

module _ (own : ℕ → List ℕ) (below : List ℕ → List (List ℕ)) where
  abbrev Under : List ℕ → List ℕ → Type 0
  Under list s = (p : ℕ) × (Memᴰ p list × ((r : List ℕ) × (Memᴰ r (below (own p)) × (s ≡ p ∷ r))))

  of_turns : (list s : List ℕ) → Memᴰ s (turns own below list) → Under list s
  unfolding turns
  of_turns [] s i = absurd (Memᴰ.not-nil i)
  of_turns (p ∷ ps) s i = go (none_there (own p)) (goes_on p ps) i (of_turns ps s)
    where
      later : Under ps s → Under (p ∷ ps) s
      later u = (u.0, (Memᴰ.tail u.1.0, u.1.1))

      under_p : Memᴰ s (map (λ s. p ∷ s) (below (own p))) → Under (p ∷ ps) s
      under_p i = let t = Memᴰ.of_map (λ s. p ∷ s) (below (own p)) i in (p, (Memᴰ.head refl, (t.0, (t.1, sym t.2))))

      go : (b g : Bool) → Memᴰ s (cond b [] (map (λ s. p ∷ s) (below (own p)) ++ cond g (turns own below ps) [])) → (Memᴰ s (turns own below ps) → Under ps s) → Under (p ∷ ps) s
      go true g i r = absurd (Memᴰ.not-nil i)
      go false true i r = ⊎_elim under_p (λ j. later (r j)) (Memᴰ.append_cases (map (λ s. p ∷ s) (below (own p))) i)
      go false false i r = ⊎_elim under_p (λ j. absurd (Memᴰ.not-nil j)) (Memᴰ.append_cases (map (λ s. p ∷ s) (below (own p))) i)

-- ---- the segments

module _ (distances : List Float) (n m count : ℕ) where
  abbrev own : ℕ → ℕ → List ℕ
  own = eligible distances n m count

  branch_spaced : (behind : ℕ) (list : List ℕ) (low : ℕ) → ((p : ℕ) → Memᴰ p list → (low + m ≤ p) × (p ≤ n - m * suc behind)) → m * suc behind ≤ n →
      (s : List ℕ) → Memᴰ s (branch own behind list) → (length s ≡ suc behind) × Spaced m low s n
  unfolding branch
  branch_spaced zero list low h l s i =
      let t = Memᴰ.of_map (λ p. p ∷ []) list i in
      let r = h t.0 t.1 in
      subst (λ (s : List ℕ). (length s ≡ 1) × Spaced m low s n) t.2 (refl, (r.0, omega (arith, r.1, mul-one m)))
  branch_spaced (suc b) list low h l s i =
      let t = of_turns (own (suc b)) (branch own b) list s i in
      let p = t.0 in
      let r = h p t.1.0 in
      let u =
      branch_spaced b (own (suc b) p) p (λ q j. kept_range distances n m count (suc b) p q j) (omega (arith, mul-suc m (suc b))) t.1.1.0 t.1.1.1.0 in
      subst (λ (s : List ℕ). (length s ≡ suc (suc b)) × Spaced m low s n) (sym t.1.1.1.1) (ap suc u.0, (r.0, u.1))

  -- Each set has k cuts, and all its segments are at least m long.
  pub sets_spaced : (k : ℕ) → 2 ≤ k → (s : List ℕ) → Memᴰ s (nearby_sets distances n k m count) → (length s ≡ k) × Spaced m 0 s n
  unfolding nearby_sets walk
  sets_spaced k least s i = go (ltb n ((k + 1) * m)) refl i
    where
      those_of : ℕ → List (List ℕ)
      those_of f = map (λ s. f ∷ s) (branch own (k - 2) (own (k - 1) f))

      go : (b : Bool) → ltb n ((k + 1) * m) ≡ b →
          Memᴰ s (cond b [] (flat_map (λ f. map (λ s. f ∷ s) (branch own (k - 2) (own (k - 1) f))) (upfrom m (n - k * m + 1 - m)))) → (length s ≡ k) × Spaced m 0 s n
      go true e i = absurd (Memᴰ.not-nil i)
      go false e i =
          let t = of_flat_map those_of (upfrom m (n - k * m + 1 - m)) i in
          let f = t.0 in
          let r = upfrom_range f m (n - k * m + 1 - m) t.1 in
          let w = Memᴰ.of_map (λ s. f ∷ s) (branch own (k - 2) (own (k - 1) f)) t.2 in
          let c : suc (k - 2) ≡ k - 1 = omega arith in
          let x : m * (k - 1) + m ≡ m * k = sym (mul-suc m (k - 1)) ∙ ap (λ (j : ℕ). m * j) (let y : suc (k - 1) ≡ k = omega arith in y) in
          let z = ltb-false n ((k + 1) * m) e in
          let fits : m * suc (k - 2) ≤ n = rw c (omega (arith, x, z, mul_comm m k, add-one k, suc-mul k m)) in
          let u =
          branch_spaced (k - 2) (own (k - 1) f) f (λ q j. rw c (kept_range distances n m count (k - 1) f q j)) fits w.0 w.1 in
          subst (λ (s : List ℕ). (length s ≡ k) × Spaced m 0 s n) w.2 (ap suc u.0 ∙ (let y : suc (suc (k - 2)) ≡ k = omega arith in y), (omega (arith, r.0), u.1))

-- ---- no set twice

distinct_map : {A B : Type 0} (f : A → B) → ((x y : A) → f x ≡ f y → x ≡ y) → (l : List A) → Distinct l → Distinct (map f l)
distinct_map f h [] d = tt
distinct_map f h (x ∷ xs) d = (λ i. let t = Memᴰ.of_map f xs i in d.0 (Memᴰ.cast (h x t.0 (sym t.2)) t.1), distinct_map f h xs d.1)

distinct_passing : (t : ℕ → Bool) (l : List ℕ) → Distinct l → Distinct (passing t l)
unfolding passing
distinct_passing t [] d = tt
distinct_passing t (x ∷ l) d = go (t x) (distinct_passing t l d.1)
  where
    go : (b : Bool) → Distinct (passing t l) → Distinct (cond b (x ∷ passing t l) (passing t l))
    go true e = (λ i. d.0 (of_passing t l x i).0, e)
    go false e = e

-- The positions of a list, nearest first, are some of its positions.
one_in : (f : ℕ → List ℕ) (l : List ℕ) (x : ℕ) → Memᴰ x (flat_map f (take 1 l)) → (p : ℕ) × (Memᴰ p l × Memᴰ x (f p))
unfolding flat_map flatten
one_in f [] x i = absurd (Memᴰ.not-nil i)
one_in f (p ∷ l) x i = (p, (Memᴰ.head refl, subst (λ (r : List ℕ). Memᴰ x r) (append-nil (f p)) i))

module _ (d : ℕ → Float) where
  abbrev without : ℕ → List ℕ → List ℕ
  without p l = passing (λ q. not (eqb q p)) l

  abbrev candidates : List ℕ → List ℕ
  candidates l = passing (λ p. not (list_any (λ q. lt (d q) (d p)) l)) l

  first_in : (count : ℕ) (l : List ℕ) (x : ℕ) → Memᴰ x (nearest_first d count l) → Memᴰ x l
  unfolding nearest_first nearest
  first_in zero l x i = absurd (Memᴰ.not-nil i)
  first_in (suc count) l x i =
      let t = one_in (λ p. p ∷ nearest_first d count (without p l)) (candidates l) x i in
      ⊎_elim
      (λ e. Memᴰ.cast e (of_passing (λ p. not (list_any (λ q. lt (d q) (d p)) l)) l t.0 t.1.0).0)
      (λ j. (of_passing (λ q. not (eqb q t.0)) l x (first_in count (without t.0 l) x j)).0)
      (Memᴰ.cases_cons t.1.1)

  first_distinct : (count : ℕ) (l : List ℕ) → Distinct (nearest_first d count l)
  unfolding nearest_first nearest flat_map flatten
  first_distinct zero l = tt
  first_distinct (suc count) l = go (candidates l) (λ p. first_distinct count (without p l))
    where
      go : (c : List ℕ) → ((p : ℕ) → Distinct (nearest_first d count (without p l))) → Distinct (flat_map (λ p. p ∷ nearest_first d count (without p l)) (take 1 c))
      go [] h = tt
      go (p ∷ c) h =
          subst Distinct (sym (append-nil (p ∷ nearest_first d count (without p l))))
          (λ i. eqb-false p p (not-true (eqb p p) (of_passing (λ q. not (eqb q p)) l p (first_in count (without p l) p i)).1) refl, h p)

pub kept_distinct : (distances : List Float) (n m count missing cut : ℕ) → Distinct (eligible distances n m count missing cut)
unfolding eligible neighbours
kept_distinct distances n m count missing cut =
    distinct_passing (λ p. leb (cut + m) p && leb p (n - m * missing)) (neighbours distances n count cut)
    (first_distinct (distance distances n cut) count (passing (λ p. not (eqb p cut)) (upfrom 0 n)))

module _ (own : ℕ → ℕ → List ℕ) (distinct_own : (missing cut : ℕ) → Distinct (own missing cut)) where
  turns_distinct : (mine : ℕ → List ℕ) (below : List ℕ → List (List ℕ)) → ((p : ℕ) → Distinct (below (mine p))) → (list : List ℕ) → Distinct list → Distinct (turns mine below list)
  unfolding turns
  turns_distinct mine below h [] d = tt
  turns_distinct mine below h (p ∷ ps) d = go (none_there (mine p)) (goes_on p ps) (turns_distinct mine below h ps d.1)
    where
      first : Distinct (map (λ s. p ∷ s) (below (mine p)))
      first = distinct_map (λ s. p ∷ s) (λ x y e. tail-eq_of_cons-eq e) (below (mine p)) (h p)

      apart : (z : List ℕ) → Memᴰ z (map (λ s. p ∷ s) (below (mine p))) → Memᴰ z (turns mine below ps) → ⊥
      apart z i j =
          let t = Memᴰ.of_map (λ s. p ∷ s) (below (mine p)) i in
          let u = of_turns mine below ps z j in
          d.0 (Memᴰ.cast (ap (λ (r : List ℕ). get_or r 0 0) (t.2 ∙ u.1.1.1.1)) u.1.0)

      go : (b g : Bool) → Distinct (turns mine below ps) → Distinct (cond b [] (map (λ s. p ∷ s) (below (mine p)) ++ cond g (turns mine below ps) []))
      go true g e = tt
      go false true e = distinct_append (map (λ s. p ∷ s) (below (mine p))) (turns mine below ps) first e apart
      go false false e = subst Distinct (sym (append-nil (map (λ s. p ∷ s) (below (mine p))))) first

  branch_distinct : (behind : ℕ) (list : List ℕ) → Distinct list → Distinct (branch own behind list)
  unfolding branch
  branch_distinct zero list d = distinct_map (λ p. p ∷ []) (λ x y e. ap (λ (r : List ℕ). get_or r 0 0) e) list d
  branch_distinct (suc b) list d = turns_distinct (own (suc b)) (branch own b) (λ p. branch_distinct b (own (suc b) p) (distinct_own (suc b) p)) list d

  firsts_distinct : (k : ℕ) (fs : List ℕ) → Distinct fs → Distinct (flat_map (λ f. map (λ s. f ∷ s) (branch own (k - 2) (own (k - 1) f))) fs)
  unfolding flat_map flatten
  firsts_distinct k [] d = tt
  firsts_distinct k (f ∷ fs) d =
      distinct_append (of f) (flat_map of fs) (distinct_map (λ s. f ∷ s) (λ x y e. tail-eq_of_cons-eq e) (branch own (k - 2) (own (k - 1) f)) (branch_distinct (k - 2) (own (k - 1) f) (distinct_own (k - 1) f))) (firsts_distinct k fs d.1)
      (λ z i j.
      let t = Memᴰ.of_map (λ s. f ∷ s) (branch own (k - 2) (own (k - 1) f)) i in
      let u = of_flat_map of fs j in
      let w = Memᴰ.of_map (λ s. u.0 ∷ s) (branch own (k - 2) (own (k - 1) u.0)) u.2 in
      d.0 (Memᴰ.cast (ap (λ (r : List ℕ). get_or r 0 0) (t.2 ∙ sym w.2)) u.1))
    where
      of : ℕ → List (List ℕ)
      of f = map (λ s. f ∷ s) (branch own (k - 2) (own (k - 1) f))

-- No set comes twice.
pub sets_distinct : (distances : List Float) (n k m count : ℕ) → Distinct (nearby_sets distances n k m count)
unfolding nearby_sets walk
sets_distinct distances n k m count = go (ltb n ((k + 1) * m))
  where
    go : (b : Bool) → Distinct (cond b [] (flat_map (λ f. map (λ s. f ∷ s) (branch (eligible distances n m count) (k - 2) (eligible distances n m count (k - 1) f))) (upfrom m (n - k * m + 1 - m))))
    go true = tt
    go false = firsts_distinct (eligible distances n m count) (kept_distinct distances n m count) k (upfrom m (n - k * m + 1 - m)) (distinct_upfrom m (n - k * m + 1 - m))
