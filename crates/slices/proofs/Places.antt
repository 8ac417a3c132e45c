-- Places and their numbers: each candidate has one place, the moves from a place on are those of the code's walk. Assumes nothing.
use mathlib.Core.Path.{◌≡◌, refl, sym, ap, ap₂, ◌∙◌}
use mathlib.Core.Bool.{Bool, true, false, cond, true≢false, and-eq-true_iff}
use mathlib.Core.Logic.{◌↔◌, ◌⊎◌, inl, inr, ⊎_elim}
use mathlib.Core.Option.{Option, none, some}
use mathlib.Core.List.{List, [], ◌∷◌, ◌++◌, map, Memᴰ}
use Prim.Native.Nat.{ℕ, zero, suc, ◌+◌, ◌*◌, ◌/◌, ◌%◌, ◌≤◌, ◌<◌}
use native.Mathlib.Omega.{arith}
use native.Mathlib.Nat.{suc-mul, div-add-mod', div-lt_iff_lt-mul, mod-lt, mod-eq_of_lt, div-eq_of_lt, mul-add-div_right, mul-add-mod_self_right, mul-le-mul_right}
use native.Mathlib.Decide.{dec_le, dec_lt, ℕ_discrete}
use lib.Dec.{eqb, ltb}
use lib.ListN.{length, get_or, take, drop, length-append, length-map, length-take, length-drop}
use lib.Seq.{drop-append-add, drop-drop, drop_at, drop-nil, take-length, take_at, get_or_at}
use borrow.Author.Tests.{eq-eqb, eqb-true, ltb-true, ltb-false, le-leb}
use Rattle.theory.specs.Moves.{Pattern, Move, upfrom, cut_sets, next_cuts, candidates, patterns}
use Rattle.theory.specs.Polish.{move_at}
use Rattle.theory.specs.Refusals.{cut_count, stop_count}
use Rattle.theory.proofs.Moves.{listed_cuts, cuts_listed, length_candidates}
use Rattle.theory.proofs.Index.{mem_get_or, get_or_map, get_or_flat_map}
use Rattle.theory.proofs.Distinct.{Distinct, cut_sets_distinct}
use Rattle.theory.proofs.Dictionary.{Before, Ascending, cut_sets_ascending}
use Rattle.theory.proofs.Walk.{onward, combinations_first, After, next_after, rest, rest_first, rest_none, rest_cons, rest_split, rest_next, rest_last}
use Rattle.theory.proofs.Refusals.{Passes}
use Rattle.theory.proofs.Judged.{pattern_fine, cuts_fine, room_fine}
use Rattle.slices.specs.Places.{Place, first_place, IsPlace, same_cuts, sets_before, number_of, place_of, from_place, next_place, place_in, with_place, place_rules}

none_some : {A : Type 0} (x : A) → none ≡ some x → ⊥
none_some x e = true≢false (sym (ap (λ o. elim o [ some z ↦ true | none ↦ false ]) e))

some_same : {A : Type 0} (x y : A) → some x ≡ some y → x ≡ y
some_same x y e = ap (λ o. elim o [ some z ↦ z | none ↦ x ]) e

-- What stands in a list stands at a number.
pub in_list : {A : Type 0} (l : List A) (z x : A) → Memᴰ x l → (y : ℕ) × (y < length l) × (get_or l y z ≡ x)
in_list [] z x i = absurd (mathlib.Core.List.Memᴰ.not-nil i)
in_list (a ∷ l) z x i = ⊎_elim (λ e. (0, omega arith, sym e)) (λ j. let t = in_list l z x j in (suc t.0, omega (arith, t.1), t.2)) (mathlib.Core.List.Memᴰ.cases_cons i)

-- ---- a cut set's number

same_is : (a b : List ℕ) → same_cuts a b ≡ true → a ≡ b
unfolding same_cuts
same_is [] [] h = refl
same_is [] (y ∷ b) h = absurd (true≢false (sym h))
same_is (x ∷ a) [] h = absurd (true≢false (sym h))
same_is (x ∷ a) (y ∷ b) h = let q = (and-eq-true_iff (eqb x y) (same_cuts a b)).0 h in ap₂ ◌∷◌ (eqb-true x y q.0) (same_is a b q.1)

is_same : (a : List ℕ) → same_cuts a a ≡ true
unfolding same_cuts
is_same [] = refl
is_same (x ∷ a) = rw (eq-eqb x x refl, is_same a)

here : (cs : List ℕ) (css : List (List ℕ)) → sets_before cs (cs ∷ css) ≡ 0
unfolding sets_before
here cs css = rw (is_same cs)

behind : (s cs : List ℕ) (css : List (List ℕ)) → same_cuts s cs ≡ false → sets_before cs (s ∷ css) ≡ suc (sets_before cs css)
unfolding sets_before
behind s cs css e = rw e

-- In a list with none twice, the set at q has q before it.
sets_at : (css : List (List ℕ)) → Distinct css → (q : ℕ) → q < length css → sets_before (get_or css q []) css ≡ q
sets_at [] d q h = absurd (omega arith)
sets_at (s ∷ css) d zero h = here s css
sets_at (s ∷ css) d (suc q) h = behind s (get_or css q []) css (other (same_cuts s (get_or css q [])) refl) ∙ ap suc (sets_at css d.1 q (omega arith))
  where
    other : (b : Bool) → same_cuts s (get_or css q []) ≡ b → b ≡ false
    other true e = absurd (d.0 (rw (same_is s (get_or css q []) e) (mem_get_or css q [] (omega arith))))
    other false e = refl

-- A listed set stands at its number.
at_number : (css : List (List ℕ)) (cs : List ℕ) → Memᴰ cs css → (sets_before cs css < length css) × (get_or css (sets_before cs css) [] ≡ cs)
at_number [] cs i = absurd (mathlib.Core.List.Memᴰ.not-nil i)
at_number (s ∷ css) cs i = by (same_cuts s cs) refl (at_number css cs)
  where
    by : (b : Bool) → same_cuts s cs ≡ b → (Memᴰ cs css → (sets_before cs css < length css) × (get_or css (sets_before cs css) [] ≡ cs)) →
        (sets_before cs (s ∷ css) < length (s ∷ css)) × (get_or (s ∷ css) (sets_before cs (s ∷ css)) [] ≡ cs)
    by true e f = let z = same_is s cs e in rw z (rw (here cs css) (omega arith, refl))
    by false e f =
        let t = f (⊎_elim (λ z. absurd (true≢false (sym (is_same s) ∙ ap (same_cuts s) (sym z) ∙ e))) (λ j. j) (mathlib.Core.List.Memᴰ.cases_cons i)) in
        rw (behind s cs css e) (omega (arith, t.0), t.1)

before_asym : (xs ys : List ℕ) → Before xs ys → Before ys xs → ⊥
before_asym [] ys h i = h
before_asym (x ∷ xs) [] h i = h
before_asym (x ∷ xs) (y ∷ ys) (inl h) (inl i) = omega arith
before_asym (x ∷ xs) (y ∷ ys) (inl h) (inr i) = omega arith
before_asym (x ∷ xs) (y ∷ ys) (inr h) (inl i) = omega arith
before_asym (x ∷ xs) (y ∷ ys) (inr h) (inr i) = before_asym xs ys h.1 i.1

ascending_at : (l : List (List ℕ)) → Ascending Before l → (x y : ℕ) → x < y → y < length l → Before (get_or l x []) (get_or l y [])
ascending_at [] a x y h b = absurd (omega arith)
ascending_at (s ∷ l) a x zero h b = absurd (omega arith)
ascending_at (s ∷ l) a zero (suc y) h b = a.0 (get_or l y []) (mem_get_or l y [] (omega arith))
ascending_at (s ∷ l) a (suc x) (suc y) h b = ascending_at l a.1 x y (omega arith) (omega arith)

module _ (ps : List Pattern) (k n : ℕ) where
  distinct : Distinct (cut_sets k n)
  unfolding cut_sets
  distinct = cut_sets_distinct n (suc n) 0 k (omega arith)

  -- ---- a number below the count of candidates is that of one place

  module _ (x : ℕ) (few : x < length (candidates ps (cut_sets k n))) where
    below : x < length (cut_sets k n) * length ps
    below = omega (arith, length_candidates ps (cut_sets k n))

    some_patterns : 0 < length ps
    some_patterns = by (length ps) refl
      where
        by : (l : ℕ) → length ps ≡ l → 0 < l
        by zero e = absurd (omega (arith, rw e at below))
        by (suc l) e = omega arith

    set_of : x / length ps < length (cut_sets k n)
    set_of = (div-lt_iff_lt-mul some_patterns).1 below

    pub number_place : number_of ps k n (place_of ps k n x) ≡ x
    unfolding number_of place_of
    number_place = rw (sets_at (cut_sets k n) distinct (x / length ps) set_of) (div-add-mod' x (length ps))

    pub place_known : IsPlace ps k n (place_of ps k n x)
    unfolding place_of cut_sets
    place_known =
        let l = listed_cuts n (suc n) 0 k (get_or (cut_sets k n) (x / length ps) []) (omega arith) (mem_get_or (cut_sets k n) (x / length ps) [] set_of) in
        record { many = l.0; rising = l.1; known = mod-lt x some_patterns }

  -- ---- and a place has one number

  module _ (p : Place) (is : IsPlace ps k n p) where
    listed : Memᴰ p.cuts (cut_sets k n)
    unfolding cut_sets
    listed = rw is.many at (cuts_listed n (suc n) 0 p.cuts (omega arith) is.rising)

    pub number_below : number_of ps k n p < length (candidates ps (cut_sets k n))
    unfolding number_of
    number_below =
        let t = (at_number (cut_sets k n) p.cuts listed).0 in
        omega (arith, length_candidates ps (cut_sets k n), mul-le-mul_right (length ps) t, is.known)

    pub place_number : place_of ps k n (number_of ps k n p) ≡ p
    unfolding number_of place_of
    place_number =
        let b = sets_before p.cuts (cut_sets k n) in
        let some : 0 < length ps = omega (arith, is.known) in
        let d : (b * length ps + p.index) / length ps ≡ b = mul-add-div_right some b p.index ∙ omega (arith, div-eq_of_lt is.known) in
        let m : (b * length ps + p.index) % length ps ≡ p.index = mul-add-mod_self_right b (length ps) p.index ∙ mod-eq_of_lt is.known in
        ap₂ (λ c i. record { cuts = c; index = i }) (ap (λ x. get_or (cut_sets k n) x []) d ∙ (at_number (cut_sets k n) p.cuts listed).1) m

    -- The first of the moves from a place on is its own.
    pub candidate_at : (d : Move) → get_or (candidates ps (cut_sets k n)) (number_of ps k n p) d ≡ move_at ps p.cuts p.index
    unfolding candidates number_of
    candidate_at d =
        let t = at_number (cut_sets k n) p.cuts listed in
        get_or_flat_map (λ cs. map (λ q. record { cuts = cs; pattern = q }) ps) (length ps) [] d (cut_sets k n) (λ cs i. length-map ps _) (sets_before p.cuts (cut_sets k n)) p.index t.0 is.known
        ∙ get_or_map _ ps p.index (record { order = []; mask = 0 }) d is.known
        ∙ ap (λ cs. move_at ps cs p.index) t.1

    pub fits : k ≤ suc n
    fits = by (dec_le k (suc n))
      where
        by : Dec (k ≤ suc n) → k ≤ suc n
        by (yes h) = h
        by (no h) = absurd (omega (arith, ap length (rest_none ps k n (omega arith)), number_below))

  -- ---- places are numbered in the scan's order: cuts in dictionary order, and then patterns

  module _ (p p' : Place) (is : IsPlace ps k n p) (is' : IsPlace ps k n p') where
    abbrev Earlier : Type 0
    Earlier = Before p.cuts p'.cuts ⊎ ((p.cuts ≡ p'.cuts) × (p.index < p'.index))

    abbrev b : ℕ
    b = sets_before p.cuts (cut_sets k n)

    abbrev b' : ℕ
    b' = sets_before p'.cuts (cut_sets k n)

    here_is : (b < length (cut_sets k n)) × (get_or (cut_sets k n) b [] ≡ p.cuts)
    here_is = at_number (cut_sets k n) p.cuts (listed p is)

    there_is : (b' < length (cut_sets k n)) × (get_or (cut_sets k n) b' [] ≡ p'.cuts)
    there_is = at_number (cut_sets k n) p'.cuts (listed p' is')

    forwards : b < b' → Before p.cuts p'.cuts
    forwards h = rw (here_is.1, there_is.1) at (ascending_at (cut_sets k n) (cut_sets_ascending k n) b b' h there_is.0)

    backwards : b' < b → Before p'.cuts p.cuts
    backwards h = rw (here_is.1, there_is.1) at (ascending_at (cut_sets k n) (cut_sets_ascending k n) b' b h here_is.0)

    level : b ≡ b' → p.cuts ≡ p'.cuts
    level e = sym here_is.1 ∙ ap (λ x. get_or (cut_sets k n) x []) e ∙ there_is.1

    pub in_order : (number_of ps k n p < number_of ps k n p') ↔ (Before p.cuts p'.cuts ⊎ ((p.cuts ≡ p'.cuts) × (p.index < p'.index)))
    unfolding number_of
    in_order = (to, ⊎_elim (λ h. from (dec_lt b b') (ℕ_discrete b b') h) (λ h. let e = ap (λ cs. sets_before cs (cut_sets k n)) h.0 in rw e (omega (arith, h.1))))
      where
        to : b * length ps + p.index < b' * length ps + p'.index → Earlier
        to h = by (dec_lt b b') (dec_lt b' b)
          where
            by : Dec (b < b') → Dec (b' < b) → Earlier
            by (yes l) d = inl (forwards l)
            by (no l) (yes m) = absurd (omega (arith, mul-le-mul_right (length ps) m, is'.known))
            by (no l) (no m) = let e : b ≡ b' = omega arith in inr (level e, omega (arith, rw e at h))

        from : Dec (b < b') → Dec (b ≡ b') → Before p.cuts p'.cuts → b * length ps + p.index < b' * length ps + p'.index
        from (yes l) d h = omega (arith, mul-le-mul_right (length ps) l, is.known)
        from (no l) (yes e) h = absurd (before_asym p.cuts p.cuts (rw (← (level e)) at h) (rw (← (level e)) at h))
        from (no l) (no e) h = absurd (before_asym p.cuts p'.cuts h (backwards (omega arith)))

  -- ---- the walk of the code

  -- So many cut sets on from c, all their patterns are behind.
  sets_on : (b : ℕ) (c : List ℕ) → b < length (c ∷ onward n c) → drop (b * length ps) (rest ps n c 0) ≡ rest ps n (get_or (c ∷ onward n c) b []) 0
  sets_on zero c h = let z : 0 * length ps ≡ 0 = omega arith in rw z
  sets_on (suc b) c h = by (next_cuts n c) refl (next_after n c) (sets_on b)
    where
      by : (o : Option (List ℕ)) → next_cuts n c ≡ o → After n c o → ((c : List ℕ) → b < length (c ∷ onward n c) → drop (b * length ps) (rest ps n c 0) ≡ rest ps n (get_or (c ∷ onward n c) b []) 0) →
          drop (suc b * length ps) (rest ps n c 0) ≡ rest ps n (get_or (onward n c) b []) 0
      by none e a f = absurd (omega (arith, ap length a))
      by (some c') e a f =
          let g : Pattern → Move = λ p. record { cuts = c; pattern = p } in
          let z : suc b * length ps ≡ length (map g ps) + b * length ps = omega (arith, length-map ps g, suc-mul b (length ps)) in
          let s : rest ps n c 0 ≡ map g ps ++ rest ps n c' 0 = rest_split ps n c (length ps) ∙ ap₂ (λ x y. map g x ++ y) (take-length ps) (rest_next ps n c c' e) in
          rw (z, s, a.0) (drop-append-add (map g ps) (rest ps n c' 0) (b * length ps) ∙ f c' (omega (arith, ap length a.0)))

  pub patterns_on : (c : List ℕ) (i : ℕ) → i ≤ length ps → drop i (rest ps n c 0) ≡ rest ps n c i
  patterns_on c i h =
      let g : Pattern → Move = λ p. record { cuts = c; pattern = p } in
      rw (rest_split ps n c i) (drop_at (map g (take i ps)) (rest ps n c i) i (length-map (take i ps) g ∙ simp length-take (omega arith)))

  -- From a place on: the patterns from its own on with its cuts, then all patterns on each cut set behind.
  pub from_is_rest : (p : Place) → IsPlace ps k n p → from_place ps k n p ≡ rest ps n p.cuts p.index
  unfolding number_of cut_sets
  from_is_rest p is =
      let b = sets_before p.cuts (cut_sets k n) in
      let t = at_number (cut_sets k n) p.cuts (listed p is) in
      let first : cut_sets k n ≡ upfrom 0 k ∷ onward n (upfrom 0 k) = combinations_first n (suc n) 0 k (omega arith) (fits p is) in
      let l : b < length (upfrom 0 k ∷ onward n (upfrom 0 k)) = omega (arith, t.0, ap length first) in
      let c : get_or (upfrom 0 k ∷ onward n (upfrom 0 k)) b [] ≡ p.cuts = ap (λ l. get_or l b []) (sym first) ∙ t.1 in
      sym (drop-drop p.index (b * length ps) (candidates ps (cut_sets k n)))
      ∙ ap (λ l. drop p.index (drop (b * length ps) l)) (rest_first ps k n (fits p is))
      ∙ ap (drop p.index) (sets_on b (upfrom 0 k) l ∙ ap (λ c. rest ps n c 0) c)
      ∙ patterns_on p.cuts p.index (omega (arith, is.known))

  -- What comes behind a listed set is listed.
  onward_listed : (b : ℕ) (c : List ℕ) → b < length (c ∷ onward n c) → (x : List ℕ) → Memᴰ x (onward n (get_or (c ∷ onward n c) b [])) → Memᴰ x (onward n c)
  onward_listed zero c h x i = i
  onward_listed (suc b) c h x i = by (next_cuts n c) (next_after n c) (onward_listed b)
    where
      by : (o : Option (List ℕ)) → After n c o → ((c : List ℕ) → b < length (c ∷ onward n c) → (x : List ℕ) → Memᴰ x (onward n (get_or (c ∷ onward n c) b [])) → Memᴰ x (onward n c)) → Memᴰ x (onward n c)
      by none a f = absurd (omega (arith, ap length a))
      by (some c') a f = rw a.0 (mathlib.Core.List.Memᴰ.tail (f c' (omega (arith, ap length a.0)) x (rw a.0 at i)))

  -- The next cut set of a place's is one.
  next_is : (p : Place) → IsPlace ps k n p → (cs : List ℕ) → next_cuts n p.cuts ≡ some cs → IsPlace ps k n (record { cuts = cs; index = 0 })
  unfolding cut_sets
  next_is p is cs e =
      let a : After n p.cuts (some cs) = rw e at (next_after n p.cuts) in
      let first : cut_sets k n ≡ upfrom 0 k ∷ onward n (upfrom 0 k) = combinations_first n (suc n) 0 k (omega arith) (fits p is) in
      let t = at_number (upfrom 0 k ∷ onward n (upfrom 0 k)) p.cuts (rw first at (listed p is)) in
      let i : Memᴰ cs (onward n (upfrom 0 k)) =
      onward_listed (sets_before p.cuts (upfrom 0 k ∷ onward n (upfrom 0 k))) (upfrom 0 k) t.0 cs (rw (t.1, a.0) (mathlib.Core.List.Memᴰ.head refl)) in
      let l = listed_cuts n (suc n) 0 k cs (omega arith) (rw first (mathlib.Core.List.Memᴰ.tail i)) in
      record { many = l.0; rising = l.1; known = omega (arith, is.known) }

  -- The moves from the place behind one on: none behind the last.
  abbrev pub from_next : Option Place → List Move
  from_next none = []
  from_next (some p) = from_place ps k n p

  -- Place by place: a place's own move, then the moves from the place behind it on, which is a place.
  pub walk : (p : Place) → IsPlace ps k n p → from_place ps k n p ≡ move_at ps p.cuts p.index ∷ from_next (next_place ps n p)
  walk p is = from_is_rest p is ∙ rest_cons ps n p.cuts p.index (record { order = []; mask = 0 }) is.known ∙ ap (λ l. move_at ps p.cuts p.index ∷ l) (by (ltb (suc p.index) (length ps)) refl)
    where
      over : (o : Option (List ℕ)) → next_cuts n p.cuts ≡ o → rest ps n p.cuts (length ps) ≡ from_next (elim o [ some cs ↦ some (record { cuts = cs; index = 0 }) | none ↦ none ])
      over none e = rest_last ps n p.cuts e
      over (some cs) e = rest_next ps n p.cuts cs e ∙ sym (from_is_rest (record { cuts = cs; index = 0 }) (next_is p is cs e))

      by : (b : Bool) → ltb (suc p.index) (length ps) ≡ b →
          rest ps n p.cuts (suc p.index) ≡ from_next (cond b (some (record { cuts = p.cuts; index = suc p.index })) (elim (next_cuts n p.cuts) [ some cs ↦ some (record { cuts = cs; index = 0 }) | none ↦ none ]))
      by true e = sym (from_is_rest (record { cuts = p.cuts; index = suc p.index }) (record { many = is.many; rising = is.rising; known = ltb-true _ _ e }))
      by false e =
          let z : suc p.index ≡ length ps = omega (arith, ltb-false (suc p.index) (length ps) e, is.known) in
          ap (rest ps n p.cuts) z ∙ over (next_cuts n p.cuts) refl

  -- ---- the first place

  pub from_first : from_place ps k n (first_place k) ≡ candidates ps (cut_sets k n)
  unfolding number_of cut_sets
  from_first = by (dec_le k (suc n))
    where
      by : Dec (k ≤ suc n) → from_place ps k n (first_place k) ≡ candidates ps (cut_sets k n)
      by (yes h) =
          let z : number_of ps k n (first_place k) ≡ 0 =
          ap (λ css. sets_before (upfrom 0 k) css * length ps + 0) (combinations_first n (suc n) 0 k (omega arith) h)
          ∙ ap (λ b. b * length ps + 0) (here (upfrom 0 k) (onward n (upfrom 0 k)))
          ∙ omega arith in
          ap (λ x. drop x (candidates ps (cut_sets k n))) z
      by (no h) = rw (rest_none ps k n (omega arith)) (drop-nil (number_of ps k n (first_place k)))

  -- "With k > n + 1": no move from any place on.
  pub from_nowhere : suc n < k → (p : Place) → from_place ps k n p ≡ []
  from_nowhere h p = rw (rest_none ps k n h) (drop-nil (number_of ps k n p))

  pub first_known : k ≤ suc n → 0 < length ps → IsPlace ps k n (first_place k)
  unfolding cut_sets
  first_known h l =
      let t = listed_cuts n (suc n) 0 k (upfrom 0 k) (omega arith) (rw (combinations_first n (suc n) 0 k (omega arith) h) (mathlib.Core.List.Memᴰ.head refl)) in
      record { many = t.0; rising = t.1; known = l }

  pub next_known : (p p' : Place) → IsPlace ps k n p → next_place ps n p ≡ some p' → IsPlace ps k n p'
  next_known p p' is = by (ltb (suc p.index) (length ps)) refl
    where
      over : (o : Option (List ℕ)) → next_cuts n p.cuts ≡ o → elim o [ some cs ↦ some (record { cuts = cs; index = 0 }) | none ↦ none ] ≡ some p' → IsPlace ps k n p'
      over none e z = absurd (none_some p' z)
      over (some cs) e z = rw (some_same _ _ z) at (next_is p is cs e)

      by : (b : Bool) → ltb (suc p.index) (length ps) ≡ b →
          cond b (some (record { cuts = p.cuts; index = suc p.index })) (elim (next_cuts n p.cuts) [ some cs ↦ some (record { cuts = cs; index = 0 }) | none ↦ none ]) ≡ some p' → IsPlace ps k n p'
      by true e z = rw (some_same _ _ z) at (step (ltb-true _ _ e))
        where
          step : suc p.index < length ps → IsPlace ps k n (record { cuts = p.cuts; index = suc p.index })
          step h = record { many = is.many; rising = is.rising; known = h }
      by false e z = over (next_cuts n p.cuts) refl z

-- ---- as lent numbers

-- What was written is read again; the numbers are as many as before.
pub read_back : (k : ℕ) (p : Place) (numbers : List ℕ) → length p.cuts ≡ k → place_in k (with_place p numbers) ≡ p
read_back k p numbers h =
    ap₂ (λ c i. record { cuts = c; index = i }) (take_at p.cuts (p.index ∷ drop (suc (length p.cuts)) numbers) k h) (get_or_at p.cuts p.index (drop (suc (length p.cuts)) numbers) 0 k h)

pub as_long : (p : Place) (numbers : List ℕ) → suc (length p.cuts) ≤ length numbers → length (with_place p numbers) ≡ length numbers
as_long p numbers h = length-append p.cuts _ ∙ omega (arith, length-drop (suc (length p.cuts)) numbers)

-- Numbers that are not refused are a place.
pub place_fine : (k n : ℕ) (numbers : List ℕ) → (cut_count k).1 ≡ false → (stop_count n).1 ≡ false → k ≤ suc n → Passes (place_rules k n numbers) → IsPlace (patterns k) k n (place_in k numbers)
place_fine k n numbers a b h =
    rw (le-leb k (suc n) h) (λ c. let s = cuts_fine k n (take k numbers) a b c.1.0 in record { many = s.many; rising = s.rising; known = pattern_fine k (get_or numbers k 0) c.0 })

pub place_room : (k n : ℕ) (numbers : List ℕ) → Passes (place_rules k n numbers) → suc k ≤ length numbers
place_room k n numbers c = room_fine (suc k) (length numbers) c.1.1.0
