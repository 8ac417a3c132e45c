-- The listing as the recursion meets it: one entry with what lies under it, and then the others; and the marks. Assumes nothing.
use mathlib.Core.Path.{◌≡◌, refl, sym, ap, ◌∙◌}
use mathlib.Core.Bool.{Bool, true, false, cond}
use mathlib.Core.Logic.{◌⊎◌, inl, inr, ⊎_elim}
use mathlib.Core.List.{List, [], ◌∷◌, ◌++◌, map, flat_map}
use Prim.Native.Nat.{ℕ, zero, suc, ◌+◌, ◌-◌, ◌*◌, ◌≤◌, ◌<◌}
use native.Mathlib.Numerals.{add-one}
use native.Mathlib.Omega.{arith}
use lib.Dec.{ltb, eqb}
use lib.ListN.{length, get_or, take, drop, set, length-set, drop_of_length-le}
use lib.Seq.{sets, drop-cons, get_or-set_same, get_or-set_other}
use lib.Ieee.{Float}
use borrow.Author.Tests.{ltb-true, eqb-true, eqb-false}
use Rattle.nearby_nearest.specs.Neighbours.{eligible}
use Rattle.nearby_last_cut.specs.Pouring.{pour}
use Rattle.nearby_last_cut.proofs.Pour.{pour_on, pour_full, poured_most}
use Rattle.nearby_from_cut.specs.Branch.{branch, behind_front}
use Rattle.nearby_from_cut.proofs.Turns.{front_cons, last_poured, kept_below}
use Rattle.every_nearby_sets.specs.Every.{every}
use Rattle.every_nearby_from_cut.specs.Barren.{Barren}

front_append : (front : List ℕ) (xs ys : List (List ℕ)) → behind_front front (xs ++ ys) ≡ behind_front front xs ++ behind_front front ys
front_append front [] ys = refl
front_append front (x ∷ xs) ys = ap (λ (r : List (List ℕ)). (front ++ x) ∷ r) (front_append front xs ys)

front_none : (front : List ℕ) (ss : List (List ℕ)) → behind_front front ss ≡ [] → ss ≡ []
front_none front [] e = refl
front_none front (s ∷ ss) e = absurd (omega (arith, ap length e))

-- ---- a part under which none was counted

module _ (capacity k : ℕ) where
  pour_least : (ss : List (List ℕ)) (seen : ℕ) (out : List ℕ) → seen ≤ capacity + 1 → seen ≤ (pour capacity k seen out ss).0
  unfolding pour
  pour_least [] seen out h = omega arith
  pour_least (s ∷ ss) seen out h = go (ltb seen capacity) refl (pour_least ss (seen + 1) (sets out (seen * k) s))
    where
      go : (b : Bool) → ltb seen capacity ≡ b → (seen + 1 ≤ capacity + 1 → seen + 1 ≤ (pour capacity k (seen + 1) (sets out (seen * k) s) ss).0) →
          seen ≤ (cond b (pour capacity k (seen + 1) (sets out (seen * k) s) ss) (capacity + 1, out)).0
      go true e r = omega (arith, r (omega (arith, ltb-true seen capacity e)))
      go false e r = omega arith

  pour_one : (s : List ℕ) (ss : List (List ℕ)) (seen : ℕ) (out : List ℕ) → seen ≤ capacity → seen < (pour capacity k seen out (s ∷ ss)).0
  unfolding pour
  pour_one s ss seen out h = go (ltb seen capacity) refl (pour_least ss (seen + 1) (sets out (seen * k) s))
    where
      go : (b : Bool) → ltb seen capacity ≡ b → (seen + 1 ≤ capacity + 1 → seen + 1 ≤ (pour capacity k (seen + 1) (sets out (seen * k) s) ss).0) →
          seen < (cond b (pour capacity k (seen + 1) (sets out (seen * k) s) ss) (capacity + 1, out)).0
      go true e r = omega (arith, r (omega (arith, ltb-true seen capacity e)))
      go false e r = omega arith

  none_poured : (ss : List (List ℕ)) (seen : ℕ) (out : List ℕ) (seen' : ℕ) (out' : List ℕ) → (seen', out') ≡ pour capacity k seen out ss → seen ≡ seen' → seen ≤ capacity → ss ≡ []
  none_poured [] seen out seen' out' e f h = refl
  none_poured (s ∷ ss) seen out seen' out' e f h = absurd (omega (arith, ap (λ (x : ℕ × List ℕ). x.0) e, f, pour_one s ss seen out h))

-- ---- the marks

pub mark_small : (behind cut : ℕ) → behind < 5 → cut < 512 → behind * 512 + cut < 2560
mark_small behind cut h l = omega arith

module _ (own : ℕ → ℕ → List ℕ) where
  nothing : (behind : ℕ) → every own behind [] ≡ []
  unfolding every flat_map
  nothing zero = refl
  nothing (suc b) = refl

  -- A marked position may be passed over.
  pub same_under : (marks : List ℕ) (behind cut : ℕ) (list : List ℕ) → Barren own marks → behind < 5 → cut < 512 → list ≡ cond (eqb (get_or marks (behind * 512 + cut) 0) 0) (own behind cut) [] →
      every own (behind - 1) list ≡ every own (behind - 1) (own behind cut)
  same_under marks behind cut list b h l e = go (eqb (get_or marks (behind * 512 + cut) 0) 0) refl e
    where
      go : (t : Bool) → eqb (get_or marks (behind * 512 + cut) 0) 0 ≡ t → list ≡ cond t (own behind cut) [] → every own (behind - 1) list ≡ every own (behind - 1) (own behind cut)
      go true f e = ap (every own (behind - 1)) e
      go false f e =
          ap (every own (behind - 1)) e ∙ nothing (behind - 1)
          ∙ ⊎_elim (λ z. absurd (eqb-false (get_or marks (behind * 512 + cut) 0) 0 f z)) (λ z. sym z) (b.none behind cut h l)

  marked_as : (marks : List ℕ) (behind cut mark : ℕ) → Barren own marks → behind < 5 → cut < 512 → ((mark ≡ 0) ⊎ (every own (behind - 1) (own behind cut) ≡ [])) →
      Barren own (set marks (behind * 512 + cut) mark)
  marked_as marks behind cut mark b h l e =
      record {
        places = length-set marks (behind * 512 + cut) mark ∙ b.places;
        none = λ missing other h' l'. go missing other h' l' (eqb (missing * 512 + other) (behind * 512 + cut)) refl;
      }
    where
      go : (missing other : ℕ) → missing < 5 → other < 512 → (t : Bool) → eqb (missing * 512 + other) (behind * 512 + cut) ≡ t →
          (get_or (set marks (behind * 512 + cut) mark) (missing * 512 + other) 0 ≡ 0) ⊎ (every own (missing - 1) (own missing other) ≡ [])
      go missing other h' l' true f =
          let g = eqb-true (missing * 512 + other) (behind * 512 + cut) f in
          let x : missing ≡ behind = omega arith in
          let y : other ≡ cut = omega arith in
          rw (x, y) (⊎_elim (λ z. inl (get_or-set_same marks (behind * 512 + cut) mark 0 (omega (arith, b.places)) ∙ z)) (λ z. inr z) e)
      go missing other h' l' false f =
          rw (get_or-set_other marks (behind * 512 + cut) (missing * 512 + other) mark 0 (eqb-false (missing * 512 + other) (behind * 512 + cut) f)) (b.none missing other h' l')

  last_every : (behind : ℕ) (list : List ℕ) → behind ≡ 0 → branch own behind list ≡ every own behind list
  unfolding branch every
  last_every behind list e = rw e

  pub last_walked : (capacity k behind : ℕ) (cuts list : List ℕ) (x : ℕ × List ℕ) (seen : ℕ) (lent : List ℕ) → behind ≡ 0 →
      x ≡ pour capacity k seen lent (map (λ p. take (k - 1) cuts ++ (p ∷ [])) list) → x ≡ pour capacity k seen lent (behind_front (take (k - 1 - behind) cuts) (every own behind list))
  last_walked capacity k behind cuts list x seen lent e h =
      last_poured own capacity k behind cuts list x seen lent e h
      ∙ ap (λ (r : List (List ℕ)). pour capacity k seen lent (behind_front (take (k - 1 - behind) cuts) r)) (last_every behind list e)

  every_cons : (behind p : ℕ) (ps : List ℕ) → 0 < behind → every own behind (p ∷ ps) ≡ map (λ s. p ∷ s) (every own (behind - 1) (own behind p)) ++ every own behind ps
  unfolding every flat_map
  every_cons zero p ps h = absurd (omega arith)
  every_cons (suc b) p ps h =
      let z : suc b - 1 ≡ b = omega arith in
      rw z

  module _ (capacity k behind : ℕ) (front entries : List ℕ) (pos : 0 < behind) where
    pub ended : (i seen : ℕ) (lent : List ℕ) → length entries ≤ i → (seen, lent) ≡ pour capacity k seen lent (behind_front front (every own behind (drop i entries)))
    unfolding pour
    ended i seen lent h = sym (ap (λ (r : List (List ℕ)). pour capacity k seen lent (behind_front front r)) (ap (every own behind) (drop_of_length-le entries h) ∙ nothing behind))

    module _ (i : ℕ) (more : i < length entries) (seen : ℕ) (lent list front' : List ℕ) (seen' : ℕ) (lent' : List ℕ)
        (is : every own (behind - 1) list ≡ every own (behind - 1) (own behind (get_or entries i 0))) (longer_front : front' ≡ front ++ (get_or entries i 0 ∷ []))
        (under : (seen', lent') ≡ pour capacity k seen lent (behind_front front' (every own (behind - 1) list))) where
      abbrev cut : ℕ
      cut = get_or entries i 0

      here : drop i entries ≡ cut ∷ drop (i + 1) entries
      here = rw (add-one i) (drop-cons entries i 0 more)

      whole : behind_front front (every own behind (drop i entries)) ≡ behind_front front' (every own (behind - 1) list) ++ behind_front front (every own behind (drop (i + 1) entries))
      whole =
          ap (λ (l : List ℕ). behind_front front (every own behind l)) here
          ∙ ap (behind_front front) (every_cons behind cut (drop (i + 1) entries) pos)
          ∙ front_append front (map (λ s. cut ∷ s) (every own (behind - 1) (own behind cut))) (every own behind (drop (i + 1) entries))
          ∙ ap (λ (r : List (List ℕ)). r ++ behind_front front (every own behind (drop (i + 1) entries)))
          (front_cons front cut (every own (behind - 1) (own behind cut))
          ∙ ap (λ (l : List ℕ). behind_front l (every own (behind - 1) (own behind cut))) (sym longer_front)
          ∙ ap (behind_front front') (sym is))

      -- The next entry follows, whatever it is.
      pub turned : pour capacity k seen' lent' (behind_front front (every own behind (drop (i + 1) entries))) ≡ pour capacity k seen lent (behind_front front (every own behind (drop i entries)))
      turned =
          pour_on capacity k (behind_front front' (every own (behind - 1) list)) (behind_front front (every own behind (drop (i + 1) entries))) seen lent seen' lent' under
          ∙ ap (pour capacity k seen lent) (sym whole)

      pub under_most : seen ≤ capacity + 1 → seen' ≤ capacity + 1
      under_most h = poured_most capacity k (behind_front front' (every own (behind - 1) list)) seen lent seen' lent' under h

      -- One more than fits is known to exist.
      pub over : capacity < seen' → seen ≤ capacity + 1 → (seen', lent') ≡ pour capacity k seen lent (behind_front front (every own behind (drop i entries)))
      over h l =
          let e : seen' ≡ capacity + 1 = omega (arith, under_most l) in
          let rest = behind_front front (every own behind (drop (i + 1) entries)) in
          sym (ap (λ (s : ℕ). pour capacity k s lent' rest) e ∙ pour_full capacity k lent' rest ∙ ap (λ (s : ℕ). (s, lent')) (sym e)) ∙ turned

      -- The mark of this entry: none was counted under it, or it is 0.
      pub noted : (marks : List ℕ) (mark : ℕ) → Barren own marks → behind < 5 → get_or entries i 0 < 512 → seen' ≤ capacity → mark ≡ cond (eqb seen seen') 1 0 →
          Barren own (set marks (behind * 512 + get_or entries i 0) mark)
      noted marks mark b h l c e = marked_as marks behind cut mark b h l (go (eqb seen seen') refl e)
        where
          go : (t : Bool) → eqb seen seen' ≡ t → mark ≡ cond t 1 0 → (mark ≡ 0) ⊎ (every own (behind - 1) (own behind (get_or entries i 0)) ≡ [])
          go true f e =
              let g = eqb-true seen seen' f in
              inr (sym is ∙ front_none front' (every own (behind - 1) list) (none_poured capacity k (behind_front front' (every own (behind - 1) list)) seen lent seen' lent' under g (omega arith)))
          go false f e = inl e

-- What is left of the neighbours of a cut lies below n.
pub left_below : (distances : List Float) (n m count missing cut mark : ℕ) (list : List ℕ) → list ≡ cond (eqb mark 0) (eligible distances n m count missing cut) [] → 1 ≤ m → 0 < missing → cut < n →
    (i : ℕ) → i < length list → get_or list i 0 < n
left_below distances n m count missing cut mark list e h k l = go (eqb mark 0) e
  where
    go : (t : Bool) → list ≡ cond t (eligible distances n m count missing cut) [] → (i : ℕ) → i < length list → get_or list i 0 < n
    go true e i w = kept_below distances n m count missing cut list e h k l i w
    go false e i w = absurd (omega (arith, ap length e))
