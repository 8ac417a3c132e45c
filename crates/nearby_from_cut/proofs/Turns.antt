-- The walk as the recursion meets it: one entry with what lies under it, and then the others. Assumes nothing.
use mathlib.Core.Path.{◌≡◌, refl, sym, ap, ◌∙◌, subst}
use mathlib.Core.Bool.{Bool, true, false, cond, ◌&&◌}
use mathlib.Core.List.{List, [], ◌∷◌, ◌++◌, map, append_assoc, Memᴰ}
use Prim.Native.Nat.{ℕ, zero, suc, ◌+◌, ◌-◌, ◌*◌, ◌≤◌, ◌<◌}
use native.Mathlib.Nat.{mul-le-mul, mul-pos, le_refl}
use native.Mathlib.Numerals.{add-one}
use native.Mathlib.Omega.{arith}
use lib.Dec.{leb, ltb}
use lib.ListN.{length, get_or, take, drop, set, length-take, drop_of_length-le}
use lib.Seq.{take-suc-set, drop-cons}
use lib.Ieee.{Float}
use borrow.Author.Tests.{leb-true}
use Rattle.theory.proofs.Judged.{and_true}
use Rattle.theory.proofs.Index.{mem_get_or}
use Rattle.nearby_nearest.specs.Neighbours.{eligible, neighbours}
use Rattle.nearby_nearest.proofs.Passing.{of_passing}
use Rattle.nearby_last_cut.specs.Pouring.{pour}
use Rattle.nearby_from_cut.specs.Branch.{none_there, goes_on, turns, branch, behind_front}
use Rattle.nearby_last_cut.proofs.Pour.{pour_on, pour_full, poured_most}

front_append : (front : List ℕ) (xs ys : List (List ℕ)) → behind_front front (xs ++ ys) ≡ behind_front front xs ++ behind_front front ys
front_append front [] ys = refl
front_append front (x ∷ xs) ys = ap (λ (r : List (List ℕ)). (front ++ x) ∷ r) (front_append front xs ys)

pub front_cons : (front : List ℕ) (p : ℕ) (xs : List (List ℕ)) → behind_front front (map (λ s. p ∷ s) xs) ≡ behind_front (front ++ (p ∷ [])) xs
front_cons front p [] = refl
front_cons front p (x ∷ xs) = rw (front_cons front p xs, append_assoc front (p ∷ []) x)

front_last : (front list : List ℕ) → map (λ p. front ++ (p ∷ [])) list ≡ behind_front front (map (λ p. p ∷ []) list)
front_last front [] = refl
front_last front (p ∷ list) = ap (λ (r : List (List ℕ)). (front ++ (p ∷ [])) ∷ r) (front_last front list)

-- What a cut keeps lies at least m behind it, and leaves m for each cut missing.
pub kept_range : (distances : List Float) (n m count missing cut p : ℕ) → Memᴰ p (eligible distances n m count missing cut) → (cut + m ≤ p) × (p ≤ n - m * missing)
unfolding eligible
kept_range distances n m count missing cut p i =
    let e = and_true (leb (cut + m) p) (leb p (n - m * missing)) (of_passing (λ p. leb (cut + m) p && leb p (n - m * missing)) (neighbours distances n count cut) p i).1 in
    (leb-true (cut + m) p e.0, leb-true p (n - m * missing) e.1)

pub kept_below : (distances : List Float) (n m count missing cut : ℕ) (list : List ℕ) → list ≡ eligible distances n m count missing cut → 1 ≤ m → 0 < missing → cut < n →
    (i : ℕ) → i < length list → get_or list i 0 < n
kept_below distances n m count missing cut list e h k l i w =
    let r = kept_range distances n m count missing cut (get_or list i 0) (subst (λ (l : List ℕ). Memᴰ (get_or list i 0) l) e (mem_get_or list i 0 w)) in
    let z : 0 < m * missing = mul-pos h k in
    omega arith

pub fewer_missing : (m behind n : ℕ) → m * behind ≤ n → m * (behind - 1) ≤ n
fewer_missing m behind n h = omega (arith, mul-le-mul (le_refl m) (let g : behind - 1 ≤ behind = omega arith in g))

pub some_taken : (size : ℕ) (own : List ℕ) → (size ≡ 0 → ⊥) → size ≤ length own → 0 < length (take size own)
some_taken size own h k = simp length-take (omega arith)

pub none_taken : (size : ℕ) (own : List ℕ) → size ≡ 0 → take size own ≡ []
none_taken size own e = rw e

-- The front with the cut of this level.
pub longer : (cuts : List ℕ) (k behind cut : ℕ) → 0 < behind → behind < k → k ≤ length cuts →
    take (k - 1 - (behind - 1)) (set cuts (k - 1 - behind) cut) ≡ take (k - 1 - behind) cuts ++ (cut ∷ [])
longer cuts k behind cut h l w =
    let e : k - 1 - (behind - 1) ≡ suc (k - 1 - behind) = omega arith in
    rw e (take-suc-set cuts (k - 1 - behind) cut (omega arith))

module _ (own : ℕ → ℕ → List ℕ) where
  last_branch : (behind : ℕ) (front list : List ℕ) → behind ≡ 0 → map (λ p. front ++ (p ∷ [])) list ≡ behind_front front (branch own behind list)
  unfolding branch
  last_branch behind front list e = rw e (front_last front list)

  pub last_poured : (capacity k behind : ℕ) (cuts list : List ℕ) (x : ℕ × List ℕ) (seen : ℕ) (lent : List ℕ) → behind ≡ 0 →
      x ≡ pour capacity k seen lent (map (λ p. take (k - 1) cuts ++ (p ∷ [])) list) → x ≡ pour capacity k seen lent (behind_front (take (k - 1 - behind) cuts) (branch own behind list))
  last_poured capacity k behind cuts list x seen lent e h =
      let f : k - 1 ≡ k - 1 - behind = omega arith in
      h
      ∙ ap (λ (j : ℕ). pour capacity k seen lent (map (λ p. take j cuts ++ (p ∷ [])) list)) f
      ∙ ap (pour capacity k seen lent) (last_branch behind (take (k - 1 - behind) cuts) list e)

  branch_cons : (behind p : ℕ) (ps : List ℕ) → 0 < behind → none_there (own behind p) ≡ false →
      branch own behind (p ∷ ps) ≡ map (λ s. p ∷ s) (branch own (behind - 1) (own behind p)) ++ cond (goes_on p ps) (branch own behind ps) []
  unfolding branch turns
  branch_cons zero p ps h e = absurd (omega arith)
  branch_cons (suc b) p ps h e =
      let z : suc b - 1 ≡ b = omega arith in
      rw (e, z)

  branch_none : (behind p : ℕ) (ps : List ℕ) → 0 < behind → none_there (own behind p) ≡ true → branch own behind (p ∷ ps) ≡ []
  unfolding branch turns
  branch_none zero p ps h e = absurd (omega arith)
  branch_none (suc b) p ps h e = rw e

  branch_nil : (behind : ℕ) → branch own behind [] ≡ []
  unfolding branch turns
  branch_nil zero = refl
  branch_nil (suc b) = refl

  module _ (capacity k behind : ℕ) (front entries : List ℕ) (pos : 0 < behind) where
    pub ended : (i seen : ℕ) (lent : List ℕ) → length entries ≤ i → (seen, lent) ≡ pour capacity k seen lent (behind_front front (branch own behind (drop i entries)))
    unfolding pour
    ended i seen lent h = sym (ap (λ (r : List (List ℕ)). pour capacity k seen lent (behind_front front r)) (ap (branch own behind) (drop_of_length-le entries h) ∙ branch_nil behind))

    module _ (i : ℕ) (more : i < length entries) where
      abbrev cut : ℕ
      cut = get_or entries i 0

      abbrev others : List ℕ
      others = drop (i + 1) entries

      here : drop i entries ≡ cut ∷ others
      here = rw (add-one i) (drop-cons entries i 0 more)

      -- The list of this entry is empty: none from here on.
      pub dropped : (seen : ℕ) (lent list : List ℕ) → list ≡ own behind (get_or entries i 0) → list ≡ [] →
          (seen, lent) ≡ pour capacity k seen lent (behind_front front (branch own behind (drop i entries)))
      unfolding pour
      dropped seen lent list e f =
          sym (ap (λ (r : List (List ℕ)). pour capacity k seen lent (behind_front front r)) (ap (branch own behind) here ∙ branch_none behind cut others pos (ap none_there (sym e ∙ f))))

      module _ (seen : ℕ) (lent list front' : List ℕ) (seen' : ℕ) (lent' : List ℕ) (is : list ≡ own behind (get_or entries i 0)) (some : 0 < length list) (longer_front : front' ≡ front ++ (get_or entries i 0 ∷ []))
          (under : (seen', lent') ≡ pour capacity k seen lent (behind_front front' (branch own (behind - 1) list))) where
        there : none_there (own behind cut) ≡ false
        there = rw is at (go list some)
          where
            go : (l : List ℕ) → 0 < length l → none_there l ≡ false
            go [] h = absurd (omega arith)
            go (x ∷ l) h = refl

        rest : Bool → List (List ℕ)
        rest b = behind_front front (cond b (branch own behind others) [])

        whole : behind_front front (branch own behind (drop i entries)) ≡ behind_front front' (branch own (behind - 1) list) ++ rest (goes_on cut others)
        unfolding rest
        whole =
            ap (λ (l : List ℕ). behind_front front (branch own behind l)) here
            ∙ ap (behind_front front) (branch_cons behind cut others pos there)
            ∙ front_append front (map (λ s. cut ∷ s) (branch own (behind - 1) (own behind cut))) (cond (goes_on cut others) (branch own behind others) [])
            ∙ ap (λ (r : List (List ℕ)). r ++ rest (goes_on cut others))
            (front_cons front cut (branch own (behind - 1) (own behind cut))
            ∙ ap (λ (l : List ℕ). behind_front l (branch own (behind - 1) (own behind cut))) (sym longer_front)
            ∙ ap (λ (l : List ℕ). behind_front front' (branch own (behind - 1) l)) (sym is))

        after : pour capacity k seen' lent' (rest (goes_on cut others)) ≡ pour capacity k seen lent (behind_front front (branch own behind (drop i entries)))
        after =
            pour_on capacity k (behind_front front' (branch own (behind - 1) list)) (rest (goes_on cut others)) seen lent seen' lent' under
            ∙ ap (pour capacity k seen lent) (sym whole)

        -- The next entry is higher.
        pub turned : goes_on (get_or entries i 0) (drop (i + 1) entries) ≡ true →
            pour capacity k seen' lent' (behind_front front (branch own behind (drop (i + 1) entries))) ≡ pour capacity k seen lent (behind_front front (branch own behind (drop i entries)))
        unfolding rest
        turned g = ap (λ (b : Bool). pour capacity k seen' lent' (rest b)) (sym g) ∙ after

        -- It is not: no entry behind it is tried.
        pub stopped : goes_on (get_or entries i 0) (drop (i + 1) entries) ≡ false → (seen', lent') ≡ pour capacity k seen lent (behind_front front (branch own behind (drop i entries)))
        unfolding rest pour
        stopped g = ap (λ (b : Bool). pour capacity k seen' lent' (rest b)) (sym g) ∙ after

        pub under_most : seen ≤ capacity + 1 → seen' ≤ capacity + 1
        under_most h = poured_most capacity k (behind_front front' (branch own (behind - 1) list)) seen lent seen' lent' under h

        -- One more than fits is known to exist.
        pub over : capacity < seen' → seen ≤ capacity + 1 → (seen', lent') ≡ pour capacity k seen lent (behind_front front (branch own behind (drop i entries)))
        over h l =
            let e : seen' ≡ capacity + 1 = omega (arith, under_most l) in
            sym (ap (λ (s : ℕ). pour capacity k s lent' (rest (goes_on cut others))) e ∙ pour_full capacity k lent' (rest (goes_on cut others)) ∙ ap (λ (s : ℕ). (s, lent')) (sym e)) ∙ after

-- ---- the next entry

pub goes_on_not : (p i : ℕ) (l : List ℕ) → length l ≤ i + 1 → false ≡ goes_on p (drop (i + 1) l)
goes_on_not p i l h = sym (ap (goes_on p) (drop_of_length-le l h))

pub goes_on_if : (p i : ℕ) (l : List ℕ) → i + 1 < length l → ltb p (get_or l (i + 1) 0) ≡ goes_on p (drop (i + 1) l)
goes_on_if p i l h = sym (ap (goes_on p) (drop-cons l (i + 1) 0 h))
