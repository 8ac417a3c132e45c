-- The walk over the cut sets, cut by cut: those with the least next cut, then the others. Assumes nothing.
use mathlib.Core.Path.{◌≡◌, refl, sym, ap, ap₂, ◌∙◌, subst}
use mathlib.Core.Bool.{Bool, false}
use mathlib.Core.Option.{none}
use mathlib.Core.List.Memᴰ
use mathlib.Core.List.{List, [], ◌∷◌, ◌++◌, map, map-map, map-append, flat_map, append_assoc}
use Prim.Native.Nat.{ℕ, suc, ◌-◌, ◌≤◌, ◌<◌}
use native.Mathlib.Omega.{arith}
use lib.ListN.{length}
use Rattle.theory.specs.Moves.{upfrom, combinations, cut_sets, Rising}
use Rattle.theory.proofs.Moves.{listed_cuts}
use Rattle.first_move.specs.FirstMove.{first_that, numbered}
use Rattle.find_move.specs.Walk.{tried_from}
use Rattle.prefixes.specs.Prefix.{MayLead, NothingThere}
use Rattle.find_move.specs.Search.{GoesOn}
use Rattle.first_move.proofs.First.{first_none}
use Rattle.first_move.proofs.FirstMove.{numbered_from}

numbered_append : (count : ℕ) (xs ys : List (List ℕ)) → numbered count (xs ++ ys) ≡ numbered count xs ++ numbered count ys
unfolding numbered flat_map
numbered_append count [] ys = refl
numbered_append count (x ∷ xs) ys =
    ap (λ l. map (λ i. (x, i)) (upfrom 0 count) ++ l) (numbered_append count xs ys)
    ∙ sym (append_assoc (map (λ i. (x, i)) (upfrom 0 count)) (numbered count xs) (numbered count ys))

map_same : (f g : List ℕ → List ℕ) → ((s : List ℕ) → f s ≡ g s) → (l : List (List ℕ)) → map f l ≡ map g l
map_same f g e [] = refl
map_same f g e (x ∷ l) = ap₂ ◌∷◌ (e x) (map_same f g e l)

map_whole : (f : List ℕ → List ℕ) → ((s : List ℕ) → f s ≡ s) → (l : List (List ℕ)) → map f l ≡ l
map_whole f e [] = refl
map_whole f e (x ∷ l) = ap₂ ◌∷◌ (e x) (map_whole f e l)

module _ (count n : ℕ) where
  -- Behind the last position no further cut is left.
  pub tried_end : (pre : List ℕ) (low j : ℕ) → n < low → tried_from count n pre low (suc j) ≡ []
  unfolding tried_from numbered combinations upfrom flat_map
  tried_end pre low j h = let e : suc n - low ≡ 0 = omega arith in rw e refl

  pub tried_next : (pre : List ℕ) (low j : ℕ) → low ≤ n → tried_from count n pre low (suc j) ≡ tried_from count n (pre ++ (low ∷ [])) (suc low) j ++ tried_from count n pre (suc low) (suc j)
  unfolding tried_from combinations upfrom
  tried_next pre low j h =
      let e : suc n - low ≡ suc (n - low) = omega arith in
      let d : suc n - suc low ≡ n - low = omega arith in
      let with_low = combinations (upfrom (suc low) (n - low)) j in
      let others = combinations (upfrom (suc low) (n - low)) (suc j) in
      rw (e, d)
      (ap (numbered count)
      (map-append (λ s. pre ++ s) (map (λ s. low ∷ s) with_low) others
      ∙ ap (λ l. l ++ map (λ s. pre ++ s) others) (map-map (λ s. pre ++ s) (λ s. low ∷ s) with_low ∙ map_same _ _ (λ s. sym (append_assoc pre (low ∷ []) s)) with_low))
      ∙ numbered_append count (map (λ s. (pre ++ (low ∷ [])) ++ s) with_low) (map (λ s. pre ++ s) others))

  -- From the start on, all.
  pub tried_all : (k : ℕ) → tried_from count n [] 0 k ≡ numbered count (cut_sets k n)
  unfolding tried_from cut_sets
  tried_all k =
      let e : suc n - 0 ≡ suc n = omega arith in
      ap (λ m. numbered count (map (λ s. [] ++ s) (combinations (upfrom 0 m) k))) e
      ∙ ap (numbered count) (map_whole (λ s. [] ++ s) (λ s. refl) (combinations (upfrom 0 (suc n)) k))

  -- Where nothing that begins so passes, none is found.
  pub tried_nothing : (t : List ℕ × ℕ → Bool) (pre : List ℕ) (low j : ℕ) → low ≤ suc n →
      ((s : List ℕ) → length s ≡ j → Rising low s n → (i : ℕ) → i < count → t (pre ++ s, i) ≡ false) → first_that t (tried_from count n pre low j) ≡ none
  unfolding tried_from
  tried_nothing t pre low j h no_one =
      first_none t (numbered count (map (λ s. pre ++ s) (combinations (upfrom low (suc n - low)) j)))
      (λ c m.
      let q = numbered_from count (map (λ s. pre ++ s) (combinations (upfrom low (suc n - low)) j)) c m in
      let u = Memᴰ.of_map (λ s. pre ++ s) (combinations (upfrom low (suc n - low)) j) q.0 in
      let l = listed_cuts n (suc n - low) low j u.0 (omega arith) u.1 in
      rw u.2 at (no_one u.0 l.0 l.1 c.1 q.1))

-- The test of the first j cuts, j at least 1.
pub tested : (stands ends parts : List ℕ) (head tail k : ℕ) (cuts : List ℕ) (j : ℕ) (r : Bool) → 0 < j → MayLead k (j - 1) cuts stands ends parts head tail r → GoesOn stands ends parts head tail k cuts j r
tested stands ends parts head tail k cuts j r h may e n old wanted tables =
    let z : suc (j - 1) ≡ j = omega arith in
    subst (λ x. NothingThere k x old wanted cuts) z (may e n old wanted tables)
