-- The inverse of a pattern is a pattern for the same k. Assumes nothing.
use mathlib.Core.Path.{◌≡◌, refl, sym, ap, ap₂, ◌∙◌}
use mathlib.Core.List.Memᴰ
use mathlib.Core.List.{List, [], ◌∷◌, ◌++◌, map, map-append, Memᴰ}
use mathlib.Core.Logic.{⊎_elim}
use Prim.Native.Nat.{ℕ, suc, ◌+◌, ◌*◌, ◌^◌, ◌<◌}
use native.Mathlib.Omega.{arith}
use native.Mathlib.Nat.{add-zero, zero-add, pow-suc}
use lib.ListN.{length, get_or, length-map}
use lib.Seq.{get_or-append-add}
use Rattle.theory.specs.Moves.{upfrom, total, Pattern, patterns}
use Rattle.theory.specs.Route.{reverses}
use Rattle.theory.proofs.Moves.{length_upfrom, total_ones, total_append, pattern_shape, rearranges}
use Rattle.theory.proofs.Orders.{patterns_complete}
use Rattle.theory.proofs.Distinct.{patterns_distinct}
use Rattle.theory.proofs.Index.{get_or_upfrom}
use Rattle.theory.proofs.Delta.{even_head, small_tail, upfrom_snoc}
use Rattle.inverse.specs.WayBack.{EachOnce, place, inverse_order, from_bits, inverse_mask}
use Rattle.inverse.proofs.Places.{long_order, place_at, inverse_is, order_back}
use Rattle.inverse.proofs.Bits.{pad_zero, few_bits, none_turned, mask_back}

total_of_map : (g f : ℕ → ℕ) (l : List ℕ) → total g (map f l) ≡ total (λ i. g (f i)) l
unfolding total
total_of_map g f [] = refl
total_of_map g f (x ∷ l) = ap (λ z. g (f x) + z) (total_of_map g f l)

-- A sum over a list, place by place.
total_by_place : (h g : ℕ → ℕ) (o : List ℕ) (from : ℕ) → ((j : ℕ) → j < length o → h (get_or o j 0) ≡ g (from + j)) → total h o ≡ total g (upfrom from (length o))
unfolding total upfrom
total_by_place h g [] from e = refl
total_by_place h g (x ∷ o) from e =
    ap₂ ◌+◌ (e 0 (omega arith) ∙ ap g (add-zero from)) (total_by_place h g o (suc from) (λ j l. e (suc j) (omega arith) ∙ ap g (omega arith)))

back_sums : (k : ℕ) (o : List ℕ) → EachOnce k o → (g : ℕ → ℕ) → total g (inverse_order o) ≡ total g (upfrom 0 (suc k))
unfolding inverse_order
back_sums k o once g =
    total_of_map g (λ i. place i o) (upfrom 0 (length o))
    ∙ ap (λ n. total (λ i. g (place i o)) (upfrom 0 n)) (long_order k o once)
    ∙ sym (once (λ i. g (place i o)))
    ∙ total_by_place (λ i. g (place i o)) g o 0 (λ j l. ap g (place_at k o once j l ∙ sym (zero-add j)))
    ∙ ap (λ n. total g (upfrom 0 n)) (long_order k o once)

pub length_of : (m : ℕ) (mid : List ℕ) → ((g : ℕ → ℕ) → total g mid ≡ total g (upfrom 1 m)) → length mid ≡ m
length_of m mid once = omega (arith, total_ones mid, once (λ x. 1), total_ones (upfrom 1 m), length_upfrom 1 m)

back_mask : (m t : ℕ) (mid : List ℕ) → t < 2 ^ m → inverse_mask (0 ∷ (mid ++ (suc m ∷ []))) (2 * t) ≡ 2 * from_bits (map (reverses (2 * t)) mid)
unfolding inverse_mask from_bits
back_mask m t mid h =
    rw (even_head t, map-append (reverses (2 * t)) mid (suc m ∷ []), small_tail (2 * t) (suc m) (omega (arith, pow-suc 2 m)), pad_zero (map (reverses (2 * t)) mid)) (omega arith)

back_order : (m : ℕ) (mid : List ℕ) → EachOnce (suc m) (0 ∷ (mid ++ (suc m ∷ []))) → length mid ≡ m →
    inverse_order (0 ∷ (mid ++ (suc m ∷ []))) ≡ 0 ∷ (map (λ i. place i (0 ∷ (mid ++ (suc m ∷ [])))) (upfrom 1 m) ++ (suc m ∷ []))
unfolding inverse_order place upfrom
back_order m mid once long =
    let o : List ℕ = 0 ∷ (mid ++ (suc m ∷ [])) in
    let last : get_or o (suc m) 0 ≡ suc m = ap (λ n. get_or (mid ++ (suc m ∷ [])) n 0) (sym long ∙ sym (add-zero (length mid))) ∙ get_or-append-add mid (suc m ∷ []) 0 0 in
    let there : place (suc m) o ≡ suc m = ap (λ i. place i o) (sym last) ∙ place_at (suc m) o once (suc m) (omega (arith, long_order (suc m) o once)) in
    ap (λ n. map (λ i. place i o) (upfrom 0 n)) (long_order (suc m) o once)
    ∙ ap (λ l. 0 ∷ map (λ i. place i o) l) (sym (upfrom_snoc 1 m (suc m) (omega arith)))
    ∙ ap (λ l. 0 ∷ l) (map-append (λ i. place i o) (upfrom 1 m) (suc m ∷ []) ∙ ap (λ e. map (λ i. place i o) (upfrom 1 m) ++ (e ∷ [])) there)

abbrev unchanged_order : ℕ → List ℕ
unchanged_order m = 0 ∷ (upfrom 1 m ++ (suc m ∷ []))

unchanged_is : (m : ℕ) → unchanged_order m ≡ upfrom 0 (suc (suc m))
unfolding upfrom
unchanged_is m = ap (λ l. 0 ∷ l) (upfrom_snoc 1 m (suc m) (omega arith))

-- The order that changes nothing is its own inverse.
unchanged_back : (m : ℕ) → inverse_order (unchanged_order m) ≡ unchanged_order m
unchanged_back m =
    let o = unchanged_order m in
    let once : (g : ℕ → ℕ) → total g (unchanged_order m) ≡ total g (upfrom 0 (suc (suc m))) = λ g. ap (total g) (unchanged_is m) in
    inverse_is o o refl (λ j l.
    let e : get_or o j 0 ≡ j = ap (λ r. get_or r j 0) (unchanged_is m) ∙ get_or_upfrom 0 (suc (suc m)) j 0 (omega (arith, long_order (suc m) o once)) ∙ zero-add j in
    ap (λ i. place i o) (sym e) ∙ place_at (suc m) o once j l ∙ sym e)

module _ (m t : ℕ) (mid : List ℕ) (few : t < 2 ^ m) (sums : (g : ℕ → ℕ) → total g mid ≡ total g (upfrom 1 m))
    (once : EachOnce (suc m) (0 ∷ (mid ++ (suc m ∷ [])))) where
  mid_back : List ℕ
  mid_back = map (λ i. place i (0 ∷ (mid ++ (suc m ∷ [])))) (upfrom 1 m)

  bits_of_back : ℕ
  bits_of_back = from_bits (map (reverses (2 * t)) mid)

  sums_back : (g : ℕ → ℕ) → total g mid_back ≡ total g (upfrom 1 m)
  unfolding mid_back total
  sums_back g =
      omega (
        arith,
        back_sums (suc m) (0 ∷ (mid ++ (suc m ∷ []))) once g,
        ap (total g) (back_order m mid once (length_of m mid sums)),
        total_append g (map (λ i. place i (0 ∷ (mid ++ (suc m ∷ [])))) (upfrom 1 m)) (suc m ∷ []),
        once g,
        total_append g mid (suc m ∷ []),
        sums g,
      )

  few_back : bits_of_back < 2 ^ m
  unfolding bits_of_back
  few_back = let h = few_bits (map (reverses (2 * t)) mid) in rw (length-map mid (reverses (2 * t)), length_of m mid sums) at h

  back_listed : Memᴰ (record { order = 0 ∷ (mid ++ (suc m ∷ [])); mask = 2 * t }) (patterns (suc m)) →
      Memᴰ (record { order = inverse_order (0 ∷ (mid ++ (suc m ∷ []))); mask = inverse_mask (0 ∷ (mid ++ (suc m ∷ []))) (2 * t) }) (patterns (suc m))
  unfolding mid_back bits_of_back
  back_listed i =
      rw (back_order m mid once (length_of m mid sums), back_mask m t mid few)
      (⊎_elim (λ e. absurd ((patterns_distinct m).1 (Memᴰ.cast (sym (same e)) i))) (λ j. j) (patterns_complete m mid_back bits_of_back sums_back few_back))
    where
      same : ◌≡◌ {A = Pattern} (record { order = 0 ∷ (mid_back ++ (suc m ∷ [])); mask = 2 * bits_of_back }) (record { order = unchanged_order m; mask = 0 }) →
          ◌≡◌ {A = Pattern} (record { order = 0 ∷ (mid ++ (suc m ∷ [])); mask = 2 * t }) (record { order = unchanged_order m; mask = 0 })
      same e =
          let o : List ℕ = 0 ∷ (mid ++ (suc m ∷ [])) in
          let to_same : inverse_order o ≡ unchanged_order m = back_order m mid once (length_of m mid sums) ∙ ap (λ p. p.order) e in
          let to_none : inverse_mask o (2 * t) ≡ 0 = back_mask m t mid few ∙ ap (λ p. p.mask) e in
          let order_is : o ≡ unchanged_order m = sym (order_back (suc m) o once) ∙ ap inverse_order to_same ∙ unchanged_back m in
          let mask_is : 2 * t ≡ 0 = sym (mask_back (suc m) o (2 * t) once (omega (arith, few, pow-suc 2 m, pow-suc 2 (suc m)))) ∙ ap₂ inverse_mask to_same to_none ∙ none_turned (unchanged_order m) in
          ap₂ (λ (o : List ℕ) (x : ℕ). record { order = o; mask = x }) order_is mask_is

-- "Pattern of the same k": the inverse of a pattern is one.
pub inverse_listed : (m : ℕ) (p : Pattern) → Memᴰ p (patterns (suc m)) →
    Memᴰ (record { order = inverse_order p.order; mask = inverse_mask p.order p.mask }) (patterns (suc m))
inverse_listed m p i =
    let s = pattern_shape m p i in
    let shape : Pattern = record { order = 0 ∷ (s.middle ++ (suc m ∷ [])); mask = 2 * s.bits } in
    Memᴰ.cast (ap (λ (q : Pattern). record { order = inverse_order q.order; mask = inverse_mask q.order q.mask }) s.is)
    (back_listed m s.bits s.middle s.few s.once (rw s.is at (rearranges m p i)) (Memᴰ.cast (sym s.is) i))
