-- The cuts on the way back: as many, rising, with the same first and last. Assumes nothing.
use mathlib.Core.Path.{◌≡◌, refl, sym, ap, ◌∙◌}
use mathlib.Core.List.Memᴰ
use mathlib.Core.List.{List, [], ◌∷◌, ◌++◌, map, map-append, Memᴰ}
use Prim.Native.Nat.{ℕ, zero, suc, ◌+◌, ◌-◌, ◌≤◌, ◌<◌}
use native.Mathlib.Omega.{arith}
use native.Mathlib.Nat.{add-zero}
use lib.ListN.{length, get_or, length-map, length-append, get_or-append}
use lib.Seq.{get_or-append-add}
use Rattle.theory.specs.Moves.{upfrom, total, Rising}
use Rattle.theory.proofs.Moves.{total_append}
use Rattle.theory.proofs.Orders.{in_range}
use Rattle.theory.proofs.Delta.{gap}
use Rattle.inverse.specs.WayBack.{EachOnce, segment_size, ends}
use Rattle.inverse.proofs.Returning.{sizes_sum}

length_ends : (at s : ℕ) (ss : List ℕ) → length (ends at (s ∷ ss)) ≡ length ss
unfolding ends
length_ends at s [] = refl
length_ends at s (t ∷ ss) = ap suc (length_ends (at + s) t ss)

-- The last end but one lies before the last part.
last_end : (at s : ℕ) (ss : List ℕ) (l : ℕ) → get_or (ends at (s ∷ (ss ++ (l ∷ [])))) (length ss) 0 ≡ at + (s + total (λ x. x) ss)
unfolding ends total
last_end at s [] l = omega arith
last_end at s (t ∷ ss) l = omega (arith, last_end (at + s) t ss l)

ends_rise : (n low at s : ℕ) (ss : List ℕ) (l : ℕ) → low ≤ at + s → ((x : ℕ) → Memᴰ x ss → 1 ≤ x) → at + (s + total (λ x. x) ss) ≤ n →
    Rising low (ends at (s ∷ (ss ++ (l ∷ [])))) n
unfolding ends total
ends_rise n low at s [] l h f b = (h, omega arith, tt)
ends_rise n low at s (t ∷ ss) l h f b =
    let here : 1 ≤ t = f t (Memᴰ.head refl) in
    (h, omega arith, ends_rise n (suc (at + s)) (at + s) t ss l (omega arith) (λ x i. f x (Memᴰ.tail i)) (omega arith))

last_within : (n low : ℕ) (cs : List ℕ) (m : ℕ) → length cs ≡ suc m → Rising low cs n → get_or cs m 0 ≤ n
last_within n low [] m h r = absurd (omega arith)
last_within n low (c ∷ cs) zero h r = r.1
last_within n low (c ∷ cs) (suc m) h r = last_within n (suc c) cs m (omega arith) r.2

module _ (m n : ℕ) (cuts mid : List ℕ) (many : length cuts ≡ suc m) (rising : Rising 0 cuts n) (sums : (g : ℕ → ℕ) → total g mid ≡ total g (upfrom 1 m))
    (long : length mid ≡ m) (once : EachOnce (suc m) (0 ∷ (mid ++ (suc m ∷ [])))) where
  abbrev middles : List ℕ
  middles = map (segment_size cuts n) mid

  abbrev last_size : ℕ
  last_size = segment_size cuts n (suc m)

  abbrev back_cuts : List ℕ
  back_cuts = ends 0 (map (segment_size cuts n) (0 ∷ (mid ++ (suc m ∷ []))))

  parts : map (segment_size cuts n) (0 ∷ (mid ++ (suc m ∷ []))) ≡ segment_size cuts n 0 ∷ (middles ++ (last_size ∷ []))
  parts = ap (λ l. segment_size cuts n 0 ∷ l) (map-append (segment_size cuts n) mid (suc m ∷ []))

  first_size : segment_size cuts n 0 ≡ get_or cuts 0 0
  unfolding segment_size
  first_size = rw (get_or-append cuts (n ∷ []) 0 0 (omega arith)) (omega arith)

  behind : last_size ≡ n - get_or cuts m 0
  unfolding segment_size
  behind =
      let e : get_or (cuts ++ (n ∷ [])) (suc m) 0 ≡ n = ap (λ i. get_or (cuts ++ (n ∷ [])) i 0) (sym (many) ∙ sym (add-zero (length cuts))) ∙ get_or-append-add cuts (n ∷ []) 0 0 in
      ap (λ x. x - get_or cuts m 0) e

  all_stops : segment_size cuts n 0 + (total (λ x. x) middles + last_size) ≡ n
  unfolding total
  all_stops =
      omega (
        arith,
        sizes_sum (suc m) n cuts (0 ∷ (mid ++ (suc m ∷ []))) many rising once,
        ap (total (λ x. x)) parts,
        total_append (λ x. x) middles (last_size ∷ []),
      )

  filled : (x : ℕ) → Memᴰ x middles → 1 ≤ x
  unfolding segment_size
  filled x i =
      let t = Memᴰ.of_map (segment_size cuts n) mid i in
      rw (sym t.2) (size t.0 (in_range mid 1 m sums t.0 t.1))
    where
      size : (i : ℕ) → (1 ≤ i) × (i < 1 + m) → 1 ≤ segment_size cuts n i
      size zero h = absurd (omega arith)
      size (suc i) h = rw (get_or-append cuts (n ∷ []) 0 (suc i) (omega arith)) (omega (arith, gap n 0 cuts i rising (omega arith)))

  last_below : get_or cuts m 0 ≤ n
  last_below = last_within n 0 cuts m many rising

  pub back_many : length back_cuts ≡ suc m
  back_many = length_ends 0 (segment_size cuts n 0) (map (segment_size cuts n) (mid ++ (suc m ∷ []))) ∙ length-map (mid ++ (suc m ∷ [])) (segment_size cuts n) ∙ length-append mid (suc m ∷ []) ∙ omega (arith, long)

  pub back_rises : Rising 0 back_cuts n
  back_rises = rw parts (ends_rise n 0 0 (segment_size cuts n 0) middles last_size (omega arith) filled (omega (arith, all_stops)))

  pub same_first : get_or back_cuts 0 0 ≡ get_or cuts 0 0
  unfolding ends
  same_first = ap (λ l. get_or (ends 0 l) 0 0) parts ∙ first_end middles ∙ first_size
    where
      first_end : (ss : List ℕ) → get_or (ends 0 (segment_size cuts n 0 ∷ (ss ++ (last_size ∷ [])))) 0 0 ≡ segment_size cuts n 0
      first_end [] = omega arith
      first_end (t ∷ ss) = omega arith

  pub same_last : get_or back_cuts m 0 ≡ get_or cuts m 0
  same_last =
      ap (λ l. get_or (ends 0 l) m 0) parts
      ∙ ap (λ i. get_or (ends 0 (segment_size cuts n 0 ∷ (middles ++ (last_size ∷ [])))) i 0) (sym (length-map mid (segment_size cuts n) ∙ long))
      ∙ last_end 0 (segment_size cuts n 0) middles last_size
      ∙ omega (arith, all_stops, behind, last_below)
