-- Which sets are listed: exactly those that the request names; each has k cuts and leaves segments of at least m. Assumes nothing.
use mathlib.Core.Path.{◌≡◌, refl, sym, ap, subst}
use mathlib.Core.Logic.{◌↔◌}
use mathlib.Core.List.Memᴰ
use mathlib.Core.List.{List, [], ◌∷◌, map, flat_map, Memᴰ}
use Prim.Native.Nat.{ℕ, zero, suc, ◌+◌, ◌-◌, ◌*◌, ◌≤◌}
use native.Mathlib.Nat.{suc-mul, mul_comm}
use native.Mathlib.Numerals.{add-one}
use native.Mathlib.Omega.{arith}
use lib.ListN.{length}
use lib.Ieee.{Float}
use Rattle.theory.proofs.Moves.{of_flat_map, mem_flat_map, upfrom_range}
use Rattle.theory.proofs.Orders.{listed_number}
use Rattle.nearby_nearest.specs.Neighbours.{eligible}
use Rattle.nearby_from_cut.proofs.Turns.{kept_range}
use Rattle.nearby.specs.Walk.{Spaced}
use Rattle.every_nearby_sets.specs.Every.{every, first_positions, every_over, every_sets}
use Rattle.every_nearby_sets.specs.Places.{Chained, Nearby}

module _ (own : ℕ → ℕ → List ℕ) where
  -- A set that begins in this list, with `behind` cuts after the first.
  abbrev pub Begun : ℕ → List ℕ → List ℕ → Type 0
  Begun behind list [] = ⊥
  Begun behind list (c ∷ cs) = (length cs ≡ behind) × Memᴰ c list × Chained own c cs

  begun_under : (b p : ℕ) (list r : List ℕ) → Memᴰ p list → Begun b (own (suc b) p) r → Begun (suc b) list (p ∷ r)
  begun_under b p list [] i h = absurd h
  begun_under b p list (c ∷ cs) i h =
      (ap suc h.0, i, (subst (λ (j : ℕ). Memᴰ c (own (suc j) p)) (sym h.0) h.1, h.2))

  pub of_every : (behind : ℕ) (list s : List ℕ) → Memᴰ s (every own behind list) → Begun behind list s
  unfolding every
  of_every zero list s i = let t = Memᴰ.of_map (λ p. p ∷ []) list i in subst (Begun 0 list) t.2 (refl, t.1, tt)
  of_every (suc b) list s i =
      let t = of_flat_map (λ p. map (λ s. p ∷ s) (every own b (own (suc b) p))) list i in
      let u = Memᴰ.of_map (λ s. t.0 ∷ s) (every own b (own (suc b) t.0)) t.2 in
      subst (Begun (suc b) list) u.2 (begun_under b t.0 list u.0 t.1 (of_every b (own (suc b) t.0) u.0 u.1))

  in_every : (behind : ℕ) (list s : List ℕ) → Begun behind list s → Memᴰ s (every own behind list)
  unfolding every
  in_every behind list [] h = absurd h
  in_every zero list (c ∷ []) h = Memᴰ.map (λ p. p ∷ []) h.1
  in_every zero list (c ∷ d ∷ cs) h = absurd (omega (arith, h.0))
  in_every (suc b) list (c ∷ []) h = absurd (omega (arith, h.0))
  in_every (suc b) list (c ∷ d ∷ cs) h =
      let e : length cs ≡ b = omega (arith, h.0) in
      mem_flat_map (λ p. map (λ s. p ∷ s) (every own b (own (suc b) p))) h.1
      (Memᴰ.map (λ s. c ∷ s) (in_every b (own (suc b) c) (d ∷ cs) (e, subst (λ (j : ℕ). Memᴰ d (own (suc j) c)) e h.2.0, h.2.1)))

  module _ (n k m : ℕ) (least : 2 ≤ k) where
    abbrev sets_of : ℕ → List (List ℕ)
    sets_of f = map (λ s. f ∷ s) (every own (k - 2) (own (k - 1) f))

    nearby_under : (f : ℕ) (r : List ℕ) → Memᴰ f (first_positions n k m) → Begun (k - 2) (own (k - 1) f) r → Nearby own n k m (f ∷ r)
    nearby_under f [] i h = absurd h
    nearby_under f (c ∷ cs) i h =
        let r = upfrom_range f m (n + 1 - (k + 1) * m) i in
        let e : suc (length cs) ≡ k - 1 = omega (arith, h.0) in
        (omega (arith, h.0), r.0, omega (arith, r.0, r.1, add-one k, suc-mul k m), (subst (λ (j : ℕ). Memᴰ c (own j f)) (sym e) h.1, h.2))

    listed_under : (s : List ℕ) → Nearby own n k m s → Memᴰ s (flat_map sets_of (first_positions n k m))
    listed_under [] h = absurd h
    listed_under (f ∷ []) h = absurd (omega (arith, h.0))
    listed_under (f ∷ c ∷ cs) h =
        let e : suc (length cs) ≡ k - 1 = omega (arith, h.0) in
        mem_flat_map sets_of (listed_number f m (n + 1 - (k + 1) * m) h.1 (omega (arith, h.1, h.2, add-one k, suc-mul k m)))
        (Memᴰ.map (λ s. f ∷ s) (in_every (k - 2) (own (k - 1) f) (c ∷ cs) (omega arith, subst (λ (j : ℕ). Memᴰ c (own j f)) e h.3.0, h.3.1)))

    -- "A set is in it exactly if the first cut lies from m to n − k·m and each further cut is in the kept neighbour list of the one before."
    pub over_members : (s : List ℕ) → Memᴰ s (every_over own n k m) ↔ Nearby own n k m s
    unfolding every_over
    over_members s = (there, listed_under s)
      where
        there : Memᴰ s (flat_map sets_of (first_positions n k m)) → Nearby own n k m s
        there i =
            let t = of_flat_map sets_of (first_positions n k m) i in
            let u = Memᴰ.of_map (λ s. t.0 ∷ s) (every own (k - 2) (own (k - 1) t.0)) t.2 in
            subst (Nearby own n k m) u.2 (nearby_under t.0 u.0 t.1 (of_every (k - 2) (own (k - 1) t.0) u.0 u.1))

pub every_members : (distances : List Float) (n k m count : ℕ) → 2 ≤ k → (s : List ℕ) → Memᴰ s (every_sets distances n k m count) ↔ Nearby (eligible distances n m count) n k m s
unfolding every_sets
every_members distances n k m count least s = over_members (eligible distances n m count) n k m least s

-- ---- the segments

chained_spaced : (distances : List Float) (n m count cut : ℕ) (cs : List ℕ) → cut + suc (length cs) * m ≤ n → Chained (eligible distances n m count) cut cs → Spaced m cut cs n
chained_spaced distances n m count cut [] h c = omega (arith, suc-mul 0 m)
chained_spaced distances n m count cut (d ∷ cs) h c =
    let r = kept_range distances n m count (suc (length cs)) cut d c.0 in
    (r.0, chained_spaced distances n m count d cs (omega (arith, r.1, mul_comm m (suc (length cs)), suc-mul (suc (length cs)) m)) c.1)

-- Each set has k cuts, and all its segments are at least m long.
pub every_spaced : (distances : List Float) (n k m count : ℕ) → 2 ≤ k → (s : List ℕ) → Memᴰ s (every_sets distances n k m count) → (length s ≡ k) × Spaced m 0 s n
every_spaced distances n k m count least s i = go s ((every_members distances n k m count least s).0 i)
  where
    go : (s : List ℕ) → Nearby (eligible distances n m count) n k m s → (length s ≡ k) × Spaced m 0 s n
    go [] h = absurd h
    go (f ∷ cs) h = (h.0, (omega (arith, h.1), chained_spaced distances n m count f cs (rw h.0 h.2) h.3))
