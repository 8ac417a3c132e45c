-- The rank of an order is its place in the enumeration, for any number of segments. Assumes nothing.
use mathlib.Core.Path.{◌≡◌, refl, sym, ap, ap₂, ◌∙◌, subst}
use mathlib.Core.Bool.{cond}
use mathlib.Core.List.{List, [], ◌∷◌, map, Memᴰ}
use mathlib.Core.Logic.{⊎_elim}
use Prim.Native.Nat.{ℕ, zero, suc, ◌+◌, ◌*◌, ◌≤◌, ◌<◌}
use native.Mathlib.Omega.{arith}
use native.Mathlib.Nat.{zero-add}
use native.Mathlib.Decide.{ℕ_discrete}
use lib.Arith.{digits_lt}
use lib.Dec.{eqb, ltb}
use lib.ListN.{length, get_or, length-map}
use borrow.Author.Tests.{eq-eqb, ne_eqb, lt-ltb, le-ltb}
use Rattle.theory.specs.Moves.{total, picks, orders, factorial, Rising}
use Rattle.theory.specs.Route.{count}
use Rattle.theory.proofs.Moves.{total_ones, total_picks, length_picks, length_rest, length_orders}
use Rattle.theory.proofs.Orders.{mem_count, count_mem}
use Rattle.theory.proofs.Index.{get_or_flat_map, get_or_map, mem_get_or, picks_at}
use Rattle.inverse.specs.WayBack.{place}
use Rattle.inverse.specs.PatternIndex.{below, rank}
use Rattle.inverse.proofs.Places.{place_below, at_place}

none_below : (x low top : ℕ) (l : List ℕ) → x ≤ low → Rising low l top → below x l ≡ 0
unfolding below total
none_below x low top [] h r = refl
none_below x low top (c ∷ l) h r = rw (le-ltb c x (omega arith)) (omega (arith, none_below x (suc c) top l (omega arith) r.2))

from_low : (x low top : ℕ) (l : List ℕ) → Rising low l top → Memᴰ x l → low ≤ x
from_low x low top [] r i = absurd (mathlib.Core.List.Memᴰ.not-nil i)
from_low x low top (c ∷ l) r i = ⊎_elim (λ e. omega arith) (λ j. omega (arith, from_low x (suc c) top l r.2 j)) (mathlib.Core.List.Memᴰ.cases_cons i)

-- In a rising list the place of a number is how many are below it.
rising_place : (x low top : ℕ) (l : List ℕ) → Rising low l top → Memᴰ x l → place x l ≡ below x l
unfolding place below total
rising_place x low top [] r i = absurd (mathlib.Core.List.Memᴰ.not-nil i)
rising_place x low top (c ∷ l) r i = by (ℕ_discrete c x) (rising_place x (suc c) top l r.2)
  where
    by : Dec (c ≡ x) → (Memᴰ x l → place x l ≡ below x l) → cond (eqb c x) 0 (suc (place x l)) ≡ cond (ltb c x) 1 0 + below x l
    by (yes e) f = rw (eq-eqb c x e, le-ltb c x (omega arith)) (omega (arith, none_below x (suc c) top l (omega arith) r.2))
    by (no d) f =
        let j : Memᴰ x l = ⊎_elim (λ e. absurd (d (sym e))) (λ j. j) (mathlib.Core.List.Memᴰ.cases_cons i) in
        rw (ne_eqb c x d, lt-ltb c x (omega (arith, from_low x (suc c) top l r.2 j))) (omega (arith, f j))

lower : (low low' top : ℕ) (l : List ℕ) → low' ≤ low → Rising low l top → Rising low' l top
lower low low' top [] h r = tt
lower low low' top (c ∷ l) h r = (omega arith, r.1, r.2)

-- What is left of a rising list rises.
picks_rise : (low top : ℕ) (l : List ℕ) (p : ℕ × List ℕ) → Rising low l top → Memᴰ p (picks l) → Rising low p.1 top
unfolding picks
picks_rise low top [] p r i = absurd (mathlib.Core.List.Memᴰ.not-nil i)
picks_rise low top (c ∷ l) p r i =
    ⊎_elim
    (λ e. subst (λ (q : List ℕ). Rising low q top) (ap (λ (p : ℕ × List ℕ). p.1) (sym e)) (lower (suc c) low top l (omega arith) r.2))
    (λ k.
    let t = mathlib.Core.List.Memᴰ.of_map (λ p. (p.0, c ∷ p.1)) (picks l) k in
    subst (λ (q : List ℕ). Rising low q top) (ap (λ (p : ℕ × List ℕ). p.1) t.2) (r.0, r.1, picks_rise (suc c) top l t.0 r.2 t.1))
    (mathlib.Core.List.Memᴰ.cases_cons i)

pub record Ranked (n : ℕ) (l o : List ℕ) : Type 0 where
  pub few : rank o < factorial n
  pub there : get_or (orders n l) (rank o) [] ≡ o

module _ (n low top : ℕ) (l : List ℕ) (x : ℕ) (o : List ℕ) (rising : Rising low l top) (long : length l ≡ suc n) (sums : (g : ℕ → ℕ) → total g (x ∷ o) ≡ total g l) where
  first_there : Memᴰ x l
  unfolding count
  first_there = mem_count x l (omega (arith, sums (λ y. cond (eqb x y) 1 0), count_mem x (x ∷ o) (mathlib.Core.List.Memᴰ.head refl)))

  taken : ℕ × List ℕ
  taken = get_or (picks l) (place x l) (0, [])

  at_first : place x l < length l
  at_first = place_below x l first_there

  taken_listed : Memᴰ taken (picks l)
  unfolding taken
  taken_listed = mem_get_or (picks l) (place x l) (0, []) (rw length_picks at_first)

  first_taken : taken.0 ≡ x
  unfolding taken
  first_taken = ap (λ (p : ℕ × List ℕ). p.0) (picks_at l (place x l) (0, []) at_first) ∙ at_place x l first_there

  sums_left : (g : ℕ → ℕ) → total g o ≡ total g taken.1
  unfolding total
  sums_left g = omega (arith, total_picks g l taken taken_listed, sums g, ap g first_taken)

  place_is : place x l ≡ below x o
  unfolding below total
  place_is =
      let z = le-ltb x x (omega arith) in
      let s : cond (ltb x x) 1 0 + below x o ≡ below x l = sums (λ y. cond (ltb y x) 1 0) in
      rising_place x low top l rising first_there ∙ sym s ∙ ap (λ b. cond b 1 0 + below x o) z ∙ zero-add (below x o)

  step : Ranked n taken.1 o → Ranked (suc n) l (x ∷ o)
  unfolding rank orders factorial taken
  step r =
      let f : ℕ × List ℕ → List (List ℕ) = λ p. map (λ o. p.0 ∷ o) (orders n p.1) in
      let size : (p : ℕ × List ℕ) → Memᴰ p (picks l) → length (orders n p.1) ≡ factorial n = λ p i. length_orders n p.1 (length_rest n l long p i) in
      let rest : length o ≡ n = omega (arith, total_ones o, total_ones l, sums (λ y. 1)) in
      let is : below x o * factorial (length o) + rank o ≡ place x l * factorial n + rank o = ap₂ (λ a b. a * factorial b + rank o) (sym place_is) rest in
      record {
        few = rw is (digits_lt (rw long at at_first) r.few);
        there =
            ap (λ i. get_or (orders (suc n) l) i []) is
            ∙ get_or_flat_map f (factorial n) (0, []) [] (picks l) (λ p i. length-map (orders n p.1) (λ o. p.0 ∷ o) ∙ size p i) (place x l) (rank o) (rw length_picks at_first) r.few
            ∙ get_or_map (λ o. taken.0 ∷ o) (orders n taken.1) (rank o) [] [] (rw (size taken taken_listed) r.few)
            ∙ ap₂ (λ a b. a ∷ b) first_taken r.there;
      }

pub ranked : (n low top : ℕ) (l o : List ℕ) → Rising low l top → length l ≡ n → ((g : ℕ → ℕ) → total g o ≡ total g l) → Ranked n l o
ranked zero low top l [] r h s = unfold rank orders factorial in record { few = omega arith; there = refl }
ranked zero low top l (x ∷ o) r h s = absurd (omega (arith, s (λ y. 1), total_ones (x ∷ o), total_ones l))
ranked (suc n) low top l [] r h s = absurd (omega (arith, s (λ y. 1), total_ones [], total_ones l))
ranked (suc n) low top l (x ∷ o) r h s =
    step n low top l x o r h s
    (ranked n low top (taken n low top l x o r h s).1 o (picks_rise low top l (taken n low top l x o r h s) r (taken_listed n low top l x o r h s)) (length_rest n l h (taken n low top l x o r h s) (taken_listed n low top l x o r h s)) (sums_left n low top l x o r h s))
