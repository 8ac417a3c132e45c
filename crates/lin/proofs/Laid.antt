-- Parts whose links are all kept are laid one after the other, in some order and each in one of its directions. Assumes nothing.
use mathlib.Core.Path.{◌≡◌, refl, sym, ap, ap₂, ◌∙◌}
use mathlib.Core.Bool.{Bool, false, cond}
use mathlib.Core.List.Memᴰ
use mathlib.Core.List.{List, [], ◌∷◌, ◌++◌, map, flatten, Memᴰ}
use mathlib.Core.Logic.{⊎_elim}
use Prim.Native.Nat.{ℕ, zero, suc, ◌+◌, ◌≤◌, ◌<◌}
use native.Mathlib.Omega.{arith}
use lib.Dec.{eqb}
use lib.ListN.{length}
use borrow.Author.Tests.{eq-eqb, ne_eqb}
use Rattle.theory.specs.Moves.{total, picks}
use Rattle.theory.specs.Route.{count, reverse_if}
use Rattle.theory.proofs.Moves.{total_picks, length_rest}
use Rattle.theory.proofs.Orders.{count_mem}
use Rattle.theory.proofs.Distinct.{picks_sub, picks_keys}
use Rattle.lin.specs.Lin.{AllDifferent}
use Rattle.lin.proofs.Counts.{count_append, count_reverse_if, count_head, inside, Among, in_back}
use Rattle.lin.proofs.Follows.{begins}

pub map_same : (f g : ℕ → List ℕ) (l : List ℕ) → ((j : ℕ) → Memᴰ j l → f j ≡ g j) → map f l ≡ map g l
map_same f g [] h = refl
map_same f g (x ∷ l) h = ap₂ ◌∷◌ (h x (Memᴰ.head refl)) (map_same f g l (λ j i. h j (Memᴰ.tail i)))

-- A sum above 0 has a term above 0, which can be taken out.
held : (g : ℕ → ℕ) (l : List ℕ) → 0 < total g l → (p : ℕ × List ℕ) × Memᴰ p (picks l) × (0 < g p.0)
unfolding total picks
held g [] h = absurd (omega arith)
held g (x ∷ l) h = by (g x) refl (held g l)
  where
    by : (n : ℕ) → g x ≡ n → (0 < total g l → (p : ℕ × List ℕ) × Memᴰ p (picks l) × (0 < g p.0)) → (p : ℕ × List ℕ) × Memᴰ p (picks (x ∷ l)) × (0 < g p.0)
    by zero e f = let t = f (omega arith) in ((t.0.0, x ∷ t.0.1), Memᴰ.tail (Memᴰ.map (λ p. (p.0, x ∷ p.1)) t.1), t.2)
    by (suc n) e f = ((x, l), Memᴰ.head refl, omega arith)

pub at_most : (g : ℕ → ℕ) (l : List ℕ) (j : ℕ) → Memᴰ j l → g j ≤ total g l
unfolding total
at_most g [] j i = absurd (Memᴰ.not-nil i)
at_most g (x ∷ l) j i = ⊎_elim (λ e. rw e (omega arith)) (λ k. omega (arith, at_most g l j k)) (Memᴰ.cases_cons i)

module _ (q : ℕ → List ℕ) where
  pub record Laid (is s : List ℕ) : Type 0 where
    pub order : List ℕ
    pub turned : ℕ → Bool
    pub once : (g : ℕ → ℕ) → total g order ≡ total g is
    pub laid : s ≡ flatten (map (λ i. reverse_if (turned i) (q i)) order)

  -- The parts of is hold the stops of s, and their links are kept.
  pub record Holds (is s : List ℕ) : Type 0 where
    pub numbers : AllDifferent is
    pub stops : AllDifferent s
    pub all : (x : ℕ) → count x s ≡ total (λ i. count x (q i)) is
    pub full : (i : ℕ) → Memᴰ i is → 0 < length (q i)
    pub kept : (i : ℕ) → Memᴰ i is → Among (inside (q i)) (inside s)

  -- The part that holds the first stop comes first.
  module _ (x : ℕ) (s is : List ℕ) (h : Holds is (x ∷ s)) (p : ℕ × List ℕ) (m : Memᴰ p (picks is)) (at : 0 < count x (q p.0)) where
    comes_first : (b : Bool) × (t : List ℕ) × (x ∷ s ≡ reverse_if b (q p.0) ++ t)
    unfolding inside
    comes_first =
        begins (q p.0) x s (λ z. omega (arith, h.stops z, h.all z, total_picks (λ i. count z (q i)) is p m)) h.stops
        (h.kept p.0 (rw picks_keys at (Memᴰ.map (λ p. p.0) m))) at

    module _ (b : Bool) (t : List ℕ) (e : x ∷ s ≡ reverse_if b (q p.0) ++ t) where
      counted : (z : ℕ) → count z (x ∷ s) ≡ count z (q p.0) + count z t
      counted z = ap (count z) e ∙ count_append z (reverse_if b (q p.0)) t ∙ ap (λ n. n + count z t) (count_reverse_if z b (q p.0))

      rest_holds : Holds p.1 t
      rest_holds =
          record {
            numbers = λ z. unfold count in omega (arith, h.numbers z, total_picks (λ y. cond (eqb z y) 1 0) is p m);
            stops = λ z. omega (arith, h.stops z, counted z);
            all = λ z. omega (arith, h.all z, counted z, total_picks (λ i. count z (q i)) is p m);
            full = λ j k. h.full j (picks_sub is p m j k);
            kept = λ j k.
                in_back (q j) (reverse_if b (q p.0)) t (λ z. rw (← e) (h.stops z)) (λ u v g. rw (← e) (h.kept j (picks_sub is p m j k) u v g))
                (λ z c. omega (arith, h.all z, counted z, total_picks (λ i. count z (q i)) is p m, at_most (λ i. count z (q i)) p.1 j k));
          }

      and_the_rest : Laid p.1 t → Laid is (x ∷ s)
      unfolding total flatten
      and_the_rest l =
          record {
            order = p.0 ∷ l.order;
            turned = turned;
            once = λ g. omega (arith, l.once g, total_picks g is p m);
            laid = e ∙ ap₂ ◌++◌ here (l.laid ∙ ap flatten (map_same _ _ l.order others));
          }
        where
          turned : ℕ → Bool
          turned j = cond (eqb j p.0) b (l.turned j)

          here : reverse_if b (q p.0) ≡ reverse_if (turned p.0) (q p.0)
          here = ap (λ c. reverse_if (cond c b (l.turned p.0)) (q p.0)) (sym (eq-eqb p.0 p.0 refl))

          other : (j : ℕ) → Memᴰ j l.order → j ≡ p.0 → ⊥
          other j i c =
              unfold count in
              omega (arith, count_mem j l.order i, l.once (λ y. cond (eqb j y) 1 0), total_picks (λ y. cond (eqb j y) 1 0) is p m, h.numbers j, ap (λ c. cond {A = ℕ} c 1 0) (eq-eqb j p.0 c))

          others : (j : ℕ) → Memᴰ j l.order → reverse_if (l.turned j) (q j) ≡ reverse_if (turned j) (q j)
          others j i = ap (λ c. reverse_if (cond c b (l.turned j)) (q j)) (sym (ne_eqb j p.0 (other j i)))

  pub lays : (n : ℕ) (is s : List ℕ) → length is ≡ n → Holds is s → Laid is s
  unfolding total flatten
  lays zero [] [] l h = record { order = []; turned = λ i. false; once = λ g. refl; laid = refl }
  lays zero [] (x ∷ s) l h = absurd (omega (arith, h.all x, count_head x s))
  lays zero (i ∷ is) s l h = absurd (omega arith)
  lays (suc n) [] s l h = absurd (omega arith)
  lays (suc n) (i ∷ is) [] l h = absurd (nothing (q i) (h.full i (Memᴰ.head refl)) (λ z. omega (arith, h.all z)))
    where
      nothing : (l : List ℕ) → 0 < length l → ((z : ℕ) → count z l ≤ count z []) → ⊥
      nothing [] g c = omega arith
      nothing (y ∷ l) g c = unfold count total in omega (arith, c y, count_head y l)
  lays (suc n) (i ∷ is) (x ∷ s) l h =
      let p = held (λ i. count x (q i)) (i ∷ is) (omega (arith, h.all x, count_head x s)) in
      let f = comes_first x s (i ∷ is) h p.0 p.1 p.2 in
      and_the_rest x s (i ∷ is) h p.0 p.1 p.2 f.0 f.1 f.2
      (lays n p.0.1 f.1 (length_rest n (i ∷ is) l p.0 p.1) (rest_holds x s (i ∷ is) h p.0 p.1 p.2 f.0 f.1 f.2))
