-- Links and stops by how often they stand. Assumes nothing.
use mathlib.Core.Path.{◌≡◌, refl, ap, ap₂, ◌∙◌}
use mathlib.Core.Bool.{Bool, true, false, cond, ◌&&◌, ◌||◌, or_comm, and_comm, and-eq-true_iff}
use mathlib.Core.Logic.{◌⊎◌, inl, inr, ⊎_elim}
use mathlib.Core.List.{List, [], ◌∷◌, ◌++◌, reverse, reverse_aux, reverse-append}
use Prim.Native.Nat.{ℕ, suc, ◌+◌, ◌≤◌, ◌<◌}
use native.Mathlib.Omega.{arith}
use lib.Dec.{eqb}
use lib.ListN.{length}
use borrow.Author.Tests.{eqb-true, eq-eqb}
use Rattle.theory.specs.Moves.{total}
use Rattle.theory.specs.Route.{count, reverse_if}
use Rattle.theory.specs.Links.{links, joins, link_count}
use Rattle.theory.proofs.Moves.{total_append, total_ones}
use Rattle.theory.proofs.Orders.{same_counts}
use Rattle.theory.proofs.Route.{total_reverse_if}
use Rattle.lin.specs.Lin.{SameStops, AllDifferent}

-- ---- stops

pub count_append : (x : ℕ) (l m : List ℕ) → count x (l ++ m) ≡ count x l + count x m
unfolding count
count_append x l m = total_append _ l m

pub count_reverse_if : (x : ℕ) (b : Bool) (l : List ℕ) → count x (reverse_if b l) ≡ count x l
unfolding count
count_reverse_if x b l = total_reverse_if _ b l

pub count_reverse : (x : ℕ) (l : List ℕ) → count x (reverse l) ≡ count x l
unfolding reverse_if
count_reverse x l = count_reverse_if x true l

pub count_head : (x : ℕ) (l : List ℕ) → count x (x ∷ l) ≡ suc (count x l)
unfolding count total
count_head x l = rw (eq-eqb x x refl) (omega arith)

pub count_nil : (x : ℕ) → count x [] ≡ 0
unfolding count total
count_nil x = refl

pub count_cons : (x y : ℕ) (l : List ℕ) → count x (y ∷ l) ≡ count x (y ∷ []) + count x l
count_cons x y l = count_append x (y ∷ []) l

pub count_more : (x y : ℕ) (l : List ℕ) → count x l ≤ count x (y ∷ l)
unfolding count total
count_more x y l = omega arith

pub not_first : (x a : ℕ) (l : List ℕ) → count x (a ∷ l) ≡ 0 → x ≡ a → ⊥
not_first x a l h e = omega (arith, count_head a l, rw e at h)

pub same_length : (r s : List ℕ) → SameStops r s → length s ≡ length r
same_length r s same = omega (arith, total_ones s, same_counts s r same (λ z. 1), total_ones r)

-- ---- a link at the head of a list

abbrev pub Joined : ℕ → ℕ → ℕ → ℕ → Type 0
Joined x y a b = ((x ≡ a) × (y ≡ b)) ⊎ ((x ≡ b) × (y ≡ a))

joined : (x y a b : ℕ) → joins x y (a, b) ≡ true → Joined x y a b
joined x y a b h = by (eqb x a && eqb y b) refl h
  where
    by : (t : Bool) → (eqb x a && eqb y b) ≡ t → (t || (eqb x b && eqb y a)) ≡ true → Joined x y a b
    by true e g = let u = (and-eq-true_iff (eqb x a) (eqb y b)).0 e in inl (eqb-true x a u.0, eqb-true y b u.1)
    by false e g = let u = (and-eq-true_iff (eqb x b) (eqb y a)).0 g in inr (eqb-true x b u.0, eqb-true y a u.1)

pub no_link : (x y : ℕ) → 0 < link_count x y [] → ⊥
unfolding link_count
no_link x y h = omega arith

pub first_or_later : (x y a b : ℕ) (ls : List (ℕ × ℕ)) → 0 < link_count x y ((a, b) ∷ ls) → Joined x y a b ⊎ (0 < link_count x y ls)
unfolding link_count
first_or_later x y a b ls = by (joins x y (a, b)) refl
  where
    by : (t : Bool) → joins x y (a, b) ≡ t → 0 < cond t 1 0 + link_count x y ls → Joined x y a b ⊎ (0 < link_count x y ls)
    by true e h = inl (joined x y a b e)
    by false e h = inr (omega arith)

-- 1 for the link between x and y, 0 for another.
abbrev pub hit : ℕ → ℕ → ℕ → ℕ → ℕ
hit x y a b = cond (joins x y (a, b)) 1 0

pub link_turned : (x y a b : ℕ) → hit x y a b ≡ hit x y b a
link_turned x y a b = ap (λ t. cond t 1 0) (or_comm (eqb x a && eqb y b) (eqb x b && eqb y a))

pub link_either : (x y : ℕ) (ls : List (ℕ × ℕ)) → link_count x y ls ≡ link_count y x ls
unfolding link_count
link_either x y [] = refl
link_either x y (l ∷ ls) =
    ap₂ ◌+◌
    (ap (λ t. cond t 1 0) (or_comm (eqb x l.0 && eqb y l.1) (eqb x l.1 && eqb y l.0) ∙ ap₂ ◌||◌ (and_comm (eqb x l.1) (eqb y l.0)) (and_comm (eqb x l.0) (eqb y l.1))))
    (link_either x y ls)

pub link_self : (a b : ℕ) → hit a b a b ≡ 1
link_self a b = rw (eq-eqb a a refl, eq-eqb b b refl)

-- ---- the links inside a list

unfoldable pub inside : List ℕ → List (ℕ × ℕ)
unfolding links
inside [] = []
inside (x ∷ l) = links x l

pub ends : (x y a : ℕ) (l : List ℕ) → 0 < link_count x y (links a l) → (0 < count x (a ∷ l)) × (0 < count y (a ∷ l))
unfolding links link_count
ends x y a [] h = absurd (omega arith)
ends x y a (b ∷ l) h = ⊎_elim (⊎_elim here there) (λ g. let t = ends x y b l g in (omega (arith, t.0, count_more x a (b ∷ l)), omega (arith, t.1, count_more y a (b ∷ l)))) (first_or_later x y a b (links b l) h)
  where
    at : (z c : ℕ) (m : List ℕ) → z ≡ c → 0 < count z (c ∷ m)
    at z c m e = rw e (omega (arith, count_head c m))

    here : (x ≡ a) × (y ≡ b) → (0 < count x (a ∷ b ∷ l)) × (0 < count y (a ∷ b ∷ l))
    here e = (at x a (b ∷ l) e.0, omega (arith, at y b l e.1, count_more y a (b ∷ l)))

    there : (x ≡ b) × (y ≡ a) → (0 < count x (a ∷ b ∷ l)) × (0 < count y (a ∷ b ∷ l))
    there e = (omega (arith, at x b l e.0, count_more x a (b ∷ l)), at y a (b ∷ l) e.1)

pub inside_ends : (x y : ℕ) (l : List ℕ) → 0 < link_count x y (inside l) → (0 < count x l) × (0 < count y l)
unfolding inside link_count
inside_ends x y [] h = absurd (omega arith)
inside_ends x y (a ∷ l) h = ends x y a l h

pub inside_reverse_aux : (x y : ℕ) (l : List ℕ) (a : ℕ) (r : List ℕ) → link_count x y (inside (reverse_aux l (a ∷ r))) ≡ link_count x y (links a l) + link_count x y (links a r)
unfolding inside links link_count
inside_reverse_aux x y [] a r = omega arith
inside_reverse_aux x y (b ∷ l) a r = omega (arith, inside_reverse_aux x y l b (a ∷ r), link_turned x y a b)

pub inside_reverse : (x y : ℕ) (l : List ℕ) → link_count x y (inside (reverse l)) ≡ link_count x y (inside l)
unfolding inside links link_count
inside_reverse x y [] = refl
inside_reverse x y (a ∷ l) = omega (arith, inside_reverse_aux x y l a [])

-- A link that does not touch a stop stands where that stop is left out.
pub past_first : (x y a : ℕ) (l : List ℕ) → (x ≡ a → ⊥) → (y ≡ a → ⊥) → 0 < link_count x y (links a l) → 0 < link_count x y (inside l)
unfolding inside links
past_first x y a [] p q h = h
past_first x y a (b ∷ l) p q h = ⊎_elim (⊎_elim (λ e. absurd (p e.0)) (λ e. absurd (q e.1))) (λ g. g) (first_or_later x y a b (links b l) h)

pub past : (x y : ℕ) (l m : List ℕ) → count x l ≡ 0 → count y l ≡ 0 → 0 < link_count x y (inside (l ++ m)) → 0 < link_count x y (inside m)
unfolding inside
past x y [] m p q h = h
past x y (a ∷ l) m p q h =
    past x y l m (omega (arith, count_more x a l)) (omega (arith, count_more y a l)) (past_first x y a (l ++ m) (not_first x a l p) (not_first y a l q) h)

pub before : (x y : ℕ) (l m : List ℕ) → count x m ≡ 0 → count y m ≡ 0 → 0 < link_count x y (inside (l ++ m)) → 0 < link_count x y (inside l)
before x y l m p q h =
    let t : 0 < link_count x y (inside (reverse m ++ reverse l)) = rw reverse-append at (rw (← (inside_reverse x y (l ++ m))) at h) in
    rw inside_reverse at (past x y (reverse m) (reverse l) (count_reverse x m ∙ p) (count_reverse y m ∙ q) t)

-- Each link of the one list stands in the other.
abbrev pub Among : List (ℕ × ℕ) → List (ℕ × ℕ) → Type 0
Among ls ms = (x y : ℕ) → 0 < link_count x y ls → 0 < link_count x y ms

-- Links of p stand in a part of a list if they stand in the list, no stop of which stands twice, and the stops of p stand in the part.
module _ (p l m : List ℕ) (d : AllDifferent (l ++ m)) (h : Among (inside p) (inside (l ++ m))) where
  pub in_front : ((x : ℕ) → 0 < count x p → 0 < count x l) → Among (inside p) (inside l)
  in_front s x y g = let e = inside_ends x y p g in before x y l m (off x e.0) (off y e.1) (h x y g)
    where
      off : (z : ℕ) → 0 < count z p → count z m ≡ 0
      off z i = omega (arith, d z, count_append z l m, s z i)

  pub in_back : ((x : ℕ) → 0 < count x p → 0 < count x m) → Among (inside p) (inside m)
  in_back s x y g = let e = inside_ends x y p g in past x y l m (off x e.0) (off y e.1) (h x y g)
    where
      off : (z : ℕ) → 0 < count z p → count z l ≡ 0
      off z i = omega (arith, d z, count_append z l m, s z i)
