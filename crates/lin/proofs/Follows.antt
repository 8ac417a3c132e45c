-- Where no stop stands twice and all links of a part are kept, the part stands in one piece, in one of its two directions. Assumes nothing.
use mathlib.Core.Path.{◌≡◌, refl, sym, ap, ap₂, ◌∙◌}
use mathlib.Core.Bool.{Bool, true, false}
use mathlib.Core.Logic.{⊎_elim}
use mathlib.Core.List.{List, [], ◌∷◌, ◌++◌, reverse, reverse_aux, reverse-reverse, reverse-append, reverse_aux-eq, tail-eq_of_cons-eq}
use Prim.Native.Nat.{ℕ, ◌+◌, ◌<◌}
use native.Mathlib.Omega.{arith}
use native.Mathlib.Decide.{ℕ_discrete}
use Rattle.theory.specs.Moves.{total}
use Rattle.theory.specs.Route.{count, reverse_if}
use Rattle.theory.specs.Links.{links, link_count}
use Rattle.theory.proofs.Orders.{count_other}
use Rattle.lin.specs.Lin.{AllDifferent}
use Rattle.lin.proofs.Counts.{count_append, count_reverse, count_cons, count_head, count_more, first_or_later, link_self, inside, ends, inside_reverse_aux, inside_reverse, past_first, Among}

pub count_none : (x : ℕ) → 0 < count x [] → ⊥
unfolding count total
count_none x h = omega arith

-- What stands behind a does not stand at a.
elsewhere : (x a : ℕ) (l : List ℕ) → AllDifferent (a ∷ l) → 0 < count x l → x ≡ a → ⊥
elsewhere x a l d h e = omega (arith, d a, count_head a l, rw e at h)

pub first_link : (a y : ℕ) (q : List ℕ) → 0 < link_count a y (links a (y ∷ q))
unfolding links link_count
first_link a y q = omega (arith, link_self a y)

later_link : (x y a b : ℕ) (q : List ℕ) → 0 < link_count x y (links b q) → 0 < link_count x y (links a (b ∷ q))
unfolding links link_count
later_link x y a b q h = omega arith

-- The link from a to y is kept: y stands next to a.
next_is : (a y z : ℕ) (q s : List ℕ) → AllDifferent (a ∷ y ∷ q) → AllDifferent (a ∷ z ∷ s) → 0 < link_count a y (links a (z ∷ s)) → y ≡ z
unfolding links
next_is a y z q s d e h =
    ⊎_elim
    (⊎_elim (λ t. t.1) (λ t. absurd (elsewhere y a (y ∷ q) d (omega (arith, count_head y q)) t.1)))
    (λ g. absurd (elsewhere a a (z ∷ s) e (ends a y z s g).0 refl))
    (first_or_later a y a z (links z s) h)

-- A way from a whose links are all kept is the beginning of the way from a.
pub follows : (a : ℕ) (q s : List ℕ) → AllDifferent (a ∷ q) → AllDifferent (a ∷ s) → Among (links a q) (links a s) → (t : List ℕ) × (s ≡ q ++ t)
follows a [] s d e h = (s, refl)
follows a (y ∷ q) [] d e h = absurd (none (h a y (first_link a y q)))
  where
    none : 0 < link_count a y (links a []) → ⊥
    none = unfold links link_count in λ g. omega arith
follows a (y ∷ q) (z ∷ s) d e h =
    let n : y ≡ z = next_is a y z q s d e (h a y (first_link a y q)) in
    let f = follows y q s (λ x. omega (arith, d x, count_more x a (y ∷ q))) (λ x. rw n (omega (arith, e x, count_more x a (z ∷ s)))) (λ u v g. rw n (on u v g)) in
    (f.0, ap₂ ◌∷◌ (sym n) f.1)
  where
    on : (u v : ℕ) → 0 < link_count u v (links y q) → 0 < link_count u v (links z s)
    on = unfold inside in
        λ u v g.
        let t = ends u v y q g in
        past_first u v a (z ∷ s) (elsewhere u a (y ∷ q) d t.0) (elsewhere v a (y ∷ q) d t.1) (h u v (later_link u v a y q g))

-- A stop of a list, with what stands before it, read backwards, and what stands behind it.
around : (x : ℕ) (p l : List ℕ) → 0 < count x l → (before : List ℕ) × (behind : List ℕ) × (reverse_aux p l ≡ reverse_aux before (x ∷ behind))
around x p [] h = absurd (count_none x h)
around x p (y ∷ l) h = by (ℕ_discrete x y) (around x (y ∷ p) l)
  where
    by : Dec (x ≡ y) → (0 < count x l → (before : List ℕ) × (behind : List ℕ) × (reverse_aux p (y ∷ l) ≡ reverse_aux before (x ∷ behind))) →
        (before : List ℕ) × (behind : List ℕ) × (reverse_aux p (y ∷ l) ≡ reverse_aux before (x ∷ behind))
    by (yes e) f = (p, l, rw e)
    by (no d) f = f (rw (← (count_other x y l d)) h)

count_around : (z x : ℕ) (p l : List ℕ) → count z (reverse_aux p (x ∷ l)) ≡ count z p + count z (x ∷ l)
count_around z x p l = rw (reverse_aux-eq p (x ∷ l), count_append, count_reverse)

-- A part that holds the first stop begins or ends with it, and the route begins with the part or with its reverse.
module _ (q : List ℕ) (x : ℕ) (s : List ℕ) (d : AllDifferent q) (e : AllDifferent (x ∷ s)) (k : Among (inside q) (links x s)) where
  both_ways : (p l : List ℕ) → q ≡ reverse_aux p (x ∷ l) → ((t : List ℕ) × (s ≡ p ++ t)) × ((t : List ℕ) × (s ≡ l ++ t))
  both_ways p l i = (
    follows x p s (λ z. omega (arith, d z, c z, count_cons z x p, count_cons z x l)) e (λ u v g. k u v (rw i (rw inside_reverse_aux (omega arith)))),
    follows x l s (λ z. omega (arith, d z, c z)) e (λ u v g. k u v (rw i (rw inside_reverse_aux (omega arith)))),
  )
    where
      c : (z : ℕ) → count z q ≡ count z p + count z (x ∷ l)
      c z = ap (count z) i ∙ count_around z x p l

  part_at_x : (p l : List ℕ) → q ≡ reverse_aux p (x ∷ l) → (b : Bool) × (t : List ℕ) × (x ∷ s ≡ reverse_if b q ++ t)
  unfolding reverse_if
  part_at_x [] l i = let f = (both_ways [] l i).1 in (false, f.0, ap (λ m. x ∷ m) f.1 ∙ ap (λ m. m ++ f.0) (sym i))
  part_at_x (u ∷ p) [] i = let f = (both_ways (u ∷ p) [] i).0 in (true, f.0, ap (λ m. x ∷ m) f.1 ∙ ap (λ m. m ++ f.0) (sym (ap reverse i ∙ reverse-reverse (x ∷ u ∷ p))))
  part_at_x (u ∷ p) (v ∷ l) i =
      let f = both_ways (u ∷ p) (v ∷ l) i in
      let w : u ∷ (p ++ f.0.0) ≡ v ∷ (l ++ f.1.0) = sym f.0.1 ∙ f.1.1 in
      let n : u ≡ v = cc in
      absurd (omega (arith, d u, ap (count u) i, count_around u x (u ∷ p) (v ∷ l), count_head u p, count_more u x (v ∷ l), ap (λ z. count z (v ∷ l)) n, count_head v l))

  pub begins : 0 < count x q → (b : Bool) × (t : List ℕ) × (x ∷ s ≡ reverse_if b q ++ t)
  begins h = let t = around x [] q h in part_at_x t.0 t.1 t.2

-- And from behind: a part before e whose links are all kept, with the one to e, is the end of the route.
pub ends_with : (e : ℕ) (z l : List ℕ) → AllDifferent (z ++ (e ∷ [])) → AllDifferent (l ++ (e ∷ [])) → Among (inside (z ++ (e ∷ []))) (inside (l ++ (e ∷ []))) → (t : List ℕ) × (l ≡ t ++ z)
ends_with e z l d c h =
    let f = follows e (reverse z) (reverse l) (different z d) (different l c) back in
    (reverse f.0, sym (reverse-reverse l) ∙ ap reverse f.1 ∙ reverse-append (reverse z) f.0 ∙ ap (λ m. reverse f.0 ++ m) (reverse-reverse z))
  where
    different : (m : List ℕ) → AllDifferent (m ++ (e ∷ [])) → AllDifferent (e ∷ reverse m)
    different m d x = omega (arith, d x, count_append x m (e ∷ []), count_cons x e (reverse m), count_reverse x m)

    turned : (u v : ℕ) (m : List ℕ) → link_count u v (links e (reverse m)) ≡ link_count u v (inside (m ++ (e ∷ [])))
    turned = unfold inside in λ u v m. ap (λ n. link_count u v (inside n)) (sym (reverse-append m (e ∷ []))) ∙ inside_reverse u v (m ++ (e ∷ []))

    back : Among (links e (reverse z)) (links e (reverse l))
    back u v g = rw turned (h u v (rw turned at g))

-- What stands before a part that does not hold a begins with a.
pub behind_first : (a : ℕ) (s t z : List ℕ) → a ∷ s ≡ t ++ z → count a z ≡ 0 → (u : List ℕ) × (s ≡ u ++ z)
behind_first a s [] z e h = absurd (omega (arith, ap (count a) e, count_head a s))
behind_first a s (b ∷ u) z e h = (u, tail-eq_of_cons-eq e)
