-- Reconnecting rearranges the route; the length by segments; deadlines. Assumes nothing.
use mathlib.Core.Path.{◌≡◌, refl, ap, ap₂, ◌∙◌}
use mathlib.Core.Bool.{Bool, true, false, not, and-eq-true_iff}
use mathlib.Core.Logic.{◌↔◌}
use mathlib.Core.List.{List, [], ◌∷◌, ◌++◌, map, flatten, reverse_aux, append-nil}
use Prim.Native.Nat.{ℕ, zero, suc, ◌+◌, ◌-◌, ◌≤◌, ◌<◌}
use native.Mathlib.Omega.{arith}
use native.Mathlib.Decide.{ℕ_discrete}
use borrow.Author.Tests.{ltb-false, le-ltb, not-true}
use native.Mathlib.Nat.{le_of_suc-le-suc}
use lib.ListN.{length, get_or, drop, length-drop}
use lib.Seq.{slice, length-slice}
use Rattle.theory.specs.Moves.{upfrom, total, Pattern, Move, Rising}
use Rattle.theory.specs.Route.{segments, reverses, reverse_if, placed, joined, reconnected, Problem, Timetable, timetable_of, arrival, late, every, timely, Timely, feasible, Feasible}
use Rattle.theory.specs.Pairs.{pairs_kept}
use Rattle.theory.proofs.Moves.{total_append}
use Rattle.theory.proofs.Pairs.{pairs_kept_says, says_pairs_kept}

-- ---- reconnecting keeps every sum over the stops

total_reverse_aux : (g : ℕ → ℕ) (l r : List ℕ) → total g (reverse_aux l r) ≡ total g l + total g r
unfolding total
total_reverse_aux g [] r = omega arith
total_reverse_aux g (x ∷ l) r = omega (arith, total_reverse_aux g l (x ∷ r))

pub total_reverse_if : (g : ℕ → ℕ) (b : Bool) (l : List ℕ) → total g (reverse_if b l) ≡ total g l
unfolding reverse_if total
total_reverse_if g true l = omega (arith, total_reverse_aux g l [])
total_reverse_if g false l = refl

total_flatten : (g : ℕ → ℕ) (f : ℕ → List ℕ) (o : List ℕ) → total g (flatten (map f o)) ≡ total (λ i. total g (f i)) o
unfolding total flatten
total_flatten g f [] = refl
total_flatten g f (i ∷ o) = omega (arith, total_append g (f i) (flatten (map f o)), total_flatten g f o)

pub total_same : (g h : ℕ → ℕ) → ((x : ℕ) → g x ≡ h x) → (l : List ℕ) → total g l ≡ total h l
unfolding total
total_same g h e [] = refl
total_same g h e (x ∷ l) = ap₂ ◌+◌ (e x) (total_same g h e l)

pub total_shift : (g : ℕ → ℕ) (f n : ℕ) → total g (upfrom (suc f) n) ≡ total (λ i. g (suc i)) (upfrom f n)
unfolding total upfrom
total_shift g f zero = refl
total_shift g f (suc n) = omega (arith, total_shift g (suc f) n)

total_segments : (g : ℕ → ℕ) (ps : List (List ℕ)) → total (λ i. total g (get_or ps i [])) (upfrom 0 (length ps)) ≡ total g (flatten ps)
unfolding total upfrom flatten
total_segments g [] = refl
total_segments g (p ∷ ps) = omega (arith, total_append g p (flatten ps), total_segments g ps, total_shift (λ i. total g (get_or (p ∷ ps) i [])) 0 (length ps))

-- Over placed segments, whichever are reversed.
pub total_placed : (g : ℕ → ℕ) (mask : ℕ) (ps : List (List ℕ)) (o : List ℕ) → total g (flatten (placed mask ps o)) ≡ total (λ i. total g (get_or ps i [])) o
unfolding placed
total_placed g mask ps o =
    total_flatten g (λ i. reverse_if (reverses mask i) (get_or ps i [])) o ∙ total_same _ _ (λ i. total_reverse_if g (reverses mask i) (get_or ps i [])) o

pub total_joined : (g : ℕ → ℕ) (p : Pattern) (ps : List (List ℕ)) → ((h : ℕ → ℕ) → total h p.order ≡ total h (upfrom 0 (length ps))) → total g (joined p ps) ≡ total g (flatten ps)
unfolding joined
total_joined g p ps h =
    total_placed g p.mask ps p.order
    ∙ h (λ i. total g (get_or ps i []))
    ∙ total_segments g ps

slice_drop : (a b : ℕ) (l : List ℕ) → a ≤ b → slice a b l ++ drop b l ≡ drop a l
slice_drop zero b l h = lib.ListN.take-append-drop b l
slice_drop (suc a) zero l h = absurd (omega arith)
slice_drop (suc a) (suc b) [] h = refl
slice_drop (suc a) (suc b) (x ∷ l) h = slice_drop a b l (le_of_suc-le-suc h)

pub flatten_segments : (n from low : ℕ) (cs r : List ℕ) → from ≤ low → Rising low cs n → flatten (segments from cs r) ≡ drop from r
unfolding segments flatten
flatten_segments n from low [] r h i = append-nil (drop from r)
flatten_segments n from low (c ∷ cs) r h i = ap (λ t. slice from c r ++ t) (flatten_segments n c (suc c) cs r (omega arith) i.2) ∙ slice_drop from c r (omega arith)

pub length_segments : (from : ℕ) (cs r : List ℕ) → length (segments from cs r) ≡ suc (length cs)
unfolding segments
length_segments from [] r = refl
length_segments from (c ∷ cs) r = ap suc (length_segments c cs r)

-- How long segment i is.
pub length_segment : (n from low : ℕ) (cs r : List ℕ) (i : ℕ) → length r ≡ n → Rising low cs n → length (get_or (segments from cs r) i []) ≡ get_or (cs ++ (n ∷ [])) i 0 - get_or (from ∷ cs) i 0
unfolding segments
length_segment n from low [] r zero h t = length-drop from r ∙ ap (λ x. x - from) h
length_segment n from low [] r (suc i) h t = omega arith
length_segment n from low (c ∷ cs) r zero h t = length-slice from c r (omega arith)
length_segment n from low (c ∷ cs) r (suc i) h t = length_segment n c (suc c) cs r i h t.2

-- Every sum over the stops, and so how often each stands in the route, and how many there are.
pub total_reconnected : (g : ℕ → ℕ) (n : ℕ) (m : Move) (r : List ℕ) → Rising 0 m.cuts n →
    ((h : ℕ → ℕ) → total h m.pattern.order ≡ total h (upfrom 0 (suc (length m.cuts)))) → total g (reconnected m r) ≡ total g r
unfolding reconnected
total_reconnected g n m r i h =
    total_joined g m.pattern (segments 0 m.cuts r) (λ f. rw length_segments (h f)) ∙ ap (total g) (flatten_segments n 0 0 m.cuts r (omega arith) i)

-- ---- deadlines

every_iff : (n : ℕ) (t : ℕ → Bool) → (every n t ≡ true) ↔ ((i : ℕ) → i < n → t i ≡ true)
unfolding every
every_iff zero t = (λ e i h. absurd (omega arith), λ h. refl)
every_iff (suc n) t =
    let b = and-eq-true_iff (t n) (every n t) in
    (λ e i h. at i h (ℕ_discrete i n) (b.0 e).0 ((every_iff n t).0 (b.0 e).1), λ h. b.1 (h n (omega arith), (every_iff n t).1 (λ i l. h i (omega arith))))
  where
    at : (i : ℕ) → i < suc n → Dec (i ≡ n) → t n ≡ true → ((j : ℕ) → j < n → t j ≡ true) → t i ≡ true
    at i h (yes p) a f = rw p a
    at i h (no p) a f = f i (omega arith)

pub timely_iff : (B : Timetable) (depot : ℕ) (r : List ℕ) → (timely B depot r ≡ true) ↔ Timely B depot r
unfolding timely late
timely_iff B depot r =
    let e = every_iff (length r) (λ i. not (late B depot r i)) in
    (λ k i h. ltb-false _ _ (not-true _ (e.0 k i h)), λ k. e.1 (λ i h. rw (le-ltb (B.latest (get_or r i 0)) (arrival B depot r i) (k i h))))

pub feasible_iff : (P : Problem) (r : List ℕ) → (feasible P r ≡ true) ↔ Feasible P r
feasible_iff P r =
    let t = timely_iff (timetable_of P) P.depot r in
    let e = and-eq-true_iff (pairs_kept P.pairs r) (timely (timetable_of P) P.depot r) in
    (λ k. (pairs_kept_says P.pairs r (e.0 k).0, t.0 (e.0 k).1), λ k. e.1 (says_pairs_kept P.pairs r k.0, t.1 k.1))
