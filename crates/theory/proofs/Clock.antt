-- The deadline test as code makes it: a clock that runs along the route. Assumes nothing.
use mathlib.Core.Path.{◌≡◌, refl, sym}
use mathlib.Core.Bool.{Bool, true, false, ◌&&◌, and-eq-true_iff}
use mathlib.Core.Logic.{◌↔◌}
use mathlib.Core.List.{List, [], ◌∷◌}
use Prim.Native.Nat.{ℕ, zero, suc, ◌+◌, ◌≤◌, ◌<◌}
use native.Mathlib.Omega.{arith}
use lib.Dec.{leb}
use lib.ListN.{length, get_or, take, drop}
use lib.Seq.{drop-cons, drop-length}
use borrow.Author.Tests.{leb-true, le-leb}
use Rattle.theory.specs.Moves.{total}
use Rattle.theory.specs.Route.{Timetable, Clock, path, arrival, timely, clock, left, on_time}
use Rattle.theory.proofs.Route.{timely_iff}

pub on_time_iff : (C : Clock) (a t : ℕ) (r : List ℕ) →
    (on_time C a t r ≡ true) ↔ ((i : ℕ) → i < length r → t + path C.step a (take (suc i) r) ≤ C.until (get_or r i 0))
unfolding on_time path
on_time_iff C a t [] = (λ e i h. absurd (omega arith), λ h. refl)
on_time_iff C a t (x ∷ xs) =
    let b = and-eq-true_iff (leb (t + C.step a x) (C.until x)) (on_time C x (t + C.step a x) xs) in
    let ih = on_time_iff C x (t + C.step a x) xs in (
      λ e. at (leb-true (t + C.step a x) (C.until x) (b.0 e).0) (ih.0 (b.0 e).1),
      λ h. b.1 (le-leb (t + C.step a x) (C.until x) (omega (arith, h 0 (omega arith))), ih.1 (λ i l. omega (arith, h (suc i) (omega arith)))),
    )
  where
    at : t + C.step a x ≤ C.until x → ((i : ℕ) → i < length xs → t + C.step a x + path C.step x (take (suc i) xs) ≤ C.until (get_or xs i 0)) →
        (i : ℕ) → i < suc (length xs) → t + (C.step a x + path C.step x (take i xs)) ≤ C.until (get_or (x ∷ xs) i 0)
    at f g zero h = omega arith
    at f g (suc i) h = omega (arith, g i (omega arith))

by_iff : (a b : Bool) → (a ≡ true) ↔ (b ≡ true) → a ≡ b
by_iff true b e = sym (e.0 refl)
by_iff false true e = e.1 refl
by_iff false false e = refl

-- Legs and services apart.
pub path_step : (B : Timetable) (a : ℕ) (xs : List ℕ) → path (clock B).step a xs ≡ path B.leg a xs + total B.service xs
unfolding path total
path_step B a [] = refl
path_step B a (x ∷ xs) = omega (arith, path_step B x xs)

-- Left after its service: every stop reached in time is left in time, and the other way round.
pub left_is : (B : Timetable) (depot : ℕ) (r : List ℕ) (i : ℕ) → i < length r → left (clock B) depot r i ≡ arrival B depot r i + B.service (get_or r i 0)
unfolding left arrival path total
left_is B depot r i h = by depot r i h
  where
    by : (a : ℕ) (r : List ℕ) (i : ℕ) → i < length r →
        path (clock B).step a (take (suc i) r) ≡ path B.leg a (take (suc i) r) + total B.service (take i r) + B.service (get_or r i 0)
    by a [] i h = absurd (omega arith)
    by a (x ∷ r) zero h = omega arith
    by a (x ∷ r) (suc i) h = omega (arith, by x r i (omega arith))

pub timely_on_time : (B : Timetable) (depot : ℕ) (r : List ℕ) → timely B depot r ≡ on_time (clock B) depot 0 r
unfolding left
timely_on_time B depot r =
    let k = timely_iff B depot r in
    let o = on_time_iff (clock B) depot 0 r in
    by_iff _ _ (λ e. o.1 (λ i h. omega (arith, k.0 e i h, left_is B depot r i h)), λ e. k.1 (λ i h. omega (arith, o.0 e i h, left_is B depot r i h)))

-- One stop, and the end: the steps of a loop whose invariant is `on_time C depot 0 r ≡ on_time C at t (drop i r)`.
pub clock_step : (C : Clock) (a t : ℕ) (r : List ℕ) (i : ℕ) → i < length r →
    on_time C a t (drop i r) ≡ (leb (t + C.step a (get_or r i 0)) (C.until (get_or r i 0)) && on_time C (get_or r i 0) (t + C.step a (get_or r i 0)) (drop (suc i) r))
unfolding on_time
clock_step C a t r i h = rw (drop-cons r i 0 h)

pub clock_end : (C : Clock) (a t : ℕ) (r : List ℕ) → on_time C a t (drop (length r) r) ≡ true
unfolding on_time
clock_end C a t r = rw (drop-length r)
