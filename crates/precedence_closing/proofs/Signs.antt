-- The sign of a row from those of its states and of each two of them; the bits of the events by one computed test each. Assumes nothing.
use mathlib.Core.Path.{◌≡◌, refl, ap, ◌∙◌}
use mathlib.Core.Bool.{Bool, true, false, cond, not, ◌&&◌, ◌||◌, false≢true}
use mathlib.Core.List.{List, [], ◌∷◌}
use Prim.Native.Nat.{ℕ, zero, suc, ◌+◌, ◌*◌, ◌/◌, ◌%◌, ◌^◌, ◌≤◌, ◌<◌}
use native.Mathlib.Decide.{ℕ_discrete}
use native.Mathlib.Omega.{arith}
use native.Mathlib.Numerals.{add-one}
use lib.Bits.{bit_or}
use lib.Dec.{eqb, leb}
use lib.ListN.{length, get_or, set, length-set}
use lib.Seq.{slice-cons, slice_empty, get_or-set_same, get_or-set_other}
use borrow.Author.Count.{below_more}
use borrow.Author.Tests.{eqb-true, leb-true}
use Rattle.theory.specs.Route.{every}
use Rattle.scan_joints.specs.States.{row}
use Rattle.precedence.specs.Words.{marks}
use Rattle.precedence.proofs.Words.{marks_same, marks_or}
use Rattle.precedence_closing.specs.Closing.{events, stands, occurs, sign, turned_in, ahead_in, Signed}

-- ---- small numbers

every_at : (n : ℕ) (t : ℕ → Bool) → every n t ≡ true → (i : ℕ) → i < n → t i ≡ true
unfolding every
every_at zero t e i h = absurd (omega arith)
every_at (suc n) t e i h = by (t n) refl e (ℕ_discrete i n) (every_at n t)
  where
    by : (b : Bool) → t n ≡ b → (b && every n t) ≡ true → Dec (i ≡ n) → (every n t ≡ true → (j : ℕ) → j < n → t j ≡ true) → t i ≡ true
    by true f e (yes q) rest = ap t q ∙ f
    by true f e (no q) rest = rest e i (omega arith)
    by false f e d rest = absurd (false≢true e)

-- A state's sign, as code has it.
abbrev turn_bit : ℕ → ℕ
turn_bit s = cond (eqb (s % 2) 0) 0 ((1 * 2 ^ (s / 2 * (s / 2 + 3) / 2)) % 2 ^ 16)

pub turn_is : (s : ℕ) → s ≤ 8 → turn_bit s ≡ marks (turned_in s) events
turn_is s h = eqb-true _ _ (every_at 9 (λ s. eqb (turn_bit s) (marks (turned_in s) events)) tested s (omega arith))
  where
    tested : every 9 (λ s. eqb (turn_bit s) (marks (turned_in s) events)) ≡ true
    tested = unfold every marks turned_in events in refl

pub turn_room : (s : ℕ) → s ≤ 8 → s / 2 * (s / 2 + 3) ≤ 28
turn_room s h = leb-true _ _ (every_at 9 (λ s. leb (s / 2 * (s / 2 + 3)) 28) tested s (omega arith))
  where
    tested : every 9 (λ s. leb (s / 2 * (s / 2 + 3)) 28) ≡ true
    tested = unfold every in refl

abbrev order_bit : ℕ → ℕ → ℕ
order_bit s t = cond (eqb (s / 2) 4) 0 (cond (leb (s / 2) (t / 2)) 0 ((1 * 2 ^ (s / 2 * (s / 2 + 1) / 2 + t / 2)) % 2 ^ 16))

pub order_is : (s t : ℕ) → s ≤ 8 → t ≤ 8 → order_bit s t ≡ marks (ahead_in s t) events
order_is s t h k = eqb-true _ _ (every_at 9 (at s) (every_at 9 (λ s. every 9 (at s)) tested s (omega arith)) t (omega arith))
  where
    at : ℕ → ℕ → Bool
    at s t = eqb (order_bit s t) (marks (ahead_in s t) events)

    tested : every 9 (λ s. every 9 (at s)) ≡ true
    tested = unfold every marks ahead_in events in refl

pub order_room : (s : ℕ) → s ≤ 8 → s / 2 * (s / 2 + 1) ≤ 20
order_room s h = leb-true _ _ (every_at 9 (λ s. leb (s / 2 * (s / 2 + 1)) 20) tested s (omega arith))
  where
    tested : every 9 (λ s. leb (s / 2 * (s / 2 + 1)) 20) ≡ true
    tested = unfold every in refl

-- ---- a row

or_of : (f g : ℕ × ℕ → Bool) (m n : ℕ) → m ≡ marks f events → n ≡ marks g events → bit_or m n ≡ marks (λ e. f e || g e) events
or_of f g m n p q = rw (p, q) (marks_or f g events)

-- A state with three, two, one and none behind it.
lead_three : (q a b x y z : Bool) → ((q && a) || ((not q && (b && x)) || ((not q && (b && y)) || (not q && (b && z))))) ≡ cond q a (b && (x || (y || (z || false))))
lead_three true true b x y z = refl
lead_three true false b x y z = refl
lead_three false a true true y z = refl
lead_three false a true false true z = refl
lead_three false a true false false true = refl
lead_three false a true false false false = refl
lead_three false a false x y z = refl

lead_two : (q a b x y : Bool) → ((q && a) || ((not q && (b && x)) || (not q && (b && y)))) ≡ cond q a (b && (x || (y || false)))
lead_two true true b x y = refl
lead_two true false b x y = refl
lead_two false a true true y = refl
lead_two false a true false true = refl
lead_two false a true false false = refl
lead_two false a false x y = refl

lead_one : (q a b x : Bool) → ((q && a) || (not q && (b && x))) ≡ cond q a (b && (x || false))
lead_one true true b x = refl
lead_one true false b x = refl
lead_one false a true true = refl
lead_one false a true false = refl
lead_one false a false x = refl

lead_none : (q a b : Bool) → (q && a) ≡ (cond q a (b && false) || false)
lead_none true true b = refl
lead_none true false b = refl
lead_none false a true = refl
lead_none false a false = refl

module _ (s t u v : ℕ) where
  abbrev turned : ℕ → ℕ
  turned s = marks (turned_in s) events

  abbrev ahead : ℕ → ℕ → ℕ
  ahead s t = marks (ahead_in s t) events

  abbrev signs_of : ℕ
  signs_of =
      bit_or (bit_or (turned s) (bit_or (ahead s t) (bit_or (ahead s u) (ahead s v))))
      (bit_or (bit_or (turned t) (bit_or (ahead t u) (ahead t v))) (bit_or (bit_or (turned u) (ahead u v)) (turned v)))

  pub four_signs : signs_of ≡ sign (s ∷ t ∷ u ∷ v ∷ [])
  unfolding sign occurs stands turned_in ahead_in
  four_signs =
      or_of _ _ _ _
      (or_of (turned_in s) _ _ _ refl (or_of (ahead_in s t) _ _ _ refl (or_of (ahead_in s u) (ahead_in s v) _ _ refl refl)))
      (or_of _ _ _ _ (or_of (turned_in t) _ _ _ refl (or_of (ahead_in t u) (ahead_in t v) _ _ refl refl)) (or_of _ (turned_in v) _ _ (or_of (turned_in u) (ahead_in u v) _ _ refl refl) refl))
      ∙ marks_same _ _ events (λ e.
      rw (
        lead_three (eqb e.0 e.1) (eqb s (2 * e.1 + 1)) (eqb (s / 2) e.1) (eqb (t / 2) e.0) (eqb (u / 2) e.0) (eqb (v / 2) e.0),
        lead_two (eqb e.0 e.1) (eqb t (2 * e.1 + 1)) (eqb (t / 2) e.1) (eqb (u / 2) e.0) (eqb (v / 2) e.0),
        lead_one (eqb e.0 e.1) (eqb u (2 * e.1 + 1)) (eqb (u / 2) e.1) (eqb (v / 2) e.0),
        lead_none (eqb e.0 e.1) (eqb v (2 * e.1 + 1)) (eqb (v / 2) e.1),
      ))

pub row_is : (rows : List ℕ) (i : ℕ) → 4 * i + 4 ≤ length rows → row rows i ≡ get_or rows (4 * i) 0 ∷ get_or rows (4 * i + 1) 0 ∷ get_or rows (4 * i + 2) 0 ∷ get_or rows (4 * i + 3) 0 ∷ []
row_is rows i h =
    let n = 4 * i in
    let two : n + 2 ≡ suc (suc n) = omega arith in
    let three : n + 3 ≡ suc (suc (suc n)) = omega arith in
    let four : n + 4 ≡ suc (suc (suc (suc n))) = omega arith in
    rw (four, add-one n, two, three)
    (slice-cons n (suc (suc (suc (suc n)))) rows 0 (omega arith) (omega arith)
    ∙ rw (slice-cons (suc n) (suc (suc (suc (suc n)))) rows 0 (omega arith) (omega arith), slice-cons (suc (suc n)) (suc (suc (suc (suc n)))) rows 0 (omega arith) (omega arith), slice-cons (suc (suc (suc n))) (suc (suc (suc (suc n)))) rows 0 (omega arith) (omega arith), slice_empty (suc (suc (suc (suc n)))) rows))

-- ---- the bits of the events, in their order

abbrev pub bit_of : ℕ → ℕ → ℕ
bit_of a b = marks (λ e. eqb e.0 a && eqb e.1 b) events

pub first_bit : bit_of 0 0 ≡ 1
unfolding marks events
first_bit = refl

pub next_bit : (a b : ℕ) → a < b → b < 4 → 2 * bit_of a b ≡ bit_of (a + 1) b
next_bit a b h k = eqb-true _ _ (every_at b (at b) (every_at 4 (λ b. every b (at b)) tested b k) a h)
  where
    at : ℕ → ℕ → Bool
    at b a = eqb (2 * bit_of a b) (bit_of (a + 1) b)

    tested : every 4 (λ b. every b (at b)) ≡ true
    tested = unfold every marks events in refl

pub next_turn : (b : ℕ) → b < 3 → 2 * bit_of b b ≡ bit_of 0 (b + 1)
next_turn b h = eqb-true _ _ (every_at 3 (λ b. eqb (2 * bit_of b b) (bit_of 0 (b + 1))) tested b h)
  where
    tested : every 3 (λ b. eqb (2 * bit_of b b) (bit_of 0 (b + 1))) ≡ true
    tested = unfold every marks events in refl

pub bit_small : (a b : ℕ) → a ≤ b → b < 4 → bit_of a b ≤ 512
bit_small a b h k = leb-true _ _ (every_at 4 (at b) (every_at 4 (λ b. every 4 (at b)) tested b k) a (omega arith))
  where
    at : ℕ → ℕ → Bool
    at b a = leb (bit_of a b) 512

    tested : every 4 (λ b. every 4 (at b)) ≡ true
    tested = unfold every marks events in refl

-- ---- row by row

pub signed_more : (rows signs : List ℕ) (i v : ℕ) → Signed rows i signs → i < 383 → v ≡ sign (row rows i) → Signed rows (i + 1) (set signs i v)
signed_more rows signs i v w h e =
    record {
      places = length-set signs i v ∙ w.places;
      each = below_more (λ x. get_or (set signs i v) x 0 ≡ sign (row rows x)) i
          (λ x l. get_or-set_other signs i x v 0 (λ q. omega arith) ∙ w.each x l)
          (get_or-set_same signs i v 0 (omega (arith, w.places)) ∙ e);
    }

-- Rows by hand: the standing order, two segments swapped, and all of four in the other order and reversed.
standing : sign (0 ∷ 2 ∷ 4 ∷ 6 ∷ []) ≡ 0
unfolding sign occurs stands marks events
standing = refl

swapped : sign (2 ∷ 0 ∷ 8 ∷ 8 ∷ []) ≡ 2
unfolding sign occurs stands marks events
swapped = refl

all_turned : sign (7 ∷ 5 ∷ 3 ∷ 1 ∷ []) ≡ 1023
unfolding sign occurs stands marks events
all_turned = refl
