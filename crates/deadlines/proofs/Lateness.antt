-- A head is on time up to the longest, and with a longer one nothing keeps every deadline; a tail that is reached sooner is on time exactly where it is sooner by the
-- lateness. Assumes nothing.
use mathlib.Core.Path.{◌≡◌, refl, sym, ap, ap₂, ◌∙◌}
use mathlib.Core.Bool.{Bool, true, false, ◌&&◌, cond, and-eq-true_iff}
use mathlib.Core.List.{List, [], ◌∷◌, ◌++◌}
use Prim.Native.Nat.{ℕ, zero, suc, max, ◌+◌, ◌-◌, ◌≤◌, ◌<◌}
use native.Mathlib.Decide.{dec_lt}
use native.Mathlib.Omega.{arith}
use lib.Dec.{ltb, leb}
use lib.ListN.{length, get_or, take, drop, length-drop, take-append-drop}
use lib.Seq.{take-suc, take-take, get_or-take, get_or-drop, length-take-le}
use borrow.Author.Tests.{leb-true, le-leb, lt-leb, lt-ltb, le-ltb}
use Rattle.theory.specs.Moves.{total}
use Rattle.theory.specs.Route.{Clock, path, left, on_time}
use Rattle.theory.specs.Costs.{last_of}
use Rattle.theory.proofs.Clock.{on_time_iff, clock_step, clock_end}
use Rattle.theory.proofs.Costs.{path_append}
use Rattle.theory.proofs.Moves.{total_append}
use Rattle.costs.proofs.Segments.{last_snoc}
use Rattle.deadlines.proofs.Along.{on_time_append}
use Rattle.deadlines.specs.Lateness.{late_by, most, lateness, TooLate, LongestHead}

-- ---- the lateness, stop by stop

pub lateness_end : (C : Clock) (depot : ℕ) (r : List ℕ) (c : ℕ) → length r ≤ c → lateness C depot r c ≡ 0
unfolding lateness most
lateness_end C depot r c h = let e : length r - c ≡ 0 = omega arith in rw e

pub lateness_step : (C : Clock) (depot : ℕ) (r : List ℕ) (c : ℕ) → c < length r → lateness C depot r c ≡ max (late_by C depot r c) (lateness C depot r (suc c))
unfolding lateness most
lateness_step C depot r c h = let e : length r - c ≡ suc (length r - suc c) = omega arith in rw e

-- Further on, no stop is later.
no_later : (C : Clock) (depot : ℕ) (r : List ℕ) (c : ℕ) → lateness C depot r (suc c) ≤ lateness C depot r c
no_later C depot r c = by (dec_lt c (length r))
  where
    by : Dec (c < length r) → lateness C depot r (suc c) ≤ lateness C depot r c
    by (yes h) = omega (arith, lateness_step C depot r c h)
    by (no n) = omega (arith, lateness_end C depot r (suc c) (omega arith))

-- Where no stop is late, none is from any position on.
pub none_late : (C : Clock) (depot : ℕ) (r : List ℕ) (c : ℕ) → lateness C depot r 0 ≡ 0 → lateness C depot r c ≡ 0
none_late C depot r zero e = e
none_late C depot r (suc c) e = omega (arith, none_late C depot r c e, no_later C depot r c)

-- ---- a tail that is reached sooner

arrival_next : (C : Clock) (depot : ℕ) (r : List ℕ) (c : ℕ) → suc c < length r → left C depot r (suc c) ≡ left C depot r c + C.step (get_or r c 0) (get_or r (suc c) 0)
unfolding left path
arrival_next C depot r c h =
    let e : last_of depot (take (suc c) r) ≡ get_or r c 0 = rw (take-suc r c 0 (omega arith)) (last_snoc depot (take c r) (get_or r c 0)) in
    rw (take-suc r (suc c) 0 h, path_append C.step depot (take (suc c) r) (get_or r (suc c) 0 ∷ []), e) (omega arith)

test_is : (a b : ℕ) (t : Bool) → (a ≤ b → t ≡ true) → (b < a → t ≡ false) → leb a b ≡ t
test_is a b t h k = by (dec_lt b a)
  where
    by : Dec (b < a) → leb a b ≡ t
    by (yes l) = lt-leb a b l ∙ sym (k l)
    by (no n) = le-leb a b (omega arith) ∙ sym (h (omega arith))

within_both : (a b g : ℕ) → leb (max a b) g ≡ (leb a g && leb b g)
within_both a b g =
    test_is (max a b) g (leb a g && leb b g)
    (λ l. rw (le-leb a g (omega arith), le-leb b g (omega arith)))
    (λ l. by l (dec_lt g a))
  where
    by : g < max a b → Dec (g < a) → (leb a g && leb b g) ≡ false
    by l (yes k) = rw (lt-leb a g k)
    by l (no n) = rw (le-leb a g (omega arith), lt-leb b g (omega arith))

-- Sooner by g at its first stop, the tail is on time exactly if g is at least its lateness.
tail_from : (C : Clock) (depot : ℕ) (r : List ℕ) (n c a t g : ℕ) → c + n ≡ length r → (c < length r → t + C.step a (get_or r c 0) + g ≡ left C depot r c) →
    on_time C a t (drop c r) ≡ leb (lateness C depot r c) g
unfolding late_by
tail_from C depot r zero c a t g e h =
    let k : c ≡ length r = omega arith in
    rw (k, clock_end C a t r, lateness_end C depot r (length r) (omega arith)) (sym (le-leb 0 g (omega arith)))
tail_from C depot r (suc n) c a t g e h =
    let x = get_or r c 0 in
    let here = h (omega arith) in
    clock_step C a t r c (omega arith)
    ∙ ap₂ ◌&&◌ first (tail_from C depot r n (suc c) x (t + C.step a x) g (omega arith) (λ l. omega (arith, here, arrival_next C depot r c l)))
    ∙ sym (ap (λ l. leb l g) (lateness_step C depot r c (omega arith)) ∙ within_both (late_by C depot r c) (lateness C depot r (suc c)) g)
  where
    first : leb (t + C.step a (get_or r c 0)) (C.until (get_or r c 0)) ≡ leb (late_by C depot r c) g
    first =
        let here = h (omega arith) in
        test_is (t + C.step a (get_or r c 0)) (C.until (get_or r c 0)) (leb (late_by C depot r c) g)
        (λ l. le-leb (left C depot r c - C.until (get_or r c 0)) g (omega (arith, here)))
        (λ l. lt-leb (left C depot r c - C.until (get_or r c 0)) g (omega (arith, here)))

pub tail_on_time : (C : Clock) (depot : ℕ) (r : List ℕ) (c a t g : ℕ) → c ≤ length r → (c < length r → t + C.step a (get_or r c 0) + g ≡ left C depot r c) →
    on_time C a t (drop c r) ≡ leb (lateness C depot r c) g
tail_on_time C depot r c a t g l h = tail_from C depot r (length r - c) c a t g (omega arith) h

-- The whole route: on time exactly where no stop is late.
pub on_time_is : (C : Clock) (depot : ℕ) (r : List ℕ) → on_time C depot 0 r ≡ leb (lateness C depot r 0) 0
unfolding left path
on_time_is C depot r = tail_on_time C depot r 0 depot 0 0 (omega arith) (λ h. rw (take-suc r 0 0 h) (omega arith))

-- ---- a head

module _ (C : Clock) (depot : ℕ) (r : List ℕ) (p : ℕ) (f : LongestHead C depot r p) (c : ℕ) (l : c ≤ p) where
  -- No longer than the longest, a head is on time.
  pub head_on_time : on_time C depot 0 (take c r) ≡ true
  unfolding left
  head_on_time =
      let long : length (take c r) ≡ c = length-take-le c r (omega (arith, f.within)) in
      (on_time_iff C depot 0 (take c r)).1
      (λ i k.
      let h : i < c = omega (arith, long) in
      rw (take-take (suc i) c r h, get_or-take c r i 0 h) (omega (arith, f.in_time i i (omega arith) (omega arith) (omega (arith, f.within)))))

-- ---- a route that keeps every deadline

most_none : (t : ℕ → ℕ) (from n : ℕ) → ((i : ℕ) → i < from + n → t i ≡ 0) → most t from n ≡ 0
unfolding most
most_none t from zero h = refl
most_none t from (suc n) h = omega (arith, h from (omega arith), most_none t (suc from) n (λ i l. h i (omega arith)))

arrival_later : (C : Clock) (depot : ℕ) (r : List ℕ) (i n : ℕ) → i + n < length r → left C depot r i ≤ left C depot r (i + n)
arrival_later C depot r i zero h = let e : i + 0 ≡ i = omega arith in rw e (omega arith)
arrival_later C depot r i (suc n) h =
    let e : i + suc n ≡ suc (i + n) = omega arith in
    rw e (omega (arith, arrival_later C depot r i n (omega arith), arrival_next C depot r (i + n) (omega arith)))

module _ (C : Clock) (depot : ℕ) (r : List ℕ) (kept : on_time C depot 0 r ≡ true) where
  in_time : (i : ℕ) → i < length r → left C depot r i ≤ C.until (get_or r i 0)
  unfolding left
  in_time i h = omega (arith, (on_time_iff C depot 0 r).0 kept i h)

  pub kept_not_late : lateness C depot r 0 ≡ 0
  unfolding lateness late_by
  kept_not_late = most_none (λ i. left C depot r i - C.until (get_or r i 0)) 0 (length r - 0) (λ i h. omega (arith, in_time i (omega arith)))

  pub kept_head : LongestHead C depot r (length r)
  kept_head =
      record {
        within = omega arith;
        in_time = λ i j h k l. let e : i + (j - i) ≡ j = omega arith in omega (arith, rw e at (arrival_later C depot r i (j - i) (omega arith)), in_time j l);
        beyond = λ h. absurd (omega arith);
      }

-- With a longer one, no order of what is behind it keeps every deadline.
on_time_soon : (C : Clock) (a t : ℕ) (xs : List ℕ) → on_time C a t xs ≡ true → (g : ℕ → ℕ) → ((x : ℕ) → t ≤ C.until x → g x ≡ 0) → total g xs ≡ 0
unfolding on_time total
on_time_soon C a t [] e g h = refl
on_time_soon C a t (x ∷ xs) e g h =
    let b = (and-eq-true_iff (leb (t + C.step a x) (C.until x)) (on_time C x (t + C.step a x) xs)).0 e in
    let k = leb-true (t + C.step a x) (C.until x) b.0 in
    omega (arith, h x (omega arith), on_time_soon C x (t + C.step a x) xs b.1 g (λ y m. h y (omega arith)))

total_at : (g : ℕ → ℕ) (l : List ℕ) (i : ℕ) → i < length l → g (get_or l i 0) ≤ total g l
unfolding total
total_at g [] i h = absurd (omega arith)
total_at g (x ∷ l) zero h = omega arith
total_at g (x ∷ l) (suc i) h = omega (arith, total_at g l i (omega arith))

module _ (C : Clock) (depot : ℕ) (r : List ℕ) (p : ℕ) (late : TooLate C depot r p) (rest : List ℕ) (same : (g : ℕ → ℕ) → total g (take p r ++ (get_or r p 0 ∷ rest)) ≡ total g r) where
  abbrev missed : ℕ → ℕ
  missed x = cond (ltb (C.until x) (left C depot r p)) 1 0

  behind : total missed (get_or r p 0 ∷ rest) ≡ total missed (drop p r)
  behind =
      omega (arith, total_append missed (take p r) (get_or r p 0 ∷ rest), total_append missed (take p r) (drop p r), same missed, ap (total missed) (take-append-drop p r))

  some_missed : 1 ≤ total missed (drop p r)
  some_missed =
      let j = late.position in
      let k : p + (j - p) ≡ j = omega (arith, late.least) in
      let at : get_or (drop p r) (j - p) 0 ≡ get_or r j 0 = get_or-drop p r (j - p) 0 ∙ ap (λ n. get_or r n 0) k in
      let one : missed (get_or r j 0) ≡ 1 = rw (lt-ltb _ _ late.missed) in
      omega (arith, one, ap missed at, total_at missed (drop p r) (j - p) (simp length-drop (omega (arith, late.least, late.most))))

  none_missed : on_time C (last_of depot (take p r)) (path C.step depot (take p r)) (get_or r p 0 ∷ rest) ≡ true → total missed (get_or r p 0 ∷ rest) ≡ 0
  unfolding on_time total left path
  none_missed e =
      let x = get_or r p 0 in
      let t = path C.step depot (take p r) + C.step (last_of depot (take p r)) x in
      let b = (and-eq-true_iff (leb t (C.until x)) (on_time C x t rest)).0 e in
      let k = leb-true t (C.until x) b.0 in
      let reached : left C depot r p ≡ t = rw (take-suc r p 0 (omega (arith, late.least, late.most)), path_append C.step depot (take p r) (x ∷ [])) (omega arith) in
      let none : (y : ℕ) → t ≤ C.until y → missed y ≡ 0 = λ y m. rw (le-ltb (C.until y) (left C depot r p) (omega (arith, reached, m))) in
      omega (arith, none x k, on_time_soon C x t rest b.1 missed none)

  pub head_too_long : on_time C depot 0 (take p r ++ (get_or r p 0 ∷ rest)) ≡ false
  head_too_long = by (on_time C depot 0 (take p r ++ (get_or r p 0 ∷ rest))) refl
    where
      by : (b : Bool) → on_time C depot 0 (take p r ++ (get_or r p 0 ∷ rest)) ≡ b → b ≡ false
      by true e =
          let o = sym (on_time_append C depot 0 (take p r) (get_or r p 0 ∷ rest)) ∙ e in
          let b = (and-eq-true_iff (on_time C depot 0 (take p r)) _).0 o in
          let z : 0 + path C.step depot (take p r) ≡ path C.step depot (take p r) = omega arith in
          absurd (omega (arith, behind, some_missed, none_missed (rw z at b.1)))
      by false e = refl
