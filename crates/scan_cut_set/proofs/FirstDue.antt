-- The steps of the loop over the rows that are left in time and keep their pairs. Assumes nothing.
use mathlib.Core.Path.{◌≡◌, refl, ap, ◌∙◌}
use mathlib.Core.Bool.{Bool, true, false, ◌&&◌, and-false}
use mathlib.Core.List.{List}
use Prim.Native.Nat.{ℕ, ◌+◌, ◌*◌, ◌≤◌, ◌<◌}
use native.Mathlib.Omega.{arith}
use native.Mathlib.Decide.{dec_lt}
use borrow.Author.Count.{below_more}
use borrow.Author.Tests.{lt-ltb, le-ltb}
use lib.Dec.{ltb}
use lib.Seq.{slice}
use Rattle.scan_chains.specs.Chains.{cost}
use Rattle.deadline_dues.specs.Dues.{in_time}
use Rattle.precedence_marks.specs.Held.{in_order, RowOrdered}
use Rattle.scan_cut_set.specs.Gain.{due_gain, Chains, NextShorter, RowJudged, DueRows, FirstDue, OrderRows}

-- The row's words are read as its dues are.
pub row_ordered : {J rows S D H : List ℕ} {i m clock : ℕ} → RowJudged J rows S D H i m clock → RowOrdered rows H i m
row_ordered w = let t = w.timed in record { places = t.places; word_places = w.word_places; within = t.within; few = t.few; known = t.known }

-- A test more between two that never pass together.
pub between : (a b c : Bool) → (a && c) ≡ false → ((a && b) && c) ≡ false
between true true c e = e
between true false c e = refl
between false b c e = refl

-- ---- the loop over the rows that keep their pairs

module _ {J rows chains H : List ℕ} {m below shorter limit : ℕ} (given : OrderRows J rows chains H m below shorter limit) where
  abbrev ordered_gain : ℕ → Bool
  ordered_gain x = in_order H 0 (slice (4 * x) (4 * x + m) rows) && ltb (cost J chains x) below

  pub order_adding : (from : ℕ) → from ≤ limit → Chains J chains from limit
  order_adding from h = let c = given.adding in record { padded = c.padded; places = c.places; few = c.few; within = h; known = c.known }

  pub order_row : (i : ℕ) → i < limit → RowOrdered rows H i m
  order_row i h = record { places = given.places; word_places = given.word_places; within = omega (arith, given.adding.few); few = given.most; known = given.states i h }

  pub order_passed : (from : ℕ) {i : ℕ} → ((x : ℕ) → x < from → ordered_gain x ≡ false) → NextShorter J chains below from limit i → (x : ℕ) → x < i → ordered_gain x ≡ false
  order_passed from before next x h = by (dec_lt x from)
    where
      by : Dec (x < from) → ordered_gain x ≡ false
      by (yes l) = before x l
      by (no n) = ap (λ b. in_order H 0 (slice (4 * x) (4 * x + m) rows) && b) (le-ltb (cost J chains x) below (next.passed x (omega arith) h)) ∙ and-false (in_order H 0 (slice (4 * x) (4 * x + m) rows))

  pub order_first : (x : ℕ) → x < shorter → ordered_gain x ≡ false
  order_first = order_passed 0 (λ x h. absurd (omega arith)) given.first

  pub order_broken : (i : ℕ) → in_order H 0 (slice (4 * i) (4 * i + m) rows) ≡ false → ((x : ℕ) → x < i → ordered_gain x ≡ false) → (x : ℕ) → x < i + 1 → ordered_gain x ≡ false
  order_broken i e before = below_more (λ x. ordered_gain x ≡ false) i before (ap (λ b. b && ltb (cost J chains i) below) e)

-- ---- the loop over those of them that are left in time

module _ {J rows chains S D H : List ℕ} {m clock below start limit : ℕ} (given : DueRows J rows chains S D H m clock below start limit) where
  abbrev kept : ℕ → Bool
  kept x = in_order H 0 (slice (4 * x) (4 * x + m) rows) && in_time J S D 9 clock (slice (4 * x) (4 * x + m) rows)

  abbrev gain : ℕ → Bool
  gain x = due_gain J rows chains S D H m clock below x

  pub adding_from : (from : ℕ) → from ≤ limit → Chains J chains from limit
  adding_from from h = let c = given.adding in record { padded = c.padded; places = c.places; few = c.few; within = h; known = c.known }

  pub row_judged : (i : ℕ) → i < limit → RowJudged J rows S D H i m clock
  row_judged i h =
      record {
        timed = record {
          padded = given.adding.padded;
          places = given.places;
          due_places = given.due_places;
          stay_places = given.stay_places;
          brief = given.brief;
          within = omega (arith, given.adding.few);
          few = given.most;
          known = given.states i h;
          early = given.early;
        };
        word_places = given.word_places;
      }

  -- No row before the next one that is shorter.
  pub due_passed : (from : ℕ) {i : ℕ} → ((x : ℕ) → x < from → gain x ≡ false) → NextShorter J chains below from limit i → (x : ℕ) → x < i → gain x ≡ false
  due_passed from before next x h = by (dec_lt x from)
    where
      by : Dec (x < from) → gain x ≡ false
      by (yes l) = before x l
      by (no n) = ap (λ b. kept x && b) (le-ltb (cost J chains x) below (next.passed x (omega arith) h)) ∙ and-false (kept x)

  pub due_first : (x : ℕ) → x < start → gain x ≡ false
  due_first x h = between (in_order H 0 (slice (4 * x) (4 * x + m) rows)) _ (ltb (cost J chains x) below) (given.first.passed x h)

  -- A shorter one that is late, or breaks a pair, is passed.
  pub due_broken : (i : ℕ) → kept i ≡ false → ((x : ℕ) → x < i → gain x ≡ false) → (x : ℕ) → x < i + 1 → gain x ≡ false
  due_broken i e before = below_more (λ x. gain x ≡ false) i before (ap (λ b. b && ltb (cost J chains i) below) e)

  pub due_found : (i : ℕ) → i < limit → cost J chains i < below → ((x : ℕ) → x < i → gain x ≡ false) → kept i ≡ true → FirstDue J rows chains S D H m clock below limit i
  due_found i h l before t =
      record {
        within = omega arith;
        passed = before;
        gains = λ n. ap (λ b. b && ltb (cost J chains i) below) t ∙ lt-ltb (cost J chains i) below l;
      }

  pub due_not_found : (i : ℕ) → limit ≤ i → i ≤ limit → ((x : ℕ) → x < i → gain x ≡ false) → FirstDue J rows chains S D H m clock below limit i
  due_not_found i h l before = record { within = l; passed = before; gains = λ n. absurd (omega arith) }
