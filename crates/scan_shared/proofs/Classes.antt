-- The class of a row, state by state, and the least cost of each class, row by row. Assumes nothing.
use mathlib.Core.Path.{◌≡◌, refl, sym, ◌∙◌}
use mathlib.Core.Bool.{Bool, true, false, true≢false}
use mathlib.Core.Logic.{◌≢◌}
use mathlib.Core.List.{List, [], ◌∷◌}
use Prim.Native.Nat.{ℕ, suc, ◌+◌, ◌*◌, ◌^◌, ◌≤◌, ◌<◌}
use native.Mathlib.Omega.{arith}
use borrow.Author.Tests.{eq-eqb, ne_eqb}
use borrow.Author.Count.{below_more}
use lib.Bits.{bit_and}
use lib.ListN.{length, get_or, set, length-set, get_or-eq_default}
use lib.Seq.{get_or-set_same, get_or-set_other}
use native.Mathlib.Decide.{ℕ_discrete, dec_lt}
use Rattle.scan_joints.specs.States.{row}
use Rattle.scan_joints.specs.JointTable.{chain, Chainable}
use Rattle.scan_joints.proofs.Rows.{row_read, set_small}
use Rattle.scan_shared.specs.Bound.{next_state, class}
use Rattle.scan_shared.specs.Filling.{all_open, open_by, Lowered, Classable, ClassIs, RowClassable, LowFillable, LowOf, RowOpen, RowLowered, OpenFillable, OpenLow, Lowerable, Relowered}

class_hit : (p a b : ℕ) (bs : List ℕ) → b ≡ p → class p a (b ∷ bs) ≡ next_state bs
unfolding class
class_hit p a b bs e = rw (eq-eqb b p e)

class_back : (p a b : ℕ) (bs : List ℕ) → b ≡ p + 1 → class p a (b ∷ bs) ≡ 10 + a
unfolding class
class_back p a b bs e = rw (ne_eqb b p (λ (q : b ≡ p). omega arith), eq-eqb b (suc p) (omega arith))

class_skip : (p a b : ℕ) (bs : List ℕ) → b ≢ p → b ≢ p + 1 → class p a (b ∷ bs) ≡ class p b bs
unfolding class
class_skip p a b bs n m = rw (ne_eqb b p n, ne_eqb b (suc p) (λ (q : b ≡ suc p). m (omega arith)))

module _ {p a b c d : ℕ} (given : Classable p a b c d) where
  pub first_hit : a ≡ p → ClassIs p (a ∷ b ∷ c ∷ d ∷ []) b
  first_hit e = record { is = sym (class_hit p 9 a _ e); small = omega (arith, given.second) }

  pub first_back : a ≡ p + 1 → ClassIs p (a ∷ b ∷ c ∷ d ∷ []) 19
  first_back e = record { is = sym (class_back p 9 a _ e); small = omega arith }

  module _ (na : a ≢ p) (ma : a ≢ p + 1) where
    pub second_hit : b ≡ p → ClassIs p (a ∷ b ∷ c ∷ d ∷ []) c
    second_hit e = record { is = sym (class_skip p 9 a _ na ma ∙ class_hit p a b _ e); small = omega (arith, given.third) }

    pub second_back : b ≡ p + 1 → ClassIs p (a ∷ b ∷ c ∷ d ∷ []) (10 + a)
    second_back e = record { is = sym (class_skip p 9 a _ na ma ∙ class_back p a b _ e); small = omega (arith, given.first) }

    module _ (nb : b ≢ p) (mb : b ≢ p + 1) where
      pub third_hit : c ≡ p → ClassIs p (a ∷ b ∷ c ∷ d ∷ []) d
      third_hit e = record { is = sym (class_skip p 9 a _ na ma ∙ class_skip p a b _ nb mb ∙ class_hit p b c _ e); small = omega (arith, given.fourth) }

      pub third_back : c ≡ p + 1 → ClassIs p (a ∷ b ∷ c ∷ d ∷ []) (10 + b)
      third_back e = record { is = sym (class_skip p 9 a _ na ma ∙ class_skip p a b _ nb mb ∙ class_back p b c _ e); small = omega (arith, given.second) }

      module _ (nc : c ≢ p) (mc : c ≢ p + 1) where
        three : class p 9 (a ∷ b ∷ c ∷ d ∷ []) ≡ class p c (d ∷ [])
        three = class_skip p 9 a _ na ma ∙ class_skip p a b _ nb mb ∙ class_skip p b c _ nc mc

        pub fourth_back : d ≡ p + 1 → ClassIs p (a ∷ b ∷ c ∷ d ∷ []) (10 + c)
        fourth_back e = record { is = sym (three ∙ class_back p c d _ e); small = omega (arith, given.third) }

        pub fourth_else : d ≢ p + 1 → ClassIs p (a ∷ b ∷ c ∷ d ∷ []) 8
        unfolding class
        fourth_else n = record { is = sym (three ∙ by (ℕ_discrete d p)); small = omega arith }
          where
            by : Dec (d ≡ p) → class p c (d ∷ []) ≡ 8
            by (yes e) = class_hit p c d [] e
            by (no m) = class_skip p c d [] m n

-- Read from its row.
pub row_class_is : {p r : ℕ} (rows : List ℕ) (i : ℕ) {a b c d : ℕ} → RowClassable rows i p → a ≡ get_or rows (4 * i) 0 → b ≡ get_or rows (4 * i + 1) 0 → c ≡ get_or rows (4 * i + 2) 0 → d ≡ get_or rows (4 * i + 3) 0 →
    ClassIs p (a ∷ b ∷ c ∷ d ∷ []) r → ClassIs p (row rows i) r
row_class_is rows i given ea eb ec ed w =
    record { is = rw (row_read rows (4 * i) (omega (arith, given.places, given.within)), ← ea, ← eb, ← ec, ← ed) w.is; small = w.small }

-- ---- the least costs

pub below_set : (low : List ℕ) (c : ℕ) → c < length low → ((x : ℕ) → x < c → get_or low x 0 ≤ 2 ^ 40) → (x : ℕ) → x < c + 1 → get_or (set low c 1099511627776) x 0 ≤ 2 ^ 40
below_set low c l h =
    below_more (λ x. get_or (set low c 1099511627776) x 0 ≤ 2 ^ 40) c (λ x k. rw (get_or-set_other low c x 1099511627776 0 (λ q. omega arith)) (h x k))
    (rw (get_or-set_same low c 1099511627776 0 l) (omega arith))

pub all_below : (low : List ℕ) (c : ℕ) → length low ≡ 21 → 21 ≤ c → ((x : ℕ) → x < c → get_or low x 0 ≤ 2 ^ 40) → (x : ℕ) → get_or low x 0 ≤ 2 ^ 40
all_below low c n l h x = by (dec_lt x c)
  where
    by : Dec (x < c) → get_or low x 0 ≤ 2 ^ 40
    by (yes k) = h x k
    by (no k) = rw (get_or-eq_default low 0 {n = x} (omega arith)) (omega arith)

pub kept_low : {low : List ℕ} {c cost : ℕ} → length low ≡ 21 → get_or low c 0 ≤ cost → Lowered low c cost low
kept_low n h = record { places = n; at = h; rest = λ x. omega arith }

pub stored_low : {low : List ℕ} {c cost : ℕ} → length low ≡ 21 → c < 21 → cost < get_or low c 0 → Lowered low c cost (set low c cost)
stored_low {low} {c} {cost} n l h =
    let here : get_or (set low c cost) c 0 ≡ cost = get_or-set_same low c cost 0 (omega arith) in
    record { places = length-set low c cost ∙ n; at = omega arith; rest = λ x. by x here (ℕ_discrete x c) }
  where
    by : (x : ℕ) → get_or (set low c cost) c 0 ≡ cost → Dec (x ≡ c) → get_or (set low c cost) x 0 ≤ get_or low x 0
    by x here (yes e) = rw e (omega arith)
    by x here (no m) = rw (get_or-set_other low c x cost 0 m) (omega arith)

pub no_rows_low : {is_open : ℕ → Bool} {rows : List ℕ} {p : ℕ} {table low : List ℕ} → length low ≡ 21 → ((c : ℕ) → get_or low c 0 ≤ 2 ^ 40) → LowOf is_open rows 0 p table low
no_rows_low n s = record { places = n; small = s; known = λ i h. absurd (omega arith); below = λ i h. absurd (omega arith) }

pub row_at : {rows : List ℕ} {count p : ℕ} {table low : List ℕ} → LowFillable rows count p table low → (i : ℕ) → i < count → RowClassable rows i p
row_at g i h =
    record { last = g.last; places = g.rows_fit.places; within = omega (arith, g.rows_fit.few); known = λ c l m. g.rows_fit.known c (omega arith) }

pub chainable : {rows : List ℕ} {count p : ℕ} {table low : List ℕ} → LowFillable rows count p table low → (i : ℕ) → i < count → Chainable table rows i
chainable g i h =
    record { padded = g.padded; places = g.rows_fit.places; within = omega (arith, g.rows_fit.few); known = λ c l m. g.rows_fit.known c (omega arith) }

pub more_low : {is_open : ℕ → Bool} {rows : List ℕ} {p : ℕ} {table low low' : List ℕ} {i k v : ℕ} → LowOf is_open rows i p table low → ClassIs p (row rows i) k → v ≡ chain table 9 (row rows i) → Lowered low k v low' →
    LowOf is_open rows (i + 1) p table low'
more_low {is_open} {rows} {p} {table} {low} {low'} {i} {k} {v} w k_is v_is l =
    record {
      places = l.places;
      small = λ c. omega (arith, l.rest c, w.small c);
      known = below_more (λ x. is_open x ≡ true → class p 9 (row rows x) < 20) i w.known (λ _. omega (arith, k_is.is, k_is.small));
      below = below_more (λ x. is_open x ≡ true → get_or low' (class p 9 (row rows x)) 0 ≤ chain table 9 (row rows x)) i (λ x h o. omega (arith, l.rest (class p 9 (row rows x)), w.below x h o))
          (λ _. rw (← k_is.is, ← v_is) l.at);
    }

-- ---- of the rows that are open

-- A closed row lowers nothing.
closed_more : {is_open : ℕ → Bool} {rows : List ℕ} {p : ℕ} {table low : List ℕ} {i : ℕ} → is_open i ≡ false → LowOf is_open rows i p table low → LowOf is_open rows (i + 1) p table low
closed_more {is_open} {rows} {p} {table} {low} {i} n w =
    record {
      places = w.places;
      small = w.small;
      known = below_more (λ x. is_open x ≡ true → class p 9 (row rows x) < 20) i w.known (λ e. absurd (true≢false (sym e ∙ n)));
      below = below_more (λ x. is_open x ≡ true → get_or low (class p 9 (row rows x)) 0 ≤ chain table 9 (row rows x)) i w.below (λ e. absurd (true≢false (sym e ∙ n)));
    }

module _ {rows : List ℕ} {i p : ℕ} {table signs low : List ℕ} (given : RowOpen rows i p table signs low) where
  pub open_class : RowClassable rows i p
  open_class = record { last = given.last; places = given.places; within = given.within; known = given.known }

  pub open_chain : Chainable table rows i
  open_chain = record { padded = given.padded; places = given.places; within = given.within; known = given.known }

  pub row_closed : {blocked : ℕ} (some : Bool) → bit_and (get_or signs i 0) blocked ≢ 0 → RowLowered rows i p table signs blocked some low low some
  row_closed {blocked} some n =
      let e : open_by signs blocked i ≡ false = ne_eqb (bit_and (get_or signs i 0) blocked) 0 n in
      record { more = closed_more e; places = given.low_places; none = λ q. (q, e) }

  pub row_lowered : {blocked : ℕ} (some : Bool) {low' : List ℕ} {k v : ℕ} → ClassIs p (row rows i) k → v ≡ chain table 9 (row rows i) → Lowered low k v low' → RowLowered rows i p table signs blocked some low low' true
  row_lowered some k_is v_is l = record { more = λ w. more_low w k_is v_is l; places = l.places; none = λ q. absurd (true≢false q) }

pub row_opened : {rows : List ℕ} {count p : ℕ} {table signs : List ℕ} {blocked : ℕ} {low₀ low : List ℕ} → OpenFillable rows count p table signs blocked low₀ → 0 < blocked → length low ≡ 21 → (i : ℕ) → i < count → RowOpen rows i p table signs low
row_opened g b n i h =
    record {
      last = g.last;
      places = g.rows_fit.places;
      within = omega (arith, g.rows_fit.few);
      known = λ c l m. g.rows_fit.known c (omega arith);
      padded = g.padded;
      sign_places = g.signed b;
      low_places = n;
    }

-- All rows, where nothing is blocked.
pub all_lowered : {signs : List ℕ} {blocked : ℕ} {rows : List ℕ} {count p : ℕ} {table low : List ℕ} → LowOf all_open rows count p table low → OpenLow signs blocked rows count p table low true
all_lowered w =
    record {
      low_of = record { places = w.places; small = w.small; known = λ i h o. w.known i h refl; below = λ i h o. w.below i h refl };
      none = λ q. absurd (true≢false q);
    }

-- ---- the least costs anew, beside the standing cost

module _ {rows : List ℕ} {count p : ℕ} {table signs : List ℕ} {blocked : ℕ} {low : List ℕ} (given : Lowerable rows count p table signs blocked low) where
  pub cleared : {low' : List ℕ} → (length low' ≡ 21) × ((c : ℕ) → get_or low' c 0 ≤ 2 ^ 40) → OpenFillable rows count p table signs blocked low'
  cleared w = record { last = given.last; rows_fit = given.rows_fit; padded = given.padded; signed = given.signed; low_places = w.0; low_small = w.1 }

  pub relowered : {low' : List ℕ} {some : Bool} (v : ℕ) → v ≡ get_or low 20 0 → OpenLow signs blocked rows count p table low' some → Relowered signs blocked rows count p table low (set low' 20 v) some
  relowered {low'} {some} v e w =
      let o = w.low_of in
      record {
        places = length-set low' 20 v ∙ o.places;
        small = λ c. set_small low' 20 v c (2 ^ 43) (omega (arith, e, given.low_small 20)) (λ n. omega (arith, o.small c));
        standing = get_or-set_same low' 20 v 0 (omega (arith, o.places)) ∙ e;
        below = λ i h q. rw (get_or-set_other low' 20 (class p 9 (row rows i)) v 0 (λ z. omega (arith, o.known i h q, z))) (o.below i h q);
        none = w.none;
      }
