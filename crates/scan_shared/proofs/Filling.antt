-- The shared table, filled row by row. Assumes nothing.
use mathlib.Core.Path.{◌≡◌, refl, ◌∙◌}
use mathlib.Core.Bool.{cond}
use mathlib.Core.Logic.{◌≢◌, ◌⊎◌, inl, inr}
use mathlib.Core.List.{List}
use Prim.Native.Nat.{ℕ, suc, ◌+◌, ◌*◌, ◌≤◌, ◌<◌}
use native.Mathlib.Omega.{arith}
use native.Mathlib.Decide.{ℕ_discrete, dec_lt}
use borrow.Author.Tests.{eq-eqb, ne_eqb, lt-ltb, le-ltb}
use lib.Dec.{eqb}
use lib.ListN.{get_or}
use Rattle.scan_joints.specs.JointTable.{cell, Padded, RowFillable, RowFilled}
use Rattle.scan_shared.specs.Filling.{fixed_cell, Blank, Fixable, FixedRows, FixedTable}

module _ {locations : ℕ} {legs : List ℕ} {p : ℕ} {entries exits inside table₀ : List ℕ} (given : Fixable locations legs p entries exits inside table₀) where
  pub row_fits : (from a : ℕ) {table : List ℕ} → from < locations → a < 10 → a ≢ 8 → Padded table → RowFillable locations legs from (p + 1) entries inside a table
  row_fits from a f l n t =
      record {
        fillable = record {
          leg_table = given.leg_table;
          few = omega (arith, given.last);
          entry_places = given.places.entry_places;
          inside_places = given.places.inside_places;
          entries_known = λ s h. given.entries_known s (omega arith);
          inside_small = λ s h. given.inside_small s (omega arith);
        };
        padded = t;
        from_known = f;
        within = l;
        not_tail = n;
      }

  -- A filled row, cell by cell.
  row_is : {before after : List ℕ} (head from a b : ℕ) → RowFilled locations legs from (p + 1) entries inside a before after → Blank p before → a < 10 → a ≢ p →
      from ≡ cond (eqb a 9) head (get_or exits a 0) → b < 16 → cell after a b ≡ fixed_cell locations legs p head entries exits inside a b
  row_is {before} {after} head from a b w blank u n e h = by (dec_lt p b)
    where
      by : Dec (p < b) → cell after a b ≡ fixed_cell locations legs p head entries exits inside a b
      by (yes l) = rw (lt-ltb p b l) (w.others (16 * a + b) (inr (omega arith)) ∙ blank.moved a b u h (inr l))
      by (no l) = rw (le-ltb p b (omega arith), ne_eqb a p n, ← e) (w.next b (omega arith))

  -- What is to be empty stays so: the row is none of those, and is filled up to P.
  still_blank : {before after : List ℕ} (from a : ℕ) → RowFilled locations legs from (p + 1) entries inside a before after → Blank p before → a ≢ p → (a < suc (suc p)) ⊎ (a ≡ 9) → Blank p after
  still_blank {before} {after} from a w blank n k =
      record {
        padded = w.padded;
        moved = λ x y l h o. rest x y h (apart x y o) ∙ blank.moved x y l h o;
        unused = λ x y l m h. rest x y h (inl (other x l m k)) ∙ blank.unused x y l m h;
      }
    where
      -- Another row, or the same one behind what is filled.
      rest : (x y : ℕ) → y < 16 → (x ≢ a) ⊎ ((x ≡ a) × (p < y)) → cell after x y ≡ cell before x y
      rest x y h (inr q) = w.others (16 * x + y) (inr (omega (arith, q.0, q.1)))
      rest x y h (inl q) = by (dec_lt x a)
        where
          by : Dec (x < a) → cell after x y ≡ cell before x y
          by (yes l) = w.others (16 * x + y) (inl (omega arith))
          by (no l) = w.others (16 * x + y) (inr (omega (arith, q, given.last)))

      apart : (x y : ℕ) → (x ≡ p) ⊎ (p < y) → (x ≢ a) ⊎ ((x ≡ a) × (p < y))
      apart x y (inl q) = inl (λ (z : x ≡ a). n (omega (arith, z, q)))
      apart x y (inr l) = by (ℕ_discrete x a)
        where
          by : Dec (x ≡ a) → (x ≢ a) ⊎ ((x ≡ a) × (p < y))
          by (yes z) = inr (z, l)
          by (no z) = inl z

      other : (x : ℕ) → suc (suc p) ≤ x → x < 9 → (a < suc (suc p)) ⊎ (a ≡ 9) → x ≢ a
      other x l m (inl o) = λ (z : x ≡ a). omega (arith, z, o, l)
      other x l m (inr o) = λ (z : x ≡ a). omega (arith, z, o, m)

  pub no_rows : FixedRows locations legs p entries exits inside 0 table₀
  no_rows = record { filled = λ head x b h. absurd (omega arith); blank = given.blank }

  pub more_rows : {before after : List ℕ} (a from : ℕ) → a < p → from ≡ get_or exits a 0 → FixedRows locations legs p entries exits inside a before →
      RowFilled locations legs from (p + 1) entries inside a before after → FixedRows locations legs p entries exits inside (a + 1) after
  more_rows {before} {after} a from l e w f =
      record {
        filled = λ head x b h k. by head x b k (ℕ_discrete x a) h;
        blank = still_blank from a f w.blank (λ (z : a ≡ p). omega arith) (inl (omega arith));
      }
    where
      by : (head x b : ℕ) → b < 16 → Dec (x ≡ a) → x < a + 1 → cell after x b ≡ fixed_cell locations legs p head entries exits inside x b
      by head x b k (yes q) h =
          rw q (row_is head from a b f w.blank (omega (arith, given.last)) (λ z. omega arith) (e ∙ rw (ne_eqb a 9 (λ (z : a ≡ 9). omega (arith, given.last)))) k)
      by head x b k (no q) h = f.others (16 * x + b) (inl (omega arith)) ∙ w.filled head x b (omega arith) k

  pub whole : {head : ℕ} {t₁ t₂ t₃ : List ℕ} (from : ℕ) → from ≡ get_or exits (p + 1) 0 → FixedRows locations legs p entries exits inside p t₁ → RowFilled locations legs from (p + 1) entries inside (p + 1) t₁ t₂ →
      RowFilled locations legs head (p + 1) entries inside 9 t₂ t₃ → FixedTable locations legs head p entries exits inside t₃
  whole {head} {t₁} {t₂} {t₃} from e w f g =
      record {
        filled = λ a b k h. by a b h k;
        blank = still_blank head 9 g blank₂ (λ (z : 9 ≡ p). omega (arith, given.last)) (inr refl);
      }
    where
      blank₂ : Blank p t₂
      blank₂ = still_blank from (p + 1) f w.blank (λ (z : p + 1 ≡ p). omega arith) (inl (omega arith))

      early : (a b : ℕ) → a < p + 2 → b < 16 → cell t₃ a b ≡ cell t₂ a b
      early a b l h = g.others (16 * a + b) (inl (omega (arith, given.last)))

      by : (a b : ℕ) → b < 16 → (a < suc (suc p)) ⊎ (a ≡ 9) → cell t₃ a b ≡ fixed_cell locations legs p head entries exits inside a b
      by a b h (inr q) = rw q (row_is head head 9 b g blank₂ (omega arith) (λ (z : 9 ≡ p). omega (arith, given.last)) refl h)
      by a b h (inl l) = early a b (omega arith) h ∙ low (ℕ_discrete a p) (ℕ_discrete a (p + 1))
        where
          low : Dec (a ≡ p) → Dec (a ≡ p + 1) → cell t₂ a b ≡ fixed_cell locations legs p head entries exits inside a b
          low (yes q) y = blank₂.moved a b (omega (arith, given.last)) h (inl q) ∙ nothing (dec_lt p b)
            where
              nothing : Dec (p < b) → 0 ≡ fixed_cell locations legs p head entries exits inside a b
              nothing (yes m) = rw (lt-ltb p b m)
              nothing (no m) = rw (le-ltb p b (omega arith), eq-eqb a p q)
          low (no q) (yes y) =
              rw y (row_is head from (p + 1) b f w.blank (omega (arith, given.last)) (λ (z : p + 1 ≡ p). omega arith) (e ∙ rw (ne_eqb (p + 1) 9 (λ (z : p + 1 ≡ 9). omega (arith, given.last)))) h)
          low (no q) (no y) = f.others (16 * a + b) (inl (omega arith)) ∙ w.filled head a b (omega arith) h
