-- The joint table, moved and fixed row by row. Assumes nothing.
use mathlib.Core.Path.{◌≡◌, ◌∙◌}
use mathlib.Core.Logic.{◌≢◌, ◌⊎◌, inl, inr}
use mathlib.Core.List.{List}
use Prim.Native.Nat.{ℕ, ◌+◌, ◌*◌, ◌^◌, ◌≤◌, ◌<◌}
use native.Mathlib.Omega.{arith}
use native.Mathlib.Decide.{dec_lt}
use borrow.Author.Count.{below_more}
use lib.ListN.{length, get_or, set, length-set}
use lib.Seq.{get_or-set_same, get_or-set_other}
use Rattle.costs.specs.RouteCosts.{leg}
use Rattle.scan_joints.specs.JointTable.{cell, RowFilled}
use Rattle.scan_joints.proofs.Rows.{padded_set}
use Rattle.scan_reach.specs.Moving.{Moved, RowMovable, RowMoved, Next}

-- ---- a row moved

module _ {locations : ℕ} {legs : List ℕ} {from front back tail on turned p a : ℕ} {table : List ℕ} (given : RowMovable locations legs from front back tail on turned p a table) (u v w : ℕ) where
  abbrev first : List ℕ
  first = set table (16 * a + p) u

  abbrev second : List ℕ
  second = set first (16 * a + p + 1) v

  abbrev third : List ℕ
  third = set second (16 * a + 8) w

  kept : (c : ℕ) → c ≢ 16 * a + p → c ≢ 16 * a + p + 1 → c ≢ 16 * a + 8 → get_or (set (set (set table (16 * a + p) u) (16 * a + p + 1) v) (16 * a + 8) w) c 0 ≡ get_or table c 0
  kept c n m l = get_or-set_other second (16 * a + 8) c w 0 l ∙ get_or-set_other first (16 * a + p + 1) c v 0 m ∙ get_or-set_other table (16 * a + p) c u 0 n

  room : p + 1 < 8
  room = given.placeable.room

  places : 16 * a + 8 < length table
  places = omega (arith, given.padded.places, given.within)

  pub row_moved : u ≤ 2 ^ 40 → v ≤ 2 ^ 40 → w ≤ 2 ^ 40 → u ≡ leg locations legs from front + on → v ≡ leg locations legs from back + turned → w ≡ leg locations legs from tail →
      RowMoved locations legs from front back tail on turned p a table (set (set (set table (16 * a + p) u) (16 * a + p + 1) v) (16 * a + 8) w)
  row_moved hu hv hw eu ev ew =
      let e : 16 * a + (p + 1) ≡ 16 * a + p + 1 = omega arith in
      record {
        padded = padded_set second a 8 w (rw e at (padded_set first a (p + 1) v (padded_set table a p u given.padded given.not_tail (omega (arith, room)) hu) given.not_tail (omega (arith, room)) hv)) given.not_tail (omega arith) hw;
        moved = record {
          stands = get_or-set_other second (16 * a + 8) (16 * a + p) w 0 (λ q. omega (arith, room)) ∙ get_or-set_other first (16 * a + p + 1) (16 * a + p) v 0 (λ q. omega arith)
              ∙ get_or-set_same table (16 * a + p) u 0 (omega (arith, places, room)) ∙ eu;
          reversed = rw e (get_or-set_other second (16 * a + 8) (16 * a + p + 1) w 0 (λ q. omega (arith, room))
              ∙ get_or-set_same first (16 * a + p + 1) v 0 (simp length-set (omega (arith, places, room))) ∙ ev);
          last = get_or-set_same second (16 * a + 8) w 0 (simp length-set places) ∙ ew;
        };
        rows = λ x y h n. kept (16 * x + y) (λ q. n (omega (arith, room))) (λ q. n (omega (arith, room))) (λ q. n (omega arith));
        cells = λ x y h. kept (16 * x + y) (λ q. omega (arith, room)) (λ q. omega (arith, room)) (λ q. omega (arith, room));
      }

-- ---- the rows moved

-- A row that was not written.
pub moved_kept : {locations : ℕ} {legs : List ℕ} {front back tail on turned p : ℕ} {before after : List ℕ} {x from : ℕ} → Moved locations legs front back tail on turned p before x from → p + 1 < 8 →
    ((y : ℕ) → y < 16 → cell after x y ≡ cell before x y) → Moved locations legs front back tail on turned p after x from
moved_kept {p = p} m room k = record { stands = k p (omega arith) ∙ m.stands; reversed = k (p + 1) (omega arith) ∙ m.reversed; last = k 8 (omega arith) ∙ m.last }

pub moved_more : (exits : List ℕ) {locations : ℕ} {legs : List ℕ} {from front back tail on turned p a : ℕ} {before after : List ℕ} → p + 1 < 8 → from ≡ get_or exits a 0 →
    ((x : ℕ) → x < a → Moved locations legs front back tail on turned p before x (get_or exits x 0)) →
    RowMoved locations legs from front back tail on turned p a before after →
    (x : ℕ) → x < a + 1 → Moved locations legs front back tail on turned p after x (get_or exits x 0)
moved_more exits {locations} {legs} {front = front} {back} {tail} {on} {turned} {p} {a} {before} {after} room e h f =
    below_more (λ x. Moved locations legs front back tail on turned p after x (get_or exits x 0)) a
    (λ x l. moved_kept (h x l) room (λ y k. f.rows x y k (λ q. omega arith)))
    (rw e at f.moved)

-- ---- the rows fixed

-- The other rows are as they were.
pub rows_kept : {locations : ℕ} {legs : List ℕ} {from count : ℕ} {entries inside : List ℕ} {a : ℕ} {before after : List ℕ} → RowFilled locations legs from count entries inside a before after → count ≤ 8 →
    (x y : ℕ) → y < 16 → x ≢ a → cell after x y ≡ cell before x y
rows_kept {count = count} {a = a} f few x y h n = f.others (16 * x + y) (by (dec_lt x a))
  where
    by : Dec (x < a) → (16 * x + y < 16 * a) ⊎ (16 * a + count ≤ 16 * x + y)
    by (yes l) = inl (omega arith)
    by (no l) = let m : a < x = omega (arith, n) in inr (omega arith)

pub next_more : (exits : List ℕ) {locations : ℕ} {legs entries inside : List ℕ} {from p a : ℕ} {before after : List ℕ} → p ≤ 8 → from ≡ get_or exits a 0 →
    ((x : ℕ) → x < a → Next locations legs entries inside p before x (get_or exits x 0)) →
    RowFilled locations legs from p entries inside a before after →
    (x : ℕ) → x < a + 1 → Next locations legs entries inside p after x (get_or exits x 0)
next_more exits {locations} {legs} {entries} {inside} {p = p} {a} {before} {after} few e h f =
    below_more (λ x. Next locations legs entries inside p after x (get_or exits x 0)) a
    (λ x l b k. rows_kept f few x b (omega arith) (λ q. omega arith) ∙ h x l b k)
    (rw e at f.next)
