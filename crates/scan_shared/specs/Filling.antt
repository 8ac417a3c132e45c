-- The parts of filling what the cut sets with the same first cuts share.
use Rattle.std.specs.Prelude.{◌≡◌, Bool, true, false, cond, ◌⊎◌, List, [], ℕ, suc, ◌+◌, ◌-◌, ◌*◌, ◌^◌, ◌≤◌, ◌<◌, eqb, ltb, length, get_or}
use Rattle.std.specs.Int.Bits.{bit_and}
use Rattle.theory.specs.Tables.{LegTable}
use Rattle.costs.specs.RouteCosts.{leg, first_cuts}
use Rattle.scan_joints.specs.States.{row}
use Rattle.scan_joints.specs.JointTable.{cell, chain, Padded, EndPlaces}
use Rattle.scan_shared.specs.Bound.{chain_by, class, last_state}
use Rattle.scan_shared.specs.Prepared.{shared, Cut, RowsFit, Places, Opened, Prepared}

-- ---- the least cost of each class

-- Place c holds at most the cost, and no place holds more than before.
pub record Lowered (before : List ℕ) (c cost : ℕ) (after : List ℕ) : Type 0 where
  pub places : length after ≡ 21
  pub at : get_or after c 0 ≤ cost
  pub rest : (x : ℕ) → get_or after x 0 ≤ get_or before x 0

-- Four states of a row.
pub record Classable (p a b c d : ℕ) : Type 0 where
  pub last : p ≤ 6
  pub first : a ≤ 8
  pub second : b ≤ 8
  pub third : c ≤ 8
  pub fourth : d ≤ 8

pub record ClassIs (p : ℕ) (states : List ℕ) (r : ℕ) : Type 0 where
  pub is : r ≡ class p 9 states
  pub small : r < 20

-- Row i of rows of states.
pub record RowClassable (rows : List ℕ) (i p : ℕ) : Type 0 where
  pub last : p ≤ 6
  pub places : length rows ≡ 1532
  pub within : i < 383
  pub known : (c : ℕ) → 4 * i ≤ c → c < 4 * i + 4 → get_or rows c 0 ≤ 8

-- A table, rows and places for the least costs.
pub record LowFillable (rows : List ℕ) (count p : ℕ) (table low : List ℕ) : Type 0 where
  pub last : p ≤ 6
  pub rows_fit : RowsFit rows count
  pub padded : Padded table
  pub low_places : length low ≡ 21
  pub low_small : (c : ℕ) → get_or low c 0 ≤ 2 ^ 40

-- ---- open rows

-- A row is closed if its sign has something in common with what is blocked.
abbrev pub open_by : List ℕ → ℕ → ℕ → Bool
open_by signs blocked i = eqb (bit_and (get_or signs i 0) blocked) 0

abbrev pub all_open : ℕ → Bool
all_open i = true

-- The least cost of each class, over the open ones among the first `count` rows: below each row's cost.
pub record LowOf (is_open : ℕ → Bool) (rows : List ℕ) (count p : ℕ) (table low : List ℕ) : Type 0 where
  pub places : length low ≡ 21
  pub small : (c : ℕ) → get_or low c 0 ≤ 2 ^ 40
  pub known : (i : ℕ) → i < count → is_open i ≡ true → class p 9 (row rows i) < 20
  pub below : (i : ℕ) → i < count → is_open i ≡ true → get_or low (class p 9 (row rows i)) 0 ≤ chain table 9 (row rows i)

-- A table, row i with a sign, and places for the least costs.
pub record RowOpen (rows : List ℕ) (i p : ℕ) (table signs low : List ℕ) : Type 0 where
  pub last : p ≤ 6
  pub places : length rows ≡ 1532
  pub within : i < 383
  pub known : (c : ℕ) → 4 * i ≤ c → c < 4 * i + 4 → get_or rows c 0 ≤ 8
  pub padded : Padded table
  pub sign_places : length signs ≡ 383
  pub low_places : length low ≡ 21

-- One row more, if it is open.
pub record RowLowered (rows : List ℕ) (i p : ℕ) (table signs : List ℕ) (blocked : ℕ) (some : Bool) (low low' : List ℕ) (r : Bool) : Type 0 where
  pub more : LowOf (open_by signs blocked) rows i p table low → LowOf (open_by signs blocked) rows (i + 1) p table low'
  pub places : length low' ≡ 21
  pub none : r ≡ false → (some ≡ false) × (open_by signs blocked i ≡ false)

-- With signs, where something is blocked.
pub record OpenFillable (rows : List ℕ) (count p : ℕ) (table signs : List ℕ) (blocked : ℕ) (low : List ℕ) : Type 0 where
  pub last : p ≤ 6
  pub rows_fit : RowsFit rows count
  pub padded : Padded table
  pub signed : 0 < blocked → length signs ≡ 383
  pub low_places : length low ≡ 21
  pub low_small : (c : ℕ) → get_or low c 0 ≤ 2 ^ 40

pub record OpenLow (signs : List ℕ) (blocked : ℕ) (rows : List ℕ) (count p : ℕ) (table low : List ℕ) (some : Bool) : Type 0 where
  pub low_of : LowOf (open_by signs blocked) rows count p table low
  pub none : some ≡ false → (i : ℕ) → i < count → open_by signs blocked i ≡ false

-- Least costs to be found anew, beside the standing cost.
pub record Lowerable (rows : List ℕ) (count p : ℕ) (table signs : List ℕ) (blocked : ℕ) (low : List ℕ) : Type 0 where
  pub last : p ≤ 6
  pub rows_fit : RowsFit rows count
  pub padded : Padded table
  pub signed : 0 < blocked → length signs ≡ 383
  pub low_places : length low ≡ 21
  pub low_small : (c : ℕ) → get_or low c 0 ≤ 2 ^ 43

pub record Relowered (signs : List ℕ) (blocked : ℕ) (rows : List ℕ) (count p : ℕ) (table low low' : List ℕ) (some : Bool) : Type 0 where
  pub places : length low' ≡ 21
  pub small : (c : ℕ) → get_or low' c 0 ≤ 2 ^ 43
  pub standing : get_or low' 20 0 ≡ get_or low 20 0
  pub below : (i : ℕ) → i < count → open_by signs blocked i ≡ true → get_or low' (class p 9 (row rows i)) 0 ≤ chain table 9 (row rows i)
  pub none : some ≡ false → (i : ℕ) → i < count → open_by signs blocked i ≡ false

-- ---- the shared table

-- What a cell holds: nothing where the last cut moves it.
abbrev pub fixed_cell : ℕ → List ℕ → ℕ → ℕ → List ℕ → List ℕ → List ℕ → ℕ → ℕ → ℕ
fixed_cell locations legs p head entries exits inside a b =
    cond (ltb p b) 0 (cond (eqb a p) 0 (leg locations legs (cond (eqb a 9) head (get_or exits a 0)) (get_or entries b 0) + get_or inside b 0))

-- A table in which what the last cut moves is empty, and so is what no state has: the row of P as it stands, what leads to P reversed and to the tail.
pub record Blank (p : ℕ) (table : List ℕ) : Type 0 where
  pub padded : Padded table
  pub moved : (a b : ℕ) → a < 10 → b < 16 → (a ≡ p) ⊎ (p < b) → cell table a b ≡ 0
  pub unused : (a b : ℕ) → suc (suc p) ≤ a → a < 9 → b < 16 → cell table a b ≡ 0

-- What the table is filled from.
pub record Fixable (locations : ℕ) (legs : List ℕ) (p : ℕ) (entries exits inside table : List ℕ) : Type 0 where
  pub last : p ≤ 6
  pub leg_table : LegTable locations legs
  pub places : EndPlaces entries exits inside
  pub entries_known : (s : ℕ) → s < suc p → get_or entries s 0 < locations
  pub exits_known : (s : ℕ) → s < suc (suc p) → get_or exits s 0 < locations
  pub inside_small : (s : ℕ) → s < suc p → get_or inside s 0 ≤ 1000000 * 512
  pub blank : Blank p table

-- The rows below a are filled, whatever the head.
pub record FixedRows (locations : ℕ) (legs : List ℕ) (p : ℕ) (entries exits inside : List ℕ) (a : ℕ) (table : List ℕ) : Type 0 where
  pub filled : (head x b : ℕ) → x < a → b < 16 → cell table x b ≡ fixed_cell locations legs p head entries exits inside x b
  pub blank : Blank p table

-- The shared table: the rows of the states and of the head.
pub record FixedTable (locations : ℕ) (legs : List ℕ) (head p : ℕ) (entries exits inside table : List ℕ) : Type 0 where
  pub filled : (a b : ℕ) → (a < suc (suc p)) ⊎ (a ≡ 9) → b < 16 → cell table a b ≡ fixed_cell locations legs p head entries exits inside a b
  pub blank : Blank p table

-- A cut set that is the first with its first cuts, and places for what is prepared for them. With the depot as end: none is read.
pub record Preparable (locations : ℕ) (legs : List ℕ) (depot : ℕ) (route forward_sums backward_sums cuts rows : List ℕ) (count : ℕ) (signs : List ℕ) (blocked : ℕ) (entries exits inside low table : List ℕ) : Type 0 where
  pub cut : Cut locations legs depot depot route forward_sums backward_sums cuts
  pub rows_fit : RowsFit rows count
  pub signed : 0 < blocked → length signs ≡ 383
  pub places : Places entries exits inside low
  pub first : Opened cuts
  pub blank : Blank (2 * (length cuts - 2)) table

-- What is prepared, of the rows that are open.
pub record PreparedNow (locations : ℕ) (legs : List ℕ) (depot : ℕ) (route cuts rows : List ℕ) (count : ℕ) (is_open : ℕ → Bool) (entries exits inside low : List ℕ) : Type 0 where
  pub places : Places entries exits inside low
  pub prepared : Prepared locations legs depot route (first_cuts cuts) [] 0 entries exits inside low
  pub least : (i : ℕ) → i < count → is_open i ≡ true → get_or low (class (last_state (first_cuts cuts)) 9 (row rows i)) 0 ≤ chain_by (shared locations legs depot route (first_cuts cuts)) 9 (row rows i)

-- The table, for least costs anew: what a row costs in it is no more than what the row costs.
pub record Tabled (locations : ℕ) (legs : List ℕ) (depot : ℕ) (route cuts rows : List ℕ) (count : ℕ) (table : List ℕ) : Type 0 where
  pub blank : Blank (2 * (length cuts - 2)) table
  pub most : (i : ℕ) → i < count → chain table 9 (row rows i) ≤ chain_by (shared locations legs depot route (first_cuts cuts)) 9 (row rows i)

pub record Sharing (locations : ℕ) (legs : List ℕ) (depot : ℕ) (route cuts rows : List ℕ) (count : ℕ) (signs : List ℕ) (blocked : ℕ) (entries exits inside low table : List ℕ) (some : Bool) : Type 0 where
  pub prepared : PreparedNow locations legs depot route cuts rows count (open_by signs blocked) entries exits inside low
  pub tabled : Tabled locations legs depot route cuts rows count table
  pub none : some ≡ false → (i : ℕ) → i < count → open_by signs blocked i ≡ false
