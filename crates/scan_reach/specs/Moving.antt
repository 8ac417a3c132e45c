-- What the contracts of the joint table's parts say, and what they ask: the cells that the last cut moves, and those that it does not. P is the last middle
-- segment, in the states p, as it stands, and p + 1, reversed; `front` and `back` are its first and last stop, `on` and `turned` the legs inside it.
use Rattle.std.specs.Prelude.{◌≡◌, ◌≢◌, ◌⊎◌, List, ℕ, ◌+◌, ◌*◌, ◌≤◌, ◌<◌, length, get_or}
use Rattle.theory.specs.Tables.{LegTable}
use Rattle.costs.specs.RouteCosts.{leg}
use Rattle.scan_joints.specs.JointTable.{cell, Padded, Fillable}

-- ---- the cells that the last cut moves

pub record Placeable (locations : ℕ) (legs : List ℕ) (front back tail on turned p : ℕ) : Type 0 where
  pub leg_table : LegTable locations legs
  pub front_known : front < locations
  pub back_known : back < locations
  pub tail_known : tail < locations
  pub on_small : on ≤ 1000000 * 512
  pub turned_small : turned ≤ 1000000 * 512
  pub room : p + 1 < 8

-- The cells of row a to P, to P reversed and to the tail, for a state that is left at the stop `from`.
pub record Moved (locations : ℕ) (legs : List ℕ) (front back tail on turned p : ℕ) (table : List ℕ) (a from : ℕ) : Type 0 where
  pub stands : cell table a p ≡ leg locations legs from front + on
  pub reversed : cell table a (p + 1) ≡ leg locations legs from back + turned
  pub last : cell table a 8 ≡ leg locations legs from tail

pub record RowMovable (locations : ℕ) (legs : List ℕ) (from front back tail on turned p a : ℕ) (table : List ℕ) : Type 0 where
  pub placeable : Placeable locations legs front back tail on turned p
  pub padded : Padded table
  pub from_known : from < locations
  pub within : a < 10
  pub not_tail : a ≢ 8

-- The other rows are as they were, and so are the cells to the states before P.
pub record RowMoved (locations : ℕ) (legs : List ℕ) (from front back tail on turned p a : ℕ) (before after : List ℕ) : Type 0 where
  pub padded : Padded after
  pub moved : Moved locations legs front back tail on turned p after a from
  pub rows : (x y : ℕ) → y < 16 → x ≢ a → cell after x y ≡ cell before x y
  pub cells : (x y : ℕ) → y < p → cell after x y ≡ cell before x y

-- The states before P are left at known stops.
pub record Exits (locations p : ℕ) (exits : List ℕ) : Type 0 where
  pub places : length exits ≡ 8
  pub known : (s : ℕ) → s < p → get_or exits s 0 < locations

pub record RowsMovable (locations : ℕ) (legs exits : List ℕ) (front back tail on turned p : ℕ) (table : List ℕ) : Type 0 where
  pub placeable : Placeable locations legs front back tail on turned p
  pub padded : Padded table
  pub leaving : Exits locations p exits

pub record RowsMoved (locations : ℕ) (legs exits : List ℕ) (front back tail on turned p : ℕ) (before after : List ℕ) : Type 0 where
  pub padded : Padded after
  pub each : (a : ℕ) → a < p → Moved locations legs front back tail on turned p after a (get_or exits a 0)
  pub cells : (x y : ℕ) → y < p → cell after x y ≡ cell before x y

-- ---- the cells that it does not move

-- The cells of row a to the states before p, for a state that is left at the stop `from`.
abbrev pub Next : ℕ → List ℕ → List ℕ → List ℕ → ℕ → List ℕ → ℕ → ℕ → Type 0
Next locations legs entries inside p table a from = (b : ℕ) → b < p → cell table a b ≡ leg locations legs from (get_or entries b 0) + get_or inside b 0

pub record RowsFixable (locations : ℕ) (legs entries exits inside : List ℕ) (p : ℕ) (table : List ℕ) : Type 0 where
  pub fillable : Fillable locations legs p entries inside
  pub padded : Padded table
  pub leaving : Exits locations p exits

pub record RowsFixed (locations : ℕ) (legs entries exits inside : List ℕ) (p : ℕ) (after : List ℕ) : Type 0 where
  pub padded : Padded after
  pub each : (a : ℕ) → a < p → Next locations legs entries inside p after a (get_or exits a 0)

-- The rows of the states that the last cut leaves where they were: P reversed is left at its first stop.
pub record Fixed (locations : ℕ) (legs : List ℕ) (head front : ℕ) (entries exits inside : List ℕ) (p : ℕ) (table : List ℕ) : Type 0 where
  pub each : (a : ℕ) → a < p → Next locations legs entries inside p table a (get_or exits a 0)
  pub reversed : Next locations legs entries inside p table (p + 1) front
  pub from_head : Next locations legs entries inside p table 9 head

-- Place 153 tells whether they are filled.
pub record Fixable (locations : ℕ) (legs : List ℕ) (head front : ℕ) (entries exits inside : List ℕ) (p : ℕ) (table : List ℕ) : Type 0 where
  pub rows : RowsFixable locations legs entries exits inside p table
  pub room : p + 1 < 8
  pub head_known : head < locations
  pub front_known : front < locations
  pub held : (get_or table 153 0 ≡ 0) ⊎ Fixed locations legs head front entries exits inside p table

pub record JointFixed (locations : ℕ) (legs : List ℕ) (head front : ℕ) (entries exits inside : List ℕ) (p : ℕ) (after : List ℕ) : Type 0 where
  pub padded : Padded after
  pub fixed : Fixed locations legs head front entries exits inside p after

-- ---- both

pub record Movable (locations : ℕ) (legs : List ℕ) (head front back tail on turned : ℕ) (entries exits inside : List ℕ) (p : ℕ) (table : List ℕ) : Type 0 where
  pub placeable : Placeable locations legs front back tail on turned p
  pub rows : RowsFixable locations legs entries exits inside p table
  pub head_known : head < locations
  pub fixed : Fixed locations legs head front entries exits inside p table

pub record Row (locations : ℕ) (legs : List ℕ) (front back tail on turned : ℕ) (entries inside : List ℕ) (p : ℕ) (table : List ℕ) (a from : ℕ) : Type 0 where
  pub next : Next locations legs entries inside p table a from
  pub moved : Moved locations legs front back tail on turned p table a from

pub record JointMoved (locations : ℕ) (legs : List ℕ) (head front back tail on turned : ℕ) (entries exits inside : List ℕ) (p : ℕ) (after : List ℕ) : Type 0 where
  pub padded : Padded after
  pub each : (a : ℕ) → a < p → Row locations legs front back tail on turned entries inside p after a (get_or exits a 0)
  pub stands : Row locations legs front back tail on turned entries inside p after p back
  pub reversed : Row locations legs front back tail on turned entries inside p after (p + 1) front
  pub from_head : Row locations legs front back tail on turned entries inside p after 9 head
