-- The rows of states as places of the joint table, five for each row: from the head through its four states to the tail.
use Rattle.std.specs.Prelude.{◌≡◌, List, ℕ, ◌+◌, ◌*◌, ◌^◌, ◌≤◌, ◌<◌, length, get_or}
use Rattle.scan_joints.specs.JointTable.{Padded}

-- The places of row i.
pub record RowChained (rows chains : List ℕ) (i : ℕ) : Type 0 where
  pub first : get_or chains (5 * i) 0 ≡ 144 + get_or rows (4 * i) 0
  pub second : get_or chains (5 * i + 1) 0 ≡ 16 * get_or rows (4 * i) 0 + get_or rows (4 * i + 1) 0
  pub third : get_or chains (5 * i + 2) 0 ≡ 16 * get_or rows (4 * i + 1) 0 + get_or rows (4 * i + 2) 0
  pub fourth : get_or chains (5 * i + 3) 0 ≡ 16 * get_or rows (4 * i + 2) 0 + get_or rows (4 * i + 3) 0
  pub fifth : get_or chains (5 * i + 4) 0 ≡ 16 * get_or rows (4 * i + 3) 0 + 8

-- Those of the first `count` rows.
pub record Chained (rows : List ℕ) (count : ℕ) (chains : List ℕ) : Type 0 where
  pub places : length chains ≡ 1915
  pub each : (i : ℕ) → i < count → RowChained rows chains i

-- Row i, and room for its places.
pub record ChainPuttable (rows : List ℕ) (i : ℕ) (chains : List ℕ) : Type 0 where
  pub places : length rows ≡ 1532
  pub room : length chains ≡ 1915
  pub within : i < 383
  pub known : (c : ℕ) → 4 * i ≤ c → c < 4 * i + 4 → get_or rows c 0 ≤ 8

-- The places of row i put, and those before as they were.
pub record ChainPut (rows : List ℕ) (i : ℕ) (before after : List ℕ) : Type 0 where
  pub places : length after ≡ 1915
  pub put : RowChained rows after i
  pub others : (c : ℕ) → c < 5 * i → get_or after c 0 ≡ get_or before c 0

-- The first `count` rows, and room for their places.
pub record ChainsFillable (rows : List ℕ) (count : ℕ) (chains : List ℕ) : Type 0 where
  pub places : length rows ≡ 1532
  pub room : length chains ≡ 1915
  pub few : count ≤ 383
  pub known : (c : ℕ) → c < 4 * count → get_or rows c 0 ≤ 8

-- What stands at a place of the joint table.
pub record CellPlaced (table : List ℕ) (place r : ℕ) : Type 0 where
  pub is : r ≡ get_or table place 0
  pub small : r ≤ 2 ^ 40

-- The cells of row i, added up.
abbrev pub cost : List ℕ → List ℕ → ℕ → ℕ
cost table chains i =
    get_or table (get_or chains (5 * i) 0) 0
    + get_or table (get_or chains (5 * i + 1) 0) 0
    + get_or table (get_or chains (5 * i + 2) 0) 0
    + get_or table (get_or chains (5 * i + 3) 0) 0
    + get_or table (get_or chains (5 * i + 4) 0) 0

-- A table, and row i of the places.
pub record Costable (table chains : List ℕ) (i : ℕ) : Type 0 where
  pub padded : Padded table
  pub places : length chains ≡ 1915
  pub within : i < 383
  pub known : (c : ℕ) → 5 * i ≤ c → c < 5 * i + 5 → get_or chains c 0 < 160
