-- What the contracts of `scan_rows` say, and what they ask: a state, a row, and room for the rows of a list of patterns.
use Rattle.std.specs.Prelude.{◌≡◌, List, ℕ, ◌+◌, ◌*◌, ◌≤◌, ◌<◌, length, get_or}
use Rattle.theory.specs.Tables.{PatternRows}
use Rattle.costs.specs.RouteCosts.{Middle}
use Rattle.scan_joints.specs.States.{state_of, states, row}

-- The segment's state as code has it.
pub record StateAt (mask segment r : ℕ) : Type 0 where
  pub is : r ≡ state_of mask segment
  pub small : r < 8

-- The places 1 to k - 1 of an order for k cuts hold middle segments.
pub record MiddleOrder (k : ℕ) (order : List ℕ) : Type 0 where
  pub least : 2 ≤ k
  pub most : k ≤ 5
  pub middle : Middle k order

-- Row i put into its place.
pub record RowPut (k : ℕ) (order : List ℕ) (mask i : ℕ) (before after : List ℕ) : Type 0 where
  pub places : length after ≡ 1532
  pub put : row after i ≡ states k order mask
  pub others : (x : ℕ) → x < i → row after x ≡ row before x
  pub small : (c : ℕ) → c < 4 * (i + 1) → (c < 4 * i → get_or before c 0 ≤ 8) → get_or after c 0 ≤ 8

-- Room for the rows of a list of patterns.
pub record RowsFillable (k : ℕ) (orders masks rows : List ℕ) : Type 0 where
  pub least : 2 ≤ k
  pub most : k ≤ 5
  pub patterns : PatternRows k orders masks
  pub places : length rows ≡ 1532
