-- Where segments lie, and when they can be put together.
use Rattle.std.specs.Prelude.{◌≡◌, List, [], ◌∷◌, ◌++◌, ℕ, ◌+◌, ◌-◌, ◌≤◌, length, get_or}
use Rattle.theory.specs.Tables.{CutSet, Order}

-- The places where the segments of a route of n stops begin and end: 0, the cuts, n.
abbrev pub bound : List ℕ → ℕ → ℕ → ℕ
bound cuts n i = get_or (0 ∷ (cuts ++ (n ∷ []))) i 0

pub record Fits (src dst : List ℕ) (at : ℕ) : Type 0 where
  pub room : at + length src ≤ length dst

pub record SegmentPuttable (route : List ℕ) (a b : ℕ) (out : List ℕ) (at : ℕ) : Type 0 where
  pub ordered : a ≤ b
  pub within : b ≤ length route
  pub room : at + (b - a) ≤ length out

-- Cuts of this route, an order of their segments, and as many places as there are stops.
pub record Reconnectable (route cuts order out : List ℕ) : Type 0 where
  pub cut_set : CutSet (length cuts) (length route) cuts
  pub once : Order (length cuts) order
  pub room : length out ≡ length route
