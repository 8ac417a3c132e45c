-- A candidate part by part: the head, the middle segments as the pattern places them, the tail.
use Rattle.std.specs.Prelude.{◌≡◌, ℕ, ◌+◌, ◌*◌, ◌≤◌, length, get_or}
use mathlib.Core.List.{List, [], flatten}
use Rattle.std.proofs.Math.Seq.{slice}
use Rattle.theory.specs.Route.{path, segments, placed}
use Rattle.theory.specs.Costs.{forward}
use Rattle.theory.specs.Tables.{Followable, CutSet}
use Rattle.costs.specs.RouteCosts.{Sums, leg}

abbrev pub head : List ℕ → List ℕ → List ℕ
head route cuts = get_or (segments 0 cuts route) 0 []

abbrev pub middle : List ℕ → List ℕ → List ℕ → ℕ → List ℕ
middle route cuts order mask = flatten (placed mask (segments 0 cuts route) (slice 1 (length cuts) order))

abbrev pub tail : List ℕ → List ℕ → List ℕ
tail route cuts = get_or (segments 0 cuts route) (length cuts) []

-- A route with its forward sums and its stays, and a cut set of it.
pub record HeadTimed (locations : ℕ) (legs : List ℕ) (depot : ℕ) (route forward_sums stayed cuts : List ℕ) : Type 0 where
  pub followable : Followable locations legs depot route
  pub forwards : Sums route (forward (leg locations legs) route) forward_sums
  pub places : length stayed ≡ 513
  pub none : get_or stayed 0 0 ≡ 0
  pub small : (c : ℕ) → c ≤ length route → get_or stayed c 0 ≤ 1000000 * c
  pub cut_set : CutSet (length cuts) (length route) cuts

-- When the head is left.
pub record HeadClock (locations : ℕ) (legs : List ℕ) (depot : ℕ) (route stayed cuts : List ℕ) (seconds : ℕ) : Type 0 where
  pub is : seconds ≡ path (leg locations legs) depot (head route cuts) + get_or stayed (get_or cuts 0 0) 0
  pub early : seconds ≤ 1025 * 1000000
