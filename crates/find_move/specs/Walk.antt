-- The walk over the cut sets, cut by cut.
use Rattle.std.specs.Prelude.{List, ◌++◌, map, ℕ, suc, ◌-◌}
use Rattle.theory.specs.Moves.{upfrom, combinations}
use Rattle.first_move.specs.FirstMove.{numbered}

-- The candidates for n stops whose cuts begin with `pre` and go on with j more from `low` on, each with the patterns 0 to count - 1.
unfoldable pub tried_from : (count n : ℕ) (pre : List ℕ) (low j : ℕ) → List (List ℕ × ℕ)
unfolding numbered
tried_from count n pre low j = numbered count (map (λ s. pre ++ s) (combinations (upfrom low (suc n - low)) j))
