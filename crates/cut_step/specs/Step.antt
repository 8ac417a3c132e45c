-- What the step to the next cut set answers, and the cuts that stand afterwards.
use Rattle.std.specs.Prelude.{◌≡◌, List, Bool, true, false, ℕ, ◌+◌, ◌≤◌, ◌<◌, length}
use Rattle.std.proofs.Math.Option.{Option, none, some}
use Rattle.theory.specs.Moves.{next_cuts}

abbrev pub found : Option (List ℕ) → Bool
found none = false
found (some cs) = true

abbrev pub or_unmoved : Option (List ℕ) → List ℕ → List ℕ
or_unmoved none old = old
or_unmoved (some cs) old = cs

-- "The step after the last set answers no and keeps its cuts."
pub record Stepped (n : ℕ) (cuts : List ℕ) (answer : Bool) (cuts' : List ℕ) : Type 0 where
  pub moved : answer ≡ found (next_cuts n cuts)
  pub cuts_after : cuts' ≡ or_unmoved (next_cuts n cuts) cuts

-- The places from `from` on can be filled with numbers from `first` on.
pub record Followable (cuts : List ℕ) (from first : ℕ) : Type 0 where
  pub within : from ≤ length cuts
  pub fits : first + length cuts < 4096
