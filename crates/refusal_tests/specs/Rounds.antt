-- Where the lengths of rounds can be summed.
use Rattle.std.specs.Prelude.{List, ℕ, ◌≤◌, ◌<◌, length, get_or}

-- "5: a round .. above 512, more than 64 rounds": neither holds.
pub record ShortRounds (lengths : List ℕ) : Type 0 where
  pub few : length lengths ≤ 64
  pub short : (i : ℕ) → i < length lengths → get_or lengths i 0 ≤ 512
