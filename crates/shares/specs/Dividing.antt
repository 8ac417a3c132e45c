-- What the allowance is divided into.
use Rattle.std.specs.Prelude.{◌≡◌, ℕ}
use Rattle.share_numbers.specs.Shares.{each, remainder}
use Rattle.shares.specs.declared.Parts.{Parts}

pub record DividedInto (allowance takers : ℕ) (s : Parts) : Type 0 where
  pub each_is : s.each ≡ each allowance takers
  pub remainder_is : s.remainder ≡ remainder allowance takers
