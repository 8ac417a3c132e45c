-- What is told of a round that is read without places for its stops: how many it has, and the highest of them.
use Rattle.std.specs.Prelude.{List, [], ◌∷◌, ℕ, ◌+◌, max, length, Some, None}
use Rattle.std.specs.Prelude as Rust
use Rattle.std.specs.Borrow.{Bor}
use Rattle.std.proofs.Math.Option.{Option, none, some}
use Rattle.text_round.specs.declared.Stops.{Stops}

-- The highest of h and the stops.
unfoldable pub highest : ℕ → List ℕ → ℕ
highest h [] = h
highest h (x ∷ xs) = highest (max h x) xs

-- After so many stops, the highest of them h: how many there are with those read, the highest of all, and the rest of the text.
unfoldable pub counted : ℕ → ℕ → Option (List ℕ × List ℕ) → Option (ℕ × ℕ × List ℕ)
unfolding highest
counted count h none = none
counted count h (some r) = some (count + length r.0, highest h r.0, r.1)

abbrev pub round_told : Rust.Option (Stops × Bor (List ℕ)) → Option (ℕ × ℕ × List ℕ)
round_told None = none
round_told (Some r) = some (r.0.count, r.0.highest, r.1.now)
