-- What a line has of a list.
use Rattle.std.specs.Prelude.{List, ◌∷◌, ℕ, flat_map}
use Rattle.std.specs.Fmt.{decimal}

-- Numbers in decimal, each after a space.
abbrev pub spaced : {A : Type 0} → (A → ℕ) → List A → List ℕ
spaced value numbers = flat_map (λ number. 32 ∷ decimal (value number)) numbers
