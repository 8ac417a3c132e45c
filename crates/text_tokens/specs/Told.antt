-- What the answers of the code say: what was read off the front and the rest of the text, or none.
use Rattle.std.specs.Prelude.{◌≡◌, List, ◌∷◌, ℕ, ◌+◌, ◌<◌, ◌≤◌, Some, None}
use Rattle.std.specs.Prelude as Rust
use Rattle.std.specs.Borrow.{Bor}
use Rattle.std.proofs.Math.Option.{Option, none, some}
use Rattle.text_tokens.specs.Tokens.{digit}

-- The digit in front, if one stands there.
abbrev pub DigitTaken : List ℕ → Rust.Option (ℕ × Bor (List ℕ)) → Type 0
DigitTaken t None = 10 ≤ digit t
DigitTaken t (Some r) = (r.0 < 10) × (t ≡ (48 + r.0) ∷ r.1.now)

abbrev pub numeral_told : Rust.Option (ℕ × Bor (List ℕ)) → Option (ℕ × List ℕ)
numeral_told None = none
numeral_told (Some r) = some (r.0, r.1.now)

abbrev pub rest_told : Rust.Option (Bor (List ℕ)) → Option (List ℕ)
rest_told None = none
rest_told (Some rest) = some rest.now
