-- What the answers of the code say: the values read and the rest of the text, or none.
use Rattle.std.specs.Prelude.{◌≡◌, List, ℕ, ◌≤◌, length, take}
use Rattle.std.specs.Prelude as Rust
use Rattle.std.specs.Prelude.{Some, None}
use Rattle.std.specs.Borrow.{Bor}
use Rattle.std.proofs.Math.Option.{Option, none, some}

-- The entries stand at the start of `out`.
abbrev pub entries_told : List ℕ → Rust.Option (ℕ × Bor (List ℕ)) → Option (List ℕ × List ℕ)
entries_told out None = none
entries_told out (Some r) = some (take r.0 out, r.1.now)

abbrev pub entry_count : Rust.Option (ℕ × Bor (List ℕ)) → ℕ
entry_count None = 0
entry_count (Some r) = r.0

-- A row fills `out`.
abbrev pub row_told : List ℕ → Rust.Option (Bor (List ℕ)) → Option (List ℕ × List ℕ)
row_told out None = none
row_told out (Some rest) = some (out, rest.now)

-- Entries read into lent places, no more than there are.
pub record Listed (found : Option (List ℕ × List ℕ)) (out : List ℕ) (answer : Rust.Option (ℕ × Bor (List ℕ))) : Type 0 where
  pub reads : found ≡ entries_told out answer
  pub within : entry_count answer ≤ length out
