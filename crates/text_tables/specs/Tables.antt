-- The running form of reading the legs, the deadlines and the service times, and what the answers of the code say of them.
use Rattle.std.specs.Prelude.{◌≡◌, List, [], ℕ, zero, suc, ◌*◌, length, Some, None}
use Rattle.std.specs.Prelude as Rust
use Rattle.std.specs.Borrow.{Bor}
use Rattle.std.proofs.Math.Option.{Option, none, some, bind}
use Rattle.theory.specs.Tables.{Tables, tables}
use Rattle.text_decimal.specs.Text.{ascii}
use Rattle.text_lines.specs.Reading.{before, row}

-- The lines of the legs.
unfoldable pub rows : ℕ → ℕ → List ℕ → Option (List ℕ × List ℕ)
unfolding row bind before
rows zero width t = some ([], t)
rows (suc m) width t = bind (row (ascii "legs=") width t) (λ r. before r.0 (rows m width r.1))

-- The tables of so many locations.
unfoldable pub tables_of : ℕ → List ℕ → Option (Tables × List ℕ)
unfolding rows row bind
tables_of locations t =
    bind (rows locations locations t) (λ legs.
    bind (row (ascii "latest=") locations legs.1) (λ latest.
    bind (row (ascii "service=") locations latest.1) (λ service.
    some (tables locations legs.0 latest.0 service.0, service.1))))

abbrev pub tables_told : Tables → Rust.Option (Bor (List ℕ)) → Option (Tables × List ℕ)
tables_told T None = none
tables_told T (Some rest) = some (T, rest.now)

-- As many entries as the locations ask for: of the legs, and of all tables.
pub record Square (locations : ℕ) (legs : List ℕ) : Type 0 where
  pub square : length legs ≡ locations * locations

pub record Sized (T : Tables) : Type 0 where
  pub square : Square T.locations T.legs
  pub deadlines : length T.latest ≡ T.locations
  pub services : length T.service ≡ T.locations
