-- The rows of legs, the deadlines and the service times, as the code reads them one after the other. Assumes nothing.
use mathlib.Core.Path.{◌≡◌, sym}
use mathlib.Core.List.{List, ◌++◌, append-nil, append_assoc}
use mathlib.Core.Option.{Option, none, some, bind}
use Prim.Native.Nat.{ℕ, suc, ◌+◌, ◌-◌, ◌*◌, ◌≤◌, ◌<◌}
use native.Mathlib.Nat.{suc-mul, zero-mul, mul-le-mul_right}
use native.Mathlib.Numerals.{add-one}
use native.Mathlib.Omega.{arith}
use lib.ListN.{length, take, drop, length-append, length-take, length-drop}
use lib.Seq.{take_at, take_all}
use Rattle.theory.specs.Tables.{tables}
use Rattle.text_decimal.specs.Text.{ascii}
use Rattle.std.specs.Prelude as Rust
use Rattle.std.specs.Prelude.{Some, None}
use Rattle.std.specs.Borrow.{Bor}
use Rattle.text_lines.specs.Reading.{before, row}
use Rattle.text_lines.specs.Told.{row_told}
use Rattle.text_lines.proofs.Places.{before_none, before_before}
use Rattle.text_tables.specs.Tables.{rows, tables_of, tables_told}

-- The rows still to come, behind those that stand in `legs`.
abbrev pub rows_to_come : List ℕ → ℕ → ℕ → List ℕ → Option (List ℕ × List ℕ)
rows_to_come legs n i t = before (take (i * n) legs) (rows (n - i) n t)

pub row_within : (n i : ℕ) → i < n → i * n + n ≤ n * n
row_within n i h = omega (arith, suc-mul i n, mul-le-mul_right {m = suc i} {n = n} n h)

pub rows_begin : (legs t : List ℕ) (n : ℕ) → rows n n t ≡ rows_to_come legs n 0 t
rows_begin legs t n = let e : n - 0 ≡ n = omega arith in rw (zero-mul n, e) (sym (before_none (rows n n t)))

pub rows_break : (legs t : List ℕ) (n i : ℕ) → i < n → row (ascii "legs=") n t ≡ none → rows_to_come legs n i t ≡ none
unfolding rows bind before
rows_break legs t n i h e = let m : n - i ≡ suc (n - (i + 1)) = omega arith in rw (m, e)

first_row : (legs t xs r : List ℕ) (n i : ℕ) → row (ascii "legs=") n t ≡ some (xs, r) →
    before (take (i * n) legs) (rows (suc (n - (i + 1))) n t) ≡ before (take (i * n) legs ++ xs) (rows (n - (i + 1)) n r)
unfolding rows bind
first_row legs t xs r n i e = rw e (before_before (take (i * n) legs) xs (rows (n - (i + 1)) n r))

pub rows_more : (legs t xs r : List ℕ) (n i k : ℕ) → i < n → length legs ≡ n * n → length xs ≡ n → row (ascii "legs=") n t ≡ some (xs, r) →
    rows_to_come legs n i t ≡ rows_to_come (take (i * n) legs ++ (xs ++ drop k (drop (i * n) legs))) n (i + 1) r
rows_more legs t xs r n i k h l x e =
    let m : n - i ≡ suc (n - (i + 1)) = omega arith in
    let a : length (take (i * n) legs ++ xs) ≡ (i + 1) * n = simp (length-append, length-take, add-one, suc-mul) (omega (arith, row_within n i h)) in
    rw (m, ← append_assoc (take (i * n) legs) xs (drop k (drop (i * n) legs)), take_at (take (i * n) legs ++ xs) (drop k (drop (i * n) legs)) ((i + 1) * n) a) (first_row legs t xs r n i e)

pub rows_whole : (legs t : List ℕ) (n i : ℕ) → i ≤ n → n ≤ i → length legs ≡ n * n → rows_to_come legs n i t ≡ some (legs, t)
unfolding rows before
rows_whole legs t n i h m l =
    let e : i ≡ n = omega arith in
    let d : n - n ≡ 0 = omega arith in
    rw (e, d, take_all (n * n) legs (omega arith), append-nil legs)

pub part_length : (s n : ℕ) (l : List ℕ) → s + n ≤ length l → length (take (s + n - s) (drop s l)) ≡ n
part_length s n l h = simp (length-take, length-drop) (omega arith)

-- The tables line by line.
pub legs_missing : (n : ℕ) (t : List ℕ) → rows n n t ≡ none → tables_of n t ≡ none
unfolding tables_of bind
legs_missing n t e = rw e

module _ (n : ℕ) (t : List ℕ) {legs r : List ℕ} (legs_read : rows n n t ≡ some (legs, r)) where
  pub latest_missing : row (ascii "latest=") n r ≡ none → tables_of n t ≡ none
  unfolding tables_of bind
  latest_missing e = rw (legs_read, e)

  pub service_told : {latest u : List ℕ} → row (ascii "latest=") n r ≡ some (latest, u) → (service : List ℕ) (answer : Rust.Option (Bor (List ℕ))) →
      row (ascii "service=") n u ≡ row_told service answer → tables_of n t ≡ tables_told (tables n legs latest service) answer
  unfolding tables_of bind
  service_told latest_read service None e = rw (legs_read, latest_read, e)
  service_told latest_read service (Some rest) e = rw (legs_read, latest_read, e)
