-- What a reader puts into lent bytes, and what a writer takes of them.
use Rattle.std.specs.Prelude.{◌≡◌, ℕ, List, take, drop, ⊤, None, Some}
use Rattle.std.specs.declared.option.Option.{Option}
use Rattle.std.specs.Io.KnownBytes.{Appends, Consumes}

-- the bytes are the reader's first ones, as many as there is room for, or all; the reader keeps the others
abbrev pub ReadsFirst : Option (List ℕ) → Option (List ℕ) → (room : ℕ) → List ℕ → Type 0
ReadsFirst None new room bytes = ⊤
ReadsFirst (Some held) None room bytes = ⊥
ReadsFirst (Some held) (Some kept) room bytes = (bytes ≡ take room held) × (kept ≡ drop room held)

-- some first part of the bytes is what the reader gave
abbrev pub ConsumesPart : Option (List ℕ) → Option (List ℕ) → List ℕ → Type 0
ConsumesPart old new bytes = (n : ℕ) × Consumes old new (take n bytes)

-- some first part of the bytes is what the writer got
abbrev pub WritesPart : Option (List ℕ) → Option (List ℕ) → List ℕ → Type 0
WritesPart old new bytes = (n : ℕ) × Appends old new (take n bytes)
