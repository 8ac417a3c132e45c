-- Sets of places as words: bit y is set where place y is in the set.
use Rattle.std.specs.Prelude.{◌≡◌, Bool, true, false, ℕ, ◌≤◌, ◌<◌}
use Rattle.theory.specs.Route.{reverses}

abbrev pub Has : ℕ → ℕ → Type 0
Has word y = reverses word y ≡ true

-- The set of one place.
pub record OnePlace (place r : ℕ) : Type 0 where
  pub here : Has r place
  pub only : (q : ℕ) → (q ≡ place → ⊥) → reverses r q ≡ false

-- The least place of a set.
pub record Least (word r : ℕ) : Type 0 where
  pub least : (y : ℕ) → y < 64 → Has word y → r ≤ y
  pub small : r ≤ 64

-- "No" says that the sets have no place in common.
abbrev pub Apart : ℕ → ℕ → Bool → Type 0
Apart a b r = r ≡ false → (y : ℕ) → Has a y → Has b y → ⊥
