-- One turn of the enumeration: an order and a pattern put into their places.
use Rattle.std.specs.Prelude.{◌≡◌, ℕ, ◌+◌, ◌-◌, ◌*◌, ◌≤◌, ◌<◌, length, take, set}
use mathlib.Core.List.{List, flatten}
use Rattle.std.proofs.lemmas.List.Edits.{sets}
use Rattle.theory.specs.Moves.{orders, upfrom}
use Rattle.patterns.specs.Enumeration.{Listed, pattern}

-- "The middle orders come in dictionary order"
abbrev pub middle_orders : ℕ → List (List ℕ)
middle_orders k = orders (k - 1) (upfrom 1 (k - 1))

-- "Piece 0 stays first and piece k last": k - 1 middle segments, and room for the k + 1 bytes.
pub record OrderRoom (middle : List ℕ) (k : ℕ) (out : List ℕ) (at : ℕ) : Type 0 where
  pub few : k ≤ 5
  pub middles : length middle + 1 ≡ k
  pub room : at + k < length out

-- One turn of the enumeration: the permutations begin with the middle orders, one after the other.
pub record Ready (k index : ℕ) (permutations orders₀ masks₀ : List ℕ) : Type 0 where
  pub listed : Listed k index
  pub permuted : take (length (flatten (middle_orders k))) permutations ≡ flatten (middle_orders k)
  pub order : (index + 1) * (k + 1) ≤ length orders₀
  pub mask : index < length masks₀

-- The pattern is in its places.
pub record Put (k index : ℕ) (orders₀ masks₀ orders' masks' : List ℕ) : Type 0 where
  pub order : orders' ≡ sets orders₀ (index * (k + 1)) (pattern k index).order
  pub mask : masks' ≡ set masks₀ index (pattern k index).mask
