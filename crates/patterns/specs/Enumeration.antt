-- What callers of `patterns` show and are told.
use Rattle.std.specs.Prelude.{◌≡◌, ℕ, ◌+◌, ◌-◌, ◌*◌, ◌≤◌, ◌<◌, length, get_or, drop, replicate}
use mathlib.Core.List.{List, [], ◌++◌, map, flatten}
use Rattle.theory.specs.Moves.{Pattern, patterns}
use Rattle.theory.specs.declared.KOptReconnection.{KOptReconnection}

-- "1: k outside 2 to 5."
pub record CutCount (k : ℕ) : Type 0 where
  pub least : 2 ≤ k
  pub most : k ≤ 5

-- "There are 1, 7, 47, 383 patterns for k = 2, 3, 4, 5": room for the longest list, in rows of k + 1 bytes.
pub record PatternRoom (k : ℕ) (orders₀ masks₀ : List ℕ) : Type 0 where
  pub cuts : CutCount k
  pub orders : 2298 ≤ length orders₀
  pub masks : 383 ≤ length masks₀

-- The orders of a list of patterns, one after the other, and its masks.
abbrev pub orders_of : List Pattern → List ℕ
orders_of ps = flatten (map (λ p. p.order) ps)

abbrev pub masks_of : List Pattern → List ℕ
masks_of ps = map (λ p. p.mask) ps

-- All patterns are there, and the places beyond keep their contents.
pub record Enumerated (k : ℕ) (orders₀ masks₀ : List ℕ) (r : ℕ) (orders' masks' : List ℕ) : Type 0 where
  pub count : r ≡ length (patterns k)
  pub orders : orders' ≡ orders_of (patterns k) ++ drop (length (patterns k) * (k + 1)) orders₀
  pub masks : masks' ≡ masks_of (patterns k) ++ drop (length (patterns k)) masks₀

-- What stands past the end of a list of patterns.
abbrev pub no_pattern : Pattern
no_pattern = record { order = []; mask = 0 }

-- "indexed from 0"
abbrev pub pattern : ℕ → ℕ → Pattern
pattern k index = get_or (patterns k) index no_pattern

-- "6: pattern index not below the count for k."
pub record Listed (k index : ℕ) : Type 0 where
  pub cuts : CutCount k
  pub known : index < length (patterns k)

-- The struct holds the pattern, with 0 in the unused of six places.
pub record HoldsPattern (k : ℕ) (p : Pattern) (r : KOptReconnection) : Type 0 where
  pub order : r.segment_order ≡ p.order ++ replicate (5 - k) 0
  pub mask : r.reverse_mask ≡ p.mask
  pub segments : r.len ≡ k + 1
