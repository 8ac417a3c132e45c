-- The index of a pattern in closed form, without a search: "the middle orders come in dictionary order; for each order the turn masks 0 to 2^(k−1) − 1 follow,
-- shifted left by one. The pattern that changes nothing is dropped."
use Rattle.std.specs.Prelude.{cond, List, [], ◌∷◌, ℕ, ◌+◌, ◌-◌, ◌*◌, ◌/◌, ◌^◌, ltb, length, take, drop}
use Rattle.theory.specs.Moves.{total, factorial, Pattern}

-- How many of a list are below x.
unfoldable pub below : ℕ → List ℕ → ℕ
unfolding total
below x l = total (λ y. cond (ltb y x) 1 0) l

-- How many orders of the same numbers come before this one in dictionary order: with a lower first number, each with any order of the others; or with the same.
unfoldable pub rank : List ℕ → ℕ
unfolding below factorial
rank [] = 0
rank (x ∷ o) = below x o * factorial (length o) + rank o

-- The segments between the first and the last.
abbrev pub middle_of : ℕ → Pattern → List ℕ
middle_of k p = take (k - 1) (drop 1 p.order)

-- The index among the arrangements: behind the masks of all orders before its own.
abbrev pub arrangement_of : ℕ → Pattern → ℕ
arrangement_of k p = rank (middle_of k p) * 2 ^ (k - 1) + p.mask / 2

-- Among the patterns: the first arrangement is dropped.
abbrev pub index_of : ℕ → Pattern → ℕ
index_of k p = arrangement_of k p - 1
