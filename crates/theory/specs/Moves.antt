-- The moves of document 01, after Lin (1965): patterns (an order of the segments and a mask of those reversed) and cut sets, both in the order in which
-- the scan takes them. A segment is document 01's piece.
use mathlib.Core.List.{List, [], ◌∷◌, ◌++◌, map, flat_map, tail}
use Rattle.std.specs.Prelude.{ℕ, zero, suc, ◌+◌, ◌*◌, ◌^◌, ◌≤◌, length, leb, true, false}
use Rattle.std.proofs.Math.Option.{Option, none, some}

-- from, from + 1, ..: n numbers
unfoldable pub upfrom : ℕ → ℕ → List ℕ
upfrom from zero = []
upfrom from (suc n) = from ∷ upfrom (suc from) n

-- The sum of a quantity over a list.
unfoldable pub total : (ℕ → ℕ) → List ℕ → ℕ
total g [] = 0
total g (x ∷ xs) = g x + total g xs

-- Each element of a list, taken out, with the others in their order.
unfoldable pub picks : List ℕ → List (ℕ × List ℕ)
picks [] = []
picks (x ∷ xs) = (x, xs) ∷ map (λ p. (p.0, x ∷ p.1)) (picks xs)

-- The orders of n segments: "a recursion that takes out one piece and orders the rest". Dictionary order where the segments rise.
unfoldable pub orders : ℕ → List ℕ → List (List ℕ)
unfolding picks flat_map
orders zero l = [] ∷ []
orders (suc n) l = flat_map (λ p. map (λ o. p.0 ∷ o) (orders n p.1)) (picks l)

-- "k cuts make k + 1 pieces, numbered from 0": the order holds all of them; "bit i turns piece i".
pub record Pattern : Type 0 where
  pub order : List ℕ
  pub mask : ℕ

-- For m + 1 cuts: "Piece 0 stays first and piece k last, both unturned"; "for each order the turn masks 0 to 2^(k−1) − 1 follow, shifted left by one".
unfoldable pub arrangements : ℕ → List Pattern
unfolding upfrom orders flat_map
arrangements zero = []
arrangements (suc m) = flat_map (λ o. map (λ t. record { order = 0 ∷ (o ++ (suc m ∷ [])); mask = 2 * t }) (upfrom 0 (2 ^ m))) (orders m (upfrom 1 m))

-- "The pattern that changes nothing is dropped": it is the first.
unfoldable pub patterns : ℕ → List Pattern
unfolding arrangements
patterns k = tail (arrangements k)

-- The parts of a list that have k elements, in dictionary order of their places.
unfoldable pub combinations : List ℕ → ℕ → List (List ℕ)
combinations [] zero = [] ∷ []
combinations [] (suc k) = []
combinations (x ∷ xs) zero = [] ∷ []
combinations (x ∷ xs) (suc k) = map (λ s. x ∷ s) (combinations xs k) ++ combinations xs (suc k)

-- "Strictly rising positions from 0 to n", k of them: "First 0..k−1, then dictionary order".
unfoldable pub cut_sets : ℕ → ℕ → List (List ℕ)
unfolding combinations upfrom
cut_sets k n = combinations (upfrom 0 (suc n)) k

-- The running form: the last cut that can move up moves, and those after it follow on; none "after the last set".
unfoldable pub next_cuts : ℕ → List ℕ → Option (List ℕ)
unfolding upfrom
next_cuts n [] = none
next_cuts n (c ∷ cs) =
    elim (next_cuts n cs) [
      | some cs' ↦ some (c ∷ cs')
      | none ↦ elim (leb (c + suc (length cs)) n) [ true ↦ some (upfrom (suc c) (suc (length cs))) | false ↦ none ]
    ]

pub record Move : Type 0 where
  pub cuts : List ℕ
  pub pattern : Pattern

-- "All patterns on a cut set, then the next cut set."
unfoldable pub candidates : List Pattern → List (List ℕ) → List Move
unfolding flat_map
candidates ps css = flat_map (λ cs. map (λ p. record { cuts = cs; pattern = p }) ps) css

-- Whichever cuts a rival takes: "strictly rising positions", here from `low` to n.
abbrev pub Rising : ℕ → List ℕ → ℕ → Type 0
Rising low [] n = Unit {0}
Rising low (c ∷ cs) n = (low ≤ c) × (c ≤ n) × Rising (suc c) cs n

-- How many k-element parts n things have.
unfoldable pub binomial : ℕ → ℕ → ℕ
binomial n zero = 1
binomial zero (suc k) = 0
binomial (suc n) (suc k) = binomial n k + binomial n (suc k)

unfoldable pub factorial : ℕ → ℕ
factorial zero = 1
factorial (suc n) = suc n * factorial n
