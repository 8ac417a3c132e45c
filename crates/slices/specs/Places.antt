-- The places of the scan: each candidate by its cuts and the index of its pattern, and the candidates from one on.
use Rattle.std.specs.Prelude.{Bool, true, false, cond, ◌&&◌, ◌≡◌, List, [], ◌∷◌, ◌++◌, ℕ, suc, ◌+◌, ◌*◌, ◌/◌, ◌%◌, ◌<◌, eqb, leb, ltb, length, get_or, take, drop}
use Rattle.std.proofs.Math.Option.{Option, none, some}
use Rattle.theory.specs.Moves.{Pattern, Move, Rising, upfrom, cut_sets, next_cuts, candidates}
use Rattle.theory.specs.Refusals.{Rule, pattern_index, cut_positions, room}

-- "A place is k cuts and a pattern index: the next candidate to be examined."
pub record Place : Type 0 where
  pub cuts : List ℕ
  pub index : ℕ

-- Where the scan begins: the first cut set with the first pattern.
abbrev pub first_place : ℕ → Place
first_place k = record { cuts = upfrom 0 k; index = 0 }

-- k strictly rising positions from 0 to n, and the index of a pattern of the list.
pub record IsPlace (ps : List Pattern) (k n : ℕ) (p : Place) : Type 0 where
  pub many : length p.cuts ≡ k
  pub rising : Rising 0 p.cuts n
  pub known : p.index < length ps

-- The same cuts.
unfoldable pub same_cuts : List ℕ → List ℕ → Bool
same_cuts [] [] = true
same_cuts [] (y ∷ ys) = false
same_cuts (x ∷ xs) [] = false
same_cuts (x ∷ xs) (y ∷ ys) = eqb x y && same_cuts xs ys

-- How many cut sets of a list come before the cuts.
unfoldable pub sets_before : List ℕ → List (List ℕ) → ℕ
unfolding same_cuts
sets_before cs [] = 0
sets_before cs (s ∷ css) = cond (same_cuts s cs) 0 (suc (sets_before cs css))

-- How many candidates come before a place: all patterns on each cut set before its cuts, and the patterns before its own.
unfoldable pub number_of : List Pattern → ℕ → ℕ → Place → ℕ
unfolding sets_before cut_sets
number_of ps k n p = sets_before p.cuts (cut_sets k n) * length ps + p.index

-- The place with so many candidates before it.
unfoldable pub place_of : List Pattern → ℕ → ℕ → ℕ → Place
unfolding cut_sets
place_of ps k n x = record { cuts = get_or (cut_sets k n) (x / length ps) []; index = x % length ps }

-- What is left of the candidates from a place on, and those before it.
abbrev pub from_place : List Pattern → ℕ → ℕ → Place → List Move
from_place ps k n p = drop (number_of ps k n p) (candidates ps (cut_sets k n))

abbrev pub before_place : List Pattern → ℕ → ℕ → Place → List Move
before_place ps k n p = take (number_of ps k n p) (candidates ps (cut_sets k n))

-- The place behind one: the next pattern on its cuts, or the first pattern on the next cut set; none behind the last.
abbrev pub next_place : List Pattern → ℕ → Place → Option Place
next_place ps n p =
    cond (ltb (suc p.index) (length ps)) (some (record { cuts = p.cuts; index = suc p.index }))
    (elim (next_cuts n p.cuts) [ some cs ↦ some (record { cuts = cs; index = 0 }) | none ↦ none ])

-- ---- as lent numbers: the k cuts, then the index

abbrev pub place_in : ℕ → List ℕ → Place
place_in k numbers = record { cuts = take k numbers; index = get_or numbers k 0 }

-- "Places beyond kept."
abbrev pub with_place : Place → List ℕ → List ℕ
with_place p numbers = p.cuts ++ (p.index ∷ drop (suc (length p.cuts)) numbers)

-- "With k > n + 1 finished at once whatever the place holds": a rule that plays no part there.
abbrev pub where_cut : (k n : ℕ) → Rule → Rule
where_cut k n r = (r.0, leb k (suc n) && r.1)

-- "6 and 7 for a place that is none"; and 21 where less than k + 1 numbers are lent.
abbrev pub place_rules : (k n : ℕ) → List ℕ → List Rule
place_rules k n numbers = where_cut k n (pattern_index k (get_or numbers k 0)) ∷ where_cut k n (cut_positions k n (take k numbers)) ∷ room (suc k) (length numbers) ∷ []
