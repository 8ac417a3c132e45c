-- The rule by which the questions of the stored answers are drawn.
use Rattle.std.specs.Prelude.{cond, List, [], ◌∷◌, ℕ, zero, suc, ◌+◌, ◌*◌, ◌/◌, ◌%◌, eqb, pos, Float}
use Rattle.std.specs.Float.{binary64}
use Rattle.std.specs.Float.Ieee.{of_int}

-- The number that follows: a linear congruence of 16 bits.
abbrev pub following : ℕ → ℕ
following state = (state * 25173 + 13849) % 65536

-- What a number gives between 0 and span, without its lowest bits, which repeat soonest.
abbrev pub drawn : ℕ → ℕ → ℕ
drawn span state = (state / 8) % (span + 1)

-- So many of them, from the one behind the seed on, each as f has it.
unfoldable pub all_drawn : {A : Type 0} → (ℕ → A) → ℕ → ℕ → ℕ → List A
all_drawn f span seed zero = []
all_drawn f span seed (suc n) = f (drawn span (following seed)) ∷ all_drawn f span (following seed) n

-- As a number, and as a float.
abbrev pub itself : ℕ → ℕ
itself n = n

abbrev pub float : ℕ → Float
float n = of_int binary64 (pos n)

-- Every third seed has an allowance that is spent.
abbrev pub allowance : ℕ → ℕ
allowance seed = cond (eqb (seed % 3) 2) (seed * 20) 1000000

abbrev pub cut_count : ℕ → ℕ
cut_count seed = 2 + seed % 4
