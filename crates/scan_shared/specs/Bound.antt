-- What the cut sets with the same first k - 1 cuts share. P is the last middle segment, which the last cut ends: state p is P as it stands, p + 1 is P
-- reversed. The other states, the head and the first stop of P do not move with the last cut.
use Rattle.std.specs.Prelude.{cond, List, [], ◌∷◌, ◌++◌, ℕ, suc, ◌+◌, ◌-◌, ◌*◌, eqb, ltb, length, get_or}
use Rattle.theory.specs.Costs.{last_of, first_of, inner}

-- The cost of a row of states in a table: from state a along the states listed, and at last to the tail.
unfoldable pub chain_by : (ℕ → ℕ → ℕ) → ℕ → List ℕ → ℕ
chain_by t a [] = t a 8
chain_by t a (b ∷ bs) = t a b + chain_by t b bs

-- What follows in a row: a state, or the tail.
abbrev pub next_state : List ℕ → ℕ
next_state [] = 8
next_state (b ∷ bs) = b

-- The class of a row that comes from state a: the state that follows P as it stands, or 10 + the state that P reversed follows.
unfoldable pub class : ℕ → ℕ → List ℕ → ℕ
class p a [] = 8
class p a (b ∷ bs) = cond (eqb b p) (next_state bs) (cond (eqb b (suc p)) (10 + a) (class p b bs))

-- The stop at which the head (9) or a state is left; a state is a part of the route, as it is placed.
abbrev pub exit_of : (ℕ → List ℕ) → ℕ → ℕ → ℕ
exit_of part head a = cond (eqb a 9) head (last_of 0 (part a))

-- The joint table of a cut set, as a function: from the exit of a to the entry of b, and the legs inside b; 8 is the tail.
abbrev pub joint_by : (ℕ → ℕ → ℕ) → (ℕ → List ℕ) → ℕ → ℕ → ℕ → ℕ → ℕ
joint_by d part head tail a b = d (exit_of part head a) (cond (eqb b 8) tail (first_of (part b) 0)) + cond (eqb b 8) 0 (inner d (part b))

-- The same where what the last cut moves is 0: the way into P reversed, the way on from P as it stands, and the way to the tail.
abbrev pub fixed_by : (ℕ → ℕ → ℕ) → (ℕ → List ℕ) → ℕ → ℕ → ℕ → ℕ → ℕ
fixed_by d part p head a b = cond (ltb p b) 0 (cond (eqb a p) 0 (d (exit_of part head a) (first_of (part b) 0) + inner d (part b)))

-- The first cut set with the first cuts `pre`: P is one stop long.
abbrev pub opened : List ℕ → List ℕ
opened pre = pre ++ (suc (get_or pre (length pre - 1) 0) ∷ [])

-- State p: P as it stands.
abbrev pub last_state : List ℕ → ℕ
last_state pre = 2 * (length pre - 1)
