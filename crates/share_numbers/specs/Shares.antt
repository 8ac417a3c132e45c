-- Document 02, "Shares of the allowance": a dispatcher over the run's rounds.
use Rattle.std.specs.Prelude.{Bool, cond, ◌&&◌, List, [], ◌∷◌, map, ℕ, zero, suc, ◌+◌, ◌-◌, ◌/◌, ◌%◌, eqb, leb, length, get_or, take}
use Rattle.theory.specs.Moves.{total, upfrom}
use Rattle.theory.specs.Tables.{problem}
use Rattle.run_numbers.specs.States.{examined_of}
use Rattle.rounds.specs.Rounds.{Given, unasked, Outcome, in_turn}
use Rattle.rounds.specs.Turn.{take_turn}

-- "Of the rounds free and of 4 stops or more": those that take a share.
abbrev pub takes_part : Given → Bool
takes_part g = eqb g.pin 0 && leb 4 (length g.route)

-- "Their number."
unfoldable pub takers : List Given → ℕ
takers [] = 0
takers (g ∷ gs) = cond (takes_part g) 1 0 + takers gs

-- "The allowance divided by their number, rounded down"; "with no such round there is nothing to do".
abbrev pub each : (allowance takers : ℕ) → ℕ
each allowance takers = cond (eqb takers 0) 0 (allowance / takers)

abbrev pub remainder : (allowance takers : ℕ) → ℕ
remainder allowance takers = cond (eqb takers 0) 0 (allowance % takers)

-- The share of round i: "the remainder of that division goes whole to the first of them", before which none takes part.
unfoldable pub share_of : (allowance : ℕ) → List Given → ℕ → ℕ
unfolding takers
share_of allowance gs i =
    cond (takes_part (get_or gs i unasked))
    (each allowance (takers gs) + cond (eqb (takers (take i gs)) 0) (remainder allowance (takers gs)) 0)
    0

-- A round's turn with so many candidates.
abbrev pub turn_of : (k given : ℕ) → Given → Outcome
turn_of k given g = take_turn (problem g.trip) k given g.pin g.route

-- "What earlier ones left over", before round i: of what the one before it was given, what it did not examine. A round that takes no part examines nothing.
unfoldable pub left_over : (k allowance : ℕ) → List Given → ℕ → ℕ
unfolding share_of
left_over k allowance gs zero = 0
left_over k allowance gs (suc i) =
    let given = share_of allowance gs i + left_over k allowance gs i in
    given - examined_of (turn_of k given (get_or gs i unasked)).state

-- "Each is given .., plus what earlier ones left over." Past a round that takes no part, only that goes.
unfoldable pub given_to : (k allowance : ℕ) → List Given → ℕ → ℕ
unfolding share_of left_over
given_to k allowance gs i = share_of allowance gs i + left_over k allowance gs i

-- Every round in its turn: "a spent round keeps its accepted changes here .., and the next one still starts".
unfoldable pub in_shares : (k allowance : ℕ) → List Given → List Outcome
unfolding given_to upfrom
in_shares k allowance gs = map (λ i. turn_of k (given_to k allowance gs i) (get_or gs i unasked)) (upfrom 0 (length gs))

-- ---- the running form

-- Told by the pin and the number of stops.
abbrev pub own_by : (each pin stops : ℕ) → ℕ
own_by each pin stops = cond (eqb pin 0 && leb 4 stops) each 0

unfoldable pub takers_by : (pins lengths : List ℕ) → (n : ℕ) → ℕ
unfolding total upfrom
takers_by pins lengths n = total (λ i. own_by 1 (get_or pins i 0) (get_or lengths i 0)) (upfrom 0 n)

-- One round after the other: what is left over goes on from each to the next, and at the start it is the remainder.
abbrev pub own : (each : ℕ) → Given → ℕ
own each g = own_by each g.pin (length g.route)

abbrev pub shared_turn : (k each left : ℕ) → Given → Outcome
shared_turn k each left g = turn_of k (left + own each g) g

abbrev pub left_after : (k each left : ℕ) → Given → ℕ
left_after k each left g = left + own each g - examined_of (shared_turn k each left g).state

unfoldable pub dispatch : (k allowance : ℕ) → List Given → List Outcome
unfolding in_turn takers
dispatch k allowance gs =
    in_turn (shared_turn k (each allowance (takers gs))) (left_after k (each allowance (takers gs))) (remainder allowance (takers gs)) gs
