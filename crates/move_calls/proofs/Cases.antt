-- Doable and apply on the same cuts: "it passes unordered cuts if one names another round, apply refuses them". Assumes nothing.
use mathlib.Core.Path.{◌≡◌, refl}
use mathlib.Core.Bool.{Bool, true, false}
use mathlib.Core.List.{List, [], ◌∷◌, map}
use Prim.Native.Nat.{ℕ}
use Rattle.theory.specs.Moves.{patterns, arrangements, orders, picks, upfrom}
use Rattle.theory.specs.Refusals.{rises, either, rules_of, first_in, refusal}
use Rattle.move_applying.specs.Applying.{doable}
use Rattle.move_calls.specs.Entries.{do_move_rules}

-- Two cuts of round 0, which has 4 stops, with the first pattern and a journal of 5: whether it is doable, and apply's number.
abbrev pub told : List ℕ × List ℕ → Bool × ℕ
told c = (doable 2 0 4 c.0 c.1, refusal (do_move_rules 2 0 0 4 c.0 c.1 5))

-- Unordered and of another round; of another round; own and unordered; above n; equal; one cut; unequal lists; in order.
pub cases : map told
    ((7 ∷ 0 ∷ [], 3 ∷ 1 ∷ []) ∷ (7 ∷ 0 ∷ [], 1 ∷ 3 ∷ []) ∷ (0 ∷ 0 ∷ [], 3 ∷ 1 ∷ []) ∷ (0 ∷ 0 ∷ [], 1 ∷ 5 ∷ []) ∷ (0 ∷ 0 ∷ [], 2 ∷ 2 ∷ []) ∷ (0 ∷ [], 1 ∷ []) ∷ (0 ∷ [], 1 ∷ 3 ∷ []) ∷ (0 ∷ 0 ∷ [], 0 ∷ 4 ∷ []) ∷ [])
    ≡ ((true, 7) ∷ (true, 8) ∷ (false, 7) ∷ (false, 7) ∷ (false, 7) ∷ (false, 7) ∷ (false, 7) ∷ (true, 0) ∷ [])
unfolding patterns arrangements orders picks upfrom rises either rules_of first_in refusal
cases = refl
