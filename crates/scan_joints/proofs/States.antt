-- The states of the middle segments: which segment a state places, and the row of the standing order. Assumes nothing.
use mathlib.Core.Path.{◌≡◌, refl, ap₂}
use mathlib.Core.Bool.{Bool, true, false, cond}
use mathlib.Core.List.{List, [], ◌∷◌, map, Memᴰ}
use Prim.Native.Nat.{ℕ, ◌+◌, ◌-◌, ◌*◌, ◌/◌, ◌%◌, ◌≤◌, ◌<◌}
use native.Mathlib.Omega.{arith}
use native.Mathlib.Decide.{ℕ_discrete}
use borrow.Author.Tests.{eq-eqb, ne_eqb}
use lib.Dec.{eqb}
use lib.ListN.{get_or}
use Rattle.theory.specs.Moves.{upfrom}
use Rattle.theory.specs.Route.{segments, reverses, reverse_if, placed}
use Rattle.scan_joints.specs.States.{state_count, state_of, placed_in, standing_row}

-- The two states of segment i.
pub part_at : (cs r : List ℕ) (s i : ℕ) (b : Bool) → 1 ≤ i → s ≡ 2 * (i - 1) + cond b 1 0 → placed_in cs r s ≡ reverse_if b (get_or (segments 0 cs r) i [])
unfolding placed_in
part_at cs r s i true h e =
    let odd : s % 2 ≡ 1 = omega arith in
    let of : 1 + s / 2 ≡ i = omega arith in
    rw (eq-eqb (s % 2) 1 odd, of)
part_at cs r s i false h e =
    let even : s % 2 ≡ 0 = omega arith in
    let of : 1 + s / 2 ≡ i = omega arith in
    rw (ne_eqb (s % 2) 1 (λ (q : s % 2 ≡ 1). omega arith), of)

-- The segment of a state, and whether it is reversed.
pub halves : (s : ℕ) → s ≡ 2 * (1 + s / 2 - 1) + cond (eqb (s % 2) 1) 1 0
halves s = by (ℕ_discrete (s % 2) 1)
  where
    by : Dec (s % 2 ≡ 1) → s ≡ 2 * (1 + s / 2 - 1) + cond (eqb (s % 2) 1) 1 0
    by (yes e) = rw (eq-eqb (s % 2) 1 e) (omega arith)
    by (no e) = rw (ne_eqb (s % 2) 1 e) (omega arith)

pub state_below : (k mask i : ℕ) → 1 ≤ i → i < k → state_of mask i < state_count k
unfolding state_of
state_below k mask i h l = by (reverses mask i)
  where
    by : (b : Bool) → 2 * (i - 1) + cond b 1 0 < 2 * (k - 1)
    by true = omega arith
    by false = omega arith

-- The states of segments place them.
pub placed_states : (cs r : List ℕ) (mask : ℕ) (o : List ℕ) → ((i : ℕ) → Memᴰ i o → 1 ≤ i) → map (placed_in cs r) (map (state_of mask) o) ≡ placed mask (segments 0 cs r) o
unfolding placed state_of
placed_states cs r mask [] h = refl
placed_states cs r mask (i ∷ o) h =
    ap₂ ◌∷◌ (part_at cs r _ i (reverses mask i) (h i (Memᴰ.head refl)) refl) (placed_states cs r mask o (λ j m. h j (Memᴰ.tail m)))

-- ---- the standing order

pub standing_two : standing_row 2 ≡ 0 ∷ 8 ∷ 8 ∷ 8 ∷ []
unfolding standing_row upfrom state_of reverses
standing_two = refl

pub standing_three : standing_row 3 ≡ 0 ∷ 2 ∷ 8 ∷ 8 ∷ []
unfolding standing_row upfrom state_of reverses
standing_three = refl

pub standing_four : standing_row 4 ≡ 0 ∷ 2 ∷ 4 ∷ 8 ∷ []
unfolding standing_row upfrom state_of reverses
standing_four = refl

pub standing_five : standing_row 5 ≡ 0 ∷ 2 ∷ 4 ∷ 6 ∷ []
unfolding standing_row upfrom state_of reverses
standing_five = refl
