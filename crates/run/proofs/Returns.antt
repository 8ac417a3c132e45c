-- What the functions of a round answer at each return. Assumes nothing.
use mathlib.Core.Path.{◌≡◌, refl, ◌∙◌}
use mathlib.Core.Bool.{Bool, cond}
use mathlib.Core.List.{List, ◌++◌}
use Prim.Native.Nat.{ℕ, ◌≤◌, ◌<◌}
use lib.ListN.{length, take}
use lib.Seq.{take_at}
use borrow.Author.Tests.{eq-eqb, ne_eqb, lt-ltb, le-ltb}
use Rattle.theory.specs.Moves.{patterns}
use Rattle.theory.specs.Route.{Problem}
use Rattle.theory.specs.Answers.{reply_of, Polishes}
use Rattle.theory.specs.declared.Polished.{Polished}
use Rattle.theory.specs.declared.RoundState.{RoundState}
use Rattle.theory.specs.declared.RoundState.TheVariants as State
use Rattle.run_numbers.specs.States.{state_told, is_spent}
use Rattle.rounds.specs.Turn.{kept, take_turn, TookTurn}
use Rattle.run.specs.Round.{RoundRan}
use Rattle.run.proofs.Facts.{as_turn, not_reached, round_ran}

-- The copy holds the route, whatever stands behind it.
pub copied : (r copy rest : List ℕ) → copy ≡ r → take (length r) (copy ++ rest) ≡ r
copied r copy rest e = rw e (take_at r rest (length r) refl)

-- ---- a turn

module _ (P : Problem) (k given pin : ℕ) (r : List ℕ) where
  pub pinned : ¬ (pin ≡ 0) → TookTurn P k given pin r State.Pinned r
  unfolding take_turn
  pinned b = record { state_is = rw (ne_eqb pin 0 b); route_is = rw (ne_eqb pin 0 b) }

  module _ (b : pin ≡ 0) where
    pub short : length r < 4 → TookTurn P k given pin r State.Short r
    unfolding take_turn
    short c = record { state_is = rw (eq-eqb pin 0 b, lt-ltb (length r) 4 c); route_is = rw (eq-eqb pin 0 b, lt-ltb (length r) 4 c) }

    pub polished : 4 ≤ length r → (answer : Polished) (r' : List ℕ) → Polishes P (patterns k) k given r answer r' → (state : RoundState) → state ≡ state_told answer →
        TookTurn P k given pin r state r'
    unfolding take_turn
    polished c answer r' a state s =
        record {
          state_is = rw (eq-eqb pin 0 b, le-ltb (length r) 4 c, ← a.scan) (s ∙ as_told answer);
          route_is = rw (eq-eqb pin 0 b, le-ltb (length r) 4 c, ← a.scan) (its_route answer);
        }
      where
        as_told : (answer : Polished) → state_told answer ≡ (kept (reply_of answer r')).state
        as_told (Polished.Finished c) = refl
        as_told (Polished.Spent c) = refl

        its_route : (answer : Polished) → r' ≡ (kept (reply_of answer r')).route
        its_route (Polished.Finished c) = refl
        its_route (Polished.Spent c) = refl

-- ---- a round of a run

module _ (P : Problem) (k left pin : ℕ) (r : List ℕ) (h : 2 ≤ k) where
  pub stopped : left ≡ 0 → RoundRan P k left pin r State.NotReached r
  stopped z = round_ran P k left pin r State.NotReached r h (rw (not_reached P k left pin r z)) (rw (not_reached P k left pin r z))

  -- The turn, and the route after it: kept, or put back from the copy.
  pub turned : ¬ (left ≡ 0) → (state : RoundState) (r' old r'' : List ℕ) (spent : Bool) → TookTurn P k left pin r state r' → old ≡ r → spent ≡ is_spent state →
      r'' ≡ cond spent old r' → RoundRan P k left pin r state r''
  turned n state r' old r'' spent t o s e =
      round_ran P k left pin r state r'' h (rw (as_turn P k left pin r n) t.state_is) (rw (as_turn P k left pin r n, ← t.state_is, ← t.route_is) (rw (s, o) at e))
