-- The running form is the definition. Assumes nothing.
use mathlib.Core.Path.{◌≡◌, refl, ap, ◌∙◌}
use mathlib.Core.Bool.{Bool, true, false, cond}
use mathlib.Core.List.{List, [], ◌∷◌, map}
use Prim.Native.Nat.{ℕ, zero, suc, ◌+◌, ◌<◌}
use native.Mathlib.Nat.{zero-add}
use native.Mathlib.Omega.{arith}
use lib.Dec.{eqb}
use lib.ListN.{length, get_or, take, drop, drop_of_length-le}
use lib.Seq.{drop-cons}
use borrow.Author.Tests.{ne_eqb}
use Rattle.theory.specs.Moves.{upfrom}
use Rattle.theory.specs.Tables.{problem}
use Rattle.run_numbers.specs.States.{examined_of}
use Rattle.rounds.specs.Rounds.{Given, unasked, Outcome, in_turn}
use Rattle.rounds.proofs.Turn.{same_over, passed_over}
use Rattle.share_numbers.specs.Shares.{takes_part, takers, each, remainder, share_of, turn_of, left_over, given_to, in_shares, own, shared_turn, left_after, dispatch}

pub takers_more : (gs : List Given) (i : ℕ) → i < length gs → takers (take (suc i) gs) ≡ takers (take i gs) + cond (takes_part (get_or gs i unasked)) 1 0
unfolding takers
takers_more [] i h = absurd (omega arith)
takers_more (g ∷ gs) zero h = omega arith
takers_more (g ∷ gs) (suc i) h = omega (arith, takers_more gs i (omega arith))

module _ (k A : ℕ) (gs : List Given) where
  abbrev q : ℕ
  q = each A (takers gs)

  abbrev r : ℕ
  r = remainder A (takers gs)

  -- The remainder, until the first that takes part has it.
  abbrev ahead : ℕ → ℕ
  ahead i = cond (eqb (takers (take i gs)) 0) r 0

  module _ (i : ℕ) (h : i < length gs) where
    abbrev g : Given
    g = get_or gs i unasked

    same_given : takes_part g ≡ true → given_to k A gs i ≡ left_over k A gs i + ahead i + own q g
    unfolding given_to share_of
    same_given t = rw t (omega arith)

    no_share : takes_part g ≡ false → share_of A gs i ≡ 0
    unfolding share_of
    no_share t = rw t

    none_ahead : takes_part g ≡ true → ahead (suc i) ≡ 0
    none_ahead t =
        let e : takers (take (suc i) gs) ≡ takers (take i gs) + cond (takes_part g) 1 0 = takers_more gs i h in
        let f : takers (take (suc i) gs) ≡ takers (take i gs) + 1 = rw t at e in
        rw (ne_eqb (takers (take (suc i) gs)) 0 (λ z. omega (arith, f, z)))

    still_ahead : takes_part g ≡ false → ahead (suc i) ≡ ahead i
    still_ahead t =
        let e : takers (take (suc i) gs) ≡ takers (take i gs) + cond (takes_part g) 1 0 = takers_more gs i h in
        let f : takers (take (suc i) gs) ≡ takers (take i gs) = rw t at e ∙ omega arith in
        rw f

    same_turn : turn_of k (given_to k A gs i) g ≡ shared_turn k q (left_over k A gs i + ahead i) g
    same_turn = by (takes_part g) refl
      where
        by : (b : Bool) → takes_part g ≡ b → turn_of k (given_to k A gs i) g ≡ shared_turn k q (left_over k A gs i + ahead i) g
        by true t = ap (λ (n : ℕ). turn_of k n g) (same_given t)
        by false t = same_over (problem g.trip) k g.pin g.route t _ _

    same_left : left_over k A gs (suc i) + ahead (suc i) ≡ left_after k q (left_over k A gs i + ahead i) g
    unfolding left_over given_to
    same_left = by (takes_part g) refl
      where
        e : ℕ
        e = examined_of (turn_of k (given_to k A gs i) g).state

        e' : ℕ
        e' = examined_of (shared_turn k q (left_over k A gs i + ahead i) g).state

        ee : e ≡ e'
        ee = ap (λ (o : Outcome). examined_of o.state) same_turn

        by : (b : Bool) → takes_part g ≡ b → left_over k A gs (suc i) + ahead (suc i) ≡ left_after k q (left_over k A gs i + ahead i) g
        by true t = omega (arith, ee, same_given t, none_ahead t)
        by false t =
            let z = passed_over (problem g.trip) k g.pin g.route t in
            let w : own q g ≡ 0 = rw t in
            omega (arith, (z (given_to k A gs i)).1, (z (left_over k A gs i + ahead i + own q g)).1, no_share t, w, still_ahead t)

  from : (m i : ℕ) → i + m ≡ length gs →
      map (λ (i : ℕ). turn_of k (given_to k A gs i) (get_or gs i unasked)) (upfrom i m) ≡ in_turn (shared_turn k q) (left_after k q) (left_over k A gs i + ahead i) (drop i gs)
  unfolding upfrom in_turn
  from zero i e = rw (drop_of_length-le gs {i = i} (omega arith))
  from (suc m) i e =
      let h : i < length gs = omega arith in
      rw (drop-cons gs i unasked h, same_turn i h, ← (same_left i h))
      (ap (λ (os : List Outcome). shared_turn k q (left_over k A gs i + ahead i) (get_or gs i unasked) ∷ os) (from m (suc i) (omega arith)))

  pub dispatch_is : in_shares k A gs ≡ dispatch k A gs
  unfolding in_shares dispatch left_over takers
  dispatch_is = from (length gs) 0 (omega arith) ∙ ap (λ (n : ℕ). in_turn (shared_turn k q) (left_after k q) n gs) (zero-add r)
