-- The answers of the parts, over plain values. Assumes nothing.
use mathlib.Core.Path.{◌≡◌, refl}
use mathlib.Core.Bool.{Bool, true, false, ◌&&◌}
use mathlib.Core.List.{List, [], ◌∷◌}
use Prim.Native.Nat.{ℕ, ◌≤◌, ◌<◌}
use native.Mathlib.Omega.{arith}
use lib.ListN.{length}
use borrow.Author.Tests.{le-leb, lt-leb}
use Rattle.theory.specs.Route.{Problem, timetable_of, tour_length, timely, feasible}
use Rattle.theory.specs.Pairs.{pairs_of, all, pairs_kept}
use Rattle.theory.specs.Tables.{Trip, problem, legs_only}
use Rattle.desks.specs.Desks.{shorter, which, taken, WhichDesk}

-- ---- deadlines and pairs

module _ (P : Problem) (list : List ℕ) where
  pub late_list : false ≡ timely (timetable_of P) P.depot list → false ≡ feasible P list
  late_list e = rw (← e) (by (pairs_kept P.pairs list))
    where
      by : (b : Bool) → false ≡ (b && false)
      by true = refl
      by false = refl

  pub timely_list : (kept : Bool) → kept ≡ pairs_kept P.pairs list → true ≡ timely (timetable_of P) P.depot list → kept ≡ feasible P list
  timely_list kept k e = rw (← e, ← k) (by kept)
    where
      by : (b : Bool) → b ≡ (b && true)
      by true = refl
      by false = refl

pub no_pairs : (pairs list : List ℕ) → length pairs ≡ 0 → true ≡ pairs_kept (pairs_of pairs) list
unfolding pairs_of pairs_kept all
no_pairs [] list e = refl
no_pairs (x ∷ pairs) list e = absurd (omega (arith, e))

-- ---- lengths

module _ (P : Problem) (first second : List ℕ) (a b : ℕ) (p : a ≡ tour_length P first) (q : b ≡ tour_length P second) where
  pub first_shorter : a ≤ b → 1 ≡ shorter P first second
  first_shorter h = rw (← p, ← q, le-leb a b h)

  pub second_shorter : b < a → 2 ≡ shorter P first second
  second_shorter h = rw (← p, ← q, lt-leb a b h)

-- The table of legs is all that a length reads.
pub by_legs : (T : Trip) (first second : List ℕ) → shorter (legs_only T.tables.locations T.tables.legs T.depot T.end) first second ≡ shorter (problem T) first second
unfolding tour_length
by_legs T first second = refl

-- ---- which

module _ (P : Problem) (first second : List ℕ) (a b : Bool) (p : a ≡ feasible P first) (q : b ≡ feasible P second) where
  pub both_keep : a ≡ true → b ≡ true → (answer : ℕ) → answer ≡ shorter P first second → answer ≡ which P first second
  both_keep e f answer h = rw (← p, ← q, e, f) h

  pub first_keeps : a ≡ true → b ≡ false → 1 ≡ which P first second
  first_keeps e f = rw (← p, ← q, e, f)

  pub second_keeps : a ≡ false → b ≡ true → 2 ≡ which P first second
  second_keeps e f = rw (← p, ← q, e, f)

  pub neither_keeps : a ≡ false → b ≡ false → 0 ≡ which P first second
  neither_keeps e f = rw (← p, ← q, e, f)

-- ---- judged

module _ (T : Trip) (first second : List ℕ) (both : Bool) (p : both ≡ (taken T first && taken T second)) where
  pub told : both ≡ true → (answer : ℕ) → answer ≡ which (problem T) first second → WhichDesk T first second answer
  told e answer h = record { is = rw (← p, e) h }

  pub untold : both ≡ false → WhichDesk T first second 0
  untold e = record { is = rw (← p, e) }
