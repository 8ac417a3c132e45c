-- The clock that runs along a route: when each stop is left, and so when the next is reached.
use mathlib.Core.Path.{◌≡◌, refl, sym, ap}
use mathlib.Core.List.{List, [], ◌∷◌}
use Prim.Native.Nat.{ℕ, suc, ◌+◌, ◌≤◌, ◌<◌}
use native.Mathlib.Numerals.{add-one}
use native.Mathlib.Omega.{arith}
use lib.ListN.{length, get_or, take}
use lib.Seq.{take-suc}
use borrow.Author.Count.{below_more}
use borrow.Author.Tests.{lt-ltb, le-ltb}
use Rattle.theory.specs.Moves.{total}
use Rattle.theory.specs.Route.{Timetable, path, arrival, late, late_position}
use Rattle.theory.specs.Costs.{last_of}
use Rattle.theory.proofs.Costs.{path_append}
use Rattle.theory.proofs.LatePosition.{late_position_only}
use Rattle.theory.proofs.Moves.{total_append}
use Rattle.costs.proofs.Segments.{last_snoc}

-- At stop i: the legs and services up to it, the stop before it, and no stop before it late.
pub record At (B : Timetable) (depot : ℕ) (route : List ℕ) (i clock previous : ℕ) : Type 0 where
  pub so_far : clock ≡ path B.leg depot (take i route) + total B.service (take i route)
  pub stop : previous ≡ last_of depot (take i route)
  pub kept : (k : ℕ) → k < i → arrival B depot route k ≤ B.latest (get_or route k 0)

pub at_depot : (B : Timetable) (depot : ℕ) (route : List ℕ) → At B depot route 0 0 depot
unfolding path last_of total
at_depot B depot route = record { so_far = refl; stop = refl; kept = λ k h. absurd (omega arith) }

module _ (B : Timetable) (depot : ℕ) (route : List ℕ) (i clock previous seconds : ℕ) (h : i < length route) (at : At B depot route i clock previous) (leg : seconds ≡ B.leg previous (get_or route i 0)) where
  reached : arrival B depot route i ≡ clock + seconds
  unfolding arrival path
  reached =
      rw (take-suc route i 0 h, path_append B.leg depot (take i route) (get_or route i 0 ∷ []), leg, at.so_far, at.stop) (omega arith)

  left : path B.leg depot (take (suc i) route) + total B.service (take (suc i) route) ≡ clock + seconds + B.service (get_or route i 0)
  unfolding arrival total
  left = omega (arith, reached, ap (total B.service) (take-suc route i 0 h), total_append B.service (take i route) (get_or route i 0 ∷ []))

  pub late_there : B.latest (get_or route i 0) < clock + seconds → i ≡ late_position B depot route
  unfolding late
  late_there too_late =
      late_position_only B depot route i (record {
        least = omega arith;
        most = omega arith;
        before = λ j l k. le-ltb (B.latest (get_or route j 0)) (arrival B depot route j) (at.kept j k);
        there = λ l. lt-ltb (B.latest (get_or route i 0)) (arrival B depot route i) (rw reached too_late);
      })

  pub at_next : (served : ℕ) → served ≡ B.service (get_or route i 0) → clock + seconds ≤ B.latest (get_or route i 0) → At B depot route (i + 1) (clock + seconds + served) (get_or route i 0)
  at_next served e in_time =
      record {
        so_far = rw (add-one i, e) (sym left);
        stop = rw (add-one i, take-suc route i 0 h) (sym (last_snoc depot (take i route) (get_or route i 0)));
        kept = below_more (λ k. arrival B depot route k ≤ B.latest (get_or route k 0)) i at.kept (rw reached in_time);
      }
