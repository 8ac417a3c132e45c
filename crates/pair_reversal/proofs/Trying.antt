-- The three ends of a tried pair: the legs are not shorter, the turn stays, or it is late and turned back. Assumes nothing.
use mathlib.Core.Path.{◌≡◌, refl, sym, ap, ◌∙◌}
use mathlib.Core.Bool.{Bool, true, false, cond, ◌&&◌, and-eq-true_iff}
use mathlib.Core.List.{List}
use Prim.Native.Nat.{ℕ, ◌≤◌}
use lib.ListN.{length, get_or}
use Rattle.theory.specs.Moves.{total}
use Rattle.theory.specs.Route.{Problem, timetable_of, timely}
use Rattle.theory.specs.Tables.{Timed, Trip}
use Rattle.theory.proofs.Stops.{as_many, stops_rearranged}
use Rattle.pair_reversal.specs.Reversal.{stop_after, turned, shortens, accepts, Tried}
use Rattle.pair_reversal.proofs.Turning.{total_turned}

-- A rearranged route has its deadlines in reach, and as many stops.
pub timed_rearranged : {T : Trip} {r r' : List ℕ} → ((g : ℕ → ℕ) → total g r' ≡ total g r) →
    Timed T r → Timed T r' × (length r' ≡ length r)
timed_rearranged {T} {r = r} {r' = r'} same t =
    let m = t.measurable in (
      record {
        measurable = record { table = m.table; depot_known = m.depot_known; end_known = m.end_known; stops = stops_rearranged r r' same T.tables.locations m.stops };
        times = t.times;
      },
      as_many r r' same,
    )

module _ (P : Problem) (a b i j : ℕ) (r : List ℕ) where
  of : (x y : Bool) → shortens P.leg a b (get_or r j 0) (stop_after P.depot r j) ≡ x → timely (timetable_of P) P.depot (turned i j r) ≡ y → accepts P a b i r j ≡ (x && y)
  unfolding accepts
  of x y s f = rw (s, f)

  -- What is accepted keeps every deadline.
  pub accepted_kept : accepts P a b i r j ≡ true → timely (timetable_of P) P.depot (turned i j r) ≡ true
  unfolding accepts
  accepted_kept e = ((and-eq-true_iff (shortens P.leg a b (get_or r j 0) (stop_after P.depot r j)) (timely (timetable_of P) P.depot (turned i j r))).0 e).1

  -- As the code found the stop e after j, and whether the legs are shorter.
  module _ {e : ℕ} {shorter : Bool} (after : e ≡ stop_after P.depot r j) (found : shorter ≡ shortens P.leg a b (get_or r j 0) e) where
    shorter_is : shortens P.leg a b (get_or r j 0) (stop_after P.depot r j) ≡ shorter
    shorter_is = sym (rw after at found)

    pub tried_longer : shorter ≡ false → Tried P a b i j r false r
    tried_longer s = let d = of false (timely (timetable_of P) P.depot (turned i j r)) (shorter_is ∙ s) refl in record { is = sym d; route_is = rw d }

    -- And whether the route, turned once, keeps every deadline.
    module _ (s : shorter ≡ true) {once : List ℕ} (turn : once ≡ turned i j r) where
      judged : (kept : Bool) → kept ≡ timely (timetable_of P) P.depot once → accepts P a b i r j ≡ kept
      judged kept f = of true kept (shorter_is ∙ s) (sym (rw turn at f))

      pub tried_kept : true ≡ timely (timetable_of P) P.depot once → Tried P a b i j r true once
      tried_kept f = let d = judged true f in record { is = sym d; route_is = rw d turn }

      pub tried_late : false ≡ timely (timetable_of P) P.depot once → {back : List ℕ} → back ≡ r → Tried P a b i j r false back
      tried_late f t = let d = judged false f in record { is = sym d; route_is = rw d t }

  -- The route after a pair has the same stops.
  pub tried_timed : {T : Trip} {answer : Bool} {r' : List ℕ} → i ≤ j → Tried P a b i j r answer r' →
      Timed T r → Timed T r' × (length r' ≡ length r)
  tried_timed h t timed = timed_rearranged (λ g. ap (total g) t.route_is ∙ by g (accepts P a b i r j)) timed
    where
      by : (g : ℕ → ℕ) (x : Bool) → total g (cond x (turned i j r) r) ≡ total g r
      by g true = total_turned g i j r h
      by g false = refl

pub turned_timed : (i j : ℕ) (r : List ℕ) {T : Trip} {r' : List ℕ} → i ≤ j → r' ≡ turned i j r →
    Timed T r → Timed T r'
turned_timed i j r h e timed = (timed_rearranged (λ g. ap (total g) e ∙ total_turned g i j r h) timed).0
