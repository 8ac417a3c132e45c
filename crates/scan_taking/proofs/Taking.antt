-- The candidate, built in spare places, is copied over the route. Assumes nothing.
use mathlib.Core.Path.{◌≡◌, sym, ap, ◌∙◌}
use mathlib.Core.List.{List, ◌++◌, append-nil}
use Prim.Native.Nat.{ℕ, ◌+◌, ◌≤◌, ◌<◌}
use native.Mathlib.Decide.{ℕ_discrete}
use native.Mathlib.Omega.{arith}
use lib.ListN.{length, get_or, set, take, drop, length-take, length-set, drop_of_length-le, take-append-drop}
use lib.Seq.{take_all, get_or-set_same, get_or-set_other}
use Rattle.theory.specs.Moves.{total}
use Rattle.theory.specs.Tables.{Tables, Clocked, Stops}
use Rattle.theory.proofs.Moves.{total_append}
use Rattle.theory.proofs.Stops.{as_many, stops_rearranged}
use Rattle.costs.specs.RouteCosts.{Summable}
use Rattle.deadlines.specs.Stays.{Stays, StaysFillable}
use Rattle.reconnection.specs.Segments.{Fits}
use Rattle.scan_taking.specs.Measure.{Cleared, StaysAnew, Takeable}
use Rattle.candidates.specs.Candidate.{candidate, BuiltFront}
use Rattle.candidates.proofs.Candidate.{same_stops}

module _ {locations : ℕ} {legs service cuts orders masks : List ℕ} {i : ℕ} {route forward_sums backward_sums stayed late : List ℕ}
    (ok : Takeable locations legs service cuts orders masks i route forward_sums backward_sums stayed late) where
  module _ {spare : List ℕ} (built : BuiltFront route cuts orders masks i spare) where
    pub room : length route ≡ length (take (length route) spare)
    room = simp length-take (omega (arith, built.places, ok.stops.short))

    pub fits : Fits (take (length route) spare) route 0
    fits = record { room = omega (arith, room) }

    pub is_candidate : {last : List ℕ} → last ≡ take 0 route ++ take (length route) spare ++ drop (0 + length (take (length route) spare)) route → last ≡ candidate route cuts orders masks i
    is_candidate copied =
        let n : length route ≤ 0 + length (take (length route) spare) = omega (arith, room) in
        copied ∙ rw (drop_of_length-le route n) (append-nil (take (length route) spare)) ∙ built.is

  pub summable : {last : List ℕ} → last ≡ candidate route cuts orders masks i → (sums : List ℕ) → length sums ≡ 512 → Summable locations legs last sums
  summable e sums h = record { table = ok.table; stops = rw e (stops_rearranged route _ (same_stops ok.of) locations ok.stops); places = h }

  pub stayable : {last : List ℕ} → last ≡ candidate route cuts orders masks i → StaysFillable service last stayed
  stayable {last} e =
      let s : Stops locations last = rw e (stops_rearranged route _ (same_stops ok.of) locations ok.stops) in
      record {
        few = omega (arith, ok.services, ok.table.few);
        brief = ok.brief;
        short = s.short;
        known = λ j h. omega (arith, s.known j h, ok.services);
        places = ok.stay_places;
      }

  pub stays_taken : {last stayed' : List ℕ} → last ≡ candidate route cuts orders masks i → StaysAnew service last stayed stayed' → Stays service route stayed → Stays service last stayed'
  stays_taken e a = a.stays route (λ g. ap (total g) e ∙ same_stops ok.of g)

-- ---- the stays of a route that is measured

pub stays_fillable : {T : Tables} {depot : ℕ} {r stayed : List ℕ} → Clocked T depot r → length stayed ≡ 513 → StaysFillable T.service r stayed
stays_fillable t places =
    let m = t.followable in
    record {
      few = omega (arith, t.times.services, m.table.few);
      brief = t.times.brief;
      short = m.stops.short;
      known = λ i h. omega (arith, m.stops.known i h, t.times.services);
      places = places;
    }

-- ---- no service

total_front : (g : ℕ → ℕ) (r : List ℕ) (c : ℕ) → total g (take c r) ≤ total g r
total_front g r c = omega (arith, ap (total g) (take-append-drop c r), total_append g (take c r) (drop c r))

-- The stops have no service, so no order of them has.
pub no_service : (service r stayed : List ℕ) → get_or stayed (length r) 0 ≡ 0 → StaysAnew service r stayed stayed
no_service service r stayed z =
    record {
      stays = λ old same stays.
          let g : ℕ → ℕ = λ x. get_or service x 0 in
          let n : length r ≡ length old = as_many old r same in
          let none : total g old ≡ 0 = sym (stays.each (length r) (omega (arith, n)) ∙ ap (total g) (take_all (length r) old (omega (arith, n)))) ∙ z in
          record {
            places = stays.places;
            each = λ c h. omega (arith, stays.each c (omega (arith, n)), total_front g old c, total_front g r c, same g, none);
            small = λ c h. stays.small c (omega (arith, n));
          };
    }

pub anew : {service r stayed stayed' : List ℕ} → Stays service r stayed' → StaysAnew service r stayed stayed'
anew s = record { stays = λ _ _ _. s }

-- ---- no lateness

pub record Clearing (late : List ℕ) (c : ℕ) : Type 0 where
  pub places : length late ≡ 513
  pub none : (j : ℕ) → j < c → get_or late j 0 ≡ 0

pub clear_next : {late : List ℕ} {c : ℕ} → c < 513 → Clearing late c → Clearing (set late c 0) (c + 1)
clear_next {late} {c} l w = record { places = simp length-set w.places; none = λ j h. by j h (ℕ_discrete j c) }
  where
    by : (j : ℕ) → j < c + 1 → Dec (j ≡ c) → get_or (set late c 0) j 0 ≡ 0
    by j h (yes e) = rw e (get_or-set_same late c 0 0 (omega (arith, w.places)))
    by j h (no n) = get_or-set_other late c j 0 0 n ∙ w.none j (omega arith)

pub all_clear : {stops : ℕ} {late₀ late : List ℕ} {c : ℕ} → stops < c → Clearing late c → Cleared stops late₀ late
all_clear h w = record { places = w.places; none = λ _ j l. w.none j (omega arith) }
