-- What a slice and polishing answer, from what the scan counted. Assumes nothing.
use mathlib.Core.Path.{◌≡◌, refl, sym, ap, ◌∙◌}
use mathlib.Core.Bool.{true, false, false≢true}
use mathlib.Core.Logic.{inl, inr}
use mathlib.Core.List.{List, [], ◌∷◌}
use Prim.Native.Nat.{ℕ, ◌+◌, ◌≤◌, ◌<◌}
use native.Mathlib.Omega.{arith}
use lib.ListN.{length, replicate}
use Rattle.theory.specs.Moves.{Pattern, total}
use Rattle.theory.specs.Pairs.{pairs_of}
use Rattle.theory.specs.Route.{Problem, tour_length, late_position}
use Rattle.theory.specs.Polish.{ForCuts, polish_with}
use Rattle.theory.proofs.Rows.{length_rows}
use Rattle.theory.specs.Tables.{problem, timetable_by, legs_only, Measurable, pattern_rows, Trip}
use Rattle.theory.specs.Answers.{Polishes}
use Rattle.theory.specs.declared.Counts.{Counts}
use Rattle.theory.specs.declared.Polished.{Polished}
use Rattle.theory.proofs.Judged.{followed}
use Rattle.theory.proofs.ForK.{rows_for_cuts}
use Rattle.theory.proofs.Polish.{polish_with_demand3}
use Rattle.theory.proofs.Cuts.{first_set}
use Rattle.theory.proofs.Stops.{stops_rearranged}
use Rattle.slices.specs.Places.{first_place}
use Rattle.slices.specs.Slices.{slice}
use Rattle.slices.proofs.Slices.{from_the_first, nowhere, same_total}
use Rattle.deadlines.specs.Lateness.{LateAsked}
use Rattle.polish_numbers.specs.Answer.{answer_of}
use Rattle.polish_numbers.proofs.Answered.{length_without_deadlines, counts_are, reply_is}
use Rattle.precedence.specs.Words.{PairsLent}
use Rattle.precedence_visits.proofs.Visits.{no_visits}
use Rattle.scan_loop.specs.Loop.{place_held, Scannable, ScanAsked}
use Rattle.scan_loop.proofs.Scanning as Scanning
use Rattle.scan_loop.specs.declared.Scanned.{Scanned}
use Rattle.polishing.specs.declared.Sliced.{Sliced}
use Rattle.polishing.specs.Loop.{PairedScan, PolishableRows, SliceableRows, ScannedWith, SlicedRows}

-- ---- what closed rows are found by

pub asked_paired : {k : ℕ} {T : Trip} {orders masks members start : List ℕ} {from : ℕ} {route : List ℕ} → PairedScan k T orders masks members start from route →
    ScanAsked k T orders masks members start from route (replicate 383 0) (replicate 1027 0)
asked_paired {T = T} {route = route} w =
    record { scannable = w.scannable; closing = inr (refl, w.places, w.words, no_visits (pairs_of T.pairs) route (replicate 1027 0) refl refl refl refl) }

-- ---- a slice

module _ (k : ℕ) (T : Trip) (orders masks members start : List ℕ) (from : ℕ) (route : List ℕ) (A : ℕ) (ok : SliceableRows k T orders masks members start from route) where
  for_cuts : ForCuts k (pattern_rows k orders masks)
  for_cuts = rows_for_cuts k orders masks (omega (arith, ok.rows.least)) ok.rows.patterns

  pub scannable : k ≤ length route + 1 → Scannable k T orders masks members start from route
  scannable h =
      let p = ok.rows in
      record { least = p.least; most = p.most; timed = p.timed; patterns = p.patterns; lent = p.lent; places = ok.started.places; place = ok.started.place h }

  -- Words are lent exactly where there are pairs.
  pub paired : k ≤ length route + 1 → (length members ≡ 0 → ⊥) → PairedScan k T orders masks members start from route
  paired h n = by ok.rows.lent
    where
      by : PairsLent (pairs_of T.pairs) members → PairedScan k T orders masks members start from route
      by (inl e) = absurd (n e.1)
      by (inr m) = record { scannable = scannable h; places = m.0; words = m.1 }

  abbrev P : Problem
  P = problem T

  abbrev ps : List Pattern
  ps = pattern_rows k orders masks

  pub no_cut_set : length route + 1 < k → ScannedWith P ps k A start from route (record { finished = true; examined = 0; accepted = 0; kept = false; cuts = 0 ∷ 1 ∷ 2 ∷ 3 ∷ 4 ∷ []; index = 0 }) route
  no_cut_set h = record { scan = rw (Scanning.first_set k ok.rows.most) (sym (nowhere P ps k A (place_held k start from) route (omega arith))); kept = λ e. absurd (false≢true e) }

  module _ (scanned : Scanned) (route' : List ℕ) (s : ScannedWith P ps k A start from route scanned route') where
    rearranged : (g : ℕ → ℕ) → total g route' ≡ total g route
    rearranged g = ap (λ q. total g q.reply.route) s.scan ∙ same_total P ps k for_cuts A (place_held k start from) route g

    pub measurable_after : Measurable T.tables.locations T.tables.legs T.depot T.end route'
    measurable_after =
        let m = ok.rows.timed.measurable in
        record { table = m.table; depot_known = m.depot_known; end_known = m.end_known; stops = stops_rearranged route route' rearranged T.tables.locations m.stops }

    pub late_asked : LateAsked T.tables T.depot route' scanned.kept
    late_asked = record { clocked = record { followable = followed measurable_after; times = ok.rows.timed.times }; known = s.kept }

    pub sliced_so : (before after late : ℕ) → before ≡ tour_length (legs_only T.tables.locations T.tables.legs T.depot T.end) route →
        after ≡ tour_length (legs_only T.tables.locations T.tables.legs T.depot T.end) route' → late ≡ late_position (timetable_by T.tables) T.depot route' →
        SlicedRows P ps k A start from route (record { finished = scanned.finished; examined = scanned.examined; accepted = scanned.accepted; before = before; after = after; late = late; cuts = scanned.cuts; index = scanned.index }) route'
    sliced_so before after late b a l = record { scan = s.scan; before = b ∙ length_without_deadlines T route; after = a ∙ length_without_deadlines T route'; late = l }

-- ---- from the first place

module _ (k : ℕ) (T : Trip) (orders masks members route : List ℕ) (A : ℕ) (ok : PolishableRows k T orders masks members route) where
  pub from_first : SliceableRows k T orders masks members (0 ∷ 1 ∷ 2 ∷ 3 ∷ 4 ∷ []) 0 route
  from_first =
      record {
        rows = ok;
        started = record {
          places = refl;
          place = λ h.
              let s = first_set k (length route) ok.least ok.most ok.timed.measurable.stops.short h in
              rw (Scanning.first_set k ok.most) (record { many = s.many; rising = s.rising; known = omega (arith, length_rows k orders masks, ok.not_empty) });
        };
      }

  -- An answer that is the slice's, with the lengths and the lowest late position, is the scan's and has demand 3.
  pub replies : (sliced : Sliced) (route' : List ℕ) → SlicedRows (problem T) (pattern_rows k orders masks) k A (0 ∷ 1 ∷ 2 ∷ 3 ∷ 4 ∷ []) 0 route sliced route' → (answer : Polished) →
      answer ≡ answer_of sliced.finished (record { examined = sliced.examined; accepted = sliced.accepted; before = sliced.before; after = sliced.after; late = sliced.late }) → Polishes (problem T) (pattern_rows k orders masks) k A route answer route'
  replies sliced route' s answer e =
      let P = problem T in
      let ps = pattern_rows k orders masks in
      let counts : Counts = record { examined = sliced.examined; accepted = sliced.accepted; before = sliced.before; after = sliced.after; late = sliced.late } in
      let c = counts_are sliced.finished counts answer e in
      let first : place_held k (0 ∷ 1 ∷ 2 ∷ 3 ∷ 4 ∷ []) 0 ≡ first_place k = ap (λ cs. record { cuts = cs; index = 0 }) (Scanning.first_set k ok.most) in
      let scanned : record { finished = sliced.finished; examined = sliced.examined; accepted = sliced.accepted; route = route' } ≡ polish_with P ps k A route =
      ap (λ q. q.reply) s.scan ∙ ap (λ p. (slice P ps k A p route).reply) first ∙ from_the_first P ps k A route in
      let r = reply_is sliced.finished counts answer e route' ∙ scanned in
      record {
        scan = r;
        before = ap (λ n. n.before) c ∙ s.before;
        after = ap (λ n. n.after) c ∙ s.after;
        late = ap (λ n. n.late) c ∙ s.late;
        demand3 = rw r (polish_with_demand3 P ps k (rows_for_cuts k orders masks (omega (arith, ok.least)) ok.patterns) A route);
      }
