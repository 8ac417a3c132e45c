-- What the end of a stretch gives: its candidates are counted with those before it, and the scan is where they leave it. Assumes nothing.
use mathlib.Core.Path.{◌≡◌, refl, sym, ap, ◌∙◌}
use mathlib.Core.Bool.{Bool, true, false, true≢false, ◌&&◌}
use mathlib.Core.Logic.{◌⊎◌, inl, inr}
use mathlib.Core.Option.{Option, none, some}
use mathlib.Core.List.{List, [], ◌∷◌, ◌++◌}
use Prim.Native.Nat.{ℕ, zero, suc, ◌+◌, ◌-◌, ◌*◌, ◌/◌, ◌%◌, ◌≤◌, ◌<◌}
use native.Mathlib.Omega.{arith}
use native.Mathlib.Nat.{suc-mul, mul-le-mul_right}
use lib.Dec.{leb, eqb}
use lib.ListN.{length, take, get_or, set, replicate}
use lib.Seq.{get_or-take, take-set-lt}
use borrow.Author.Tests.{le-leb, lt-leb, eq-eqb, ne_eqb}
use Rattle.theory.specs.Scan.{improves}
use Rattle.theory.specs.Moves.{Pattern, next_cuts}
use Rattle.theory.specs.Pairs.{pairs_of, pairs_kept}
use Rattle.theory.specs.Costs.{forward, backward}
use Rattle.theory.specs.Route.{reconnected, feasible, timely}
use Rattle.theory.specs.Polish.{search_of, move_at}
use Rattle.theory.specs.Tables.{problem, timetable_by, clock_by, CutSet, pattern_rows, Trip}
use Rattle.theory.proofs.Clock.{timely_on_time}
use Rattle.slices.specs.Slices.{slice}
use Rattle.slices.proofs.Steps.{Idle, stretch_place}
use Rattle.slices.proofs.Slicing as Slicing
use Rattle.cut_step.specs.Step.{found, or_unmoved, Stepped}
use Rattle.costs.specs.RouteCosts.{leg, Sums, first_cuts, last_cut}
use Rattle.costs.proofs.Segments.{cut_below, cuts_parted}
use Rattle.deadlines.specs.Stays.{Stays}
use Rattle.deadlines.specs.Lateness.{lateness, Latenesses}
use Rattle.deadlines.proofs.Lateness.{on_time_is, none_late, kept_not_late, kept_head}
use Rattle.scan_joints.specs.JointTable.{Padded}
use Rattle.scan_step.specs.declared.Stretch.{Stretch}
use Rattle.precedence.specs.Words.{PairsLent, BackSince}
use Rattle.precedence_marks.proofs.Judged.{kept_reach, kept_since}
use Rattle.scan_stretch.specs.Stretch.{HeadsKept}
use Rattle.precedence_visits.specs.Visits.{VisitsForgotten}
use Rattle.scan_shared.proofs.Preparing.{no_table}
use Rattle.scan_step.specs.Stepping.{ClosingKept}
use Rattle.scan_step.proofs.Steps.{last_stored}
use Rattle.scan_rest.specs.Rest.{PartLeft, PartScannable, PartScanned}
use Rattle.candidates.specs.Candidate.{candidate, Candidate}
use Rattle.scan_taking.specs.declared.Limits.{Limits}
use Rattle.scan_taking.specs.Measure.{Measured, Cleared}
use Rattle.scan_loop.specs.Loop.{Scannable, Spendable, place_held}
use Rattle.scan_loop.proofs.Scanning.{At, many, for_cuts, below, same_size, index_below, timed, own_cuts, own_rows, first_set}

-- What improves keeps every deadline and every pair.
both_true : (a b : Bool) → (a && b) ≡ true → (a ≡ true) × (b ≡ true)
both_true true b h = (refl, h)
both_true false b h = absurd (true≢false (sym h))

at_most_none : (x : ℕ) → leb x 0 ≡ eqb x 0
at_most_none zero = le-leb 0 0 (omega arith) ∙ sym (eq-eqb 0 0 refl)
at_most_none (suc x) = lt-leb (suc x) 0 (omega arith) ∙ sym (ne_eqb (suc x) 0 (λ e. absurd (omega (arith, e))))

-- No rows are filled before the first turn.
pub none_filled : (k : ℕ) (T : Trip) (orders masks : List ℕ) {members r signs visits : List ℕ} → ClosingKept (pairs_of T.pairs) members r signs visits →
    PartLeft (problem T) members orders masks (length masks) r k (replicate 1532 0) (replicate 1915 0) signs (replicate 160 0) (replicate 1532 0) (replicate 1915 0) visits
none_filled k T orders masks closing =
    record {
      rows_from = record { places = refl; listed = λ h. absurd (omega (arith, h)) };
      lent = record {
        blank = no_table (2 * (k - 2));
        room = refl;
        chained = λ h. absurd (omega (arith, h));
        hand_lent = record { hand_places = refl; chain_places = refl };
        signed = λ h. absurd (omega (arith, h));
        kept = closing;
      };
    }

-- Of another route no visit is found yet.
pub lent_anew : (T : Trip) {members orders masks : List ℕ} {i : ℕ} {r : List ℕ} {k : ℕ} {rows chains signs shared hand hand_chains visits visits' : List ℕ} (r' : List ℕ) → VisitsForgotten visits visits' →
    PartLeft (problem T) members orders masks i r k rows chains signs shared hand hand_chains visits → PartLeft (problem T) members orders masks i r' k rows chains signs shared hand hand_chains visits'
lent_anew T {members} {r = r} {signs = signs} {visits = visits} {visits' = visits'} r' f w =
    record { rows_from = w.rows_from; lent = record { blank = w.lent.blank; room = w.lent.room; chained = w.lent.chained; hand_lent = w.lent.hand_lent; signed = w.lent.signed; kept = anew w.lent.kept } }
  where
    anew : ClosingKept (pairs_of T.pairs) members r signs visits → ClosingKept (pairs_of T.pairs) members r' signs visits'
    anew (inl e) = inl e
    anew (inr m) = inr (m.0, m.1, m.2, f.is (pairs_of T.pairs) r r' m.3)

-- What is at hand of a route: its sums, its stays and its lateness, and what it leaves to its candidates.
pub record Known (T : Trip) (r forward_sums backward_sums stayed : List ℕ) (limits : Limits) (late : List ℕ) : Type 0 where
  pub forwards : Sums r (forward (leg T.tables.locations T.tables.legs) r) forward_sums
  pub backwards : Sums r (backward (leg T.tables.locations T.tables.legs) r) backward_sums
  pub stays : Stays T.tables.service r stayed
  pub head : HeadsKept T r limits.heads
  pub latenesses : Latenesses (clock_by T.tables) T.depot r late
  pub back : BackSince (pairs_of T.pairs) r limits.since

pub known : {T : Trip} {members r forwards backwards stayed late : List ℕ} {limits : Limits} → PairsLent (pairs_of T.pairs) members → Measured T.tables T.depot members r forwards backwards stayed limits late →
    Known T r forwards backwards stayed limits late
known {T} lent m =
    record {
      forwards = m.forwards;
      backwards = m.backwards;
      stays = m.stays;
      head = record { punctual = m.punctual; timed = m.head; reach = m.told.reach; front = m.told.front.is (pairs_of T.pairs) lent; left = m.told.heads.is (pairs_of T.pairs) lent };
      latenesses = m.latenesses;
      back = m.told.back.is (pairs_of T.pairs) lent;
    }

pub as_sized : {ps : List (ℕ × ℕ)} {members : List ℕ} → PairsLent ps members → (length members ≡ 0) ⊎ (length members ≡ 2048)
as_sized (inl e) = inl e.1
as_sized (inr m) = inr m.0

-- A measured route keeps every deadline exactly where its lateness is 0 from the start on.
pub kept_measured : (T : Trip) (r forwards backwards stayed : List ℕ) (limits : Limits) (late : List ℕ) → Known T r forwards backwards stayed limits late →
    eqb (get_or late 0 0) 0 ≡ timely (timetable_by T.tables) T.depot r
kept_measured T r forwards backwards stayed limits late m =
    rw (m.latenesses.each 0 (omega arith))
    (sym (timely_on_time (timetable_by T.tables) T.depot r ∙ on_time_is (clock_by T.tables) T.depot r ∙ at_most_none (lateness (clock_by T.tables) T.depot r 0)))

module _ (k : ℕ) (T : Trip) (orders masks members start : List ℕ) (from : ℕ) (route₀ : List ℕ) (A : ℕ) (ok : Scannable k T orders masks members start from route₀) where
  abbrev ps : List Pattern
  ps = pattern_rows k orders masks

  as_many : length (pattern_rows k orders masks) ≡ length masks
  as_many = many k T orders masks members start from route₀ A ok

  module _ (cuts : List ℕ) (i e c : ℕ) (r : List ℕ) (now : At k T orders masks members start from route₀ A ok cuts i e c r) where
    same : length r ≡ length route₀
    same = same_size k T orders masks members start from route₀ A ok cuts i e c r now

    own : length cuts ≡ k
    own = now.cut_set.many

    parted : cuts ≡ first_cuts cuts ++ (last_cut cuts ∷ [])
    parted = cuts_parted cuts (omega (arith, own, now.cut_set.least))

    here : At k T orders masks members start from route₀ A ok (first_cuts cuts ++ (last_cut cuts ∷ [])) i e c r
    here = rw (← parted) now

    last_below : last_cut cuts ≤ length r
    last_below = cut_below cuts r (own_cuts k T orders masks members start from route₀ A ok cuts i e c r now) (length cuts - 1) (omega (arith, own, now.cut_set.least))

    -- Another last cut behind the first cuts.
    set_at : (t : ℕ) → last_cut cuts ≤ t → t ≤ length r → CutSet k (length route₀) (first_cuts cuts ++ (t ∷ []))
    set_at t h l =
        let s = here.cut_set in
        let q = stretch_place ps k (length route₀) (first_cuts cuts) (last_cut cuts) i t i (record { many = s.many; rising = s.rising; known = now.known }) h (omega (arith, same)) now.known in
        record { least = s.least; most = s.most; short = s.short; many = q.many; rising = q.rising }

    own_set : (cs : List ℕ) (t : ℕ) → cs ≡ first_cuts cuts ++ (t ∷ []) → last_cut cuts ≤ t → t ≤ length r → CutSet (length cs) (length r) cs
    own_set cs t is h l = let s = set_at t h l in rw (is, s.many, same) s

    -- ---- before a stretch

    pub partable : {forwards backwards stayed table late rows chains signs shared hand hand_chains visits : List ℕ} {limits : Limits} {filled : ℕ} → Known T r forwards backwards stayed limits late → Padded table →
        PartLeft (problem T) members orders masks filled r k rows chains signs shared hand hand_chains visits →
        PartScannable T members rows chains signs orders masks i r forwards backwards stayed limits.heads late limits.since cuts table shared hand hand_chains visits filled
    partable m p f =
        record {
          searchable = record {
            timed = timed k T orders masks members start from route₀ A ok cuts i e c r now;
            forwards = m.forwards;
            backwards = m.backwards;
            stays = m.stays;
            cut_set = own_cuts k T orders masks members start from route₀ A ok cuts i e c r now;
          };
          padded = p;
          head = m.head;
          latenesses = m.latenesses;
          lent = ok.lent;
          back = m.back;
          patterns = own_rows k T orders masks members start from route₀ A ok cuts i e c r now;
          known = index_below k T orders masks members start from route₀ A ok cuts i e c r now;
          held = rw own f.rows_from;
          closing = rw own f.lent;
        }

    -- The rows are then those from the index on.
    pub filled_there : {rows chains signs shared hand hand_chains visits : List ℕ} → PartLeft (problem T) members orders masks i r (length cuts) rows chains signs shared hand hand_chains visits → PartLeft (problem T) members orders masks i r k rows chains signs shared hand hand_chains visits
    filled_there f = rw own at f

    -- ---- behind a stretch

    module _ {answer : Stretch} {cuts' table : List ℕ} (scanned : PartScanned (problem T) (pattern_rows (length cuts) orders masks) r cuts i (A - e) answer cuts' table) where
      end : PartScanned (problem T) (pattern_rows k orders masks) r cuts i (A - e) answer cuts' table
      end = rw own at scanned

      idle : Idle (problem T) (pattern_rows k orders masks) k (length route₀) (first_cuts cuts) (last_cut cuts) i r answer.examined
      idle t y h l b n m = end.idle t y h (omega (arith, same)) b n m

      pub in_allowance : e + answer.examined ≤ A
      in_allowance = omega (arith, end.allowed, below k T orders masks members start from route₀ A ok cuts i e c r now)

      -- The candidate of its number is accepted, and the scan begins again.
      module _ (g : answer.gains ≡ true) where
        abbrev t : ℕ
        t = (end.gain g).1.last

        abbrev x : ℕ
        x = answer.pattern

        abbrev h : ℕ
        h = (end.gain g).1.last - last_cut cuts

        last_is : last_cut cuts + h ≡ t
        last_is = omega (arith, (end.gain g).1.least)

        listed : x < length masks
        listed = rw as_many at (end.gain g).1.listed

        pub room_for_it : e + answer.examined + 1 ≤ A
        room_for_it = omega (arith, (end.gain g).0, below k T orders masks members start from route₀ A ok cuts i e c r now)

        there : CutSet (length cuts') (length r) cuts'
        there = own_set cuts' t (end.gain g).1.cuts_are (end.gain g).1.least (end.gain g).1.most

        many_there : length cuts' ≡ k
        many_there = ap length (end.gain g).1.cuts_are ∙ (set_at t (end.gain g).1.least (end.gain g).1.most).many

        pub takeable : Candidate r cuts' orders masks x
        takeable = record { cut_set = there; patterns = rw many_there ok.patterns; listed = listed }

        module _ (r' : List ℕ) (is : r' ≡ candidate r cuts' orders masks x) where
          built : r' ≡ reconnected (move_at (pattern_rows k orders masks) (first_cuts cuts ++ (t ∷ [])) x) r
          built =
              is
              ∙ ap (λ n. reconnected (move_at (pattern_rows n orders masks) cuts' x) r) many_there
              ∙ ap (λ cs. reconnected (move_at (pattern_rows k orders masks) cs x) r) (end.gain g).1.cuts_are

          gains_there : improves (search_of (problem T) (pattern_rows k orders masks) k (length route₀)) r (move_at (pattern_rows k orders masks) (first_cuts cuts ++ (t ∷ [])) x) ≡ true
          gains_there = (end.gain g).1.improves

          pub begins_again : At k T orders masks members start from route₀ A ok (take k (0 ∷ 1 ∷ 2 ∷ 3 ∷ 4 ∷ [])) 0 (e + answer.examined + 1) (c + 1) r'
          begins_again =
              rw (first_set k ok.most, built, ← last_is)
              (Slicing.gained (problem T) (pattern_rows k orders masks) k A (place_held k start from) route₀ (first_cuts cuts) (last_cut cuts) i e c r here
              (for_cuts k T orders masks members start from route₀ A ok) answer.examined h x (omega (arith, as_many, listed)) (end.gain g).1.is (omega (arith, (end.gain g).1.least, (end.gain g).1.most, same)) idle (omega (arith, room_for_it))
              (rw last_is gains_there))

          then_feasible : feasible (problem T) r' ≡ true
          then_feasible = rw built (both_true _ _ gains_there).0

          then_kept : timely (timetable_by T.tables) T.depot r' ≡ true
          then_kept = (both_true (pairs_kept (pairs_of T.pairs) r') _ then_feasible).1

          then_paired : pairs_kept (pairs_of T.pairs) r' ≡ true
          then_paired = (both_true _ (timely (timetable_by T.tables) T.depot r') then_feasible).0

          -- It is measured by its sums, since no stop is late and no pair is broken.
          pub measured_anew : {forwards backwards stayed late late' : List ℕ} → Latenesses (clock_by T.tables) T.depot r late → Cleared (length r) late late' → length r' ≡ length r →
              Sums r' (forward (leg T.tables.locations T.tables.legs) r') forwards → Sums r' (backward (leg T.tables.locations T.tables.legs) r') backwards →
              Stays T.tables.service r' stayed → Known T r' forwards backwards stayed (record { heads = length r' + 1; since = 0 }) late'
          measured_anew {late = late} old cleared long f b s =
              let C = clock_by T.tables in
              let kept = sym (timely_on_time (timetable_by T.tables) T.depot r') ∙ then_kept in
              let none = cleared.none (λ z j l. old.each j l ∙ none_late C T.depot r j (sym (old.each 0 (omega arith)) ∙ z)) in
              record {
                forwards = f;
                backwards = b;
                stays = s;
                head = record { punctual = length r'; timed = kept_head C T.depot r' kept; reach = length r'; front = kept_reach (pairs_of T.pairs) r' then_paired; left = inl (omega arith) };
                back = kept_since (pairs_of T.pairs) r' then_paired;
                latenesses = record { places = cleared.places; each = λ j l. none j (omega arith) ∙ sym (none_late C T.depot r' j (kept_not_late C T.depot r' kept)) };
              }

      -- ---- no more are allowed

      module _ (begun : List ℕ) (held : cuts ≡ take k begun) (g : answer.gains ≡ false) (w : answer.through ≡ false) where
        last_held : get_or begun (k - 1) 0 ≡ last_cut cuts
        last_held =
            let j : length cuts - 1 ≡ k - 1 = omega (arith, own) in
            sym (ap (λ n. get_or cuts n 0) j ∙ ap (λ cs. get_or cs (k - 1) 0) held ∙ get_or-take k begun (k - 1) 0 (omega (arith, ok.least)))

        few : i + answer.examined < (suc (length route₀) - last_cut cuts) * length masks
        few =
            let z : length r + 1 - last_cut cuts ≡ suc (length route₀) - last_cut cuts = omega (arith, same) in
            rw (end.spent g w).0 (rw (z, as_many) at (end.spent g w).1)

        pub spendable : (cut : List ℕ) → length cut ≡ 5 → Spendable k cut (get_or begun (k - 1) 0) (i + answer.examined) (length masks)
        spendable cut five =
            let m : suc (length route₀) - last_cut cuts ≤ 513 = omega (arith, now.cut_set.short) in
            record {
              least = ok.least;
              most = ok.most;
              places = five;
              some = omega (arith, index_below k T orders masks members start from route₀ A ok cuts i e c r now);
              below = omega (arith, last_held, last_below, same, now.cut_set.short);
              fewer = omega (arith, few, mul-le-mul_right (length masks) m);
            }

        -- The first cuts are still at hand, whatever stands behind them.
        cuts_held : (cut : List ℕ) → cuts' ≡ take k cut → length cuts' ≡ k → (v : ℕ) → take k (set cut (k - 1) v) ≡ first_cuts cuts ++ (v ∷ [])
        cuts_held cut is m v =
            let j : k - 1 ≡ length cuts' - 1 = omega (arith, m) in
            take-set-lt k cut (k - 1) v (omega (arith, ok.least))
            ∙ ap (λ cs. set cs (k - 1) v) (sym is)
            ∙ ap (λ n. set cuts' n v) j
            ∙ last_stored cuts' v (omega (arith, m, ok.least))
            ∙ ap (λ cs. cs ++ (v ∷ [])) (end.spent g w).2

        pub spent_now : (cut : List ℕ) → cuts' ≡ take k cut → length cuts' ≡ k →
            record {
              reply = record { finished = false; examined = e + answer.examined; accepted = c; route = r };
              place = place_held k (set cut (k - 1) (get_or begun (k - 1) 0 + (i + answer.examined) / length masks)) ((i + answer.examined) % length masks);
            }
            ≡ slice (problem T) (pattern_rows k orders masks) k A (place_held k start from) route₀
        spent_now cut is m =
            let all : e + answer.examined ≡ A = omega (arith, (end.spent g w).0, below k T orders masks members start from route₀ A ok cuts i e c r now) in
            let s = Slicing.is_spent (problem T) (pattern_rows k orders masks) k A (place_held k start from) route₀ (first_cuts cuts) (last_cut cuts) i e c r here answer.examined all (rw as_many few) idle in
            rw (cuts_held cut is m (get_or begun (k - 1) 0 + (i + answer.examined) / length masks), last_held) (sym (rw as_many at s))

      -- ---- through

      module _ (w : answer.through ≡ true) where
        abbrev u : ℕ
        u = (end.over w).last - last_cut cuts

        last_then : (end.over w).last ≡ last_cut cuts + u
        last_then = omega (arith, (end.over w).least)

        cuts_are : cuts' ≡ first_cuts cuts ++ ((last_cut cuts + u) ∷ [])
        cuts_are = (end.over w).cuts_are ∙ ap (λ n. first_cuts cuts ++ (n ∷ [])) last_then

        inside : last_cut cuts + u ≤ length route₀
        inside = omega (arith, last_then, (end.over w).most, same)

        pub some_examined : 0 < answer.examined
        some_examined = omega (arith, (end.over w).is, suc-mul u (length (pattern_rows k orders masks)), now.known)

        pub cuts_then : CutSet (length cuts') (length r) cuts'
        cuts_then = own_set cuts' (end.over w).last (end.over w).cuts_are (end.over w).least (end.over w).most

        module _ (cuts'' : List ℕ) where
          pub moves_on : Stepped (length r) cuts' true cuts'' → At k T orders masks members start from route₀ A ok cuts'' 0 (e + answer.examined) c r
          moves_on s = by (next_cuts (length route₀) (first_cuts cuts ++ ((last_cut cuts + u) ∷ []))) refl (rw (cuts_are, same) at s.moved) (rw (cuts_are, same) at s.cuts_after)
            where
              by : (o : Option (List ℕ)) → next_cuts (length route₀) (first_cuts cuts ++ ((last_cut cuts + u) ∷ [])) ≡ o → true ≡ found (next_cuts (length route₀) (first_cuts cuts ++ ((last_cut cuts + u) ∷ []))) →
                  cuts'' ≡ or_unmoved (next_cuts (length route₀) (first_cuts cuts ++ ((last_cut cuts + u) ∷ []))) (first_cuts cuts ++ ((last_cut cuts + u) ∷ [])) →
                  At k T orders masks members start from route₀ A ok cuts'' 0 (e + answer.examined) c r
              by none o m a = absurd (true≢false (rw o at m))
              by (some cs) o m a =
                  let q : cuts'' ≡ cs = rw o at a in
                  rw q (Slicing.passed (problem T) (pattern_rows k orders masks) k A (place_held k start from) route₀ (first_cuts cuts) (last_cut cuts) i e c r here answer.examined u (end.over w).is inside idle in_allowance cs o)

          pub ends_now : Stepped (length r) cuts' false cuts'' →
              record { reply = record { finished = true; examined = e + answer.examined; accepted = c; route = r }; place = place_held k (0 ∷ 1 ∷ 2 ∷ 3 ∷ 4 ∷ []) 0 }
              ≡ slice (problem T) (pattern_rows k orders masks) k A (place_held k start from) route₀
          ends_now s = by (next_cuts (length route₀) (first_cuts cuts ++ ((last_cut cuts + u) ∷ []))) refl (rw (cuts_are, same) at s.moved)
            where
              by : (o : Option (List ℕ)) → next_cuts (length route₀) (first_cuts cuts ++ ((last_cut cuts + u) ∷ [])) ≡ o → false ≡ found (next_cuts (length route₀) (first_cuts cuts ++ ((last_cut cuts + u) ∷ []))) →
                  record { reply = record { finished = true; examined = e + answer.examined; accepted = c; route = r }; place = place_held k (0 ∷ 1 ∷ 2 ∷ 3 ∷ 4 ∷ []) 0 }
                  ≡ slice (problem T) (pattern_rows k orders masks) k A (place_held k start from) route₀
              by none o m =
                  rw (first_set k ok.most)
                  (sym (Slicing.finishes (problem T) (pattern_rows k orders masks) k A (place_held k start from) route₀ (first_cuts cuts) (last_cut cuts) i e c r here answer.examined u (end.over w).is inside idle in_allowance o))
              by (some cs) o m = absurd (true≢false (sym (rw o at m)))
