-- The test of a last cut: what it reads is known, and where it fails no pattern gains. Assumes nothing.
use mathlib.Core.Path.{◌≡◌, refl, sym, ap, ◌∙◌}
use mathlib.Core.Bool.{Bool, true, false, cond}
use mathlib.Core.Logic.{inl, inr}
use mathlib.Core.List.{List, [], ◌∷◌, ◌++◌}
use Prim.Native.Nat.{ℕ, suc, ◌+◌, ◌-◌, ◌*◌, ◌^◌, ◌≤◌, ◌<◌}
use native.Mathlib.Omega.{arith}
use native.Mathlib.Decide.{dec_lt}
use borrow.Author.Tests.{ne_eqb, lt-ltb, le-ltb, ltb-false}
use lib.Dec.{ltb}
use lib.ListN.{length, get_or, replicate, length-append}
use lib.Seq.{get_or_at}
use Rattle.theory.specs.Costs.{first_of, inner}
use Rattle.theory.specs.Tables.{legs_only, CutSet}
use Rattle.costs.specs.RouteCosts.{leg, Spanned, span, RouteCosts, head_end, tail_start, stop_at, first_cuts, last_cut}
use Rattle.costs.proofs.Placing as Placing
use Rattle.costs.proofs.Segments as Segments
use Rattle.scan_joints.specs.States.{placed_in}
use Rattle.scan_joints.specs.JointTable.{Joinable}
use Rattle.scan_joints.proofs.Ends.{inside_is, inside_small, entry_known, exit_known, head_below}
use Rattle.scan_shared.specs.Bound.{exit_of, opened, last_state}
use Rattle.scan_shared.specs.Prepared.{Cut, Prepared}
use Rattle.scan_bound.specs.NoGain.{NoGain}
use Rattle.scan_bound.specs.Tests.{LeastInto, LeastOut, IntoFits, OutFits, PromisingTestable, PromisingTested, Nextable, NextPromising}
use Rattle.scan_bound.proofs.Bound.{Before, After, Unpromising}
use Rattle.scan_bound.proofs.Shared.{other_cut, last_two, same_head, PIs, back_exit, first_set}
use Rattle.scan_bound.proofs.NoGain.{no_gain}
use Rattle.costs.proofs.Segments.{cuts_parted, first_many}
use Rattle.scan_shared.proofs.Preparing.{first_at, no_cells}

module _ {locations : ℕ} {legs : List ℕ} {depot end : ℕ} {r forwards backwards cuts : List ℕ} (cut : Cut locations legs depot end r forwards backwards cuts) where
  abbrev pub pre : List ℕ
  pre = first_cuts cuts

  many : length (first_cuts cuts) ≡ length cuts - 1
  many = first_many cuts

  few : (2 ≤ length cuts) × (length cuts ≤ 5)
  few = (cut.cut_set.least, cut.cut_set.most)

  some : 1 ≤ length (first_cuts cuts)
  some = omega (arith, many, few.0)

  pub state_is : last_state (first_cuts cuts) ≡ 2 * (length cuts - 2)
  state_is = omega (arith, many, few.0)

  pub start_is : get_or (first_cuts cuts) (length (first_cuts cuts) - 1) 0 ≡ get_or cuts (length cuts - 2) 0
  start_is =
      let e : length (first_cuts cuts) - 1 ≡ length cuts - 2 = omega (arith, many) in
      ap (λ i. get_or (first_cuts cuts) i 0) e ∙ first_at cuts (length cuts - 2) (omega (arith, few.0))

  own : CutSet (length (first_cuts cuts ++ (last_cut cuts ∷ []))) (length r) (first_cuts cuts ++ (last_cut cuts ∷ []))
  own = rw (← (cuts_parted cuts (omega (arith, few.0)))) cut.cut_set

  pub two_last : (get_or cuts (length cuts - 2) 0 < last_cut cuts) × (last_cut cuts ≤ length r)
  two_last = rw start_is at (last_two (length r) 0 (first_cuts cuts) (last_cut cuts) some own.rising)

  -- The cut set with another last cut.
  pub other : (c : ℕ) → last_cut cuts ≤ c → c ≤ length r → CutSet (length (first_cuts cuts ++ (c ∷ []))) (length r) (first_cuts cuts ++ (c ∷ []))
  other c h l = other_cut (length r) (first_cuts cuts) (last_cut cuts) c some own (omega (arith, start_is, two_last.0)) l

  opened_set : CutSet (length (opened (first_cuts cuts))) (length r) (opened (first_cuts cuts))
  opened_set = first_set (legs_only locations legs depot end) r (first_cuts cuts) some (last_cut cuts) own

  opened_many : length (opened (first_cuts cuts)) ≡ length cuts
  opened_many = simp length-append (omega (arith, many, few.0))

  joined : Joinable locations legs depot end r forwards backwards (opened (first_cuts cuts)) (replicate 160 0)
  joined = record { measurable = cut.measurable; forwards = cut.forwards; backwards = cut.backwards; cut_set = opened_set; padded = no_cells }

  costs_of : RouteCosts locations legs r forwards backwards
  costs_of = record { table = cut.measurable.table; stops = cut.measurable.stops; forwards = cut.forwards; backwards = cut.backwards }

  pub head_known : head_end (legs_only locations legs depot end) r cuts < locations
  head_known = head_below (record { measurable = cut.measurable; forwards = cut.forwards; backwards = cut.backwards; cut_set = cut.cut_set; padded = no_cells })

  head_same : head_end (legs_only locations legs depot end) r cuts ≡ head_end (legs_only locations legs depot end) r (opened (first_cuts cuts))
  head_same =
      ap (head_end (legs_only locations legs depot end) r) (cuts_parted cuts (omega (arith, few.0)))
      ∙ same_head (legs_only locations legs depot end) r (first_cuts cuts) (last_cut cuts) (suc (get_or (first_cuts cuts) (length (first_cuts cuts) - 1) 0)) some

  -- A stop, or the end harbour.
  pub stop_known : (c y : ℕ) → y ≡ stop_at end r c → y < locations
  stop_known c y e = rw e (by (dec_lt c (length r)))
    where
      by : Dec (c < length r) → stop_at end r c < locations
      by (yes h) = rw (lt-ltb c (length r) h) (cut.measurable.stops.known c h)
      by (no h) = rw (le-ltb c (length r) (omega arith)) cut.measurable.end_known

  module _ (c : ℕ) (h : last_cut cuts ≤ c) (l : c ≤ length r) where
    tail_is : stop_at end r c ≡ tail_start (legs_only locations legs depot end) r (first_cuts cuts ++ (c ∷ []))
    tail_is = ap (stop_at end r) (sym at) ∙ Segments.tail_is (first_cuts cuts ++ (c ∷ [])) r (other c h l) end
      where
        size : length (first_cuts cuts ++ (c ∷ [])) - 1 ≡ length (first_cuts cuts)
        size = simp length-append (omega arith)

        at : get_or (first_cuts cuts ++ (c ∷ [])) (length (first_cuts cuts ++ (c ∷ [])) - 1) 0 ≡ c
        at = ap (λ i. get_or (first_cuts cuts ++ (c ∷ [])) i 0) size ∙ get_or_at (first_cuts cuts) c [] 0 (length (first_cuts cuts)) refl

    -- The legs inside P, from the running sums.
    inside_P : (b : Bool) → get_or (cond b backwards forwards) (get_or cuts (length cuts - 2) 0) 0 + inner (leg locations legs) (placed_in (first_cuts cuts ++ (c ∷ [])) r (last_state (first_cuts cuts) + cond b 1 0))
        ≡ get_or (cond b backwards forwards) (c - 1) 0
    inside_P b =
        let part = PIs r (first_cuts cuts) some c (other c h l) b (last_state (first_cuts cuts) + cond b 1 0) refl in
        rw (part, start_is) (Placing.inner_sum costs_of b (get_or cuts (length cuts - 2) 0) c (omega (arith, two_last.0)) l)

    forward_P : get_or forwards (get_or cuts (length cuts - 2) 0) 0 + inner (leg locations legs) (placed_in (first_cuts cuts ++ (c ∷ [])) r (last_state (first_cuts cuts))) ≡ get_or forwards (c - 1) 0
    forward_P = let z : last_state (first_cuts cuts) + 0 ≡ last_state (first_cuts cuts) = omega arith in rw z at (inside_P false)

    backward_P : get_or backwards (get_or cuts (length cuts - 2) 0) 0 + inner (leg locations legs) (placed_in (first_cuts cuts ++ (c ∷ [])) r (suc (last_state (first_cuts cuts)))) ≡ get_or backwards (c - 1) 0
    backward_P = let z : last_state (first_cuts cuts) + 1 ≡ suc (last_state (first_cuts cuts)) = omega arith in rw z at (inside_P true)

    pub spanned : (b : Bool) → Spanned (cond b backwards forwards) (get_or cuts (length cuts - 2) 0) c
    spanned b = Placing.inner_asked costs_of b (get_or cuts (length cuts - 2) 0) c (omega (arith, two_last.0)) l

    pub span_small : (b : Bool) → span (cond b backwards forwards) (get_or cuts (length cuts - 2) 0) c ≤ 511 * 1000000
    span_small b = Placing.inner_small costs_of b (get_or cuts (length cuts - 2) 0) c (omega (arith, two_last.0)) l

    pub stops_known : (c - 1 < length r) × (get_or r (c - 1) 0 < locations)
    stops_known =
        let n : c - 1 < length r = omega (arith, two_last.0) in
        (n, cut.measurable.stops.known (c - 1) n)

  pub start_known : (get_or cuts (length cuts - 2) 0 < length r) × (get_or r (get_or cuts (length cuts - 2) 0) 0 < locations)
  start_known =
      let n : get_or cuts (length cuts - 2) 0 < length r = omega (arith, two_last.0, two_last.1) in
      (n, cut.measurable.stops.known _ n)

-- ---- what the minima ask

module _ {locations : ℕ} {legs : List ℕ} {depot end : ℕ} {r forwards backwards cuts : List ℕ} {head : ℕ} {entries exits inside low zeros : List ℕ} {c : ℕ}
    (given : PromisingTestable locations legs depot end r forwards backwards cuts head entries exits inside low zeros c) where
  abbrev cut : Cut locations legs depot end r forwards backwards cuts
  cut = given.cut

  early : (s : ℕ) → s < 2 * (length cuts - 2) → s < last_state (first_cuts cuts)
  early s h = omega (arith, state_is given.cut, h)

  state : (s : ℕ) → s < 2 * (length cuts - 2) → s < 2 * (length (opened (first_cuts cuts)) - 1)
  state s h = omega (arith, opened_many given.cut, h)

  small : length cuts ≤ 5
  small = given.cut.cut_set.most

  pub into_fits : {x : ℕ} → x < locations → IntoFits locations legs x entries inside low (2 * (length cuts - 2))
  into_fits h =
      record {
        last = omega (arith, small);
        table = given.cut.measurable.table;
        from_known = h;
        entry_places = given.places.ends.entry_places;
        inside_places = given.places.ends.inside_places;
        low_places = given.places.low_places;
        low_small = given.places.low_small;
        entries_known = λ s l. rw (given.prepared.entry s (early s l)) (entry_known (joined given.cut) s (state s l));
        inside_small = λ s l. rw (given.prepared.within s (early s l), ← (inside_is (joined given.cut) s (state s l))) (inside_small (joined given.cut) s (state s l));
      }

  pub out_fits : {y start : ℕ} {add : List ℕ} → y < locations → length add ≡ 21 → ((x : ℕ) → get_or add x 0 ≤ 2 ^ 43) → OutFits locations legs exits y add start (2 * (length cuts - 2))
  out_fits h n k =
      record {
        last = omega (arith, small);
        table = given.cut.measurable.table;
        to_known = h;
        exit_places = given.places.ends.exit_places;
        add_places = n;
        add_small = k;
        exits_known = λ s l. rw (given.prepared.exit s (early s l)) (exit_known (joined given.cut) s (state s l));
      }

  -- ---- the tests fail

  module _ (x y here back tail straight after_head turned : ℕ) (x_is : x ≡ get_or r (c - 1) 0) (y_is : y ≡ stop_at end r c)
      (here_is : here ≡ get_or low 20 0 + leg locations legs x y) (back_is : back ≡ leg locations legs (get_or r (get_or cuts (length cuts - 2) 0) 0) y)
      (tail_least : LeastOut locations legs exits y zeros back (2 * (length cuts - 2)) tail) (straight_least : LeastInto locations legs x entries inside low (2 * (length cuts - 2)) straight)
      (after_is : after_head ≡ get_or low 19 0 + leg locations legs head x) (turned_least : LeastOut locations legs exits x low after_head (2 * (length cuts - 2)) turned)
      (no_last : get_or low 20 0 ≤ get_or low 8 0) (no_straight : here ≤ straight + tail)
      (on off : ℕ) (on_is : on ≡ span forwards (get_or cuts (length cuts - 2) 0) c) (off_is : off ≡ span backwards (get_or cuts (length cuts - 2) 0) c)
      (no_turned : ltb (turned + tail + off) (here + on) ≡ false) where
    y_tail : y ≡ tail_start (legs_only locations legs depot end) r (first_cuts cuts ++ (c ∷ []))
    y_tail = y_is ∙ tail_is given.cut c given.least given.most

    exit_at : (a : ℕ) → a < last_state (first_cuts cuts) → get_or exits a 0 ≡ exit_of (placed_in (opened (first_cuts cuts)) r) (head_end (legs_only locations legs depot end) r (opened (first_cuts cuts))) a
    exit_at a h = rw (ne_eqb a 9 (λ (q : a ≡ 9). omega (arith, state_is given.cut, small))) (given.prepared.exit a h)

    tail_below : (a : ℕ) → After (last_state (first_cuts cuts)) a →
        tail ≤ leg locations legs (exit_of (placed_in (opened (first_cuts cuts)) r) (head_end (legs_only locations legs depot end) r (opened (first_cuts cuts))) a) (tail_start (legs_only locations legs depot end) r (first_cuts cuts ++ (c ∷ [])))
    tail_below a (inl h) = rw (← (exit_at a h), ← y_tail) (omega (arith, tail_least.below a (omega (arith, state_is given.cut)), given.zero_is (10 + a)))
    tail_below a (inr e) =
        let n : suc (last_state (first_cuts cuts)) ≡ 9 → ⊥ = λ (q : suc (last_state (first_cuts cuts)) ≡ 9). omega (arith, state_is given.cut, small) in
        let out = back_exit r (first_cuts cuts) (some given.cut) (suc (get_or (first_cuts cuts) (length (first_cuts cuts) - 1) 0)) (opened_set given.cut) in
        rw (e, ne_eqb (suc (last_state (first_cuts cuts))) 9 n, out, start_is given.cut, ← y_tail, ← back_is) tail_least.start_above

    room_none : Unpromising (last_state (first_cuts cuts)) (get_or low 20 0) (inner (leg locations legs) (placed_in (first_cuts cuts ++ (c ∷ [])) r (last_state (first_cuts cuts)))) tail
        (leg locations legs (get_or r (c - 1) 0) (tail_start (legs_only locations legs depot end) r (first_cuts cuts ++ (c ∷ [])))) (λ z. get_or low z 0)
        (λ b. leg locations legs (get_or r (c - 1) 0) (first_of (placed_in (opened (first_cuts cuts)) r b) 0) + inner (leg locations legs) (placed_in (opened (first_cuts cuts)) r b))
        (λ a. leg locations legs (exit_of (placed_in (opened (first_cuts cuts)) r) (head_end (legs_only locations legs depot end) r (opened (first_cuts cuts))) a) (get_or r (c - 1) 0) + inner (leg locations legs) (placed_in (first_cuts cuts ++ (c ∷ [])) r (suc (last_state (first_cuts cuts)))))
    room_none =
        record {
          straight = λ w h.
              rw (← y_tail, ← x_is, ← (given.prepared.entry w h), ← (given.prepared.within w h)) (omega (arith, here_is, no_straight, straight_least.below w (omega (arith, state_is given.cut))));
          ended = no_last;
          reversed = λ u h. by u h;
        }
      where
        by : (u : ℕ) → Before (last_state (first_cuts cuts)) u →
            get_or low 20 0 + inner (leg locations legs) (placed_in (first_cuts cuts ++ (c ∷ [])) r (last_state (first_cuts cuts))) + leg locations legs (get_or r (c - 1) 0) (tail_start (legs_only locations legs depot end) r (first_cuts cuts ++ (c ∷ [])))
            ≤ get_or low (10 + u) 0 + (leg locations legs (exit_of (placed_in (opened (first_cuts cuts)) r) (head_end (legs_only locations legs depot end) r (opened (first_cuts cuts))) u) (get_or r (c - 1) 0) + inner (leg locations legs) (placed_in (first_cuts cuts ++ (c ∷ [])) r (suc (last_state (first_cuts cuts))))) + tail
        by u (inl h) =
            rw (← y_tail, ← x_is, ← (exit_at u h))
            (omega (arith, here_is, on_is, off_is, ltb-false (turned + tail + off) (here + on) no_turned, turned_least.below u (omega (arith, state_is given.cut)), forward_P given.cut c given.least given.most, backward_P given.cut c given.least given.most))
        by u (inr e) =
            rw (e, ← y_tail, ← x_is, ← (head_same given.cut), ← given.head_is)
            (omega (arith, here_is, on_is, off_is, ltb-false (turned + tail + off) (here + on) no_turned, turned_least.start_above, after_is, forward_P given.cut c given.least given.most, backward_P given.cut c given.least given.most))

    pub gains_none : (rows : List ℕ) (count : ℕ) → Prepared locations legs depot r (first_cuts cuts) rows count entries exits inside low → NoGain locations legs depot end r (first_cuts cuts) rows count c
    gains_none rows count kept = no_gain end kept (some given.cut) c (other given.cut c given.least given.most) tail tail_below room_none

-- ---- from last cut to last cut

module _ {locations : ℕ} {legs : List ℕ} {depot end : ℕ} {r forwards backwards cuts entries exits inside low zeros : List ℕ}
    (given : Nextable locations legs depot end r forwards backwards cuts entries exits inside low zeros) where
  pub none_passed : NextPromising locations legs depot end r cuts entries exits inside low (last_cut cuts)
  none_passed = record { least = omega arith; most = omega (arith, (two_last given.cut).1); idle = λ c h k. absurd (omega arith) }

  pub one_passed : {c : ℕ} {b : Bool} → c ≤ length r → NextPromising locations legs depot end r cuts entries exits inside low c → PromisingTested locations legs depot end r cuts entries exits inside low c b → b ≡ false →
      NextPromising locations legs depot end r cuts entries exits inside low (c + 1)
  one_passed {c} {b} l w t e =
      record {
        least = omega (arith, w.least);
        most = omega arith;
        idle = λ x h k rows count kept. by x h k rows count kept (dec_lt x c);
      }
    where
      by : (x : ℕ) → last_cut cuts ≤ x → x < c + 1 → (rows : List ℕ) (count : ℕ) → Prepared locations legs depot r (first_cuts cuts) rows count entries exits inside low → Dec (x < c) →
          NoGain locations legs depot end r (first_cuts cuts) rows count x
      by x h k rows count kept (yes m) = w.idle x h m rows count kept
      by x h k rows count kept (no m) = let q : x ≡ c = omega arith in rw q (t e rows count kept)

pub testable : {locations : ℕ} {legs : List ℕ} {depot end : ℕ} {r forwards backwards cuts entries exits inside low zeros : List ℕ} {head c : ℕ} →
    Nextable locations legs depot end r forwards backwards cuts entries exits inside low zeros → head ≡ head_end (legs_only locations legs depot end) r cuts → last_cut cuts ≤ c → c ≤ length r →
    PromisingTestable locations legs depot end r forwards backwards cuts head entries exits inside low zeros c
testable g e h l =
    record { cut = g.cut; head_is = e; places = g.places; prepared = g.prepared; zero_places = g.zero_places; zero_is = g.zero_is; least = h; most = l }
