-- The scan's test of a candidate, from its chain in the joint table and from the dues and the words of its states. Assumes nothing.
use mathlib.Core.Path.{◌≡◌, refl, sym, ap, ◌∙◌}
use mathlib.Core.Bool.{Bool, true, false, ◌&&◌, and-true, and-false}
use mathlib.Core.Logic.{inl, inr, ⊎_elim}
use mathlib.Core.List.{List}
use Prim.Native.Nat.{ℕ, ◌+◌, ◌-◌, ◌*◌, ◌^◌, ◌≤◌, ◌<◌}
use native.Mathlib.Decide.{dec_lt}
use native.Mathlib.Omega.{arith}
use lib.Dec.{ltb, leb}
use lib.ListN.{length, get_or, take, drop}
use lib.Seq.{slice, get_or-take}
use borrow.Author.Tests.{lt-ltb, le-ltb, le-leb, lt-leb}
use Rattle.theory.specs.Moves.{Pattern, total}
use Rattle.theory.specs.Pairs.{pairs_of, pairs_kept, front_kept}
use Rattle.theory.specs.Route.{Problem, Clock, path, tour_length, reconnected, timely, on_time}
use Rattle.theory.specs.Costs.{last_of}
use Rattle.theory.specs.Scan.{improves}
use Rattle.theory.specs.Polish.{search_of, move_at}
use Rattle.theory.specs.Tables.{problem, timetable_by, clock_by, CutSet, Trip}
use Rattle.theory.proofs.Judged.{followed}
use Rattle.costs.proofs.Segments.{last_cut, first_many}
use Rattle.deadlines.specs.Lateness.{lateness}
use Rattle.scan_joints.specs.States.{row, standing_row, Patterned}
use Rattle.scan_joints.specs.JointTable.{chain, JointOf}
use Rattle.scan_joints.proofs.Chain.{chain_delta}
use Rattle.scan_reach.specs.Reach.{JointAsked}
use Rattle.scan_chains.specs.Chains.{Chained}
use Rattle.scan_chains.specs.Chains as Adding
use Rattle.scan_chains.proofs.Chains.{chained_known, cost_is}
use Rattle.deadline_dues.specs.Due.{DuesRead}
use Rattle.deadline_dues.specs.Parts.{head, middle, HeadTimed, HeadClock}
use Rattle.deadline_dues.specs.Dues.{in_time, StaysOf, DuesOf}
use Rattle.deadline_dues.proofs.Head.{head_left}
use Rattle.deadline_dues.proofs.InTime.{row_kept, row_known}
use Rattle.deadline_dues.proofs.Judged.{candidate_judged}
use Rattle.precedence.specs.Words.{BackSince}
use Rattle.precedence_marks.specs.Held.{in_order, SegmentsMarked, MarksReach, MarksTellable}
use Rattle.scan_cut_set.proofs.Kept.{candidate_kept, row_in_order, no_tail}
use Rattle.scan_cut_set.specs.Gain.{below, due_gain, Searchable, Findable, Chains, NextShorter, Tabled, FirstGain, OrderRows, FirstOrdered, DueRows, FirstDue}
use Rattle.scan_cut_set.proofs.FirstDue.{between}

-- Below the threshold: so much shorter that the tail is on time.
enough : (cost standing late : ℕ) → cost < standing → leb late (standing - cost) ≡ ltb cost (below standing late)
enough cost standing late h = by (dec_lt (standing - cost) late)
  where
    by : Dec (standing - cost < late) → leb late (standing - cost) ≡ ltb cost (below standing late)
    by (yes l) = lt-leb late (standing - cost) l ∙ sym (le-ltb cost (below standing late) (omega arith))
    by (no n) = le-leb late (standing - cost) (omega arith) ∙ sym (lt-ltb cost (below standing late) (omega arith))

and_assoc : (a b c : Bool) → ((a && b) && c) ≡ (a && (b && c))
and_assoc true b c = refl
and_assoc false b c = refl

module _ {T : Trip} {r cs rows chains J : List ℕ} {ps : List Pattern} {limit : ℕ}
    (given : Tabled T r cs ps rows chains J limit) where
  abbrev P : Problem
  P = problem T

  abbrev C : Clock
  C = clock_by T.tables

  abbrev pattern : ℕ → Pattern
  pattern i = (move_at ps cs i).pattern

  abbrev gain : ℕ → Bool
  gain i = improves (search_of P ps (length cs) (length r)) r (move_at ps cs i)

  abbrev standing : ℕ
  standing = chain J 9 (standing_row (length cs))

  abbrev cost : ℕ → ℕ
  cost i = chain J 9 (row rows i)

  -- When the head is left.
  abbrev now : ℕ
  now = path C.step T.depot (head r cs)

  abbrev middle_on_time : ℕ → Bool
  middle_on_time i = on_time C (last_of T.depot (head r cs)) now (middle r cs (pattern i).order (pattern i).mask)

  few : limit ≤ 383
  few = omega (arith, given.allowed, given.patterned.few)

  pub adding : (from : ℕ) → from ≤ limit → Chains J chains from limit
  adding from h =
      record {
        padded = given.joined.padded;
        places = given.chained.places;
        few = few;
        within = h;
        known = chained_known given.chained (λ c l. given.patterned.small c (omega (arith, given.allowed)));
      }

  -- The cells added up are the chain.
  cost_of : (i : ℕ) → i < limit → Adding.cost J chains i ≡ cost i
  cost_of i h = cost_is J (given.chained.each i h) given.patterned.places (omega (arith, few))

  abbrev middle_kept : ℕ → Bool
  middle_kept i = pairs_kept P.pairs (middle r cs (pattern i).order (pattern i).mask)

  -- The head is on time and keeps its pairs, and the tail keeps its own.
  module _ {late since : ℕ} (late_is : late ≡ lateness C T.depot r (get_or cs (length cs - 1) 0)) (early : on_time C T.depot 0 (head r cs) ≡ true)
      (front : front_kept P.pairs (take (get_or cs 0 0) r) (drop (get_or cs 0 0) r) ≡ true) (back : BackSince P.pairs r since) (fits : since ≤ get_or cs (length cs - 1) 0) where
    abbrev short : ℕ → Bool
    short i = ltb (cost i) (below standing late)

    gain_is : (i : ℕ) → i < length ps → gain i ≡ ((middle_kept i && middle_on_time i) && short i)
    gain_is i h = by (dec_lt (cost i) standing)
      where
        moved : List ℕ
        moved = reconnected (record { cuts = cs; pattern = pattern i }) r

        shifted : tour_length P moved + standing ≡ tour_length P r + cost i
        shifted =
            chain_delta P cs r J (pattern i).order (pattern i).mask given.cut_set (given.patterned.for_k i h) given.joined
            ∙ ap (λ s. tour_length P r + chain J 9 s) (sym (given.patterned.each i h))

        in_pairs : Bool
        in_pairs = pairs_kept P.pairs moved

        in_time_all : Bool
        in_time_all = timely (timetable_by T.tables) T.depot moved

        paired : in_pairs ≡ middle_kept i
        paired =
            candidate_kept P.pairs cs r given.cut_set back (pattern i) (given.patterned.for_k i h)
            ∙ rw (front, le-leb since (get_or cs (length cs - 1) 0) fits)

        by : Dec (cost i < standing) → gain i ≡ ((middle_kept i && middle_on_time i) && short i)
        by (yes l) =
            ap (λ b. (in_pairs && in_time_all) && b) (lt-ltb (tour_length P moved) (tour_length P r) (omega (arith, shifted)))
            ∙ and-true (in_pairs && in_time_all)
            ∙ ap (λ b. b && in_time_all) paired
            ∙ ap (λ b. middle_kept i && b) (
            candidate_judged cs r given.cut_set P (pattern i) (standing - cost i) (given.patterned.for_k i h) early (omega (arith, shifted))
            ∙ ap (λ n. middle_on_time i && leb n (standing - cost i)) (sym late_is)
            ∙ ap (λ b. middle_on_time i && b) (enough (cost i) standing late l))
            ∙ sym (and_assoc (middle_kept i) (middle_on_time i) (short i))
        by (no n) =
            ap (λ b. (in_pairs && in_time_all) && b) (le-ltb (tour_length P moved) (tour_length P r) (omega (arith, shifted)))
            ∙ and-false (in_pairs && in_time_all)
            ∙ sym (ap (λ b. (middle_kept i && middle_on_time i) && b) (le-ltb (cost i) (below standing late) (omega arith)) ∙ and-false (middle_kept i && middle_on_time i))

    -- Where no pattern costs so little, none improves.
    pub none_below : (limit' b : ℕ) → limit' ≡ limit → b ≡ below standing late → NextShorter J chains b 0 limit limit' → FirstGain P ps (length cs) r cs limit limit
    none_below limit' b e is next =
        record {
          within = omega arith;
          passed = λ x h.
              gain_is x (omega (arith, given.allowed))
              ∙ ap (λ t. (middle_kept x && middle_on_time x) && t) (le-ltb (cost x) (below standing late) (omega (arith, is, cost_of x h, next.passed x (omega arith) (omega arith))))
              ∙ and-false (middle_kept x && middle_on_time x);
          gains = λ m. absurd (omega arith);
        }

    -- With the words of the states alone: where no pattern costs so little and keeps its pairs, none improves.
    pub none_ordered : (H : List ℕ) → SegmentsMarked P.pairs cs r (length cs - 1) H → (i b : ℕ) → i ≡ limit → b ≡ below standing late → FirstOrdered J rows chains H (length cs - 1) b limit i → FirstGain P ps (length cs) r cs limit limit
    none_ordered H words i b e is first =
        record {
          within = omega arith;
          passed = λ x h.
              let k : x < length ps = omega (arith, given.allowed) in
              gain_is x k
              ∙ between (middle_kept x) (middle_on_time x) (short x) (
              ap (λ t. t && short x) (sym (row_in_order P.pairs cs r given.cut_set H words (pattern x).order rows (pattern x).mask x (given.patterned.for_k x k) (given.patterned.each x k)))
              ∙ ap (λ n. in_order H 0 (slice (4 * x) (4 * x + (length cs - 1)) rows) && ltb n (below standing late)) (sym (cost_of x h))
              ∙ ap (λ n. in_order H 0 (slice (4 * x) (4 * x + (length cs - 1)) rows) && ltb (Adding.cost J chains x) n) (sym is)
              ∙ first.passed x (omega (arith, e)));
          gains = λ m. absurd (omega arith);
        }

    -- With the dues and the words of the states.
    module _ (S D H : List ℕ) (stays : StaysOf T.tables.service cs r S) (dues : DuesOf C cs r D) (words : SegmentsMarked P.pairs cs r (length cs - 1) H) where
      gain_due : (i : ℕ) → i < limit → gain i ≡ due_gain J rows chains S D H (length cs - 1) now (below standing late) i
      gain_due i h =
          let k : i < length ps = omega (arith, given.allowed) in
          let f = given.patterned.for_k i k in
          let w = given.patterned.each i k in
          gain_is i k
          ∙ ap (λ b. (b && middle_on_time i) && short i) (sym (row_in_order P.pairs cs r given.cut_set H words (pattern i).order rows (pattern i).mask i f w))
          ∙ ap (λ b. (in_order H 0 (slice (4 * i) (4 * i + (length cs - 1)) rows) && b) && short i)
          (sym (row_kept T.tables cs r J S D given.cut_set given.joined stays dues (pattern i).order rows (pattern i).mask i now f w))
          ∙ ap (λ n. (in_order H 0 (slice (4 * i) (4 * i + (length cs - 1)) rows) && in_time J S D 9 now (slice (4 * i) (4 * i + (length cs - 1)) rows)) && ltb n (below standing late)) (sym (cost_of i h))

      pub first_due_gain : (b i : ℕ) → b ≡ below standing late → FirstDue J rows chains S D H (length cs - 1) now b limit i → FirstGain P ps (length cs) r cs limit i
      first_due_gain b i e f =
          let d : FirstDue J rows chains S D H (length cs - 1) now (below standing late) limit i = rw e at f in
          record {
            within = d.within;
            passed = λ x h. gain_due x (omega (arith, d.within)) ∙ d.passed x h;
            gains = λ h. gain_due i h ∙ d.gains h;
          }

  states_known : (i : ℕ) → i < limit → (c : ℕ) → 4 * i ≤ c → c < 4 * i + (length cs - 1) → get_or rows c 0 < 8
  states_known i h c l m =
      let k : i < length ps = omega (arith, given.allowed) in
      row_known (length cs) (pattern i).order rows (pattern i).mask i given.cut_set.least given.cut_set.most (given.patterned.for_k i k) (given.patterned.each i k) c l m

  -- The rows can be judged by the words, and by all.
  pub order_rows : (H : List ℕ) → length H ≡ 17 → (b shorter : ℕ) → NextShorter J chains b 0 limit shorter → OrderRows J rows chains H (length cs - 1) b shorter limit
  order_rows H word_places b shorter next =
      record { places = given.patterned.places; adding = adding 0 (omega arith); most = omega (arith, given.cut_set.most); word_places = word_places; states = states_known; first = next }

  pub due_rows : (S D H : List ℕ) → StaysOf T.tables.service cs r S → length D ≡ 9 → length H ≡ 17 → (b start : ℕ) → now ≤ 2 ^ 40 → FirstOrdered J rows chains H (length cs - 1) b limit start → DueRows J rows chains S D H (length cs - 1) now b start limit
  due_rows S D H stays places word_places b start e next =
      record {
        places = given.patterned.places;
        adding = adding 0 (omega arith);
        most = omega (arith, given.cut_set.most);
        due_places = places;
        stay_places = stays.places;
        word_places = word_places;
        brief = stays.brief;
        states = states_known;
        early = e;
        first = next;
      }

-- ---- what the step reads

module _ {T : Trip} {r forwards backwards stayed cs : List ℕ} (given : Searchable T r forwards backwards stayed cs) where
  pub dues_read : DuesRead T.tables r backwards stayed
  dues_read =
      let m = given.timed.measurable in
      record { table = m.table; times = given.timed.times; stops = m.stops; backwards = given.backwards; stays = given.stays }

  pub head_timed : HeadTimed T.tables.locations T.tables.legs T.depot r forwards stayed cs
  unfolding total
  head_timed =
      record {
        followable = followed given.timed.measurable;
        forwards = given.forwards;
        places = given.stays.places;
        none = given.stays.each 0 (omega arith);
        small = given.stays.small;
        cut_set = given.cut_set;
      }

  pub clock_told : {v : ℕ} → HeadClock T.tables.locations T.tables.legs T.depot r stayed cs v → v ≡ path (clock_by T.tables).step T.depot (head r cs)
  clock_told h = head_left T.tables given.stays given.cut_set h

-- Once the joint table is filled.
pub tabled : {T : Trip} {r forwards backwards stayed cs rows chains J : List ℕ} {ps : List Pattern} {limit : ℕ} →
    Searchable T r forwards backwards stayed cs → Patterned (length cs) ps rows → limit ≤ length ps → Chained rows limit chains → JointOf T.tables.locations T.tables.legs T.depot T.end r cs J → Tabled T r cs ps rows chains J limit
tabled s w l a j = record { timed = s.timed; cut_set = s.cut_set; patterned = w; allowed = l; chained = a; joined = j }

module _ {T : Trip} {members r forwards backwards stayed cs rows chains late : List ℕ} {since : ℕ} {entries exits inside J D H : List ℕ} {limit : ℕ}
    (given : Findable T members r forwards backwards stayed cs rows chains late since entries exits inside J D H limit) where
  abbrev own : CutSet (length cs) (length r) cs
  own = given.searchable.cut_set

  pub joint_asked : JointAsked T.tables.locations T.tables.legs T.depot T.end r forwards backwards cs entries exits inside J
  joint_asked =
      let g = given.searchable in
      let e = given.ends in
      record {
        joinable = record { measurable = g.timed.measurable; forwards = g.forwards; backwards = g.backwards; cut_set = g.cut_set; padded = given.padded };
        ends = e.places;
        entry = e.entry;
        exit = e.exit;
        within = e.within;
        held = given.joint_held;
      }

  -- What is read of the lateness is that of the tail.
  pub told_late : {v : ℕ} → v ≡ get_or late (get_or cs (length cs - 1) 0) 0 → v ≡ lateness (clock_by T.tables) T.depot r (get_or cs (length cs - 1) 0)
  told_late e = e ∙ given.latenesses.each _ (last_cut cs r own)

  -- The words of the segments can be told.
  pub tellable : MarksTellable members r cs H
  tellable =
      let m = given.searchable.timed.measurable in
      record {
        sized = ⊎_elim (λ e. inl e.1) (λ e. inr e.0) given.lent;
        short = m.stops.short;
        known = λ i h. omega (arith, m.stops.known i h, m.table.few);
        cut_set = own;
        places = ⊎_elim (λ k. k.1) (λ k. k.1.places) given.marks;
        before = ⊎_elim (λ k. inl (k.2 16)) (λ k. ⊎_elim (λ z. inl z) (λ w. inr (before_reach w)) k.1.held) given.marks;
        behind = given.marks_behind;
      }
    where
      before_reach : MarksReach (pairs_of T.pairs) r (take (length cs - 1) cs) H (get_or H 16 0) → get_or cs (length cs - 2) 0 ≤ get_or H 16 0
      before_reach w =
          let n : length (take (length cs - 1) cs) - 1 ≡ length cs - 2 = omega (arith, first_many cs) in
          let e : get_or (take (length cs - 1) cs) (length (take (length cs - 1) cs) - 1) 0 ≡ get_or cs (length cs - 2) 0 =
          ap (λ i. get_or (take (length cs - 1) cs) i 0) n ∙ get_or-take (length cs - 1) cs (length cs - 2) 0 (omega (arith, own.least)) in
          omega (arith, w.least, e)

  -- Before the place where a tail may begin, no candidate improves.
  pub none_before : get_or cs (length cs - 1) 0 < since → (ps : List Pattern) → Patterned (length cs) ps rows → limit ≤ length ps → FirstGain (problem T) ps (length cs) r cs limit limit
  none_before l ps w a = no_tail T ps cs r rows limit since own w a given.back l
