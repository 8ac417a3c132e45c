-- A step of a stretch, over plain lists: what holds at each step, and what each end of a step gives. Assumes nothing.
use mathlib.Core.Path.{◌≡◌, refl, sym, ap, ◌∙◌}
use mathlib.Core.Bool.{Bool, true, false, true≢false, ◌&&◌, and-false}
use mathlib.Core.Logic.{◌⊎◌, inl, inr}
use mathlib.Core.List.{List, [], ◌∷◌, ◌++◌}
use Prim.Native.Nat.{ℕ, suc, min, ◌+◌, ◌-◌, ◌*◌, ◌≤◌, ◌<◌}
use native.Mathlib.Omega.{arith}
use native.Mathlib.Nat.{zero-mul}
use native.Mathlib.Decide.{dec_lt}
use lib.ListN.{length, get_or, set, replicate}
use lib.Seq.{set_at, get_or-take}
use Rattle.theory.specs.Moves.{Pattern}
use Rattle.theory.specs.Pairs.{pairs_of}
use Rattle.theory.specs.Route.{reconnected, feasible, tour_length}
use Rattle.theory.specs.Scan.{improves}
use Rattle.theory.specs.Polish.{search_of, move_at}
use Rattle.theory.specs.Tables.{problem, clock_by, CutSet, ForK, Trip}
use Rattle.costs.proofs.Segments.{head_at, cuts_parted, first_many}
use Rattle.scan_joints.specs.JointTable.{Padded}
use Rattle.scan_joints.specs.States.{row, states, no_pattern}
use Rattle.costs.specs.RouteCosts.{first_cuts, last_cut}
use Rattle.scan_shared.specs.Prepared.{Cut, RowsFit}
use Rattle.scan_shared.specs.Filling.{open_by, PreparedNow}
use Rattle.scan_shared.proofs.Preparing.{first_of_cuts, last_of_cuts, zero_at, row_prepared, row_alone}
use Rattle.scan_bound.specs.Tests.{Nextable, NextPromising}
use Rattle.deadline_dues.specs.Dues.{DuesHeld}
use Rattle.precedence.specs.Words.{PairsLent, Readable}
use Rattle.precedence_marks.specs.Held.{MarksKept}
use Rattle.scan_reach.specs.Reach.{JointHeld}
use Rattle.scan_cut_set.specs.Gain.{FirstGain, Found}
use Rattle.scan_open.specs.Open.{OpenFindable}
use Rattle.scan_open.proofs.Open.{chained_less}
use Rattle.scan_step.specs.declared.Step.{Step}
use Rattle.scan_step.specs.declared.Step.TheVariants.{Done, On, Closed}
use Rattle.scan_step.specs.Stepping.{Listed, Hopeful, Ended, GainAt, Going, StepTo, NotClosed, ClosingKept, Shutting, ShutBy, BlockAsked, BlockedAt, NextHit, Triable, Trying, Steppable, idle_end, improves_at}
use Rattle.scan_step.proofs.LastCut.{first_below, long, at_cut}
use Rattle.scan_step.proofs.Closing.{shut_idle}
use Rattle.scan_step.proofs.Ends.{ends_told}
use Rattle.scan_step.proofs.Counting.{count_to, count_next, count_least, up_to}

dec_bool : (b : Bool) → (b ≡ true) ⊎ (b ≡ false)
dec_bool true = inl refl
dec_bool false = inr refl

-- ---- the last cut as the array has it

pub last_stored : (l : List ℕ) (v : ℕ) → 1 ≤ length l → set l (length l - 1) v ≡ first_cuts l ++ (v ∷ [])
last_stored l v h = ap (λ z. set z (length l - 1) v) (cuts_parted l h) ∙ set_at (first_cuts l) (last_cut l) [] v (length l - 1) (first_many l)

hit_stored : (cuts : List ℕ) → 2 ≤ length cuts → (hit : ℕ) → last_cut (set cuts (length cuts - 1) hit) ≡ hit
hit_stored cuts h hit = ap last_cut (last_stored cuts hit (omega arith)) ∙ last_of_cuts (first_cuts cuts) hit

-- ---- what is known of the cut set at hand

module _ {T : Trip} {ps : List Pattern} {members r first : List ℕ} {left : ℕ} {cuts table dues words : List ℕ} {examined : ℕ} (going : Going T ps members r first left cuts table dues words examined) where
  stored : (v : ℕ) → set cuts (length cuts - 1) v ≡ first_cuts first ++ (v ∷ [])
  stored v = last_stored cuts v (omega (arith, going.cut_set.least)) ∙ ap (λ l. l ++ (v ∷ [])) going.same

  cuts_are : cuts ≡ first_cuts first ++ (last_cut cuts ∷ [])
  cuts_are = cuts_parted cuts (omega (arith, going.cut_set.least)) ∙ ap (λ l. l ++ (last_cut cuts ∷ [])) going.same

  pub last_most : last_cut cuts ≤ length r
  last_most = (first_below r cuts going.cut_set).1

  first_same : get_or cuts 0 0 ≡ get_or first 0 0
  first_same =
      sym (get_or-take (length cuts - 1) cuts 0 0 (omega (arith, going.cut_set.least)))
      ∙ ap (λ l. get_or l 0 0) going.same
      ∙ get_or-take (length first - 1) first 0 0 (omega (arith, going.begin.least))

  answered : {e x : ℕ} {g w : Bool} {cuts' table' : List ℕ} → Padded table' →
      ((t y : ℕ) → last_cut first ≤ t → y < length ps → (t - last_cut first) * length ps + y < e → improves_at (problem T) ps r first t y ≡ false) → e ≤ left →
      (g ≡ true → (e < left) × GainAt (problem T) ps r first e x cuts') →
      (w ≡ true → (e ≡ (length r + 1 - last_cut first) * length ps) × (cuts' ≡ first_cuts first ++ (length r ∷ []))) →
      (g ≡ false → w ≡ false → (e ≡ left) × (left < (length r + 1 - last_cut first) * length ps) × (first_cuts cuts' ≡ first_cuts first)) →
      Ended (problem T) ps r first left (record { examined = e; gains = g; through = w; pattern = x }) cuts' × Padded table'
  answered p idle allowed gain over spent = (record { idle = λ t y h l i n. idle t y h i n; allowed = allowed; gain = gain; over = over; spent = spent }, p)

  -- The next cut set is behind the same head.
  module _ {rows : List ℕ} {patterns : ℕ} {forwards backwards stayed late : List ℕ} {since : ℕ} {table₀ : List ℕ} (given : Hopeful T members rows patterns r forwards backwards stayed late since first table₀) where
    pub hopeful_on : Hopeful T members rows patterns r forwards backwards stayed late since cuts table
    hopeful_on =
        let g = given.searchable in
        record {
          searchable = record { timed = g.timed; forwards = g.forwards; backwards = g.backwards; stays = g.stays; cut_set = going.cut_set };
          list = given.list;
          listed = rw going.many given.listed;
          padded = going.padded;
          early = rw first_same given.early;
          latenesses = given.latenesses;
          lent = given.lent;
          front = rw first_same given.front;
          back = given.back;
        }

    pub triable_on : Triable T members rows patterns r forwards backwards stayed late since cuts table dues words examined left
    triable_on =
        record { hopeful = hopeful_on; joint_held = rw going.same going.joint_held; held = rw going.same going.held; behind = going.behind; marks = rw going.same going.marks; marks_behind = going.marks_behind; within = going.within }

    pub prepared_on : {is_open : ℕ → Bool} {entries exits inside low : List ℕ} → PreparedNow T.tables.locations T.tables.legs T.depot r first rows patterns is_open entries exits inside low →
        PreparedNow T.tables.locations T.tables.legs T.depot r cuts rows patterns is_open entries exits inside low
    prepared_on k = record { places = k.places; prepared = rw going.same k.prepared; least = rw going.same k.least }

-- What is blocked at a cut set is at the later ones with the same first cuts.
pub shut_on : {T : Trip} {rows : List ℕ} {patterns : ℕ} {r cuts signs : List ℕ} {blocked : ℕ} (cuts' : List ℕ) → length cuts' ≡ length cuts → first_cuts cuts' ≡ first_cuts cuts → last_cut cuts ≤ last_cut cuts' →
    Shutting T rows patterns r cuts signs blocked → Shutting T rows patterns r cuts' signs blocked
shut_on cuts' many same later s =
    record { small = s.small; signed = s.signed; shut = λ order mask c f l h e. rw same (s.shut order mask c (rw many at f) (omega (arith, later, l)) h (rw many at e)) }

-- ---- the start

module _ {T : Trip} {members rows : List ℕ} {patterns : ℕ} {r forwards backwards stayed late : List ℕ} {since : ℕ} {cuts table : List ℕ} (given : Hopeful T members rows patterns r forwards backwards stayed late since cuts table) where
  pub cut : Cut T.tables.locations T.tables.legs T.depot T.end r forwards backwards cuts
  cut = let g = given.searchable in record { measurable = g.timed.measurable; forwards = g.forwards; backwards = g.backwards; cut_set = g.cut_set }

  pub few_patterns : patterns ≤ 383
  few_patterns = omega (arith, given.listed.patterned.few, given.listed.many)

  pub starts : (ps : List Pattern) (left : ℕ) {dues words : List ℕ} → JointHeld T.tables.locations T.tables.legs T.depot T.end r (first_cuts cuts) table → DuesHeld (clock_by T.tables) r (first_cuts cuts) dues → get_or dues 8 0 ≤ last_cut cuts →
      MarksKept (pairs_of T.pairs) members r (first_cuts cuts) words → get_or words 16 0 ≤ last_cut cuts → Going T ps members r cuts left cuts table dues words 0
  starts ps left joint_held held behind marks marks_behind =
      let z : last_cut cuts - last_cut cuts ≡ 0 = omega arith in
      record {
        begin = given.searchable.cut_set;
        cut_set = given.searchable.cut_set;
        many = refl;
        same = refl;
        from = omega arith;
        count = sym (ap (λ n. n * length ps) z ∙ zero-mul (length ps));
        within = omega arith;
        idle = λ t x h l i. absurd (omega arith);
        padded = given.padded;
        joint_held = joint_held;
        held = held;
        behind = behind;
        marks = marks;
        marks_behind = marks_behind;
      }

  -- Nothing is held of the joint table, the dues and the words.
  pub starts_bare : (ps : List Pattern) (left : ℕ) → get_or table 153 0 ≡ 0 → Going T ps members r cuts left cuts table (replicate 9 0) (replicate 17 0) 0
  starts_bare ps left none = starts ps left (inl none) (record { places = refl; held = inl refl }) (rw (zero_at 9 8) (omega arith)) (bare given.lent) (rw (zero_at 17 16) (omega arith))
    where
      bare : PairsLent (pairs_of T.pairs) members → MarksKept (pairs_of T.pairs) members r (first_cuts cuts) (replicate 17 0)
      bare (inl e) = inl (e.1, refl, zero_at 17)
      bare (inr m) = inr (omega (arith, m.0), record { places = refl; held = inl refl })

-- ---- up to the first last cut that is promising

module _ {T : Trip} {members rows chains : List ℕ} {patterns : ℕ} {signs : List ℕ} {blocked : ℕ} {some : Bool} {r forwards backwards stayed late : List ℕ} {since : ℕ} {cuts entries exits inside low zero table dues words hand_rows hand_chains numbers visits : List ℕ} {examined left : ℕ}
    (given : Steppable T members rows chains patterns signs blocked some r forwards backwards stayed late since cuts entries exits inside low zero table dues words hand_rows hand_chains numbers visits examined left) where
  pub nextable : Nextable T.tables.locations T.tables.legs T.depot T.end r forwards backwards cuts entries exits inside low zero
  nextable =
      record {
        cut = cut given.triable.hopeful;
        places = given.prepared.places;
        prepared = given.prepared.prepared;
        zero_places = given.zero_places;
        zero_is = given.zero_is;
      }

  rows_fit : RowsFit rows patterns
  rows_fit =
      let w = given.triable.hopeful.listed in
      record { places = w.patterned.places; few = few_patterns given.triable.hopeful; known = rw w.many at w.patterned.small }

  module _ {hit : ℕ} (next : NextHit T.tables.locations T.tables.legs T.depot T.end r cuts entries exits inside low some hit) where
    pub few_sets : (hit - last_cut cuts ≤ 513) × (patterns ≤ 383)
    few_sets = (omega (arith, next.most, given.triable.hopeful.searchable.cut_set.short), few_patterns given.triable.hopeful)

    module _ {first : List ℕ} {ps : List Pattern} (list : Listed (length first) patterns rows ps) (going : Going T ps members r first left cuts table dues words examined) where
      behind_hit : last_cut first ≤ hit
      behind_hit = omega (arith, going.from, next.least)

      -- A row that is closed.
      closed_idle : (t x : ℕ) → last_cut cuts ≤ t → t < hit → x < length ps → open_by signs blocked x ≡ false → improves_at (problem T) ps r first t x ≡ false
      closed_idle t x h l i e =
          ap (λ pre. improves (search_of (problem T) ps (length first) (length r)) r (move_at ps (pre ++ (t ∷ [])) x)) (sym going.same)
          ∙ ap (λ n. improves (search_of (problem T) ps n (length r)) r (move_at ps (first_cuts cuts ++ (t ∷ [])) x)) (sym going.many)
          ∙ shut_idle T given.triable.hopeful.back given.shutting going.cut_set ps (rw going.many list.patterned) x i (omega (arith, i, list.many)) e t h (omega (arith, l, next.most))

      -- A row that is open, by the least costs.
      open_idle : (t x : ℕ) → last_cut cuts ≤ t → t < hit → x < length ps → some ≡ true → open_by signs blocked x ≡ true → improves_at (problem T) ps r first t x ≡ false
      unfolding tour_length
      open_idle t x h l i s o =
          let p = get_or ps x no_pattern in
          let c : x < patterns = omega (arith, i, list.many) in
          let n : suc (length (first_cuts first)) ≡ length first = omega (arith, first_many first, going.begin.least) in
          let f : ForK (suc (length (first_cuts first))) p.order p.mask = rw n (list.patterned.for_k x i) in
          let w : row (row rows x) 0 ≡ states (suc (length (first_cuts first))) p.order p.mask = row_alone rows_fit x c ∙ rw n (list.patterned.each x i) in
          let q = rw going.same at (next.idle s t h l) in
          ap (λ b. feasible (problem T) (reconnected (move_at ps (first_cuts first ++ (t ∷ [])) x) r) && b)
          (q (row rows x) 1 (rw going.same at (row_prepared given.prepared rows_fit x c o)) p.order p.mask 0 (omega arith) f w)
          ∙ and-false (feasible (problem T) (reconnected (move_at ps (first_cuts first ++ (t ∷ [])) x) r))

      no_gain : (t x : ℕ) → last_cut cuts ≤ t → t < hit → x < length ps → improves_at (problem T) ps r first t x ≡ false
      no_gain t x h l i = by (dec_bool some) (dec_bool (open_by signs blocked x))
        where
          by : (some ≡ true) ⊎ (some ≡ false) → (open_by signs blocked x ≡ true) ⊎ (open_by signs blocked x ≡ false) → improves_at (problem T) ps r first t x ≡ false
          by s (inr e) = closed_idle t x h l i e
          by (inr s) (inl o) = closed_idle t x h l i (given.none s x (omega (arith, i, list.many)))
          by (inl s) (inl o) = open_idle t x h l i s o

      passed : (t x : ℕ) → last_cut first ≤ t → t < hit → x < length ps → improves_at (problem T) ps r first t x ≡ false
      passed t x h l i = by (dec_lt t (last_cut cuts))
        where
          by : Dec (t < last_cut cuts) → improves_at (problem T) ps r first t x ≡ false
          by (yes p) = going.idle t x h p i
          by (no p) = no_gain t x (omega arith) l i

      module _ {over : ℕ} (over_by : over ≡ (hit - last_cut cuts) * patterns) where
        over_is : over ≡ (hit - last_cut cuts) * length ps
        over_is = over_by ∙ ap (λ n. (hit - last_cut cuts) * n) (sym list.many)

        reaches : examined + over ≡ (hit - last_cut first) * length ps
        reaches = ap (λ n. examined + n) over_is ∙ ap (λ n. n + (hit - last_cut cuts) * length ps) going.count ∙ count_to (last_cut first) (last_cut cuts) hit (length ps) going.from next.least

        idle_below : (t x : ℕ) → last_cut first ≤ t → x < length ps → (t - last_cut first) * length ps + x < examined + over →
            improves_at (problem T) ps r first t x ≡ false
        idle_below t x h i n =
            up_to (last_cut first) hit (length ps) 0 behind_hit (omega arith) (improves_at (problem T) ps r first) passed
            (λ y l. absurd (omega arith)) t x h i (omega (arith, n, reaches))

        -- The allowance ends among them.
        pub spent_over : left - examined < over → StepTo T ps members r first left (last_cut cuts) (Done (idle_end left false)) cuts table dues words
        spent_over b =
            answered going going.padded
            (λ t x h i n. idle_below t x h i (omega (arith, n, b, going.within)))
            (omega arith)
            (λ e. absurd (true≢false (sym e)))
            (λ e. absurd (true≢false (sym e)))
            (λ _ _. (refl, omega (arith, b, reaches, count_least (last_cut first) hit (length r + 1) (length ps) next.most), going.same))

        module _ (room : over ≤ left - examined) where
          -- No last cut is left.
          pub through_over : length r < hit → StepTo T ps members r first left (last_cut cuts) (Done (idle_end (examined + over) true)) (set cuts (length cuts - 1) (length r)) table dues words
          through_over b =
              let e : hit ≡ length r + 1 = omega (arith, next.most) in
              answered going going.padded
              (λ t x h i n. idle_below t x h i n)
              (omega (arith, room, going.within))
              (λ e. absurd (true≢false (sym e)))
              (λ _. (reaches ∙ ap (λ n. (n - last_cut first) * length ps) e, stored going (length r)))
              (λ _ e. absurd (true≢false e))

          -- At a last cut that is promising.
          pub at_hit : hit ≤ length r → Going T ps members r first left (set cuts (length cuts - 1) hit) table dues words (examined + over)
          at_hit l =
              let f = first_of_cuts (first_cuts first) hit in
              let e = last_of_cuts (first_cuts first) hit in
              rw (stored going hit)
              (record {
                begin = going.begin;
                cut_set = at_cut r first going.begin hit behind_hit l;
                many = long r first going.begin hit;
                same = f;
                from = rw e behind_hit;
                count = reaches ∙ ap (λ c. (c - last_cut first) * length ps) (sym e);
                within = omega (arith, room, going.within);
                idle = λ t x h b i. passed t x h (rw e at b) i;
                padded = going.padded;
                joint_held = going.joint_held;
                held = going.held;
                behind = rw e (omega (arith, going.behind, next.least));
                marks = going.marks;
                marks_behind = rw e (omega (arith, going.marks_behind, next.least));
              })

          -- What is then tried leads on from here.
          pub from_hit : (answer : Step) (cuts' table' dues' words' : List ℕ) →
              StepTo T ps members r first left (last_cut (set cuts (length cuts - 1) hit)) answer cuts' table' dues' words' → StepTo T ps members r first left (last_cut cuts) answer cuts' table' dues' words'
          from_hit (Done answer) cuts' table' dues' words' w = w
          from_hit (On reached) cuts' table' dues' words' w = (w.0, omega (arith, w.1, hit_stored cuts given.triable.hopeful.searchable.cut_set.least hit, next.least))
          from_hit (Closed reached closed) cuts' table' dues' words' w = (w.0, omega (arith, w.1, hit_stored cuts given.triable.hopeful.searchable.cut_set.least hit, next.least))

          -- Or rows are closed here that were open.
          pub closes : (l : hit ≤ length r) (closed : ℕ) → StepTo T ps members r first left (last_cut cuts) (Closed (examined + over) closed) (set cuts (length cuts - 1) hit) table dues words
          closes l closed = (at_hit l, omega (arith, hit_stored cuts given.triable.hopeful.searchable.cut_set.least hit, next.least))

    -- The cut set at a hit.
    module _ (l : hit ≤ length r) where
      abbrev hand : List ℕ
      hand = set cuts (length cuts - 1) hit

      own : CutSet (length cuts) (length r) cuts
      own = given.triable.hopeful.searchable.cut_set

      here_is : hand ≡ first_cuts cuts ++ (hit ∷ [])
      here_is = last_stored cuts hit (omega (arith, own.least))

      here_cut : CutSet (length hand) (length r) hand
      here_cut = rw here_is (at_cut r cuts own hit next.least l)

      here_first : first_cuts hand ≡ first_cuts cuts
      here_first = ap first_cuts here_is ∙ first_of_cuts (first_cuts cuts) hit

      here_shut : Shutting T rows patterns r hand signs blocked
      here_shut =
          shut_on hand (ap length here_is ∙ long r cuts own hit) here_first (omega (arith, hit_stored cuts own.least hit, next.least)) given.shutting

      words_read : ClosingKept (pairs_of T.pairs) members r signs visits → 0 < length signs → Readable members r × (length visits ≡ 1027) × (get_or visits 1026 0 ≤ length r)
      words_read (inl n) h = absurd (omega (arith, n, h))
      words_read (inr m) h =
          (record { places = m.1; short = own.short; known = λ i k. let m = given.triable.hopeful.searchable.timed.measurable in omega (arith, m.stops.known i k, m.table.few) }, m.3.places, m.3.reach)

      pub block_asked : BlockAsked members r hand signs visits
      block_asked =
          record { cut_set = here_cut; readable = λ h. (words_read given.kept h).0; visit_places = λ h. (words_read given.kept h).1; reach = λ h. (words_read given.kept h).2 }

      module _ {visits' : List ℕ} {closed : ℕ} (now : BlockedAt members r since hand signs visits visits' closed) where
        pub kept_then : ClosingKept (pairs_of T.pairs) members r signs visits'
        kept_then = (now.is (pairs_of T.pairs) given.kept given.triable.hopeful.back).1

        pub shut_more : blocked < closed → (blocked < closed) × Shutting T rows patterns r hand signs closed
        shut_more h = (
          h,
          record { small = now.small; signed = λ b. given.signed (now.by_signs b); shut = (now.is (pairs_of T.pairs) given.kept given.triable.hopeful.back).0 },
        )

pub hit_trying : {T : Trip} {members rows chains : List ℕ} {patterns : ℕ} {signs : List ℕ} {blocked : ℕ} {some : Bool} {r forwards backwards stayed late : List ℕ} {since : ℕ} {cuts entries exits inside low zero table dues words hand_rows hand_chains numbers visits : List ℕ} {examined left : ℕ} →
    Steppable T members rows chains patterns signs blocked some r forwards backwards stayed late since cuts entries exits inside low zero table dues words hand_rows hand_chains numbers visits examined left →
    {hit : ℕ} → NextHit T.tables.locations T.tables.legs T.depot T.end r cuts entries exits inside low some hit → {over : ℕ} → over ≡ (hit - last_cut cuts) * patterns → over ≤ left - examined → hit ≤ length r →
    Trying T members rows chains patterns signs blocked r forwards backwards stayed late since (set cuts (length cuts - 1) hit) entries exits inside table dues words hand_rows hand_chains numbers (examined + over) left
hit_trying {T} {members} {rows} {chains} {patterns} {signs} {blocked} {some} {r} {forwards} {backwards} {stayed} {late} {since} {cuts} {entries} {exits} {inside} {low} {zero} {table} {dues} {words} {hand_rows} {hand_chains} {numbers} {visits} given {hit} next {over} e room l =
    let w = given.triable in
    let h = w.hopeful in
    let alone : Steppable T members rows chains patterns signs blocked some r forwards backwards stayed late since cuts entries exits inside low zero table dues words hand_rows hand_chains numbers visits 0 over =
    record {
      triable = record { hopeful = h; joint_held = w.joint_held; held = w.held; behind = w.behind; marks = w.marks; marks_behind = w.marks_behind; within = omega arith };
      prepared = given.prepared;
      none = given.none;
      shutting = given.shutting;
      signed = given.signed;
      chained = given.chained;
      at_hand = given.at_hand;
      kept = given.kept;
      zero_places = given.zero_places;
      zero_is = given.zero_is;
    } in
    let t = triable_on (at_hit alone next h.listed (starts h h.list over w.joint_held w.held w.behind w.marks w.marks_behind) e (omega arith) l) h in
    record {
      triable = record { hopeful = t.hopeful; joint_held = t.joint_held; held = t.held; behind = t.behind; marks = t.marks; marks_behind = t.marks_behind; within = omega (arith, room, w.within) };
      chained = given.chained;
      shutting = here_shut given next l;
      ends = ends_told {depot = T.depot} {rows = []} {count = 0} {low = low} (set cuts (length cuts - 1) hit) (here_cut given next l) (rw (here_first given next l) given.prepared.prepared) given.prepared.places.ends;
      at_hand = given.at_hand;
    }

-- A cut set that is tried tells of no closed rows.
pub shut_tried : (T : Trip) (rows : List ℕ) (patterns : ℕ) (r signs : List ℕ) (blocked : ℕ) (answer : Step) (cuts : List ℕ) → NotClosed answer → ShutBy T rows patterns r signs blocked answer cuts
shut_tried T rows patterns r signs blocked (Done answer) cuts n = refl
shut_tried T rows patterns r signs blocked (On examined) cuts n = refl
shut_tried T rows patterns r signs blocked (Closed examined closed) cuts n = absurd n

-- ---- where a last cut may hold a gain

module _ {locations : ℕ} {legs : List ℕ} {depot end : ℕ} {r cuts entries exits inside low : List ℕ} where
  -- None where no row is open.
  pub no_hit : {some : Bool} {forwards backwards zero : List ℕ} → Nextable locations legs depot end r forwards backwards cuts entries exits inside low zero → some ≡ false →
      NextHit locations legs depot end r cuts entries exits inside low some (length r + 1)
  no_hit w e = record { least = omega (arith, (first_below r cuts w.cut.cut_set).1); most = omega arith; idle = λ t. absurd (true≢false (sym t ∙ e)) }

  pub hit_next : {some : Bool} {hit : ℕ} → NextPromising locations legs depot end r cuts entries exits inside low hit → NextHit locations legs depot end r cuts entries exits inside low some hit
  hit_next w = record { least = w.least; most = w.most; idle = λ _. w.idle }

-- ---- at a last cut that is promising

module _ {T : Trip} {members rows chains : List ℕ} {patterns : ℕ} {signs : List ℕ} {blocked : ℕ} {r forwards backwards stayed late : List ℕ} {since : ℕ} {cuts entries exits inside table dues words hand hand_chains numbers : List ℕ} {examined left : ℕ}
    (given : Trying T members rows chains patterns signs blocked r forwards backwards stayed late since cuts entries exits inside table dues words hand hand_chains numbers examined left) {limit : ℕ} (limit_is : limit ≡ min patterns (left - examined)) where
  pub open_findable : OpenFindable T members r forwards backwards stayed cuts rows chains patterns signs blocked late since entries exits inside table dues words hand hand_chains numbers limit
  open_findable =
      let t = given.triable in
      let h = t.hopeful in
      let k = h.searchable.cut_set in
      record {
        findable = record {
          searchable = h.searchable;
          patterns = h.list;
          patterned = h.listed.patterned;
          allowed = omega (arith, h.listed.many);
          chained = chained_less (omega arith) given.chained;
          early = rw (head_at cuts r (omega (arith, k.least))) h.early;
          latenesses = h.latenesses;
          held = t.held;
          behind = t.behind;
          lent = h.lent;
          front = h.front;
          back = h.back;
          marks = t.marks;
          marks_behind = t.marks_behind;
          ends = given.ends;
          padded = h.padded;
          joint_held = t.joint_held;
        };
        within = omega arith;
        chained = given.chained;
        sifting = record {
          places = h.listed.patterned.places;
          few = few_patterns h;
          known = rw h.listed.many at h.listed.patterned.small;
          signed = λ b. (given.shutting.signed b).places;
          held = given.at_hand;
        };
        idle = λ ps w x l m e.
            ap (λ cs. improves (search_of (problem T) ps (length cuts) (length r)) r (move_at ps cs x)) (cuts_parted cuts (omega (arith, k.least)))
            ∙ shut_idle T h.back given.shutting k ps w x m (omega arith) e (last_cut cuts) (omega arith) (first_below r cuts k).1;
      }

module _ {T : Trip} {members rows : List ℕ} {patterns : ℕ} {r forwards backwards stayed late : List ℕ} {since : ℕ} {cuts table dues words : List ℕ} {examined left : ℕ}
    (given : Triable T members rows patterns r forwards backwards stayed late since cuts table dues words examined left) {limit : ℕ} (limit_is : limit ≡ min patterns (left - examined)) where
  module _ {i : ℕ} {table' dues' words' : List ℕ} (found : Found T members r cuts rows limit i table' dues' words') where
    pub room_left : examined + i ≤ left
    room_left = omega (arith, found.within, given.within)

    module _ {first : List ℕ} {ps : List Pattern} (list : Listed (length first) patterns rows ps) (going : Going T ps members r first left cuts table dues words examined) where
      gain : FirstGain (problem T) ps (length cuts) r cuts limit i
      gain = found.first ps (rw going.many list.patterned) (omega (arith, list.many))

      same_there : (x : ℕ) → improves_at (problem T) ps r first (last_cut cuts) x ≡ improves (search_of (problem T) ps (length cuts) (length r)) r (move_at ps cuts x)
      same_there x =
          ap (λ cs. improves (search_of (problem T) ps (length first) (length r)) r (move_at ps cs x)) (sym (cuts_are going))
          ∙ ap (λ n. improves (search_of (problem T) ps n (length r)) r (move_at ps cuts x)) (sym going.many)

      here : (x : ℕ) → x < i → improves_at (problem T) ps r first (last_cut cuts) x ≡ false
      here x h = same_there x ∙ gain.passed x h

      idle_now : (t x : ℕ) → last_cut first ≤ t → x < length ps → (t - last_cut first) * length ps + x < examined + i →
          improves_at (problem T) ps r first t x ≡ false
      idle_now t x h l n =
          up_to (last_cut first) (last_cut cuts) (length ps) i going.from (omega (arith, gain.within, list.many)) (improves_at (problem T) ps r first)
          going.idle here t x h l (omega (arith, n, going.count))

      pub gains : i < limit → StepTo T ps members r first left (last_cut cuts) (Done (record { examined = examined + i; gains = true; through = false; pattern = i })) cuts table' dues' words'
      gains h =
          answered going found.padded idle_now room_left
          (λ _. (
            omega (arith, going.within),
            record {
              last = last_cut cuts;
              least = going.from;
              most = last_most going;
              cuts_are = cuts_are going;
              listed = omega (arith, list.many);
              is = ap (λ n. n + i) going.count;
              improves = same_there i ∙ gain.gains h;
            },
          ))
          (λ e. absurd (true≢false (sym e)))
          (λ e. absurd (true≢false e))

      module _ (all : limit ≤ i) where
        reached : i ≡ limit
        reached = omega (arith, gain.within)

        -- The allowance ends on this cut set.
        pub spent_here : limit < patterns → StepTo T ps members r first left (last_cut cuts) (Done (idle_end (examined + i) false)) cuts table' dues' words'
        spent_here h =
            answered going found.padded idle_now room_left
            (λ e. absurd (true≢false (sym e)))
            (λ e. absurd (true≢false (sym e)))
            (λ _ _. (
              omega (arith, reached, going.within),
              omega (arith, going.within, going.count, list.many, count_next (last_cut first) (last_cut cuts) (length ps) going.from, count_least (last_cut first) (last_cut cuts + 1) (length r + 1) (length ps) (omega (arith, last_most going))),
              going.same,
            ))

        module _ (whole : patterns ≤ limit) where
          counted : examined + i ≡ (last_cut cuts + 1 - last_cut first) * length ps
          counted = omega (arith, reached, list.many, going.count, count_next (last_cut first) (last_cut cuts) (length ps) going.from)

          -- It was the last one.
          pub ends : last_cut cuts ≡ length r → StepTo T ps members r first left (last_cut cuts) (Done (idle_end (examined + i) true)) cuts table' dues' words'
          ends e =
              answered going found.padded idle_now room_left
              (λ e. absurd (true≢false (sym e)))
              (λ _. (counted ∙ ap (λ c. (c + 1 - last_cut first) * length ps) e, cuts_are going ∙ ap (λ c. first_cuts first ++ (c ∷ [])) e))
              (λ _ e. absurd (true≢false e))

          pub goes_on : (last_cut cuts ≡ length r → ⊥) → StepTo T ps members r first left (last_cut cuts) (On (examined + i)) (set cuts (length cuts - 1) (last_cut cuts + 1)) table' dues' words'
          goes_on n =
              let f = first_of_cuts (first_cuts first) (last_cut cuts + 1) in
              let e = last_of_cuts (first_cuts first) (last_cut cuts + 1) in
              rw (stored going (last_cut cuts + 1)) (
                record {
                  begin = going.begin;
                  cut_set = at_cut r first going.begin (last_cut cuts + 1) (omega (arith, going.from)) (omega (arith, last_most going, n));
                  many = long r first going.begin (last_cut cuts + 1);
                  same = f;
                  from = rw e (omega (arith, going.from));
                  count = counted ∙ ap (λ c. (c - last_cut first) * length ps) (sym e);
                  within = room_left;
                  idle = λ t x h b i. by t x h (rw e at b) i (dec_lt t (last_cut cuts));
                  padded = found.padded;
                  joint_held = rw going.same at found.joint_held;
                  held = rw going.same at found.held;
                  behind = rw e (omega (arith, found.behind));
                  marks = rw going.same at found.marks;
                  marks_behind = rw e (omega (arith, found.marks_behind));
                },
                rw e (omega arith),
              )
            where
              by : (t x : ℕ) → last_cut first ≤ t → t < last_cut cuts + 1 → x < length ps → Dec (t < last_cut cuts) →
                  improves_at (problem T) ps r first t x ≡ false
              by t x h b y (yes l) = going.idle t x h l y
              by t x h b y (no l) = let q : t ≡ last_cut cuts = omega arith in rw q (here x (omega (arith, reached, list.many)))
