-- A stretch, last cut by last cut: what its loop begins with, and what it goes on with. Assumes nothing.
use mathlib.Core.Path.{◌≡◌, refl, sym, ◌∙◌}
use mathlib.Core.Bool.{Bool, false}
use mathlib.Core.Logic.{inl, inr}
use mathlib.Core.List.{List}
use Prim.Native.Nat.{ℕ, ◌-◌, ◌*◌, ◌≤◌, ◌<◌}
use native.Mathlib.Omega.{arith}
use lib.ListN.{length, get_or, set, replicate}
use Rattle.theory.specs.Moves.{Pattern}
use Rattle.theory.specs.Pairs.{pairs_of}
use Rattle.theory.specs.Tables.{problem, Trip}
use Rattle.theory.proofs.Judged.{followed, to_end}
use Rattle.costs.specs.RouteCosts.{last_cut}
use Rattle.scan_shared.specs.Prepared.{RowsFit}
use Rattle.scan_shared.specs.Filling.{open_by, PreparedNow, Tabled, Lowerable, Relowered, Sharing}
use Rattle.scan_shared.proofs.Preparing.{zero_at, prepared_anew}
use Rattle.scan_reach.proofs.Reached.{held_bare}
use Rattle.scan_chains.specs.Chains.{Chained}
use Rattle.scan_open.specs.Open.{HandKept}
use Rattle.precedence.specs.Words.{Readable}
use Rattle.precedence_closing.specs.Closing.{Signed}
use Rattle.scan_step.specs.declared.Stretch.{Stretch}
use Rattle.scan_step.specs.declared.Step.TheVariants.{Done, On, Closed}
use Rattle.scan_step.specs.Stepping.{Listed, Hopeful, Going, ClosingKept, Shutting, BlockAsked, BlockedAt, Steppable, Stepped}
use Rattle.scan_step.proofs.Steps.{few_patterns, last_most, triable_on, prepared_on, shut_on, starts_bare}
use Rattle.scan_stretch.specs.Stretch.{Openable, Scannable, Stretched}

module _ {T : Trip} {members rows chains : List ℕ} {patterns : ℕ} {signs r forwards backwards stayed late : List ℕ} {since : ℕ} {cuts table shared hand hand_chains visits : List ℕ}
    (given : Scannable T members rows chains patterns signs r forwards backwards stayed late since cuts table shared hand hand_chains visits) where
  words_read : ClosingKept (pairs_of T.pairs) members r signs visits → 0 < length signs → Readable members r × (length visits ≡ 1027) × (get_or visits 1026 0 ≤ length r)
  words_read (inl n) h = absurd (omega (arith, n, h))
  words_read (inr m) h =
      let w = given.hopeful.searchable.timed.measurable in
      (record { places = m.1; short = w.stops.short; known = λ i k. omega (arith, w.stops.known i k, w.table.few) }, m.3.places, m.3.reach)

  pub block_asked : BlockAsked members r cuts signs visits
  block_asked =
      let k = given.lent.kept in
      record { cut_set = given.hopeful.searchable.cut_set; readable = λ h. (words_read k h).0; visit_places = λ h. (words_read k h).1; reach = λ h. (words_read k h).2 }

  pub rows_fit : RowsFit rows patterns
  rows_fit =
      let w = given.hopeful.listed in
      record { places = w.patterned.places; few = few_patterns given.hopeful; known = rw w.many at w.patterned.small }

  module _ {visits' : List ℕ} {blocked : ℕ} (now : BlockedAt members r since cuts signs visits visits' blocked) where
    pub kept_first : ClosingKept (pairs_of T.pairs) members r signs visits'
    kept_first = (now.is (pairs_of T.pairs) given.lent.kept given.hopeful.back).1

    pub shut_first : Shutting T rows patterns r cuts signs blocked
    shut_first =
        record { small = now.small; signed = λ b. given.lent.signed (now.by_signs b); shut = (now.is (pairs_of T.pairs) given.lent.kept given.hopeful.back).0 }

    pub openable : Openable T.tables.locations T.tables.legs T.depot r forwards backwards cuts rows patterns signs blocked (replicate 8 0) (replicate 8 0) (replicate 8 0) (replicate 21 0) shared
    openable =
        let g = given.hopeful.searchable in
        record {
          cut = record {
            measurable = to_end (followed g.timed.measurable) g.timed.measurable.depot_known;
            forwards = g.forwards;
            backwards = g.backwards;
            cut_set = g.cut_set;
          };
          rows_fit = rows_fit;
          signed = λ b. (given.lent.signed (now.by_signs b)).places;
          places = record { ends = record { entry_places = refl; exit_places = refl; inside_places = refl }; low_places = refl; low_small = λ c. rw (zero_at 21 c) (omega arith) };
          blank = given.lent.blank;
        }

  -- Nothing is held of the joint table any more.
  pub bared : Scannable T members rows chains patterns signs r forwards backwards stayed late since cuts (set table 153 0) shared hand hand_chains visits
  bared =
      let h = given.hopeful in
      record {
        hopeful = record {
          searchable = h.searchable;
          list = h.list;
          listed = h.listed;
          padded = (held_bare h.padded).0;
          early = h.early;
          latenesses = h.latenesses;
          lent = h.lent;
          front = h.front;
          back = h.back;
        };
        lent = given.lent;
      }

  pub none_held : get_or (set table 153 0) 153 0 ≡ 0
  none_held = (held_bare given.hopeful.padded).1

-- ---- what the loop holds

-- Whatever patterns the rows are of, the candidates before the last cut at hand are examined; what is prepared, of the rows that are open there.
pub record Turning (T : Trip) (members rows : List ℕ) (patterns : ℕ) (signs route cuts₀ entries exits inside : List ℕ) (left blocked : ℕ) (some : Bool) (cuts low table dues words hand hand_chains numbers visits : List ℕ) (examined : ℕ) : Type 0 where
  pub going : (ps : List Pattern) → Listed (length cuts₀) patterns rows ps → Going T ps members route cuts₀ left cuts table dues words examined
  pub prepared : PreparedNow T.tables.locations T.tables.legs T.depot route cuts₀ rows patterns (open_by signs blocked) entries exits inside low
  pub none : some ≡ false → (i : ℕ) → i < patterns → open_by signs blocked i ≡ false
  pub shutting : Shutting T rows patterns route cuts signs blocked
  pub at_hand : HandKept rows patterns signs hand hand_chains numbers
  pub kept : ClosingKept (pairs_of T.pairs) members route signs visits

-- And what no turn changes.
pub record Begun (T : Trip) (members rows chains : List ℕ) (patterns : ℕ) (signs route forward_sums backward_sums stayed late : List ℕ) (since : ℕ) (cuts table shared : List ℕ) : Type 0 where
  pub hopeful : Hopeful T members rows patterns route forward_sums backward_sums stayed late since cuts table
  pub chained : Chained rows patterns chains
  pub signed : 0 < length signs → Signed rows patterns signs
  pub tabled : Tabled T.tables.locations T.tables.legs T.depot route cuts rows patterns shared

module _ {T : Trip} {members rows chains : List ℕ} {patterns : ℕ} {signs r forwards backwards stayed late : List ℕ} {since : ℕ} {cuts table shared hand hand_chains visits : List ℕ}
    (given : Scannable T members rows chains patterns signs r forwards backwards stayed late since cuts table shared hand hand_chains visits)
    {visits' : List ℕ} {blocked : ℕ} (now : BlockedAt members r since cuts signs visits visits' blocked) {cuts' entries exits inside low shared' : List ℕ} {some : Bool} (same : cuts' ≡ cuts)
    (share : Sharing T.tables.locations T.tables.legs T.depot r cuts rows patterns signs blocked entries exits inside low shared' some) where
  pub begun : Begun T members rows chains patterns signs r forwards backwards stayed late since cuts' table shared'
  begun = rw same (record { hopeful = given.hopeful; chained = given.lent.chained; signed = given.lent.signed; tabled = share.tabled })

  pub first_turn : (left : ℕ) → get_or table 153 0 ≡ 0 → Turning T members rows patterns signs r cuts' entries exits inside left blocked some cuts' low table (replicate 9 0) (replicate 17 0) hand hand_chains (replicate 2 0) visits' 0
  first_turn left none =
      let h = given.lent.hand_lent in
      rw same (record { going = λ ps w. starts_bare given.hopeful ps left none; at_hand = record { hand_places = h.hand_places; chain_places = h.chain_places; kept_places = refl; is = inl refl }; prepared = share.prepared; none = share.none; shutting = shut_first given now; kept = kept_first given now })

-- ---- a turn

module _ {T : Trip} {members rows chains : List ℕ} {patterns : ℕ} {signs r forwards backwards stayed late : List ℕ} {since : ℕ} {cuts₀ table₀ shared : List ℕ}
    (b : Begun T members rows chains patterns signs r forwards backwards stayed late since cuts₀ table₀ shared) {entries exits inside : List ℕ} {left blocked : ℕ} {some : Bool} {cuts low table dues words hand hand_chains numbers visits : List ℕ} {examined : ℕ}
    (t : Turning T members rows patterns signs r cuts₀ entries exits inside left blocked some cuts low table dues words hand hand_chains numbers visits examined) where
  g : Going T b.hopeful.list members r cuts₀ left cuts table dues words examined
  g = t.going b.hopeful.list b.hopeful.listed

  pub many : length cuts ≡ length cuts₀
  many = g.many

  pub last_within : last_cut cuts ≤ length r
  last_within = last_most g

  pub steppable : Steppable T members rows chains patterns signs blocked some r forwards backwards stayed late since cuts entries exits inside low (replicate 21 0) table dues words hand hand_chains numbers visits examined left
  steppable =
      record {
        triable = triable_on g b.hopeful;
        prepared = prepared_on g b.hopeful t.prepared;
        none = t.none;
        shutting = t.shutting;
        signed = b.signed;
        chained = b.chained;
        at_hand = t.at_hand;
        kept = t.kept;
        zero_places = refl;
        zero_is = zero_at 21;
      }

  module _ {answer : Stretch} {cuts' table' dues' words' hand' hand_chains' numbers' visits' : List ℕ} (s : Stepped T members rows patterns signs blocked r cuts table dues words examined left (Done answer) cuts' table' dues' words' hand' hand_chains' numbers' visits') where
    pub done : {cuts₁ : List ℕ} → cuts₀ ≡ cuts₁ → Stretched (problem T) members patterns rows signs r cuts₁ left answer cuts' table' shared hand' hand_chains' visits'
    done e =
        rw (← e)
        (record {
          ended = λ ps w. (s.carried cuts₀ ps w (t.going ps w)).0;
          padded = (s.carried cuts₀ b.hopeful.list b.hopeful.listed g).1;
          blank = b.tabled.blank;
          hand_lent = record { hand_places = s.at_hand.hand_places; chain_places = s.at_hand.chain_places };
          kept = s.kept;
        })

  module _ {reached : ℕ} {cuts' table' dues' words' hand' hand_chains' numbers' visits' : List ℕ} (s : Stepped T members rows patterns signs blocked r cuts table dues words examined left (On reached) cuts' table' dues' words' hand' hand_chains' numbers' visits') where
    pub later : last_cut cuts < last_cut cuts'
    later = (s.carried cuts₀ b.hopeful.list b.hopeful.listed g).1

    pub on_turn : Turning T members rows patterns signs r cuts₀ entries exits inside left blocked some cuts' low table' dues' words' hand' hand_chains' numbers' visits' reached
    on_turn =
        let g' = (s.carried cuts₀ b.hopeful.list b.hopeful.listed g).0 in
        record {
          going = λ ps w. (s.carried cuts₀ ps w (t.going ps w)).0;
          prepared = t.prepared;
          none = t.none;
          at_hand = s.at_hand;
          shutting = shut_on cuts' (g'.many ∙ sym g.many) (g'.same ∙ sym g.same) (omega (arith, later)) t.shutting;
          kept = s.kept;
        }

  module _ {reached closed : ℕ} {cuts' table' dues' words' hand' hand_chains' numbers' visits' : List ℕ} (s : Stepped T members rows patterns signs blocked r cuts table dues words examined left (Closed reached closed) cuts' table' dues' words' hand' hand_chains' numbers' visits') where
    pub not_earlier : last_cut cuts ≤ last_cut cuts'
    not_earlier = (s.carried cuts₀ b.hopeful.list b.hopeful.listed g).1

    pub lowerable : Lowerable rows patterns (2 * (length cuts₀ - 2)) shared signs closed low
    lowerable =
        let w = b.hopeful.listed in
        record {
          last = omega (arith, b.hopeful.searchable.cut_set.most);
          rows_fit = record { places = w.patterned.places; few = few_patterns b.hopeful; known = rw w.many at w.patterned.small };
          padded = b.tabled.blank.padded;
          signed = λ h. (s.shut.1.signed h).places;
          low_places = t.prepared.places.low_places;
          low_small = t.prepared.places.low_small;
        }

    pub closed_turn : {low' : List ℕ} {some' : Bool} → Relowered signs closed rows patterns (2 * (length cuts₀ - 2)) shared low low' some' →
        Turning T members rows patterns signs r cuts₀ entries exits inside left closed some' cuts' low' table' dues' words' hand' hand_chains' numbers' visits' reached
    closed_turn w =
        record {
          going = λ ps u. (s.carried cuts₀ ps u (t.going ps u)).0;
          prepared = prepared_anew t.prepared b.tabled b.hopeful.searchable.cut_set.least w;
          none = w.none;
          shutting = s.shut.1;
          at_hand = s.at_hand;
          kept = s.kept;
        }
