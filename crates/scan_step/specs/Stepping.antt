-- A step of a stretch: the cut sets with the same first cuts, from one of them on. Their candidates are numbered in the scan's order, pattern by pattern.
use Rattle.std.specs.Prelude.{◌≡◌, Bool, true, false, ◌⊎◌, List, [], ◌∷◌, ◌++◌, ℕ, ◌+◌, ◌-◌, ◌*◌, ◌≤◌, ◌<◌, length, get_or, take, drop}
use Rattle.theory.specs.Moves.{Pattern}
use Rattle.theory.specs.Pairs.{pairs_of, front_kept}
use Rattle.theory.specs.Scan.{improves}
use Rattle.theory.specs.Route.{Problem, on_time}
use Rattle.theory.specs.Polish.{search_of, move_at}
use Rattle.theory.specs.Tables.{problem, clock_by, CutSet, Trip}
use Rattle.deadlines.specs.Lateness.{Latenesses}
use Rattle.scan_joints.specs.States.{Patterned}
use Rattle.scan_joints.specs.JointTable.{Padded}
use Rattle.costs.specs.RouteCosts.{first_cuts, last_cut}
use Rattle.scan_shared.specs.Prepared.{Prepared}
use Rattle.scan_shared.specs.Filling.{open_by, PreparedNow}
use Rattle.scan_bound.specs.NoGain.{NoGain}
use Rattle.deadline_dues.specs.Dues.{DuesHeld}
use Rattle.precedence.specs.Words.{Members, PairsLent, Readable, BackSince}
use Rattle.precedence_visits.specs.Visits.{Visits}
use Rattle.precedence_closing.specs.Closing.{Signed, Shuts}
use Rattle.precedence_marks.specs.Held.{MarksKept}
use Rattle.scan_reach.specs.Reach.{JointHeld}
use Rattle.scan_chains.specs.Chains.{Chained}
use Rattle.scan_cut_set.specs.Gain.{Searchable, EndsTold}
use Rattle.scan_open.specs.Open.{HandKept}
use Rattle.scan_step.specs.declared.Stretch.{Stretch}
use Rattle.scan_step.specs.declared.Step.{Step}
use Rattle.scan_step.specs.declared.Step.TheVariants.{Done, On, Closed}

-- So many patterns, as rows of states.
pub record Listed (k patterns : ℕ) (rows : List ℕ) (ps : List Pattern) : Type 0 where
  pub patterned : Patterned k ps rows
  pub many : length ps ≡ patterns

-- The end of a stretch without a gain.
abbrev pub idle_end : ℕ → Bool → Stretch
idle_end examined through = record { examined = examined; gains = false; through = through; pattern = 0 }

-- What the inner step reads, behind a head that is on time and keeps its pairs.
pub record Hopeful (T : Trip) (members rows : List ℕ) (patterns : ℕ) (route forward_sums backward_sums stayed late : List ℕ) (since : ℕ) (cuts table : List ℕ) : Type 0 where
  pub searchable : Searchable T route forward_sums backward_sums stayed cuts
  pub list : List Pattern
  pub listed : Listed (length cuts) patterns rows list
  pub padded : Padded table
  pub early : on_time (clock_by T.tables) T.depot 0 (take (get_or cuts 0 0) route) ≡ true
  pub latenesses : Latenesses (clock_by T.tables) T.depot route late
  pub lent : PairsLent (pairs_of T.pairs) members
  pub front : front_kept (pairs_of T.pairs) (take (get_or cuts 0 0) route) (drop (get_or cuts 0 0) route) ≡ true
  pub back : BackSince (pairs_of T.pairs) route since

-- Whether pattern x at the last cut t, behind the first cuts, improves the route.
abbrev pub improves_at : Problem → List Pattern → List ℕ → List ℕ → ℕ → ℕ → Bool
improves_at P ps route cuts t x = improves (search_of P ps (length cuts) (length route)) route (move_at ps (first_cuts cuts ++ (t ∷ [])) x)

-- The number of that candidate in the stretch.
abbrev pub candidate_number : List Pattern → List ℕ → ℕ → ℕ → ℕ
candidate_number ps cuts t x = (t - last_cut cuts) * length ps + x

-- How many candidates the stretch has.
abbrev pub candidate_count : List Pattern → List ℕ → List ℕ → ℕ
candidate_count ps route cuts = (length route + 1 - last_cut cuts) * length ps

-- The improving candidate of a number: the pattern at the last cut of `cuts'`.
pub record GainAt (P : Problem) (ps : List Pattern) (route cuts : List ℕ) (examined pattern : ℕ) (cuts' : List ℕ) : Type 0 where
  pub last : ℕ
  pub least : last_cut cuts ≤ last
  pub most : last ≤ length route
  pub cuts_are : cuts' ≡ first_cuts cuts ++ (last ∷ [])
  pub listed : pattern < length ps
  pub is : examined ≡ candidate_number ps cuts last pattern
  pub improves : improves_at P ps route cuts last pattern ≡ true

-- The candidates examined do not improve the route. Then one does and is allowed; or the stretch is over, its last cut set at hand; or no more are allowed, and the first cuts are at hand.
pub record Ended (P : Problem) (ps : List Pattern) (route cuts : List ℕ) (left : ℕ) (answer : Stretch) (cuts' : List ℕ) : Type 0 where
  pub idle : (t x : ℕ) → last_cut cuts ≤ t → t ≤ length route → x < length ps → candidate_number ps cuts t x < answer.examined → improves_at P ps route cuts t x ≡ false
  pub allowed : answer.examined ≤ left
  pub gain : answer.gains ≡ true → (answer.examined < left) × GainAt P ps route cuts answer.examined answer.pattern cuts'
  pub over : answer.through ≡ true → (answer.examined ≡ candidate_count ps route cuts) × (cuts' ≡ first_cuts cuts ++ (length route ∷ []))
  pub spent : answer.gains ≡ false → answer.through ≡ false → (answer.examined ≡ left) × (left < candidate_count ps route cuts) × (first_cuts cuts' ≡ first_cuts cuts)

-- ---- rows that are closed

-- What is lent to find them: no signs; or signs, the words of the pairs, and the visits along the route.
abbrev pub ClosingKept : List (ℕ × ℕ) → (members route signs visits : List ℕ) → Type 0
ClosingKept ps members route signs visits = (length signs ≡ 0) ⊎ ((length signs ≡ 383) × (length members ≡ 2048) × Members ps members × Visits ps route visits)

-- What is blocked closes rows, from the last cut at hand on.
pub record Shutting (T : Trip) (rows : List ℕ) (patterns : ℕ) (route cuts signs : List ℕ) (blocked : ℕ) : Type 0 where
  pub small : blocked < 1024
  pub signed : 0 < blocked → Signed rows patterns signs
  pub shut : Shuts (pairs_of T.pairs) route cuts blocked

-- A cut set, and where signs are lent what is read of the pairs.
pub record BlockAsked (members route cuts signs visits : List ℕ) : Type 0 where
  pub cut_set : CutSet (length cuts) (length route) cuts
  pub readable : 0 < length signs → Readable members route
  pub visit_places : 0 < length signs → length visits ≡ 1027
  pub reach : 0 < length signs → get_or visits 1026 0 ≤ length route

-- Of whichever pairs the words are.
pub record BlockedAt (members route : List ℕ) (since : ℕ) (cuts signs visits visits' : List ℕ) (blocked : ℕ) : Type 0 where
  pub small : blocked < 1024
  pub by_signs : 0 < blocked → 0 < length signs
  pub is : (ps : List (ℕ × ℕ)) → ClosingKept ps members route signs visits → BackSince ps route since → Shuts ps route cuts blocked × ClosingKept ps members route signs visits'

-- ---- a step of it

-- A cut set of the stretch with the first cut set `first`: the candidates before it are examined, and none improves the route.
pub record Going (T : Trip) (ps : List Pattern) (members route first : List ℕ) (left : ℕ) (cuts table dues words : List ℕ) (examined : ℕ) : Type 0 where
  pub begin : CutSet (length first) (length route) first
  pub cut_set : CutSet (length cuts) (length route) cuts
  pub many : length cuts ≡ length first
  pub same : first_cuts cuts ≡ first_cuts first
  pub from : last_cut first ≤ last_cut cuts
  pub count : examined ≡ (last_cut cuts - last_cut first) * length ps
  pub within : examined ≤ left
  pub idle : (t x : ℕ) → last_cut first ≤ t → t < last_cut cuts → x < length ps → improves_at (problem T) ps route first t x ≡ false
  pub padded : Padded table
  pub joint_held : JointHeld T.tables.locations T.tables.legs T.depot T.end route (first_cuts first) table
  pub held : DuesHeld (clock_by T.tables) route (first_cuts first) dues
  pub behind : get_or dues 8 0 ≤ last_cut cuts
  pub marks : MarksKept (pairs_of T.pairs) members route (first_cuts first) words
  pub marks_behind : get_or words 16 0 ≤ last_cut cuts

-- Where a step leads, from the last cut `last`: the stretch has ended, or a later one is at hand, or one that may be the same.
abbrev pub StepTo : Trip → List Pattern → List ℕ → List ℕ → List ℕ → ℕ → ℕ → Step → List ℕ → List ℕ → List ℕ → List ℕ → Type 0
StepTo T ps members route first left last (Done answer) cuts table dues words = Ended (problem T) ps route first left answer cuts × Padded table
StepTo T ps members route first left last (On examined) cuts table dues words = Going T ps members route first left cuts table dues words examined × (last < last_cut cuts)
StepTo T ps members route first left last (Closed examined blocked) cuts table dues words = Going T ps members route first left cuts table dues words examined × (last ≤ last_cut cuts)

-- It carries on whichever stretch the cut set is of, with whichever patterns the rows are of.
abbrev pub Carried : Trip → List ℕ → List ℕ → ℕ → List ℕ → List ℕ → List ℕ → List ℕ → List ℕ → ℕ → ℕ → Step → List ℕ → List ℕ → List ℕ → List ℕ → Type 0
Carried T members rows patterns route cuts table dues words examined left answer cuts' table' dues' words' =
    (first : List ℕ) (ps : List Pattern) → Listed (length first) patterns rows ps → Going T ps members route first left cuts table dues words examined →
    StepTo T ps members route first left (last_cut cuts) answer cuts' table' dues' words'

-- A cut set that is tried tells of no closed rows.
abbrev pub NotClosed : Step → Type 0
NotClosed (Done answer) = ◌≡◌ {A = ℕ} 0 0
NotClosed (On examined) = ◌≡◌ {A = ℕ} 0 0
NotClosed (Closed examined blocked) = ⊥

-- More is blocked where rows are told to be closed.
abbrev pub ShutBy : Trip → (rows : List ℕ) → ℕ → (route signs : List ℕ) → ℕ → Step → List ℕ → Type 0
ShutBy T rows patterns route signs blocked (Done answer) cuts = blocked ≡ blocked
ShutBy T rows patterns route signs blocked (On examined) cuts = blocked ≡ blocked
ShutBy T rows patterns route signs blocked (Closed examined closed) cuts = (blocked < closed) × Shutting T rows patterns route cuts signs closed

-- With what is then at hand, and lent to find closed rows.
pub record Stepped (T : Trip) (members rows : List ℕ) (patterns : ℕ) (signs : List ℕ) (blocked : ℕ) (route cuts table dues words : List ℕ) (examined left : ℕ) (answer : Step) (cuts' table' dues' words' hand' hand_chains' numbers' visits' : List ℕ) : Type 0 where
  pub carried : Carried T members rows patterns route cuts table dues words examined left answer cuts' table' dues' words'
  pub shut : ShutBy T rows patterns route signs blocked answer cuts'
  pub at_hand : HandKept rows patterns signs hand' hand_chains' numbers'
  pub kept : ClosingKept (pairs_of T.pairs) members route signs visits'

-- A cut set that can be tried, with what is held of the dues and of the words.
pub record Triable (T : Trip) (members rows : List ℕ) (patterns : ℕ) (route forward_sums backward_sums stayed late : List ℕ) (since : ℕ) (cuts table dues words : List ℕ) (examined left : ℕ) : Type 0 where
  pub hopeful : Hopeful T members rows patterns route forward_sums backward_sums stayed late since cuts table
  pub joint_held : JointHeld T.tables.locations T.tables.legs T.depot T.end route (first_cuts cuts) table
  pub held : DuesHeld (clock_by T.tables) route (first_cuts cuts) dues
  pub behind : get_or dues 8 0 ≤ last_cut cuts
  pub marks : MarksKept (pairs_of T.pairs) members route (first_cuts cuts) words
  pub marks_behind : get_or words 16 0 ≤ last_cut cuts
  pub within : examined ≤ left

-- With the places that the rows add up, what is blocked, where the first states are entered and left, and the rows at hand.
pub record Trying (T : Trip) (members rows chains : List ℕ) (patterns : ℕ) (signs : List ℕ) (blocked : ℕ) (route forward_sums backward_sums stayed late : List ℕ) (since : ℕ) (cuts entries exits inside table dues words hand hand_chains numbers : List ℕ) (examined left : ℕ) : Type 0 where
  pub triable : Triable T members rows patterns route forward_sums backward_sums stayed late since cuts table dues words examined left
  pub chained : Chained rows patterns chains
  pub shutting : Shutting T rows patterns route cuts signs blocked
  pub ends : EndsTold T.tables.locations T.tables.legs route cuts entries exits inside
  pub at_hand : HandKept rows patterns signs hand hand_chains numbers

pub record Tried (T : Trip) (members rows : List ℕ) (patterns : ℕ) (signs route cuts table dues words : List ℕ) (examined left : ℕ) (answer : Step) (cuts' table' dues' words' hand' hand_chains' numbers' : List ℕ) : Type 0 where
  pub carried : Carried T members rows patterns route cuts table dues words examined left answer cuts' table' dues' words'
  pub not_closed : NotClosed answer
  pub at_hand : HandKept rows patterns signs hand' hand_chains' numbers'

-- The first last cut that may hold a gain: of the rows, where some are open, that the least costs are of.
pub record NextHit (locations : ℕ) (legs : List ℕ) (depot end : ℕ) (route cuts entries exits inside low : List ℕ) (some : Bool) (r : ℕ) : Type 0 where
  pub least : last_cut cuts ≤ r
  pub most : r ≤ length route + 1
  pub idle : some ≡ true → (c : ℕ) → last_cut cuts ≤ c → c < r → (rows : List ℕ) (count : ℕ) → Prepared locations legs depot route (first_cuts cuts) rows count entries exits inside low →
      NoGain locations legs depot end route (first_cuts cuts) rows count c

-- The same with what is kept of the first cuts, over the rows that are open. `zero` holds nothing.
pub record Steppable (T : Trip) (members rows chains : List ℕ) (patterns : ℕ) (signs : List ℕ) (blocked : ℕ) (some : Bool) (route forward_sums backward_sums stayed late : List ℕ) (since : ℕ) (cuts entries exits inside low zero table dues words hand hand_chains numbers visits : List ℕ) (examined left : ℕ) : Type 0 where
  pub triable : Triable T members rows patterns route forward_sums backward_sums stayed late since cuts table dues words examined left
  pub prepared : PreparedNow T.tables.locations T.tables.legs T.depot route cuts rows patterns (open_by signs blocked) entries exits inside low
  pub none : some ≡ false → (i : ℕ) → i < patterns → open_by signs blocked i ≡ false
  pub shutting : Shutting T rows patterns route cuts signs blocked
  pub signed : 0 < length signs → Signed rows patterns signs
  pub chained : Chained rows patterns chains
  pub at_hand : HandKept rows patterns signs hand hand_chains numbers
  pub kept : ClosingKept (pairs_of T.pairs) members route signs visits
  pub zero_places : length zero ≡ 21
  pub zero_is : (x : ℕ) → get_or zero x 0 ≡ 0
