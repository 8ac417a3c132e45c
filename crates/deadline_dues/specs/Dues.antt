-- The dues of the placed segments of a cut set, shared by the cut sets with the same first cuts.
use Rattle.std.specs.Prelude.{◌≡◌, Bool, true, false, ◌&&◌, ◌⊎◌, List, [], ◌∷◌, ◌++◌, ℕ, ◌+◌, ◌-◌, ◌*◌, ◌^◌, ◌≤◌, ◌<◌, ltb, length, get_or, take}
use Rattle.std.proofs.Math.Seq.{slice}
use Rattle.theory.specs.Moves.{total}
use Rattle.theory.specs.Route.{Clock}
use Rattle.theory.specs.Tables.{Tables, CutSet, clock_by}
use Rattle.deadline_dues.specs.Due.{Due, SegmentDues, DuesRead}
use Rattle.scan_joints.specs.States.{state_count, placed_in}
use Rattle.scan_joints.specs.JointTable.{Padded, cell}
use Rattle.deadline_dues.specs.declared.Timing.{Timing}
use Rattle.deadline_dues.specs.declared.Timing.TheVariants as Judged

-- Places for the dues, and a middle segment.
pub record Puttable (dues : List ℕ) (segment : ℕ) : Type 0 where
  pub places : length dues ≡ 9
  pub least : 1 ≤ segment
  pub most : segment ≤ 4

-- What the dues of the first `count` middle segments are read from, and the places for them.
pub record DuesFillable (T : Tables) (route backward_sums stayed cuts : List ℕ) (count : ℕ) (dues : List ℕ) : Type 0 where
  pub read : DuesRead T route backward_sums stayed
  pub cut_set : CutSet (length cuts) (length route) cuts
  pub fewer : count < length cuts
  pub places : length dues ≡ 9

-- Two numbers for each of the first `count` middle segments: segment i, between the cuts i - 1 and i, as state 2 i - 2 and reversed as the next.
pub record BySegment (of : ℕ → ℕ → ℕ → Type 0) (count : ℕ) (table : List ℕ) : Type 0 where
  pub places : length table ≡ 9
  pub each : (i : ℕ) → 1 ≤ i → i ≤ count → of i (get_or table (2 * i - 2) 0) (get_or table (2 * i - 2 + 1) 0)

abbrev pub SegmentsDue : Clock → (cuts route : List ℕ) → ℕ → List ℕ → Type 0
SegmentsDue C cuts route count dues = BySegment (λ i s v. SegmentDues C (slice (get_or cuts (i - 1) 0) (get_or cuts i 0) route) s v) count dues

-- ---- the service of the states

-- The service of the stops between the cuts i - 1 and i.
abbrev pub stay_of : (stayed cuts : List ℕ) → ℕ → ℕ
stay_of stayed cuts i = get_or stayed (get_or cuts i 0) 0 - get_or stayed (get_or cuts (i - 1) 0) 0

abbrev pub SegmentStays : (stayed cuts : List ℕ) → ℕ → List ℕ → Type 0
SegmentStays stayed cuts count stays = BySegment (λ i s v. (s ≡ stay_of stayed cuts i) × (v ≡ stay_of stayed cuts i)) count stays

-- A cut set, the stays at its cuts, and places for those of its states.
pub record StaysAsked (stayed cuts stays : List ℕ) : Type 0 where
  pub places : length stays ≡ 9
  pub brief : (s : ℕ) → get_or stays s 0 ≤ 512 * 1000000
  pub least : 1 ≤ length cuts
  pub most : length cuts ≤ 5
  pub stay_places : length stayed ≡ 513
  pub within : (i : ℕ) → i < length cuts → get_or cuts i 0 ≤ 512
  pub rises : (i : ℕ) → 1 ≤ i → i < length cuts → get_or stayed (get_or cuts (i - 1) 0) 0 ≤ get_or stayed (get_or cuts i 0) 0
  pub small : (i : ℕ) → i < length cuts → get_or stayed (get_or cuts i 0) 0 ≤ 512 * 1000000

pub record StaysTold (stayed cuts stays : List ℕ) : Type 0 where
  pub each : SegmentStays stayed cuts (length cuts - 1) stays
  pub brief : (s : ℕ) → get_or stays s 0 ≤ 512 * 1000000

-- The service of each state of a cut set.
pub record StaysOf (service cuts route stays : List ℕ) : Type 0 where
  pub places : length stays ≡ 9
  pub each : (s : ℕ) → s < state_count (length cuts) → get_or stays s 0 ≡ total (λ x. get_or service x 0) (placed_in cuts route s)
  pub brief : (s : ℕ) → get_or stays s 0 ≤ 512 * 1000000

-- Along the states listed, from state a left at second t: each is left before its due.
unfoldable pub in_time : (table stays dues : List ℕ) → ℕ → ℕ → List ℕ → Bool
in_time table stays dues a t [] = true
in_time table stays dues a t (b ∷ bs) =
    ltb (t + (cell table a b + get_or stays b 0)) (get_or dues b 0) && in_time table stays dues b (t + (cell table a b + get_or stays b 0)) bs

-- What a judgement says of a row.
abbrev pub is_in_time : Timing → Bool
is_in_time Judged.InTime = true
is_in_time Judged.Late = false

-- A joint table, a row of at least m states, and the stays and dues of the states.
pub record RowTimed (table rows stays dues : List ℕ) (i m clock : ℕ) : Type 0 where
  pub padded : Padded table
  pub places : length rows ≡ 1532
  pub due_places : length dues ≡ 9
  pub stay_places : length stays ≡ 9
  pub brief : (s : ℕ) → get_or stays s 0 ≤ 512 * 1000000
  pub within : i < 383
  pub few : m ≤ 4
  pub known : (c : ℕ) → 4 * i ≤ c → c < 4 * i + m → get_or rows c 0 < 8
  pub early : clock ≤ 2 ^ 40

-- The due of each state of a cut set.
pub record DuesOf (C : Clock) (cuts route dues : List ℕ) : Type 0 where
  pub places : length dues ≡ 9
  pub each : (s : ℕ) → s < state_count (length cuts) → Due C (placed_in cuts route s) (get_or dues s 0)

-- The dues of the middle segments of the cuts `pre` and the last cut `end`.
pub record DuesReach (C : Clock) (route pre dues : List ℕ) (end : ℕ) : Type 0 where
  pub least : get_or pre (length pre - 1) 0 < end
  pub most : end ≤ length route
  pub due : SegmentsDue C (pre ++ (end ∷ [])) route (length pre) dues

-- What the cut sets with the first cuts `pre` share: place 8 holds the last cut that the dues of the last middle segment reach, or 0 where no dues are held.
pub record DuesHeld (C : Clock) (route pre dues : List ℕ) : Type 0 where
  pub places : length dues ≡ 9
  pub held : (get_or dues 8 0 ≡ 0) ⊎ DuesReach C route pre dues (get_or dues 8 0)

-- A cut set whose last cut lies no earlier than the one that the held dues reach, and what its dues are read from.
pub record DuesReachable (T : Tables) (route backward_sums stayed cuts dues : List ℕ) : Type 0 where
  pub read : DuesRead T route backward_sums stayed
  pub cut_set : CutSet (length cuts) (length route) cuts
  pub held : DuesHeld (clock_by T) route (take (length cuts - 1) cuts) dues
  pub behind : get_or dues 8 0 ≤ get_or cuts (length cuts - 1) 0

-- The dues of every middle segment of a cut set, and in place 8 its last cut.
pub record DuesReached (C : Clock) (route cuts dues : List ℕ) : Type 0 where
  pub places : length dues ≡ 9
  pub reach : get_or dues 8 0 ≡ get_or cuts (length cuts - 1) 0
  pub due : SegmentsDue C cuts route (length cuts - 1) dues

-- The same with the service of the states, and places for it.
pub record StatesTimable (T : Tables) (route backward_sums stayed cuts dues stays : List ℕ) : Type 0 where
  pub reachable : DuesReachable T route backward_sums stayed cuts dues
  pub stay_places : length stays ≡ 9
  pub brief : (s : ℕ) → get_or stays s 0 ≤ 512 * 1000000

pub record StatesTimed (T : Tables) (route cuts dues stays : List ℕ) : Type 0 where
  pub reached : DuesReached (clock_by T) route cuts dues
  pub served : StaysOf T.service cuts route stays
