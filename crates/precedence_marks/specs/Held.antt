-- The words of the placed segments of a cut set, shared by the cut sets with the same first cuts, and a row of states judged by them.
use Rattle.std.specs.Prelude.{◌≡◌, Bool, true, ◌&&◌, ◌⊎◌, List, [], ◌∷◌, ◌++◌, ℕ, ◌+◌, ◌-◌, ◌*◌, ◌/◌, ◌≤◌, ◌<◌, eqb, length, get_or, set, take}
use Rattle.std.specs.Int.Bits.{bit_and, bit_or}
use Rattle.std.proofs.Math.Seq.{slice}
use Rattle.theory.specs.Tables.{CutSet}
use Rattle.precedence.specs.declared.Marks.{Marks}
use Rattle.precedence.specs.Words.{Members, PairsLent, Readable, PartMarks, FrontReach, BackSince, marks_of}

-- ---- places

-- 17 places, and a middle segment.
pub record Puttable (held : List ℕ) (segment : ℕ) : Type 0 where
  pub places : length held ≡ 17
  pub least : 1 ≤ segment
  pub most : segment ≤ 4

-- Its words in their places: its firsts, its seconds, what it breaks as it stands, and reversed.
abbrev pub Putting : List ℕ → ℕ → Marks → List ℕ
Putting held i m = set (set (set (set held (i - 1) m.firsts) (4 + i - 1) m.seconds) (8 + (2 * i - 2)) m.broken) (8 + (2 * i - 2) + 1) m.turned

-- The words of the first `count` middle segments: segment i lies between the cuts i - 1 and i.
pub record SegmentsMarked (ps : List (ℕ × ℕ)) (cuts route : List ℕ) (count : ℕ) (held : List ℕ) : Type 0 where
  pub places : length held ≡ 17
  pub each : (i : ℕ) → 1 ≤ i → i ≤ count →
      PartMarks ps (slice (get_or cuts (i - 1) 0) (get_or cuts i 0) route) (get_or held (i - 1) 0) (get_or held (4 + i - 1) 0) (get_or held (8 + (2 * i - 2)) 0) (get_or held (8 + (2 * i - 2) + 1) 0)

-- ---- one segment

pub record SegmentAsked (members route : List ℕ) (start end : ℕ) : Type 0 where
  pub readable : Readable members route
  pub filled : start < end
  pub within : end ≤ length route

-- Of whichever pairs the words are, here and below.
pub record SegmentMarked (members route : List ℕ) (start end : ℕ) (m : Marks) : Type 0 where
  pub is : (ps : List (ℕ × ℕ)) → Members ps members → marks_of ps (slice start end route) m

-- ---- the segments of a cut set

pub record MarksFillable (members route cuts : List ℕ) (count : ℕ) (held : List ℕ) : Type 0 where
  pub readable : Readable members route
  pub cut_set : CutSet (length cuts) (length route) cuts
  pub fewer : count < length cuts
  pub places : length held ≡ 17

pub record MarksFilled (members route cuts : List ℕ) (count : ℕ) (held : List ℕ) : Type 0 where
  pub places : length held ≡ 17
  pub is : (ps : List (ℕ × ℕ)) → Members ps members → SegmentsMarked ps cuts route count held

-- The words of the middle segments of the cuts `pre` and the last cut `end`.
pub record MarksReach (ps : List (ℕ × ℕ)) (route pre held : List ℕ) (end : ℕ) : Type 0 where
  pub least : get_or pre (length pre - 1) 0 < end
  pub most : end ≤ length route
  pub marked : SegmentsMarked ps (pre ++ (end ∷ [])) route (length pre) held

-- What the cut sets with the first cuts `pre` share: place 16 holds the last cut that the words of the last middle segment reach, or 0 where none are held.
pub record MarksHeld (ps : List (ℕ × ℕ)) (route pre words : List ℕ) : Type 0 where
  pub places : length words ≡ 17
  pub held : (get_or words 16 0 ≡ 0) ⊎ MarksReach ps route pre words (get_or words 16 0)

-- A cut set whose last cut lies no earlier than the one that the held words reach, and what its words are read from.
pub record MarksReachable (members route cuts held : List ℕ) : Type 0 where
  pub readable : Readable members route
  pub cut_set : CutSet (length cuts) (length route) cuts
  pub places : length held ≡ 17
  pub some : 0 < get_or held 16 0
  pub before : get_or cuts (length cuts - 2) 0 ≤ get_or held 16 0
  pub behind : get_or held 16 0 ≤ get_or cuts (length cuts - 1) 0

pub record MarksStretched (members route cuts held held' : List ℕ) : Type 0 where
  pub places : length held' ≡ 17
  pub is : (ps : List (ℕ × ℕ)) → Members ps members → MarksHeld ps route (take (length cuts - 1) cuts) held → SegmentsMarked ps cuts route (length cuts - 1) held'

-- The same where none may be held.
pub record MarksAsked (members route cuts held : List ℕ) : Type 0 where
  pub readable : Readable members route
  pub cut_set : CutSet (length cuts) (length route) cuts
  pub places : length held ≡ 17
  pub before : (get_or held 16 0 ≡ 0) ⊎ (get_or cuts (length cuts - 2) 0 ≤ get_or held 16 0)
  pub behind : get_or held 16 0 ≤ get_or cuts (length cuts - 1) 0

pub record MarksReached (members route cuts held held' : List ℕ) : Type 0 where
  pub places : length held' ≡ 17
  pub reach : get_or held' 16 0 ≡ get_or cuts (length cuts - 1) 0
  pub is : (ps : List (ℕ × ℕ)) → Members ps members → MarksHeld ps route (take (length cuts - 1) cuts) held → SegmentsMarked ps cuts route (length cuts - 1) held'

-- ---- with pairs, or without

-- What is held: nothing but 0 where there are no words, or the words of the first cuts.
abbrev pub MarksKept : List (ℕ × ℕ) → (members route pre words : List ℕ) → Type 0
MarksKept ps members route pre words =
    ((length members ≡ 0) × (length words ≡ 17) × ((c : ℕ) → get_or words c 0 ≡ 0)) ⊎ ((0 < length members) × MarksHeld ps route pre words)

pub record MarksTellable (members route cuts held : List ℕ) : Type 0 where
  pub sized : (length members ≡ 0) ⊎ (length members ≡ 2048)
  pub short : length route ≤ 512
  pub known : (i : ℕ) → i < length route → get_or route i 0 < 1024
  pub cut_set : CutSet (length cuts) (length route) cuts
  pub places : length held ≡ 17
  pub before : (get_or held 16 0 ≡ 0) ⊎ (get_or cuts (length cuts - 2) 0 ≤ get_or held 16 0)
  pub behind : get_or held 16 0 ≤ get_or cuts (length cuts - 1) 0

pub record MarksTold (members route cuts held held' : List ℕ) : Type 0 where
  pub places : length held' ≡ 17
  pub behind : get_or held' 16 0 ≤ get_or cuts (length cuts - 1) 0
  pub is : (ps : List (ℕ × ℕ)) → PairsLent ps members → MarksKept ps members route (take (length cuts - 1) cuts) held →
      SegmentsMarked ps cuts route (length cuts - 1) held' × MarksKept ps members route (take (length cuts - 1) cuts) held'

-- ---- a row of states

-- Along the states listed, behind seconds of the pairs `passed`: no state visits a first of these, and none breaks a pair.
unfoldable pub in_order : (held : List ℕ) → ℕ → List ℕ → Bool
in_order held passed [] = true
in_order held passed (s ∷ ss) =
    eqb (bit_or (bit_and (get_or held (s / 2) 0) passed) (get_or held (8 + s) 0)) 0 && in_order held (bit_or passed (get_or held (4 + s / 2) 0)) ss

-- Words by state, and a row of at least m states.
pub record RowOrdered (rows held : List ℕ) (i m : ℕ) : Type 0 where
  pub places : length rows ≡ 1532
  pub word_places : length held ≡ 17
  pub within : i < 383
  pub few : m ≤ 4
  pub known : (c : ℕ) → 4 * i ≤ c → c < 4 * i + m → get_or rows c 0 < 8

-- ---- where a route may be cut

pub record RouteTellable (members route : List ℕ) : Type 0 where
  pub sized : (length members ≡ 0) ⊎ (length members ≡ 2048)
  pub short : length route ≤ 512
  pub known : (i : ℕ) → i < length route → get_or route i 0 < 1024

pub record HeadLimit (members route : List ℕ) (reach : ℕ) : Type 0 where
  pub within : reach ≤ length route
  pub is : (ps : List (ℕ × ℕ)) → PairsLent ps members → FrontReach ps route reach

pub record TailSince (members route : List ℕ) (since : ℕ) : Type 0 where
  pub within : since ≤ length route
  pub is : (ps : List (ℕ × ℕ)) → PairsLent ps members → BackSince ps route since
