-- The states of the middle segments, and patterns as rows of states. Segment i (1 to k - 1) as it stands is state 2 (i - 1), reversed 2 (i - 1) + 1; 8 is
-- the tail, 9 the head.
use Rattle.std.specs.Prelude.{◌≡◌, cond, List, [], ◌++◌, map, ℕ, ◌+◌, ◌-◌, ◌*◌, ◌/◌, ◌%◌, ◌≤◌, ◌<◌, eqb, length, get_or, replicate}
use Rattle.std.proofs.Math.Seq.{slice}
use Rattle.theory.specs.Moves.{Pattern, upfrom}
use Rattle.theory.specs.Route.{segments, reverses, reverse_if}
use Rattle.theory.specs.Tables.{ForK, pattern_rows}

-- How many states the middle segments of k cuts have.
abbrev pub state_count : ℕ → ℕ
state_count k = 2 * (k - 1)

-- The state in which a mask places segment i: "bit i turns piece i".
unfoldable pub state_of : ℕ → ℕ → ℕ
state_of mask i = 2 * (i - 1) + cond (reverses mask i) 1 0

-- The segment of a state, as it is placed.
unfoldable pub placed_in : List ℕ → List ℕ → ℕ → List ℕ
placed_in cuts route s = reverse_if (eqb (s % 2) 1) (get_or (segments 0 cuts route) (1 + s / 2) [])

-- The states in which a mask places the middle segments of an order for k cuts, padded with the tail to four.
unfoldable pub states : ℕ → List ℕ → ℕ → List ℕ
unfolding state_of
states k order mask = map (state_of mask) (slice 1 k order) ++ replicate (5 - k) 8

-- The row of the order that changes nothing.
unfoldable pub standing_row : ℕ → List ℕ
unfolding state_of
standing_row k = map (state_of 0) (upfrom 1 (k - 1)) ++ replicate (5 - k) 8

-- Row i of rows of four.
abbrev pub row : List ℕ → ℕ → List ℕ
row rows i = slice (4 * i) (4 * i + 4) rows

-- The pattern of an index, as `move_at` has it.
abbrev pub pattern_row : ℕ → List ℕ → List ℕ → ℕ → Pattern
pattern_row k orders masks i = get_or (pattern_rows k orders masks) i (record { order = []; mask = 0 })

-- What `move_at` reads beyond the list.
abbrev pub no_pattern : Pattern
no_pattern = record { order = []; mask = 0 }

-- The first `count` rows are those of the patterns, in their order.
pub record StateRows (k : ℕ) (orders masks : List ℕ) (count : ℕ) (rows : List ℕ) : Type 0 where
  pub places : length rows ≡ 1532
  pub each : (i : ℕ) → i < count → row rows i ≡ states k (pattern_row k orders masks i).order (pattern_row k orders masks i).mask
  pub small : (c : ℕ) → c < 4 * count → get_or rows c 0 ≤ 8

-- A list of patterns for k cuts as rows of states.
pub record Patterned (k : ℕ) (ps : List Pattern) (rows : List ℕ) : Type 0 where
  pub few : length ps ≤ 383
  pub places : length rows ≡ 1532
  pub for_k : (i : ℕ) → i < length ps → ForK k (get_or ps i no_pattern).order (get_or ps i no_pattern).mask
  pub each : (i : ℕ) → i < length ps → row rows i ≡ states k (get_or ps i no_pattern).order (get_or ps i no_pattern).mask
  pub small : (c : ℕ) → c < 4 * length ps → get_or rows c 0 ≤ 8
