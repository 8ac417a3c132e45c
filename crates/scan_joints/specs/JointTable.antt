-- The joint table of a cut set: what it costs to go on from one state to another, shared by all patterns on the cut set.
use Rattle.std.specs.Prelude.{◌≡◌, cond, ◌≢◌, ◌⊎◌, List, [], ◌∷◌, ℕ, ◌+◌, ◌-◌, ◌*◌, ◌/◌, ◌%◌, ◌^◌, ◌≤◌, ◌<◌, eqb, length, get_or, set}
use Rattle.theory.specs.Costs.{last_of, first_of, inner, forward, backward}
use Rattle.theory.specs.Tables.{legs_only, LegTable, Measurable, CutSet}
use Rattle.costs.specs.RouteCosts.{leg, Sums, Spanned, span, head_end, tail_start}
use Rattle.scan_joints.specs.States.{state_count, placed_in}

-- A table of 10 rows of 16 places.
abbrev pub cell : List ℕ → ℕ → ℕ → ℕ
cell table a b = get_or table (16 * a + b) 0

-- The cells from state a along the states listed, and at last the one to the tail.
unfoldable pub chain : List ℕ → ℕ → List ℕ → ℕ
chain table a [] = cell table a 8
chain table a (b ∷ bs) = cell table a b + chain table b bs

-- A table whose chains can be added up. The tail follows the tail at no cost: that pads the rows.
pub record Padded (table : List ℕ) : Type 0 where
  pub places : length table ≡ 160
  pub padding : cell table 8 8 ≡ 0
  pub small : (c : ℕ) → get_or table c 0 ≤ 2 ^ 40

-- A table, and row i of rows of four states.
pub record Chainable (table rows : List ℕ) (i : ℕ) : Type 0 where
  pub padded : Padded table
  pub places : length rows ≡ 1532
  pub within : i < 383
  pub known : (c : ℕ) → 4 * i ≤ c → c < 4 * i + 4 → get_or rows c 0 ≤ 8

-- A place of the table.
pub record CellAt (table : List ℕ) (a b : ℕ) : Type 0 where
  pub padded : Padded table
  pub row : a < 10
  pub column : b < 10

-- What stands there.
pub record Cell (table : List ℕ) (a b r : ℕ) : Type 0 where
  pub is : r ≡ cell table a b
  pub small : r ≤ 2 ^ 40

-- A table, and four states of a row.
pub record FourStates (table : List ℕ) (a b c d : ℕ) : Type 0 where
  pub padded : Padded table
  pub first : a ≤ 8
  pub second : b ≤ 8
  pub third : c ≤ 8
  pub fourth : d ≤ 8

-- A table, and the number of cuts.
pub record Standing (table : List ℕ) (k : ℕ) : Type 0 where
  pub padded : Padded table
  pub least : 2 ≤ k
  pub most : k ≤ 5

-- Row a, for a state that is left at the stop `exit`: the leg to another state's entry with the legs inside that state, and the leg to the tail's start.
pub record JointRow (d : ℕ → ℕ → ℕ) (entry inside : ℕ → ℕ) (count tail : ℕ) (table : List ℕ) (a exit : ℕ) : Type 0 where
  pub next : (b : ℕ) → b < count → cell table a b ≡ d exit (entry b) + inside b
  pub last : cell table a 8 ≡ d exit tail

-- The rows of the head and of the states 0 to count - 1; a state is a part of the route, as it is placed.
pub record JointTable (d : ℕ → ℕ → ℕ) (part : ℕ → List ℕ) (count head tail : ℕ) (table : List ℕ) : Type 0 where
  pub padded : Padded table
  pub from_head : JointRow d (λ s. first_of (part s) 0) (λ s. inner d (part s)) count tail table 9 head
  pub from_each : (a : ℕ) → a < count → JointRow d (λ s. first_of (part s) 0) (λ s. inner d (part s)) count tail table a (last_of 0 (part a))

-- The joint table of a cut set. "Cut 0 makes the depot the head's end", cut n the end harbour the tail's start.
abbrev pub JointOf : ℕ → List ℕ → (depot end : ℕ) → List ℕ → List ℕ → List ℕ → Type 0
JointOf locations legs depot end route cuts table =
    JointTable (leg locations legs) (placed_in cuts route) (state_count (length cuts)) (head_end (legs_only locations legs depot end) route cuts)
    (tail_start (legs_only locations legs depot end) route cuts) table

-- What the joint table of a cut set is read from, and the places for it.
pub record Joinable (locations : ℕ) (legs : List ℕ) (depot end : ℕ) (route forward_sums backward_sums cuts table : List ℕ) : Type 0 where
  pub measurable : Measurable locations legs depot end route
  pub forwards : Sums route (forward (leg locations legs) route) forward_sums
  pub backwards : Sums route (backward (leg locations legs) route) backward_sums
  pub cut_set : CutSet (length cuts) (length route) cuts
  pub padded : Padded table

-- ---- the parts of the filling

-- Places for each state's entry, exit and inner legs.
pub record EndPlaces (entries exits inside : List ℕ) : Type 0 where
  pub entry_places : length entries ≡ 8
  pub exit_places : length exits ≡ 8
  pub inside_places : length inside ≡ 8

-- A segment route[start..end], and places for its two states s and s + 1.
pub record EndsPuttable (route forward_sums backward_sums : List ℕ) (start end s : ℕ) (entries exits inside : List ℕ) : Type 0 where
  pub within : end ≤ length route
  pub forwards : Spanned forward_sums start end
  pub backwards : Spanned backward_sums start end
  pub room : s + 1 < 8
  pub places : EndPlaces entries exits inside

-- Reversed, a segment is entered at its last stop, left at its first, and its inner legs are the backward ones.
pub record EndsPut (route forward_sums backward_sums : List ℕ) (start end s : ℕ) (entries exits inside entries' exits' inside' : List ℕ) : Type 0 where
  pub entered : entries' ≡ set (set entries s (get_or route start 0)) (s + 1) (get_or route (end - 1) 0)
  pub left : exits' ≡ set (set exits s (get_or route (end - 1) 0)) (s + 1) (get_or route start 0)
  pub legs : inside' ≡ set (set inside s (span forward_sums start end)) (s + 1) (span backward_sums start end)

-- The segments of a cut set, and the places for their states.
pub record EndsFillable (route forward_sums backward_sums cuts entries exits inside : List ℕ) : Type 0 where
  pub cut_set : CutSet (length cuts) (length route) cuts
  pub forwards : (i : ℕ) → 1 ≤ i → i < length cuts → Spanned forward_sums (get_or cuts (i - 1) 0) (get_or cuts i 0)
  pub backwards : (i : ℕ) → 1 ≤ i → i < length cuts → Spanned backward_sums (get_or cuts (i - 1) 0) (get_or cuts i 0)
  pub places : EndPlaces entries exits inside

-- The legs inside a state's segment, from the running sums of its direction.
abbrev pub inner_sum : List ℕ → List ℕ → List ℕ → ℕ → ℕ
inner_sum forward_sums backward_sums cuts s = span (cond (eqb (s % 2) 1) backward_sums forward_sums) (get_or cuts (s / 2) 0) (get_or cuts (1 + s / 2) 0)

-- Each state's entry, exit and inner legs in their places.
pub record StateEnds (route forward_sums backward_sums cuts : List ℕ) (count : ℕ) (entries exits inside : List ℕ) : Type 0 where
  pub places : EndPlaces entries exits inside
  pub entry : (s : ℕ) → s < count → get_or entries s 0 ≡ first_of (placed_in cuts route s) 0
  pub exit : (s : ℕ) → s < count → get_or exits s 0 ≡ last_of 0 (placed_in cuts route s)
  pub legs : (s : ℕ) → s < count → get_or inside s 0 ≡ inner_sum forward_sums backward_sums cuts s

-- What the cells of a row are read from.
pub record Fillable (locations : ℕ) (legs : List ℕ) (count : ℕ) (entries inside : List ℕ) : Type 0 where
  pub leg_table : LegTable locations legs
  pub few : count ≤ 8
  pub entry_places : length entries ≡ 8
  pub inside_places : length inside ≡ 8
  pub entries_known : (s : ℕ) → s < count → get_or entries s 0 < locations
  pub inside_small : (s : ℕ) → s < count → get_or inside s 0 ≤ 1000000 * 512

-- A row of the table but the tail's, for a state that is left at the known stop `from`.
pub record RowFillable (locations : ℕ) (legs : List ℕ) (from count : ℕ) (entries inside : List ℕ) (a : ℕ) (table : List ℕ) : Type 0 where
  pub fillable : Fillable locations legs count entries inside
  pub padded : Padded table
  pub from_known : from < locations
  pub within : a < 10
  pub not_tail : a ≢ 8

-- The first `count` cells of row a are filled, and all other places are as they were.
pub record RowFilled (locations : ℕ) (legs : List ℕ) (from count : ℕ) (entries inside : List ℕ) (a : ℕ) (before after : List ℕ) : Type 0 where
  pub padded : Padded after
  pub next : (b : ℕ) → b < count → cell after a b ≡ leg locations legs from (get_or entries b 0) + get_or inside b 0
  pub others : (c : ℕ) → (c < 16 * a) ⊎ (16 * a + count ≤ c) → get_or after c 0 ≡ get_or before c 0
