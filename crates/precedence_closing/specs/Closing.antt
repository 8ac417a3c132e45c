-- Signs of a row of states: which middle segment stands before an earlier one, and which is reversed; and those by which a row breaks a pair.
use Rattle.std.specs.Prelude.{◌≡◌, Bool, true, false, cond, not, ◌&&◌, ◌||◌, ◌⊎◌, List, [], ◌∷◌, ◌++◌, ℕ, ◌+◌, ◌*◌, ◌/◌, ◌≤◌, ◌<◌, eqb, length, get_or}
use Rattle.std.specs.Int.Bits.{bit_and}
use Rattle.theory.specs.Pairs.{pairs_kept}
use Rattle.theory.specs.Tables.{CutSet, ForK}
use Rattle.costs.specs.RouteCosts.{first_cuts, last_cut}
use Rattle.scan_joints.specs.States.{states, row}
use Rattle.deadline_dues.specs.Parts.{middle}
use Rattle.precedence.specs.Words.{marks}
use Rattle.precedence_visits.specs.Visits.{Visits, Crosses}

-- ---- the signs of a row

-- The middle segments are numbered from 0. (a, b) with a < b: segment b stands before segment a; (b, b): segment b is reversed.
unfoldable pub events : List (ℕ × ℕ)
events = (0, 0) ∷ (0, 1) ∷ (1, 1) ∷ (0, 2) ∷ (1, 2) ∷ (2, 2) ∷ (0, 3) ∷ (1, 3) ∷ (2, 3) ∷ (3, 3) ∷ []

-- Whether a segment stands in a row, in either of its states.
unfoldable pub stands : ℕ → List ℕ → Bool
stands g [] = false
stands g (s ∷ ss) = eqb (s / 2) g || stands g ss

-- Whether an event occurs in a row.
unfoldable pub occurs : List ℕ → ℕ × ℕ → Bool
unfolding stands
occurs [] e = false
occurs (s ∷ ss) e = cond (eqb e.0 e.1) (eqb s (2 * e.1 + 1)) (eqb (s / 2) e.1 && stands e.0 ss) || occurs ss e

-- The events that occur, the first as bit 0.
unfoldable pub sign : List ℕ → ℕ
unfolding occurs events
sign ss = marks (occurs ss) events

-- By one state alone, and by two of which the one stands before the other.
unfoldable pub turned_in : ℕ → ℕ × ℕ → Bool
turned_in s e = eqb e.0 e.1 && eqb s (2 * e.1 + 1)

unfoldable pub ahead_in : ℕ → ℕ → ℕ × ℕ → Bool
ahead_in s t e = not (eqb e.0 e.1) && (eqb (s / 2) e.1 && eqb (t / 2) e.0)

-- A row of four states, among others.
pub record RowSignable (rows : List ℕ) (i : ℕ) : Type 0 where
  pub places : length rows ≡ 1532
  pub within : i < 383
  pub small : (c : ℕ) → 4 * i ≤ c → c < 4 * i + 4 → get_or rows c 0 ≤ 8

-- Room for the signs of the first `count` rows.
pub record SignsFillable (rows : List ℕ) (count : ℕ) (signs : List ℕ) : Type 0 where
  pub row_places : length rows ≡ 1532
  pub few : count ≤ 383
  pub small : (c : ℕ) → c < 4 * count → get_or rows c 0 ≤ 8
  pub places : length signs ≡ 383

pub record Signed (rows : List ℕ) (count : ℕ) (signs : List ℕ) : Type 0 where
  pub places : length signs ≡ 383
  pub each : (i : ℕ) → i < count → get_or signs i 0 ≡ sign (row rows i)

-- ---- the signs that are closed

-- A row with one of these signs breaks a pair: on these cuts, and with the last one further on.
abbrev pub Shuts : List (ℕ × ℕ) → (route cuts : List ℕ) → ℕ → Type 0
Shuts ps route cuts blocked =
    (order : List ℕ) (mask c : ℕ) → ForK (length cuts) order mask → last_cut cuts ≤ c → c ≤ length route →
    eqb (bit_and (sign (states (length cuts) order mask)) blocked) 0 ≡ false →
    pairs_kept ps (middle route (first_cuts cuts ++ (c ∷ [])) order mask) ≡ false

-- Cuts of some route of at most 512 stops, and places for its visits.
pub record ClosingAsked (visits cuts : List ℕ) : Type 0 where
  pub places : length visits ≡ 1027
  pub stops : ℕ
  pub cut_set : CutSet (length cuts) stops cuts

pub record ClosedBy (visits cuts : List ℕ) (r : ℕ) : Type 0 where
  pub small : r < 1024
  pub is : (ps : List (ℕ × ℕ)) (route : List ℕ) → Visits ps route visits → last_cut cuts ≤ get_or visits 1026 0 →
      CutSet (length cuts) (length route) cuts → pairs_kept ps route ≡ true → Shuts ps route cuts r

-- ---- one event

-- Two middle segments of the cuts, the later one second.
pub record EventAsked (visits cuts : List ℕ) (a b : ℕ) : Type 0 where
  pub asked : ClosingAsked visits cuts
  pub order : a ≤ b
  pub within : b + 1 < length cuts

-- Its bit stands for a pair from the one to the other.
pub record EventClosed (visits cuts : List ℕ) (a b bit r : ℕ) : Type 0 where
  pub is : (r ≡ 0) ⊎ ((r ≡ bit) × Crosses visits (get_or cuts a 0) (get_or cuts (a + 1) 0) (get_or cuts b 0) (get_or cuts (b + 1) 0))

-- The event behind (a, b), in their order.
pub record EventNext (a b a' b' : ℕ) : Type 0 where
  pub is : ((a ≡ b) × (a' ≡ 0) × (b' ≡ b + 1)) ⊎ ((a < b) × (a' ≡ a + 1) × (b' ≡ b))
