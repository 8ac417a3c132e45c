-- The rows at hand, and the first pattern that improves, found among them.
use Rattle.std.specs.Prelude.{◌≡◌, Bool, false, ◌⊎◌, List, ℕ, ◌*◌, ◌≤◌, ◌<◌, length, get_or}
use Rattle.theory.specs.Moves.{Pattern}
use Rattle.theory.specs.Scan.{improves}
use Rattle.theory.specs.Polish.{search_of, move_at}
use Rattle.theory.specs.Tables.{problem, Trip}
use Rattle.scan_joints.specs.States.{Patterned}
use Rattle.scan_chains.specs.Chains.{Chained}
use Rattle.scan_shared.specs.Filling.{open_by}
use Rattle.scan_sifting.specs.Sifting.{opens, Sifted}
use Rattle.scan_cut_set.specs.Gain.{Findable, Found}

-- The open ones of the first `count` rows, with the places that they add up, and their number.
pub record AtHand (is_open : ℕ → Bool) (rows : List ℕ) (count : ℕ) (hand hand_chains : List ℕ) (many : ℕ) : Type 0 where
  pub sifted : Sifted is_open rows count hand
  pub chained : Chained hand (length (opens is_open count)) hand_chains
  pub counted : many ≡ length (opens is_open count)

-- None were put together; or those are, that were open with what was blocked then.
pub record HandKept (rows : List ℕ) (patterns : ℕ) (signs hand hand_chains kept : List ℕ) : Type 0 where
  pub hand_places : length hand ≡ 1532
  pub chain_places : length hand_chains ≡ 1915
  pub kept_places : length kept ≡ 2
  pub is : (get_or kept 0 0 ≡ 0) ⊎ AtHand (open_by signs (get_or kept 0 0)) rows patterns hand hand_chains (get_or kept 1 0)

pub record SiftAsked (rows : List ℕ) (patterns : ℕ) (signs : List ℕ) (blocked : ℕ) (hand hand_chains kept : List ℕ) : Type 0 where
  pub places : length rows ≡ 1532
  pub few : patterns ≤ 383
  pub known : (c : ℕ) → c < 4 * patterns → get_or rows c 0 ≤ 8
  pub signed : 0 < blocked → length signs ≡ 383
  pub held : HandKept rows patterns signs hand hand_chains kept

-- Those that are open now, where something is blocked.
pub record SiftReady (rows : List ℕ) (patterns : ℕ) (signs : List ℕ) (blocked : ℕ) (hand hand_chains kept : List ℕ) : Type 0 where
  pub held : HandKept rows patterns signs hand hand_chains kept
  pub ready : 0 < blocked → AtHand (open_by signs blocked) rows patterns hand hand_chains (get_or kept 1 0)

pub record LimitAsked (signs : List ℕ) (blocked patterns : ℕ) (kept : List ℕ) (limit : ℕ) : Type 0 where
  pub kept_places : length kept ≡ 2
  pub within : limit ≤ patterns
  pub few : patterns ≤ 383
  pub signed : 0 < blocked → length signs ≡ 383
  pub counted : 0 < blocked → get_or kept 1 0 ≡ length (opens (open_by signs blocked) patterns)

pub record PatternAsked (signs : List ℕ) (blocked row limit : ℕ) : Type 0 where
  pub few : limit ≤ 383
  pub signed : 0 < blocked → length signs ≡ 383
  pub within : row < length (opens (open_by signs blocked) limit)

-- What the search among all rows asks, with the rows at hand; no pattern whose row is closed improves the route.
pub record OpenFindable (T : Trip) (members route forward_sums backward_sums stayed cuts rows chains : List ℕ) (patterns : ℕ) (signs : List ℕ) (blocked : ℕ) (late : List ℕ) (since : ℕ) (entries exits inside table dues words hand hand_chains kept : List ℕ) (limit : ℕ) : Type 0 where
  pub findable : Findable T members route forward_sums backward_sums stayed cuts rows chains late since entries exits inside table dues words limit
  pub within : limit ≤ patterns
  pub chained : Chained rows patterns chains
  pub sifting : SiftAsked rows patterns signs blocked hand hand_chains kept
  pub idle : (ps : List Pattern) → Patterned (length cuts) ps rows → (x : ℕ) → x < limit → x < length ps → open_by signs blocked x ≡ false →
      improves (search_of (problem T) ps (length cuts) (length route)) route (move_at ps cuts x) ≡ false

-- Its answer.
pub record OpenFound (T : Trip) (members route cuts rows : List ℕ) (patterns : ℕ) (signs : List ℕ) (limit i : ℕ) (table dues words hand hand_chains kept : List ℕ) : Type 0 where
  pub found : Found T members route cuts rows limit i table dues words
  pub held : HandKept rows patterns signs hand hand_chains kept
