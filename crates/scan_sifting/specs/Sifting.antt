-- The rows that are open, put together: their numbers, the rows at hand, and what the contracts of `scan_sifting` ask.
use Rattle.std.specs.Prelude.{◌≡◌, Bool, true, cond, List, [], ◌∷◌, ◌++◌, map, ℕ, zero, suc, ◌+◌, ◌*◌, ◌≤◌, ◌<◌, length, get_or}
use Rattle.theory.specs.Moves.{Pattern}
use Rattle.scan_joints.specs.States.{row, no_pattern}

-- The numbers below n of the rows that are open, in their order.
unfoldable pub opens : (ℕ → Bool) → ℕ → List ℕ
opens o zero = []
opens o (suc n) = cond (o n) (opens o n ++ (n ∷ [])) (opens o n)

-- x is one of the first `bound` numbers of the open rows below n.
pub record OpenAt (o : ℕ → Bool) (n bound x : ℕ) : Type 0 where
  pub number : ℕ
  pub before : number < bound
  pub is : get_or (opens o n) number 0 ≡ x

-- The patterns of these numbers, in their order.
unfoldable pub sifted_list : List Pattern → List ℕ → List Pattern
sifted_list ps ns = map (λ i. get_or ps i no_pattern) ns

-- At hand are the open ones among the first `count` rows, in their order.
pub record Sifted (is_open : ℕ → Bool) (rows : List ℕ) (count : ℕ) (hand : List ℕ) : Type 0 where
  pub places : length hand ≡ 1532
  pub small : ((c : ℕ) → c < 4 * count → get_or rows c 0 ≤ 8) → (c : ℕ) → c < 4 * length (opens is_open count) → get_or hand c 0 ≤ 8
  pub each : (j : ℕ) → j < length (opens is_open count) → row hand j ≡ row rows (get_or (opens is_open count) j 0)

-- Rows with their signs, and places for those at hand.
pub record Siftable (rows : List ℕ) (patterns : ℕ) (signs hand : List ℕ) : Type 0 where
  pub places : length rows ≡ 1532
  pub few : patterns ≤ 383
  pub sign_places : length signs ≡ 383
  pub hand_places : length hand ≡ 1532

-- The signs of the first `limit` rows.
pub record OpenAsked (signs : List ℕ) (limit : ℕ) : Type 0 where
  pub sign_places : length signs ≡ 383
  pub few : limit ≤ 383

-- The sign of row i, and how many of the rows before it are open.
pub record OneAsked (signs : List ℕ) (i count : ℕ) : Type 0 where
  pub sign_places : length signs ≡ 383
  pub within : i < 383
  pub fewer : count ≤ i

-- Row i with its sign, and room for it at hand.
pub record RowSiftable (rows : List ℕ) (i : ℕ) (signs : List ℕ) (count : ℕ) (hand : List ℕ) : Type 0 where
  pub places : length rows ≡ 1532
  pub hand_places : length hand ≡ 1532
  pub asked : OneAsked signs i count

-- Row i behind the first `count` rows at hand, if it is open.
pub record RowSifted (is_open : ℕ → Bool) (rows : List ℕ) (i count : ℕ) (before after : List ℕ) (r : ℕ) : Type 0 where
  pub is : r ≡ cond (is_open i) (count + 1) count
  pub places : length after ≡ 1532
  pub put : is_open i ≡ true → row after count ≡ row rows i
  pub others : (j : ℕ) → j < count → row after j ≡ row before j
