-- The time on the lamps: the service of the stops of a route, summed up along it.
use Rattle.std.specs.Prelude.{◌≡◌, List, ℕ, ◌*◌, ◌≤◌, ◌<◌, length, get_or, take}
use Rattle.theory.specs.Moves.{total}

-- A location and the service of each.
pub record ServiceOf (service : List ℕ) (stop : ℕ) : Type 0 where
  pub known : stop < length service
  pub few : length service ≤ 1024
  pub brief : get_or service stop 0 ≤ 1000000

pub record ServiceIs (service : List ℕ) (stop seconds : ℕ) : Type 0 where
  pub is : seconds ≡ get_or service stop 0
  pub small : seconds ≤ 1000000

-- The service of the stops before each position, the end included.
pub record Stays (service route stayed : List ℕ) : Type 0 where
  pub places : length stayed ≡ 513
  pub each : (c : ℕ) → c ≤ length route → get_or stayed c 0 ≡ total (λ x. get_or service x 0) (take c route)
  pub small : (c : ℕ) → c ≤ length route → get_or stayed c 0 ≤ 1000000 * c

-- A route, a service time for each location, and places for their sums.
pub record StaysFillable (service route stayed : List ℕ) : Type 0 where
  pub few : length service ≤ 1024
  pub brief : (i : ℕ) → get_or service i 0 ≤ 1000000
  pub short : length route ≤ 512
  pub known : (i : ℕ) → i < length route → get_or route i 0 < length service
  pub places : length stayed ≡ 513
