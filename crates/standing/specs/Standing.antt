-- Where parts of one route stand in another, as they are or reversed. Tables have 49 places a row.
use Rattle.std.specs.Prelude.{◌≡◌, ◌⊎◌, List, ℕ, suc, ◌+◌, ◌*◌, ◌≤◌, ◌<◌, length, get_or}
use Rattle.standing.specs.Places.{Has}

-- The s stops of the old route from a on stand in the wanted one from y on: as they are, or from the last to the first.
abbrev pub Along : List ℕ → List ℕ → (a s y : ℕ) → Type 0
Along old wanted a s y = (i : ℕ) → i < s → get_or wanted (y + i) 0 ≡ get_or old (a + i) 0

abbrev pub Against : List ℕ → List ℕ → (a s y : ℕ) → Type 0
Against old wanted a s y = (i j : ℕ) → i + suc j ≡ s → get_or wanted (y + i) 0 ≡ get_or old (a + j) 0

abbrev pub Stands : List ℕ → List ℕ → (a s y : ℕ) → Type 0
Stands old wanted a s y = Along old wanted a s y ⊎ Against old wanted a s y

-- Both routes have n stops, at most 48.
pub record Pair (n : ℕ) (old wanted : List ℕ) : Type 0 where
  pub few : n ≤ 48
  pub olds : length old ≡ n
  pub wanteds : length wanted ≡ n

-- At row a, column b: the places where the stops from a to b stand. Nothing is said of places that are marked without need.
pub record StandsTable (n : ℕ) (old wanted table : List ℕ) : Type 0 where
  pub marked : (a s y : ℕ) → 0 < s → a + s ≤ n → y + s ≤ n → Stands old wanted a s y → Has (get_or table (a * 49 + (a + s)) 0) y

-- At row a, column y: where parts that begin at a, or at a or later, end if they stand at y.
pub record EndsTable (n : ℕ) (old wanted table : List ℕ) : Type 0 where
  pub marked : (a s y : ℕ) → 0 < s → a + s ≤ n → y + s ≤ n → Stands old wanted a s y → Has (get_or table (a * 49 + y) 0) (y + s)

pub record PartsTable (n : ℕ) (old wanted table : List ℕ) : Type 0 where
  pub marked : (c a s y : ℕ) → c ≤ a → 0 < s → a + s ≤ n → y + s ≤ n → Stands old wanted a s y → Has (get_or table (c * 49 + y) 0) (y + s)

-- The cuts before which the two routes agree, and those behind which they do.
pub record HeadSet (n : ℕ) (old wanted : List ℕ) (word : ℕ) : Type 0 where
  pub marked : (c : ℕ) → c ≤ n → ((i : ℕ) → i < c → get_or wanted i 0 ≡ get_or old i 0) → Has word c

pub record TailSet (n : ℕ) (old wanted : List ℕ) (word : ℕ) : Type 0 where
  pub marked : (c : ℕ) → c ≤ n → ((i : ℕ) → c ≤ i → i < n → get_or wanted i 0 ≡ get_or old i 0) → Has word c
