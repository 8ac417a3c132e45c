-- What is known of the tables while they are filled. In all of it what stands is marked; nothing is said of other marks.
use Rattle.std.specs.Prelude.{◌≡◌, Bool, true, List, ℕ, suc, ◌+◌, ◌-◌, ◌*◌, ◌≤◌, ◌<◌, length, get_or}
use Rattle.std.specs.Int.Bits.{bit_or}
use Rattle.standing.specs.Places.{Has}
use Rattle.standing.specs.Standing.{Along, Against, Stands, Pair, StandsTable, EndsTable, PartsTable}

-- A place where the test holds.
abbrev pub PlaceIf : Bool → (z r : ℕ) → Type 0
PlaceIf holds z r = holds ≡ true → Has r z

-- The places of the wanted route that hold a stop; and for each stop of the old one, up to one.
abbrev pub SameSet : List ℕ → (stop r : ℕ) → Type 0
SameSet wanted stop r = (z : ℕ) → z < length wanted → get_or wanted z 0 ≡ stop → Has r z

abbrev pub SameBelow : (b : ℕ) (old wanted same : List ℕ) → Type 0
SameBelow b old wanted same = (x z : ℕ) → x < b → z < length wanted → get_or wanted z 0 ≡ get_or old x 0 → Has (get_or same x 0) z

abbrev pub SameTable : (old wanted same : List ℕ) → Type 0
SameTable old wanted same = SameBelow (length old) old wanted same

-- Where the parts that begin at a end if they stand at y.
abbrev pub AlongGood : (n : ℕ) (old wanted : List ℕ) (word a y : ℕ) → Type 0
AlongGood n old wanted word a y = (s : ℕ) → 0 < s → a + s ≤ n → y + s ≤ n → Along old wanted a s y → Has word (y + s)

abbrev pub AgainstGood : (n : ℕ) (old wanted : List ℕ) (word a y : ℕ) → Type 0
AgainstGood n old wanted word a y = (s : ℕ) → 0 < s → a + s ≤ n → y + s ≤ n → Against old wanted a s y → Has word (y + s)

-- Filled from place i on.
abbrev pub AlongFrom : (n : ℕ) (old wanted table : List ℕ) (i : ℕ) → Type 0
AlongFrom n old wanted table i = (a y : ℕ) → y < 49 → i ≤ a * 49 + y → AlongGood n old wanted (get_or table (a * 49 + y) 0) a y

abbrev pub AgainstFrom : (n : ℕ) (old wanted table : List ℕ) (i : ℕ) → Type 0
AgainstFrom n old wanted table i = (a y : ℕ) → y < 49 → i ≤ a * 49 + y → AgainstGood n old wanted (get_or table (a * 49 + y) 0) a y

-- The word of one place, from those behind it.
abbrev pub AlongCell : (same table : List ℕ) (i r : ℕ) → Type 0
AlongCell same table i r =
    (n : ℕ) (old wanted : List ℕ) → Pair n old wanted → SameTable old wanted same → AlongFrom n old wanted table (suc i) → (a y : ℕ) → y < 49 → a * 49 + y ≡ i → AlongGood n old wanted r a y

abbrev pub AgainstCell : (same table : List ℕ) (i r : ℕ) → Type 0
AgainstCell same table i r =
    (n : ℕ) (old wanted : List ℕ) → Pair n old wanted → SameTable old wanted same → AgainstFrom n old wanted table (suc i) → (a y : ℕ) → y < 49 → a * 49 + y ≡ i → AgainstGood n old wanted r a y

abbrev pub AlongTable : (same table : List ℕ) → Type 0
AlongTable same table = (n : ℕ) (old wanted : List ℕ) → Pair n old wanted → SameTable old wanted same → AlongFrom n old wanted table 0

abbrev pub AgainstTable : (same table : List ℕ) → Type 0
AgainstTable same table = (n : ℕ) (old wanted : List ℕ) → Pair n old wanted → SameTable old wanted same → AgainstFrom n old wanted table 0

-- Each place of two tables together.
abbrev pub Merged : (i : ℕ) (along against table : List ℕ) → Type 0
Merged i along against table = (j : ℕ) → j < i → get_or table j 0 ≡ bit_or (get_or along j 0) (get_or against j 0)

-- Where the parts that begin at c or later end if they stand at y; filled from place i on.
abbrev pub PartsGood : (n : ℕ) (old wanted : List ℕ) (word c y : ℕ) → Type 0
PartsGood n old wanted word c y = (a s : ℕ) → c ≤ a → 0 < s → a + s ≤ n → y + s ≤ n → Stands old wanted a s y → Has word (y + s)

abbrev pub PartsFrom : (n : ℕ) (old wanted table : List ℕ) (i : ℕ) → Type 0
PartsFrom n old wanted table i = (c y : ℕ) → y < 49 → i ≤ c * 49 + y → PartsGood n old wanted (get_or table (c * 49 + y) 0) c y

abbrev pub PartsFilled : (ends table : List ℕ) → Type 0
PartsFilled ends table = (n : ℕ) (old wanted : List ℕ) → Pair n old wanted → EndsTable n old wanted ends → PartsTable n old wanted table

-- Where the s stops from a on stand, each way; the row of a up to column e, and the rows before a.
abbrev pub AlongAt : (n : ℕ) (old wanted : List ℕ) (word a s : ℕ) → Type 0
AlongAt n old wanted word a s = (y : ℕ) → a + s ≤ n → y + s ≤ n → Along old wanted a s y → Has word y

abbrev pub AgainstAt : (n : ℕ) (old wanted : List ℕ) (word a s : ℕ) → Type 0
AgainstAt n old wanted word a s = (y : ℕ) → a + s ≤ n → y + s ≤ n → Against old wanted a s y → Has word y

abbrev pub RowTo : (n : ℕ) (old wanted table : List ℕ) (a e : ℕ) → Type 0
RowTo n old wanted table a e = (s y : ℕ) → 0 < s → a + s < e → a + s ≤ n → y + s ≤ n → Stands old wanted a s y → Has (get_or table (a * 49 + (a + s)) 0) y

abbrev pub RowsBelow : (n : ℕ) (old wanted table : List ℕ) (a : ℕ) → Type 0
RowsBelow n old wanted table a = (x : ℕ) → x < a → RowTo n old wanted table x 50

-- What a turn along row a keeps, for all routes that the words of the same stops are of.
pub record RowKept (same table₀ : List ℕ) (n a : ℕ) (along against : ℕ) (table : List ℕ) (e : ℕ) : Type 0 where
  pub starts : a + 1 ≤ e
  pub ends : e ≤ n + 1
  pub few : n ≤ 48
  pub long : length table ≡ 2401
  pub straight : (old wanted : List ℕ) → Pair n old wanted → SameTable old wanted same → AlongAt n old wanted along a (e - a)
  pub reversed : (old wanted : List ℕ) → Pair n old wanted → SameTable old wanted same → AgainstAt n old wanted against a (e - a)
  pub row : (old wanted : List ℕ) → Pair n old wanted → SameTable old wanted same → RowTo n old wanted table a e
  pub before : (x : ℕ) → x < a * 49 → get_or table x 0 ≡ get_or table₀ x 0

pub record RowRoom (n a : ℕ) (table : List ℕ) : Type 0 where
  pub few : n ≤ 48
  pub within : a < n
  pub long : length table ≡ 2401

pub record RowFilled (same table₀ : List ℕ) (n a : ℕ) (table : List ℕ) : Type 0 where
  pub long : length table ≡ 2401
  pub row : (old wanted : List ℕ) → Pair n old wanted → SameTable old wanted same → RowTo n old wanted table a 50
  pub before : (x : ℕ) → x < a * 49 → get_or table x 0 ≡ get_or table₀ x 0

-- The whole table.
pub record StandsFilled (same : List ℕ) (n : ℕ) (table : List ℕ) : Type 0 where
  pub stood : (old wanted : List ℕ) → Pair n old wanted → SameTable old wanted same → StandsTable n old wanted table
