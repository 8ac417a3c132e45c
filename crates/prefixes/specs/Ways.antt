-- The segments of a candidate laid into the wanted route one after the other, those between the first cuts known, the others not; and what the test of
-- first cuts says: "no" where nothing can be laid so.
use Rattle.std.specs.Prelude.{◌≡◌, Bool, false, cond, ℕ, suc, ◌+◌, ◌-◌, ◌*◌, ◌≤◌, ◌<◌, leb, length, get_or}
use mathlib.Core.List.{List, [], ◌∷◌, Memᴰ}
use Rattle.theory.specs.Moves.{Rising, total}
use Rattle.theory.specs.Route.{reverses, count}
use Rattle.standing.specs.Places.{Has}
use Rattle.standing.specs.Standing.{Stands, StandsTable}

-- Where middle segment i of a cut route begins, and how many stops it has.
abbrev pub start_of : List ℕ → ℕ → ℕ
start_of cs i = get_or cs (i - 1) 0

abbrev pub size_of : List ℕ → ℕ → ℕ
size_of cs i = get_or cs i 0 - get_or cs (i - 1) 0

-- The segments listed stand one after the other from y on, as they are or reversed, up to e.
abbrev pub Laid : (n : ℕ) (old wanted cs : List ℕ) → ℕ → List ℕ → ℕ → Type 0
Laid n old wanted cs y [] e = y ≡ e
Laid n old wanted cs y (i ∷ o) e =
    Stands old wanted (start_of cs i) (size_of cs i) y × (y + size_of cs i ≤ n) × Laid n old wanted cs (y + size_of cs i) o e

-- k rising cuts that begin with the first j of `cuts`; the tables of where segments stand: of those before cut j, and of the others, whichever they are.
pub record Setting (n k j : ℕ) (old wanted cs cuts stands ahead : List ℕ) (row : ℕ) : Type 0 where
  pub few : n ≤ 48
  pub many : length cs ≡ k
  pub rising : Rising 0 cs n
  pub same : (p : ℕ) → p < j → get_or cs p 0 ≡ get_or cuts p 0
  pub stood : StandsTable n old wanted stands
  pub further :
      (i y : ℕ) → j ≤ i → i < k → y + size_of cs i ≤ n → Stands old wanted (start_of cs i) (size_of cs i) y → Has (get_or ahead (row + y) 0) (y + size_of cs i)

-- The stops of a segment before cut j; the others are not counted.
abbrev pub known_size : (j : ℕ) (cs : List ℕ) → ℕ → ℕ
known_size j cs i = cond (leb j i) 0 (size_of cs i)

-- The segments that are left, in some order, laid from y on: each once, the known ones among them not used, at most so many unknown ones. The place
-- from which the known ones alone would come to the end is in the goal, so that a way of known ones begins there.
pub record Way (n k j : ℕ) (old wanted cs : List ℕ) (used unknown left goal y : ℕ) (o : List ℕ) : Type 0 where
  pub many : length o ≡ left
  pub within : (i : ℕ) → Memᴰ i o → (1 ≤ i) × (i < k)
  pub apart : (i : ℕ) → count i o ≤ 1
  pub free : (i : ℕ) → Memᴰ i o → i < j → reverses used i ≡ false
  pub strange : total (λ i. cond (leb j i) 1 0) o ≤ unknown
  pub end : ℕ
  pub laid : Laid n old wanted cs y o end
  pub ends : (g : ℕ) → g + total (known_size j cs) o ≡ end → Has goal g

-- Nothing can be laid from any of the places: in any order, and in an order that begins with segment i.
abbrev pub Nowhere : (known : ℕ) (cuts stands ahead : List ℕ) (row goal used unknown left places : ℕ) → Type 0
Nowhere known cuts stands ahead row goal used unknown left places =
    (n k : ℕ) (old wanted cs : List ℕ) → Setting n k (suc known) old wanted cs cuts stands ahead row → (o : List ℕ) (y : ℕ) → Has places y → y ≤ n →
    Way n k (suc known) old wanted cs used unknown left goal y o → ⊥

abbrev pub NowhereFirst : (i known : ℕ) (cuts stands ahead : List ℕ) (row goal used unknown left places : ℕ) → Type 0
NowhereFirst i known cuts stands ahead row goal used unknown left places =
    (n k : ℕ) (old wanted cs : List ℕ) → Setting n k (suc known) old wanted cs cuts stands ahead row → (o : List ℕ) (y : ℕ) → Has places y → y ≤ n →
    Way n k (suc known) old wanted cs used unknown left goal y (i ∷ o) → ⊥

-- The first cuts as positions of at most 48 stops, and a row of a table.
pub record FirstCuts (known : ℕ) (cuts : List ℕ) : Type 0 where
  pub few : known ≤ 4
  pub small : (p : ℕ) → p ≤ known → get_or cuts p 0 ≤ 48
  pub rise : (p : ℕ) → p < known → get_or cuts p 0 ≤ get_or cuts (suc p) 0

pub record Askable (known : ℕ) (cuts : List ℕ) (row : ℕ) : Type 0 where
  pub cuts_good : FirstCuts known cuts
  pub row_good : row ≤ 2352

-- One known segment laid from each of the places where it stands, unless it is used.
pub record Handable (cuts : List ℕ) (p : ℕ) : Type 0 where
  pub least : 1 ≤ p
  pub most : p ≤ 4
  pub rise : get_or cuts (p - 1) 0 ≤ get_or cuts p 0
  pub small : get_or cuts p 0 ≤ 48

abbrev pub Handed : (cuts stands : List ℕ) (p used places r : ℕ) → Type 0
Handed cuts stands p used places r =
    reverses used p ≡ false → (y : ℕ) → Has places y → Has (get_or stands (start_of cuts p * 49 + get_or cuts p 0) 0) y → y + size_of cuts p ≤ 48 → Has r (y + size_of cuts p)

-- The goal once known segment p is laid.
abbrev pub Farther : (cuts : List ℕ) (p goal r : ℕ) → Type 0
Farther cuts p goal r = (g : ℕ) → Has goal g → g + size_of cuts p ≤ 48 → Has r (g + size_of cuts p)

-- "No" says that there is no place, or, where no unknown segment is left, none in the goal.
abbrev pub Reaches : (places goal unknown : ℕ) → Bool → Type 0
Reaches places goal unknown r = r ≡ false → (y : ℕ) → Has places y → (unknown ≡ 0 → Has goal y) → ⊥

-- Only place p is new among the used.
abbrev pub Marked : (used p r : ℕ) → Type 0
Marked used p r = (q : ℕ) → (q ≡ p → ⊥) → reverses used q ≡ false → reverses r q ≡ false

-- The sets that a row of a table has for the places, all together.
abbrev pub Gathered : (ahead : List ℕ) (row places r : ℕ) → Type 0
Gathered ahead row places r = (y e : ℕ) → y ≤ 48 → Has places y → Has (get_or ahead (row + y) 0) e → Has r e
