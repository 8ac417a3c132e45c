-- What loading a list promises: the rules by which a text is refused, and the rows in the lent places.
use Rattle.std.specs.Prelude.{◌≡◌, Bool, true, false, not, ℕ, suc, ◌*◌, ◌≤◌, ◌<◌, eqb, length, get_or, take, drop, Some, None, Ok, Err}
use Rattle.std.specs.Prelude as Rust
use Rattle.std.specs.Borrow.{Bor}
use Rattle.std.specs.List.{list_any}
use mathlib.Core.List.{List, [], ◌∷◌, ◌++◌, map, flatten}
use Rattle.std.proofs.Math.Option.{Option, none, some}
use Rattle.theory.specs.Moves.{Pattern}
use Rattle.theory.specs.Tables.{pattern_rows}
use Rattle.theory.specs.Refusals.{Rule, refusal, if_taken, cut_count, room}
use Rattle.theory.specs.Numbers.{refusal_number}
use Rattle.theory.specs.declared.Refusal.{Refusal}
use Rattle.pattern_lists.specs.Lists.{fine_row, row_count, row_shapes, row_news}
use Rattle.pattern_list_text.specs.List.{PatternList}
use Rattle.pattern_list_text.specs.Reading.{row_of, rows_of, read}

-- "26, rows .. not the announced number."
abbrev pub announced_rows : (announced count : ℕ) → Rule
announced_rows announced count = (26, not (eqb announced count))

-- k and the number of rows; and then the rows.
abbrev pub sizes : (k announced count : ℕ) → List Rule
sizes k announced count = cut_count k ∷ row_count count ∷ announced_rows announced count ∷ []

abbrev pub text_list_rules : PatternList → List Rule
text_list_rules l = sizes l.k l.announced (length l.rows) ++ (row_shapes l.k l.rows ∷ row_news l.k l.rows ∷ [])

-- The orders of a list end to end, its masks, and its two numbers.
abbrev pub orders_of : PatternList → List ℕ
orders_of l = flatten (map (λ p. p.order) l.rows)

abbrev pub masks_of : PatternList → List ℕ
masks_of l = map (λ p. p.mask) l.rows

abbrev pub numbers_of : PatternList → List ℕ
numbers_of l = l.k ∷ length l.rows ∷ []

-- 21 of each of the lent slices: k + 1 places a row, one place a row, two places.
abbrev pub room_rules : (places count orders masks result : ℕ) → List Rule
room_rules places count orders masks result = room places orders ∷ room count masks ∷ room 2 result ∷ []

abbrev pub rooms : ℕ → ℕ → (orders masks result : ℕ) → List Rule
rooms k count orders masks result = room_rules (count * suc k) count orders masks result

-- "Text malformed in its lines or numbers, or above 60,000 bytes, is 10 as before."
abbrev pub load_rules : Option PatternList → (orders masks result : ℕ) → List Rule
load_rules none orders masks result = (10, true) ∷ []
load_rules (some l) orders masks result = text_list_rules l ++ rooms l.k (length l.rows) orders masks result

-- The values in the first places, and those beyond as they were; of no list all are.
abbrev pub put_before : List ℕ → List ℕ → List ℕ
put_before values l = values ++ drop (length values) l

abbrev pub loaded : (PatternList → List ℕ) → Option PatternList → List ℕ → List ℕ
loaded values none l = l
loaded values (some list) l = put_before (values list) l

-- Of the slices as they are handed in and as they are handed back.
pub record LoadReply (text orders masks result : List ℕ) (answer : ℕ) (orders' masks' result' : List ℕ) : Type 0 where
  pub number_is : answer ≡ refusal (load_rules (read text) (length orders) (length masks) (length result))
  pub orders_are : orders' ≡ if_taken (load_rules (read text) (length orders) (length masks) (length result)) (loaded orders_of (read text) orders) orders
  pub masks_are : masks' ≡ if_taken (load_rules (read text) (length orders) (length masks) (length result)) (loaded masks_of (read text) masks) masks
  pub result_is : result' ≡ if_taken (load_rules (read text) (length orders) (length masks) (length result)) (loaded numbers_of (read text) result) result

-- ---- what the parts ask and give

-- Digits, and places for their values.
pub record DigitsOf (digits out : List ℕ) : Type 0 where
  pub places : length out ≡ length digits
  pub each : (i : ℕ) → i < length digits → 48 ≤ get_or digits i 0

-- A row that fits its places: as many digits as there are, and a mask of a byte.
abbrev pub Fits : ℕ → Pattern → Type 0
Fits width p = (length p.order ≡ width) × (p.mask ≤ 255)

abbrev pub TookRow : List ℕ → Rust.Option (ℕ × Bor (List ℕ)) → List ℕ → Type 0
TookRow t None order = (p : Pattern) (r : List ℕ) → row_of t ≡ some (p, r) → Fits (length order) p → ⊥
TookRow t (Some taken) order = row_of t ≡ some (record { order = order; mask = taken.0 }, taken.1.now)

-- The rows of a text, and places for them.
pub record Takeable (t : List ℕ) (k : ℕ) (orders masks : List ℕ) : Type 0 where
  pub least : 2 ≤ k
  pub most : k ≤ 5
  pub some_row : 1 ≤ length masks
  pub few : length masks ≤ 383
  pub long : length orders ≡ length masks * suc k
  pub rows : List Pattern
  pub lines : rows_of 60000 t ≡ some rows
  pub many : length rows ≡ length masks

-- All stand in their places, or one does not fit them.
abbrev pub Took : List ℕ → ℕ → Bool → (orders masks : List ℕ) → Type 0
Took t k true orders masks = rows_of 60000 t ≡ some (pattern_rows k orders masks)
Took t k false orders masks = (rows : List Pattern) → rows_of 60000 t ≡ some rows → list_any (λ p. not (fine_row k p)) rows ≡ true

-- 27 and 28 of the rows, which stand in their places where neither applies.
pub record JudgedRows (t : List ℕ) (k answer : ℕ) (orders masks : List ℕ) : Type 0 where
  pub number_is : (rows : List Pattern) → rows_of 60000 t ≡ some rows → answer ≡ refusal (row_shapes k rows ∷ row_news k rows ∷ [])
  pub stand : answer ≡ 0 → rows_of 60000 t ≡ some (pattern_rows k orders masks)

-- Places for the largest list.
pub record LargestPlaces (orders masks : List ℕ) : Type 0 where
  pub orders_places : length orders ≡ 2298
  pub masks_places : length masks ≡ 383

abbrev pub text_rules : Option PatternList → List Rule
text_rules none = (10, true) ∷ []
text_rules (some l) = text_list_rules l

-- A list that is not refused, in the first places.
pub record InPlaces (t : List ℕ) (k count : ℕ) (orders masks : List ℕ) : Type 0 where
  pub announced : ℕ
  pub reads : read t ≡ some (record { k = k; announced = announced; rows = pattern_rows k (take (count * suc k) orders) (take count masks) })
  pub fine : refusal (text_rules (read t)) ≡ 0
  pub most : k ≤ 5
  pub few : count ≤ 383

pub record NotLoaded (t : List ℕ) (number : ℕ) : Type 0 where
  pub some_number : number ≡ 0 → ⊥
  pub number_is : number ≡ refusal (text_rules (read t))

abbrev pub LoadedBy : List ℕ → Rust.Result (ℕ × ℕ) Refusal → (orders masks : List ℕ) → Type 0
LoadedBy t (Err e) orders masks = NotLoaded t (refusal_number e)
LoadedBy t (Ok list) orders masks = InPlaces t list.0 list.1 orders masks

-- A list to be handed over.
pub record Whole (k : ℕ) (orders masks : List ℕ) : Type 0 where
  pub most : k ≤ 5
  pub few : length masks ≤ 383
  pub long : length orders ≡ length masks * suc k

pub record HandedOver (k : ℕ) (from_orders from_masks orders masks result : List ℕ) (answer : ℕ) (orders' masks' result' : List ℕ) : Type 0 where
  pub number_is : answer ≡ refusal (rooms k (length from_masks) (length orders) (length masks) (length result))
  pub orders_are : orders' ≡ if_taken (rooms k (length from_masks) (length orders) (length masks) (length result)) (put_before from_orders orders) orders
  pub masks_are : masks' ≡ if_taken (rooms k (length from_masks) (length orders) (length masks) (length result)) (put_before from_masks masks) masks
  pub result_is : result' ≡ if_taken (rooms k (length from_masks) (length orders) (length masks) (length result)) (put_before (k ∷ length from_masks ∷ []) result) result
