-- Sets of pairs as words of 64 bits: the first pair is bit 0.
use Rattle.std.specs.Prelude.{◌≡◌, Bool, cond, not, ◌⊎◌, List, [], ◌∷◌, ◌++◌, reverse, ℕ, ◌+◌, ◌*◌, ◌%◌, ◌^◌, ◌≤◌, ◌<◌, leb, eqb, length, get_or, take, drop}
use Rattle.std.proofs.Math.Seq.{slice}
use Rattle.theory.specs.Pairs.{pairs_of, visited, pair_kept, pairs_kept, front_kept, back_kept}
use Rattle.precedence.specs.declared.Marks.{Marks}

-- The pairs that pass a test.
unfoldable pub marks : (ℕ × ℕ → Bool) → List (ℕ × ℕ) → ℕ
marks t [] = 0
marks t (p ∷ ps) = marks t ps * 2 + cond (t p) 1 0

-- ---- the members

-- For each location the pairs whose first it is, and 1,024 places on those whose second it is.
pub record Members (ps : List (ℕ × ℕ)) (members : List ℕ) : Type 0 where
  pub firsts : (x : ℕ) → x < 1024 → get_or members x 0 ≡ marks (λ p. eqb p.0 x) ps
  pub seconds : (x : ℕ) → x < 1024 → get_or members (1024 + x) 0 ≡ marks (λ p. eqb p.1 x) ps

-- The words of the pairs, or no words where there are none: the calls without pairs fill no table.
abbrev pub PairsLent : List (ℕ × ℕ) → List ℕ → Type 0
PairsLent ps members = ((ps ≡ []) × (length members ≡ 0)) ⊎ ((length members ≡ 2048) × Members ps members)

-- A list that 29 does not refuse: the words of its pairs can be made.
pub record PairsFillable (pairs : List ℕ) : Type 0 where
  pub few : length pairs ≤ 128
  pub even : length pairs % 2 ≡ 0
  pub known : (i : ℕ) → i < length pairs → get_or pairs i 0 < 1024

-- With places for the words, all 0.
pub record Fillable (pairs members : List ℕ) : Type 0 where
  pub list : PairsFillable pairs
  pub places : length members ≡ 2048
  pub empty : (c : ℕ) → get_or members c 0 ≡ 0

pub record MembersFilled (pairs members : List ℕ) : Type 0 where
  pub places : length members ≡ 2048
  pub is : Members (pairs_of pairs) members

-- One pair, of which no bit is set yet.
pub record PairPuttable (first second bit : ℕ) (members : List ℕ) : Type 0 where
  pub known : first < 1024
  pub second_known : second < 1024
  pub places : length members ≡ 2048
  pub small : bit < 64
  pub room : get_or members first 0 < 2 ^ bit
  pub second_room : get_or members (1024 + second) 0 < 2 ^ bit

pub record PairPut (first second bit : ℕ) (before after : List ℕ) : Type 0 where
  pub places : length after ≡ 2048
  pub firsts : (x : ℕ) → x < 1024 → get_or after x 0 ≡ get_or before x 0 + cond (eqb first x) 1 0 * 2 ^ bit
  pub seconds : (x : ℕ) → x < 1024 → get_or after (1024 + x) 0 ≡ get_or before (1024 + x) 0 + cond (eqb second x) 1 0 * 2 ^ bit

-- Words, and a location.
pub record MemberOf (members : List ℕ) (stop : ℕ) : Type 0 where
  pub places : length members ≡ 2048
  pub known : stop < 1024

-- Words, and a route of locations.
pub record Readable (members route : List ℕ) : Type 0 where
  pub places : length members ≡ 2048
  pub short : length route ≤ 512
  pub known : (i : ℕ) → i < length route → get_or route i 0 < 1024

-- ---- a part of a route

-- The pairs whose first it visits, and whose second; those that it breaks as it stands, and reversed.
pub record PartMarks (ps : List (ℕ × ℕ)) (part : List ℕ) (firsts seconds broken turned : ℕ) : Type 0 where
  pub first : firsts ≡ marks (λ p. visited p.0 part) ps
  pub second : seconds ≡ marks (λ p. visited p.1 part) ps
  pub breaks : broken ≡ marks (λ p. not (pair_kept p part)) ps
  pub turns : turned ≡ marks (λ p. not (pair_kept p (reverse part))) ps

abbrev pub marks_of : List (ℕ × ℕ) → List ℕ → Marks → Type 0
marks_of ps part m = PartMarks ps part m.firsts m.seconds m.broken m.turned

-- With a stop more behind the part, of whichever pairs the words are.
pub record StopTaken (members : List ℕ) (stop : ℕ) (m m' : Marks) : Type 0 where
  pub is : (ps : List (ℕ × ℕ)) → Members ps members → (part : List ℕ) → marks_of ps part m → marks_of ps (part ++ (stop ∷ [])) m'

-- Words, a route of locations, and a part of it.
pub record Growing (members route : List ℕ) (start end : ℕ) : Type 0 where
  pub readable : Readable members route
  pub least : start ≤ end
  pub most : end ≤ length route

pub record MarksGrown (members route : List ℕ) (from to : ℕ) (m m' : Marks) : Type 0 where
  pub is : (ps : List (ℕ × ℕ)) → Members ps members → (start : ℕ) → start ≤ from → marks_of ps (slice start from route) m → marks_of ps (slice start to route) m'

-- ---- where a route may be cut

-- The place held where no pair is broken, else the one here.
pub record Placed (broken here held place : ℕ) : Type 0 where
  pub is : place ≡ cond (eqb broken 0) held here
  pub most : (n : ℕ) → here ≤ n → held ≤ n → place ≤ n

-- Of no part behind position `reach` a head can be made that keeps its pairs.
pub record FrontReach (ps : List (ℕ × ℕ)) (route : List ℕ) (reach : ℕ) : Type 0 where
  pub within : reach ≤ length route
  pub is : (c : ℕ) → c ≤ length route → front_kept ps (take c route) (drop c route) ≡ leb c reach

-- Nor a tail of one before `since`.
pub record BackSince (ps : List (ℕ × ℕ)) (route : List ℕ) (since : ℕ) : Type 0 where
  pub within : since ≤ length route
  pub is : (c : ℕ) → c ≤ length route → back_kept ps (take c route) (drop c route) ≡ leb since c

-- Of whichever pairs the words are.
pub record FrontFound (members route : List ℕ) (reach : ℕ) : Type 0 where
  pub within : reach ≤ length route
  pub is : (ps : List (ℕ × ℕ)) → Members ps members → FrontReach ps route reach

pub record BackFound (members route : List ℕ) (since : ℕ) : Type 0 where
  pub within : since ≤ length route
  pub is : (ps : List (ℕ × ℕ)) → Members ps members → BackSince ps route since

pub record KeepsFound (members route : List ℕ) (kept : Bool) : Type 0 where
  pub is : (ps : List (ℕ × ℕ)) → Members ps members → kept ≡ pairs_kept ps route
