-- The pairs of which a member is visited before each position of a route, as words, and what they tell of two parts of it.
use Rattle.std.specs.Prelude.{◌≡◌, Bool, true, false, not, ◌&&◌, List, ℕ, ◌+◌, ◌*◌, ◌≤◌, length, get_or, take}
use Rattle.std.proofs.Math.Seq.{slice}
use Rattle.theory.specs.Pairs.{visited, all}
use Rattle.precedence.specs.Words.{marks, Members, Readable}

-- Up to the position that place 1026 holds.
pub record Visits (ps : List (ℕ × ℕ)) (route visits : List ℕ) : Type 0 where
  pub places : length visits ≡ 1027
  pub reach : get_or visits 1026 0 ≤ length route
  pub firsts : (i : ℕ) → i ≤ get_or visits 1026 0 → get_or visits (2 * i) 0 ≡ marks (λ p. visited p.0 (take i route)) ps
  pub seconds : (i : ℕ) → i ≤ get_or visits 1026 0 → get_or visits (2 * i + 1) 0 ≡ marks (λ p. visited p.1 (take i route)) ps

-- Words, a route of locations, and how far it is asked.
pub record VisitsAsked (members route : List ℕ) (to : ℕ) (visits : List ℕ) : Type 0 where
  pub readable : Readable members route
  pub within : to ≤ length route
  pub places : length visits ≡ 1027
  pub reach : get_or visits 1026 0 ≤ length route

-- Of whichever pairs the words are.
pub record VisitsReached (members route : List ℕ) (to : ℕ) (visits visits' : List ℕ) : Type 0 where
  pub places : length visits' ≡ 1027
  pub is : (ps : List (ℕ × ℕ)) → Members ps members → Visits ps route visits → Visits ps route visits' × (to ≤ get_or visits' 1026 0)

-- Of whichever route the visits are to be.
pub record VisitsForgotten (visits visits' : List ℕ) : Type 0 where
  pub is : (ps : List (ℕ × ℕ)) (route route' : List ℕ) → Visits ps route visits → Visits ps route' visits'

-- Two parts of a route.
pub record BetweenAsked (visits : List ℕ) (a b c d : ℕ) : Type 0 where
  pub places : length visits ≡ 1027
  pub first : a ≤ b
  pub second : c ≤ d
  pub first_within : b ≤ 512
  pub second_within : d ≤ 512

-- Some pair has its first in the one and its second in the other. That none has is not said where it is not told.
abbrev pub Crosses : (visits : List ℕ) (a b c d : ℕ) → Type 0
Crosses visits a b c d =
    (ps : List (ℕ × ℕ)) (route : List ℕ) → Visits ps route visits → b ≤ get_or visits 1026 0 → d ≤ get_or visits 1026 0 →
    all (λ p. not (visited p.0 (slice a b route) && visited p.1 (slice c d route))) ps ≡ false

pub record Between (visits : List ℕ) (a b c d : ℕ) (told : Bool) : Type 0 where
  pub is : told ≡ true → Crosses visits a b c d
