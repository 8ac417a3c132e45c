-- Pairs that contradict each other along a route, and how they are found.
use Rattle.std.specs.Prelude.{◌≡◌, Bool, true, false, not, ◌&&◌, ◌⊎◌, List, ℕ, suc, eqb}
use Rattle.theory.specs.Moves.{total}
use Rattle.theory.specs.Pairs.{visited, all, pairs_kept}
use Rattle.precedence.specs.Words.{marks, Members}

-- In whatever order the stops of the route are visited, a pair is broken.
abbrev pub Contrary : List (ℕ × ℕ) → List ℕ → Type 0
Contrary ps route = (r : List ℕ) → ((g : ℕ → ℕ) → total g r ≡ total g route) → pairs_kept ps r ≡ false

-- How many heads of a route a candidate may have, where the longest is known: none, where the pairs contradict each other.
abbrev pub Heads : List (ℕ × ℕ) → List ℕ → (longest heads : ℕ) → Type 0
Heads ps route longest heads = (heads ≡ suc longest) ⊎ ((heads ≡ 0) × Contrary ps route)

-- ---- how they are found: a pair is left while its first is visited and is the second of a pair that is left

-- A location is the second of a pair that passes.
unfoldable pub second_of : (ℕ × ℕ → Bool) → List (ℕ × ℕ) → ℕ → Bool
unfolding all
second_of t ps x = not (all (λ p. not (eqb p.1 x && t p)) ps)

abbrev pub behind_another : (ℕ × ℕ → Bool) → List (ℕ × ℕ) → List ℕ → ℕ × ℕ → Bool
behind_another t ps route p = (visited p.0 route && second_of t ps p.0) && t p

-- The firsts, where the word beside them is not empty.
pub record FirstsIf (word firsts found : ℕ) : Type 0 where
  pub none : word ≡ 0 → found ≡ 0
  pub some : (word ≡ 0 → ⊥) → found ≡ firsts

-- Of whichever pairs the words are, here and below.
pub record FirstsVisited (members route : List ℕ) (found : ℕ) : Type 0 where
  pub is : (ps : List (ℕ × ℕ)) → Members ps members → found ≡ marks (λ p. visited p.0 route) ps

pub record LeftBehind (members route : List ℕ) (left found : ℕ) : Type 0 where
  pub is : (ps : List (ℕ × ℕ)) → Members ps members → (t : ℕ × ℕ → Bool) → left ≡ marks t ps → found ≡ marks (behind_another t ps route) ps

-- Nothing is said where none were found.
pub record ContraryFound (members route : List ℕ) (found : Bool) : Type 0 where
  pub is : found ≡ true → (ps : List (ℕ × ℕ)) → Members ps members → Contrary ps route
