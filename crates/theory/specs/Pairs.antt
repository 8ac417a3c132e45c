-- "Spares before lamps": pairs of locations of which the first comes before the second, and what a round, part by part, keeps of them.
use Rattle.std.specs.Prelude.{◌≡◌, Bool, true, false, not, ◌&&◌, ◌||◌, List, [], ◌∷◌, ℕ, ◌<◌, eqb, length, get_or}

-- A lent list: the members of the pairs end to end.
unfoldable pub pairs_of : List ℕ → List (ℕ × ℕ)
pairs_of [] = []
pairs_of (a ∷ []) = []
pairs_of (a ∷ b ∷ l) = (a, b) ∷ pairs_of l

-- "A round keeps a pair if every visit of the first comes before every visit of the second; a pair with a member absent is kept." A visit is a stop: the depot
-- at the start and the end harbour are none.
abbrev pub KeepsPairs : List (ℕ × ℕ) → List ℕ → Type 0
KeepsPairs ps r =
    (q i j : ℕ) → q < length ps → i < length r → j < length r → get_or r i 0 ≡ (get_or ps q (0, 0)).0 → get_or r j 0 ≡ (get_or ps q (0, 0)).1 → i < j

-- ---- the running form

unfoldable pub visited : ℕ → List ℕ → Bool
visited a [] = false
visited a (x ∷ xs) = eqb a x || visited a xs

-- No first stands at a second or behind it.
unfoldable pub pair_kept : ℕ × ℕ → List ℕ → Bool
unfolding visited
pair_kept p [] = true
pair_kept p (x ∷ xs) = not (eqb p.1 x && visited p.0 (x ∷ xs)) && pair_kept p xs

unfoldable pub all : (ℕ × ℕ → Bool) → List (ℕ × ℕ) → Bool
all t [] = true
all t (p ∷ ps) = t p && all t ps

unfoldable pub pairs_kept : List (ℕ × ℕ) → List ℕ → Bool
unfolding all pair_kept
pairs_kept ps r = all (λ p. pair_kept p r) ps

-- ---- the parts of a round

-- No first among the stops u behind a second among the stops h, and no pair broken inside h: of h, with u in whatever order behind it.
unfoldable pub front_kept : List (ℕ × ℕ) → (h u : List ℕ) → Bool
unfolding all pair_kept visited
front_kept ps h u = all (λ p. pair_kept p h && not (visited p.1 h && visited p.0 u)) ps

-- The same of the stops t, with g in whatever order before them.
unfoldable pub back_kept : List (ℕ × ℕ) → (g t : List ℕ) → Bool
unfolding all pair_kept visited
back_kept ps g t = all (λ p. pair_kept p t && not (visited p.1 g && visited p.0 t)) ps
