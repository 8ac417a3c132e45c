-- What the request says of the listing: which sets are in it, and in which order.
use Rattle.std.specs.Prelude.{◌≡◌, ◌⊎◌, cond, ℕ, suc, ◌+◌, ◌*◌, ◌≤◌, ◌<◌, eqb, length}
use mathlib.Core.List.{List, [], ◌∷◌, Memᴰ}

-- "Each further cut is in the kept neighbour list of the one before." The list depends on the cuts missing, the one being picked included.
abbrev pub Chained : (ℕ → ℕ → List ℕ) → ℕ → List ℕ → Type 0
Chained own cut [] = Unit {0}
Chained own cut (c ∷ cs) = Memᴰ c (own (suc (length cs)) cut) × Chained own c cs

-- "The first cut lies from m to n − k·m", and there are k cuts.
abbrev pub Nearby : (ℕ → ℕ → List ℕ) → ℕ → ℕ → ℕ → List ℕ → Type 0
Nearby own n k m [] = ⊥
Nearby own n k m (f ∷ cs) = (suc (length cs) ≡ k) × (m ≤ f) × (f + k * m ≤ n) × Chained own f cs

-- The rank of an entry in a list, from 0.
unfoldable pub rank : ℕ → List ℕ → ℕ
rank p [] = 0
rank p (q ∷ qs) = cond (eqb p q) 0 (suc (rank p qs))

-- "By rank in the neighbour lists, cut by cut": the first difference decides, by the list of the cut before it.
abbrev pub Sooner : (ℕ → ℕ → List ℕ) → List ℕ → List ℕ → List ℕ → Type 0
Sooner own list [] ys = ⊥
Sooner own list (x ∷ xs) [] = ⊥
Sooner own list (x ∷ xs) (y ∷ ys) = (rank x list < rank y list) ⊎ ((x ≡ y) × Sooner own (own (length xs) x) xs ys)

-- "Sets with a lower first cut come first, then by rank."
abbrev pub Earlier : (ℕ → ℕ → List ℕ) → List ℕ → List ℕ → Type 0
Earlier own [] ys = ⊥
Earlier own (f ∷ xs) [] = ⊥
Earlier own (f ∷ xs) (g ∷ ys) = (f < g) ⊎ ((f ≡ g) × Sooner own (own (length xs) f) xs ys)

-- One list is another with some entries left out.
abbrev pub Within : {A : Type 0} → List A → List A → Type 0
Within [] ys = Unit {0}
Within (x ∷ xs) [] = ⊥
Within (x ∷ xs) (y ∷ ys) = ((x ≡ y) × Within xs ys) ⊎ Within (x ∷ xs) ys
