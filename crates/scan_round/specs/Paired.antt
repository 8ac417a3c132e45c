-- The words of the pairs are lent in one way at most.
use Rattle.std.specs.Prelude.{◌≡◌, List, [], ℕ, length}
use mathlib.Core.Path.{ap}
use mathlib.Core.Logic.{inl, inr}
use native.Mathlib.Omega.{arith}
use Rattle.std.proofs.Props.{props}
use Rattle.precedence.specs.Words.{Members, PairsLent}

none_prop : (ps : List (ℕ × ℕ)) (m : List ℕ) → IsProp ((ps ≡ []) × (length m ≡ 0))
none_prop ps m = Prim.hlevel props

some_prop : (ps : List (ℕ × ℕ)) (m : List ℕ) → IsProp ((length m ≡ 2048) × Members ps m)
some_prop ps m = Prim.hlevel props

pub pairs_lent_prop : (ps : List (ℕ × ℕ)) (m : List ℕ) → IsProp (PairsLent ps m)
pairs_lent_prop ps m (inl a) (inl b) = ap inl (none_prop ps m a b)
pairs_lent_prop ps m (inl a) (inr b) = absurd (omega (arith, a.1, b.0))
pairs_lent_prop ps m (inr a) (inl b) = absurd (omega (arith, a.0, b.1))
pairs_lent_prop ps m (inr a) (inr b) = ap inr (some_prop ps m a b)
