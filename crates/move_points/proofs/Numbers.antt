-- The numbers read out of a list of cut points are those of its first six. Assumes nothing.
use mathlib.Core.Path.{◌≡◌, refl}
use mathlib.Core.List.{List, [], ◌∷◌}
use Prim.Native.Nat.{ℕ, min, ◌≤◌}
use native.Mathlib.Omega.{arith}
use lib.ListN.{length}
use Rattle.move_points.specs.declared.CutPoint.{CutPoint}
use Rattle.move_points.specs.declared.CutNumbers.{CutNumbers}
use Rattle.move_points.specs.CutPoints.{cut_at, numbers_of, HoldsCuts}

six : (n : ℕ) → 6 ≤ n → min n 6 ≡ 6
six n h = omega arith

held : (cuts : List CutPoint) → HoldsCuts cuts (numbers_of (length cuts) (cut_at cuts 0) (cut_at cuts 1) (cut_at cuts 2) (cut_at cuts 3) (cut_at cuts 4) (cut_at cuts 5))
held [] = record { sized = record { rounds_long = omega arith; positions_long = omega arith }; rounds_held = refl; positions_held = refl }
held (a ∷ []) = record { sized = record { rounds_long = omega arith; positions_long = omega arith }; rounds_held = refl; positions_held = refl }
held (a ∷ b ∷ []) = record { sized = record { rounds_long = omega arith; positions_long = omega arith }; rounds_held = refl; positions_held = refl }
held (a ∷ b ∷ c ∷ []) = record { sized = record { rounds_long = omega arith; positions_long = omega arith }; rounds_held = refl; positions_held = refl }
held (a ∷ b ∷ c ∷ d ∷ []) = record { sized = record { rounds_long = omega arith; positions_long = omega arith }; rounds_held = refl; positions_held = refl }
held (a ∷ b ∷ c ∷ d ∷ e ∷ []) = record { sized = record { rounds_long = omega arith; positions_long = omega arith }; rounds_held = refl; positions_held = refl }
held (a ∷ b ∷ c ∷ d ∷ e ∷ f ∷ cuts) =
    let z = six (length (a ∷ b ∷ c ∷ d ∷ e ∷ f ∷ cuts)) (omega arith) in
    record { sized = record { rounds_long = omega arith; positions_long = omega arith }; rounds_held = rw z refl; positions_held = rw z refl }

-- As the walk has them: each number by an equation.
pub held_by : (cuts : List CutPoint) (n : ℕ) (a b c d e f : CutPoint) (r : CutNumbers) →
    n ≡ length cuts → a ≡ cut_at cuts 0 → b ≡ cut_at cuts 1 → c ≡ cut_at cuts 2 → d ≡ cut_at cuts 3 → e ≡ cut_at cuts 4 → f ≡ cut_at cuts 5 →
    r ≡ numbers_of n a b c d e f → HoldsCuts cuts r
held_by cuts n a b c d e f r en ea eb ec ed ee ef er = rw (er, en, ea, eb, ec, ed, ee, ef) (held cuts)
