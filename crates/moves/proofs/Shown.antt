-- The values of a pattern in the first places of a result. Assumes nothing.
use mathlib.Core.Path.{◌≡◌, refl, sym, ap, ◌∙◌}
use mathlib.Core.List.{List, [], ◌∷◌, ◌++◌}
use Rattle.std.specs.Prelude.{Some, None}
use Prim.Native.Nat.{ℕ, suc, ◌+◌, ◌<◌, ◌≤◌}
use native.Mathlib.Numerals.{add-one}
use native.Mathlib.Omega.{arith}
use lib.ListN.{length, get_or, take, drop, set}
use lib.Seq.{take-suc, drop-cons, set_at, append_snoc, length-take-le}
use Rattle.first_move.specs.FirstMove.{found_move, move_values, in_front}
use Rattle.first_move.specs.declared.FoundMove.{FoundMove}

-- One more of s in front of what is left of d.
pub copied_more : (s d : List ℕ) (i : ℕ) (x : ℕ) → i < length s → length s ≤ length d → get_or s i 0 ≡ x → set (take i s ++ drop i d) i x ≡ take (i + 1) s ++ drop (i + 1) d
copied_more s d i x h k e =
    let t : length (take i s) ≡ i = length-take-le i s (omega arith) in
    rw (add-one i)
    (ap (λ (r : List ℕ). set (take i s ++ r) i x) (drop-cons d i 0 (omega arith))
    ∙ set_at (take i s) (get_or d i 0) (drop (suc i) d) x i t
    ∙ sym (append_snoc (take i s) x (drop (suc i) d))
    ∙ ap (λ (r : List ℕ). r ++ drop (suc i) d) (sym (rw e at (take-suc s i 0 h))))

-- The mask behind the order.
pub mask_behind : (order d : List ℕ) (mask k : ℕ) → length order ≡ k + 1 → k + 2 ≤ length d → set (order ++ drop (length order) d) (k + 1) mask ≡ order ++ (mask ∷ []) ++ drop (k + 2) d
mask_behind order d mask k e h =
    let s : suc (length order) ≡ k + 2 = omega arith in
    ap (λ (r : List ℕ). set (order ++ r) (k + 1) mask) (drop-cons d (length order) 0 (omega arith))
    ∙ set_at order (get_or d (length order) 0) (drop (suc (length order)) d) mask (k + 1) e
    ∙ sym (append_snoc order mask (drop (suc (length order)) d))
    ∙ ap (λ (x : ℕ). order ++ (mask ∷ []) ++ drop x d) s

-- ---- a move that is found

pub found_put : (k : ℕ) (r : FoundMove) (result : List ℕ) → k ≤ length r.cuts → 2 ≤ length result →
    take 2 (set (set result 0 1) 1 r.index) ++ (take k r.cuts ++ drop (length (take k r.cuts)) (drop 2 (set (set result 0 1) 1 r.index))) ≡ in_front (move_values (found_move k (Some r))) result
found_put k r [] h g = absurd (omega arith)
found_put k r (x ∷ []) h g = absurd (omega arith)
found_put k r (x ∷ y ∷ result) h g = refl

pub none_put : (k : ℕ) (result : List ℕ) → 1 ≤ length result → set result 0 0 ≡ in_front (move_values (found_move k None)) result
none_put k [] h = absurd (omega arith)
none_put k (x ∷ result) h = refl
