-- The patterns from an index on, as a lent list of their own. Assumes nothing.
use mathlib.Core.Path.{◌≡◌, refl, ap, subst}
use mathlib.Core.List.Memᴰ
use mathlib.Core.List.{List, [], ◌∷◌, Memᴰ}
use Prim.Native.Nat.{ℕ, zero, suc, ◌+◌, ◌-◌, ◌*◌, ◌≤◌}
use native.Mathlib.Omega.{arith}
use native.Mathlib.Nat.{suc-mul}
use lib.ListN.{length, take, drop, length-drop, take-append-drop}
use lib.Seq.{drop-drop, get_or-drop}
use Rattle.theory.specs.Moves.{Pattern}
use Rattle.theory.specs.Polish.{move_at}
use Rattle.theory.specs.Tables.{PatternRows, pattern_rows}

pub rows_from : (k i : ℕ) (orders masks : List ℕ) → pattern_rows k (drop (i * suc k) orders) (drop i masks) ≡ drop i (pattern_rows k orders masks)
unfolding pattern_rows
rows_from k zero orders masks = let z : 0 * suc k ≡ 0 = omega arith in rw z
rows_from k (suc i) orders [] = refl
rows_from k (suc i) orders (m ∷ masks) =
    let z : suc i * suc k ≡ suc k + i * suc k = omega (arith, suc-mul i (suc k)) in
    rw (z, ← (drop-drop (i * suc k) (suc k) orders)) (rows_from k i (drop (suc k) orders) masks)

pub rest_rows : (k i : ℕ) (orders masks : List ℕ) → i ≤ length masks → PatternRows k orders masks → PatternRows k (drop (i * suc k) orders) (drop i masks)
rest_rows k i orders masks h p =
    record {
      few = omega (arith, p.few, length-drop i masks);
      long = by (length masks - i) (omega arith);
      each = λ q j. p.each q (subst (λ (l : List Pattern). Memᴰ q l) (take-append-drop i (pattern_rows k orders masks)) (Memᴰ.append_right (take i (pattern_rows k orders masks)) (rw rows_from at j)));
    }
  where
    by : (l : ℕ) → length masks ≡ i + l → length (drop (i * suc k) orders) ≡ length (drop i masks) * suc k
    by l e =
        let m : length (drop i masks) ≡ l = omega (arith, length-drop i masks) in
        rw (m, length-drop (i * suc k) orders, p.long, e) (omega arith)

-- Pattern x of the rest is pattern i + x of the list.
pub move_from : (ps : List Pattern) (cuts : List ℕ) (i x : ℕ) → move_at (drop i ps) cuts x ≡ move_at ps cuts (i + x)
move_from ps cuts i x = ap (λ p. record { cuts = cuts; pattern = p }) (get_or-drop i ps x (record { order = []; mask = 0 }))
