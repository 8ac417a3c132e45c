-- Lent rows as the loops judge them, one after the other. Assumes nothing.
use mathlib.Core.Path.{◌≡◌, ap, ◌∙◌}
use mathlib.Core.Bool.{Bool, true, false, ◌||◌}
use mathlib.Core.List.{List, [], ◌∷◌}
use Prim.Native.Nat.{ℕ, suc, ◌+◌, ◌-◌, ◌*◌, ◌≤◌}
use native.Mathlib.Numerals.{add-one}
use native.Mathlib.Omega.{arith}
use lib.ListN.{length, get_or, take, drop, length-drop}
use lib.Seq.{take-length}
use Rattle.std.specs.List.{list_any}
use Rattle.theory.specs.Moves.{Pattern, upfrom}
use Rattle.theory.specs.Tables.{pattern_rows}
use Rattle.theory.proofs.Index.{take_upfrom}
use Rattle.pattern_lists.specs.Lists.{same_row, repeats}

-- The segments 0 to 5, cut to k + 1.
pub segments_are : (k : ℕ) → k ≤ 5 → take (k + 1) (0 ∷ 1 ∷ 2 ∷ 3 ∷ 4 ∷ 5 ∷ []) ≡ upfrom 0 (suc k)
unfolding upfrom
segments_are k h = rw (add-one k) (take_upfrom 0 6 (suc k) (omega arith))

-- ---- the rows one after the other: the first of them, and those below it

pub first_fits : (k n m : ℕ) → m ≡ suc n * suc k → k + 1 ≤ m
first_fits k n m e = omega (arith, e)

pub below_fit : (k n m : ℕ) → m ≡ suc n * suc k → m - (k + 1) ≡ n * suc k
below_fit k n m e = omega (arith, e)

pub ruleset walking = (first_fits, below_fit)

-- The masks below the first.
abbrev below : List ℕ → List ℕ
below masks = take (length masks - 1) (drop 1 masks)

first_row : (k : ℕ) (orders masks : List ℕ) → 1 ≤ length masks →
    pattern_rows k orders masks ≡ record { order = take (k + 1) orders; mask = get_or masks 0 0 } ∷ pattern_rows k (drop (k + 1) orders) (below masks)
unfolding pattern_rows
first_row k orders [] h = absurd (omega arith)
first_row k orders (m ∷ masks) h = let e : suc (length masks) - 1 ≡ length masks = omega arith in rw (add-one k, e, take-length masks)

pub below_long : (k : ℕ) (orders masks : List ℕ) → 1 ≤ length masks → length orders ≡ length masks * suc k → length (drop (k + 1) orders) ≡ length (below masks) * suc k
below_long k orders [] h e = absurd (omega arith)
below_long k orders (m ∷ masks) h e =
    let n : suc (length masks) - 1 ≡ length masks = omega arith in
    rw (n, take-length masks, length-drop (k + 1) orders) (below_fit k (length masks) (length orders) e)

module _ (k : ℕ) (orders masks : List ℕ) (h : 1 ≤ length masks) (t : Pattern → Bool) (b : Bool) (told : b ≡ t (record { order = take (k + 1) orders; mask = get_or masks 0 0 })) where
  first_any : list_any t (pattern_rows k orders masks) ≡ (b || list_any t (pattern_rows k (drop (k + 1) orders) (below masks)))
  first_any = ap (list_any t) (first_row k orders masks h) ∙ rw told

  pub any_here : b ≡ true → list_any t (pattern_rows k orders masks) ≡ true
  any_here e = first_any ∙ rw e

  pub any_below : b ≡ false → list_any t (pattern_rows k orders masks) ≡ list_any t (pattern_rows k (drop (k + 1) orders) (below masks))
  any_below e = first_any ∙ rw e

module _ (k : ℕ) (orders masks : List ℕ) (h : 1 ≤ length masks) (b : Bool) (told : b ≡ list_any (same_row (record { order = take (k + 1) orders; mask = get_or masks 0 0 })) (pattern_rows k (drop (k + 1) orders) (below masks))) where
  first_repeats : repeats (pattern_rows k orders masks) ≡ (b || repeats (pattern_rows k (drop (k + 1) orders) (below masks)))
  unfolding repeats
  first_repeats = ap repeats (first_row k orders masks h) ∙ rw told

  pub repeats_here : b ≡ true → repeats (pattern_rows k orders masks) ≡ true
  repeats_here e = first_repeats ∙ rw e

  pub repeats_below : b ≡ false → repeats (pattern_rows k orders masks) ≡ repeats (pattern_rows k (drop (k + 1) orders) (below masks))
  repeats_below e = first_repeats ∙ rw e
