-- Differences of costs as signed 64-bit numbers.
use mathlib.Core.Path.{◌≡◌, refl, sym, ap, ◌∙◌}
use mathlib.Core.Bool.{Bool, true, false, cond}
use Prim.Native.Nat.{ℕ, zero, suc, ◌+◌, ◌-◌, ◌^◌, ◌≤◌, ◌<◌}
use native.Mathlib.Omega.{arith}
use lib.Dec.{ltb}
use lib.IntN.{pos, negsuc, ◌-ℤ◌}
use lib.Signed.{mag}
use mir.Syntax.{w64}
use mir.Val.{SFits, to_z, of_z}
use mir.Facts.{to_z_pos, to_z-of_z}
use borrow.Author.Rules.{sfits_of}
use borrow.Author.Tests.{ltb-true, ltb-false, lt-ltb, le-ltb}

mag_pick : (t : Bool) (x y n : ℕ) → x < n → y < n → mag (cond t (negsuc x) (pos y)) < n
mag_pick true x y n h k = h
mag_pick false x y n h k = k

mag_diff : (a b n : ℕ) → a < n → b < n → mag (pos a -ℤ pos b) < n
mag_diff a zero n h k = omega arith
mag_diff a (suc b) n h k = mag_pick (ltb a (suc b)) (suc b - suc a) (a - suc b) n (omega arith) (omega arith)

module _ (a b : ℕ) (h : a < 2 ^ 63) (k : b < 2 ^ 63) where
  pub difference_fits : SFits w64 (to_z w64 a -ℤ to_z w64 b)
  difference_fits = rw (to_z_pos w64 {n = a} h, to_z_pos w64 {n = b} k) (sfits_of (mag_diff a b (2 ^ 63) h k))

  pub difference_is : to_z w64 (of_z w64 (to_z w64 a -ℤ to_z w64 b)) ≡ pos a -ℤ pos b
  difference_is = to_z-of_z difference_fits ∙ rw (to_z_pos w64 {n = a} h, to_z_pos w64 {n = b} k)

not_below : (a b : ℕ) → b ≤ a → pos a -ℤ pos b ≡ pos (a - b)
not_below a zero h = ap pos (omega arith)
not_below a (suc b) h = rw (le-ltb a (suc b) h)

below : (a b : ℕ) → a < b → pos a -ℤ pos b ≡ negsuc (b - suc a)
below a zero h = absurd (omega arith)
below a (suc b) h = rw (lt-ltb a (suc b) h)

-- Equal sums crosswise are equal differences.
pub same_difference : (a b x y : ℕ) → a + y ≡ b + x → pos x -ℤ pos y ≡ pos a -ℤ pos b
same_difference a b x y e = by (ltb x y) refl
  where
    by : (t : Bool) → ltb x y ≡ t → pos x -ℤ pos y ≡ pos a -ℤ pos b
    by true f = let h = ltb-true x y f in below x y h ∙ ap negsuc (omega arith) ∙ sym (below a b (omega arith))
    by false f = let h = ltb-false x y f in not_below x y h ∙ ap pos (omega arith) ∙ sym (not_below a b (omega arith))
