-- The numbers of candidates in a stretch, m to a cut set, from the last cut a on. Assumes nothing.
use mathlib.Core.Path.{◌≡◌, sym, ap, ◌∙◌}
use mathlib.Core.Bool.{Bool, false}
use Prim.Native.Nat.{ℕ, suc, ◌+◌, ◌-◌, ◌*◌, ◌≤◌, ◌<◌}
use native.Mathlib.Omega.{arith}
use native.Mathlib.Nat.{suc-mul, add-mul, mul-le-mul_right}
use native.Mathlib.Decide.{dec_lt}

-- The cut sets before the last cut c, and those from c to d.
pub count_to : (a c d m : ℕ) → a ≤ c → c ≤ d → (c - a) * m + (d - c) * m ≡ (d - a) * m
count_to a c d m h k =
    let e : c - a + (d - c) ≡ d - a = omega arith in
    sym (add-mul (c - a) (d - c) m) ∙ ap (λ n. n * m) e

-- One cut set more.
pub count_next : (a c m : ℕ) → a ≤ c → (c - a) * m + m ≡ (c + 1 - a) * m
count_next a c m h =
    let e : c + 1 - a ≡ suc (c - a) = omega arith in
    sym (ap (λ n. n * m) e ∙ suc-mul (c - a) m)

pub count_least : (a c d m : ℕ) → c ≤ d → (c - a) * m ≤ (d - a) * m
count_least a c d m h = let l : c - a ≤ d - a = omega arith in mul-le-mul_right m l

-- A candidate numbered below the first i at the last cut c stands before c, or is one of them.
module _ (a c m i : ℕ) (h : a ≤ c) (few : i ≤ m) (B : ℕ → ℕ → Bool)
    (before : (t x : ℕ) → a ≤ t → t < c → x < m → B t x ≡ false) (here : (x : ℕ) → x < i → B c x ≡ false) where
  pub up_to : (t x : ℕ) → a ≤ t → x < m → (t - a) * m + x < (c - a) * m + i → B t x ≡ false
  up_to t x l y n = by (dec_lt t c) (dec_lt c t)
    where
      by : Dec (t < c) → Dec (c < t) → B t x ≡ false
      by (yes p) q = before t x l p y
      by (no p) (yes q) = absurd (omega (arith, n, few, count_next a c m h, count_least a (c + 1) t m (omega arith)))
      by (no p) (no q) =
          let e : t ≡ c = omega arith in
          let s : x < i = omega (arith, rw e at n) in
          rw e (here x s)
