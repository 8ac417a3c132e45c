-- The cuts before which two routes agree, from the start up, and those behind which they do, from the end down. Assumes nothing.
use mathlib.Core.Path.{◌≡◌}
use Prim.Native.Nat.{ℕ, ◌+◌, ◌-◌, ◌≤◌, ◌<◌}
use native.Mathlib.Omega.{arith}
use native.Mathlib.Decide.{ℕ_discrete}
use lib.Bits.{bit_or}
use Rattle.standing.specs.Places.{Has, OnePlace}
use Rattle.standing.proofs.Places.{has_first, has_second}

abbrev pub UpTo : (c places : ℕ) → Type 0
UpTo c places = (x : ℕ) → x ≤ c → Has places x

pub up_one : (c places one : ℕ) → UpTo c places → OnePlace (c + 1) one → UpTo (c + 1) (bit_or places one)
up_one c places one f o x l = by (ℕ_discrete x (c + 1))
  where
    by : Dec (x ≡ c + 1) → Has (bit_or places one) x
    by (yes e) = has_second places one x (rw e o.here)
    by (no d) = has_first places one x (f x (omega arith))

abbrev pub DownTo : (n c places : ℕ) → Type 0
DownTo n c places = (x : ℕ) → c ≤ x → x ≤ n → Has places x

pub down_one : (n c places one : ℕ) → DownTo n c places → 0 < c → OnePlace (c - 1) one → DownTo n (c - 1) (bit_or places one)
down_one n c places one f p o x l h = by (ℕ_discrete x (c - 1))
  where
    by : Dec (x ≡ c - 1) → Has (bit_or places one) x
    by (yes e) = has_second places one x (rw e o.here)
    by (no d) = has_first places one x (f x (omega arith) h)
