-- Lists of one length w, one after the other. Assumes nothing.
use mathlib.Core.Path.{◌≡◌, refl}
use mathlib.Core.List.{List, [], ◌∷◌, ◌++◌, flatten, append_assoc, Memᴰ}
use Prim.Native.Nat.{ℕ, zero, suc, ◌+◌, ◌*◌, ◌<◌}
use native.Mathlib.Nat.{suc-mul}
use native.Mathlib.Omega.{arith}
use lib.ListN.{length, get_or, take, drop, length-append}
use lib.Seq.{take_at, drop-append-add}

module _ (w : ℕ) where
  pub length_flatten : (os : List (List ℕ)) → ((o : List ℕ) → Memᴰ o os → length o ≡ w) → length (flatten os) ≡ length os * w
  unfolding flatten
  length_flatten [] h = omega arith
  length_flatten (o ∷ os) h = simp length-append (omega (arith, suc-mul (length os) w, h o (Memᴰ.head refl), length_flatten os (λ x i. h x (Memᴰ.tail i))))

  pub row_at : (os : List (List ℕ)) → ((o : List ℕ) → Memᴰ o os → length o ≡ w) → (q : ℕ) → q < length os → (rest : List ℕ) →
      take w (drop (q * w) (flatten os ++ rest)) ≡ get_or os q []
  unfolding flatten
  row_at [] h q k rest = absurd (omega arith)
  row_at (o ∷ os) h zero k rest = let z : 0 * w ≡ 0 = omega arith in rw (z, append_assoc o (flatten os) rest) (take_at o (flatten os ++ rest) w (h o (Memᴰ.head refl)))
  row_at (o ∷ os) h (suc q) k rest =
      let e : suc q * w ≡ length o + q * w = omega (arith, suc-mul q w, h o (Memᴰ.head refl)) in
      rw (e, append_assoc o (flatten os) rest, drop-append-add o (flatten os ++ rest) (q * w)) (row_at os (λ x i. h x (Memᴰ.tail i)) q (omega arith) rest)
