-- The places of a reversed list. Assumes nothing.
use mathlib.Core.Path.{◌≡◌, refl, ◌∙◌}
use mathlib.Core.Bool.{Bool, true, false}
use mathlib.Core.List.{List, [], ◌∷◌, ◌++◌, reverse, reverse-cons}
use Prim.Native.Nat.{ℕ, suc, ◌-◌, ◌<◌, ◌≤◌}
use native.Mathlib.Omega.{arith}
use lib.Dec.{ltb}
use lib.ListN.{length, get_or, length-reverse, get_or-append}
use lib.Seq.{get_or_at}
use borrow.Author.Tests.{ltb-true, ltb-false}

pub get_or_reverse : (l : List ℕ) (i : ℕ) → i < length l → get_or (reverse l) i 0 ≡ get_or l (length l - 1 - i) 0
get_or_reverse [] i h = absurd (omega arith)
get_or_reverse (x ∷ l) i h = rw reverse-cons (go (ltb i (length l)) refl (get_or_reverse l i))
  where
    go : (b : Bool) → ltb i (length l) ≡ b → (i < length l → get_or (reverse l) i 0 ≡ get_or l (length l - 1 - i) 0) → get_or (reverse l ++ (x ∷ [])) i 0 ≡ get_or (x ∷ l) (suc (length l) - 1 - i) 0
    go true e ih =
        let k : i < length l = ltb-true _ _ e in
        let f : suc (length l) - 1 - i ≡ suc (length l - 1 - i) = omega arith in
        get_or-append (reverse l) (x ∷ []) 0 i (simp length-reverse k) ∙ ih k ∙ rw f
    go false e ih =
        let k : length l ≤ i = ltb-false _ _ e in
        let f : suc (length l) - 1 - i ≡ 0 = omega arith in
        get_or_at (reverse l) x [] 0 i (length-reverse l ∙ omega arith) ∙ rw f
