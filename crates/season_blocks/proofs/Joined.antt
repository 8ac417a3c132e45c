-- The blocks of a text, joined by separators, are the text, and they are one more than its lines `next`. Assumes nothing.
use mathlib.Core.Path.{◌≡◌, refl, ◌∙◌}
use mathlib.Core.Bool.{Bool, true, false, cond}
use mathlib.Core.List.{List, [], ◌∷◌, ◌++◌, flatten, append_assoc}
use Prim.Native.Nat.{ℕ, suc, ◌≤◌}
use native.Mathlib.Omega.{arith}
use lib.Dec.{eqb}
use lib.ListN.{length}
use borrow.Author.Tests.{eqb-true}
use Rattle.season_blocks.specs.Blocks.{onto_first, lines, same, separator, before_first, blocks_of, blocks}
use Rattle.season_blocks.proofs.Lines.{same_sound}

-- With a separator between two.
unfoldable pub joined : List (List ℕ) → List ℕ
joined [] = []
joined (b ∷ []) = b
joined (b ∷ c ∷ bs) = b ++ (separator ++ joined (c ∷ bs))

-- How many lines are `next`.
unfoldable pub separators : List (List ℕ) → ℕ
separators [] = 0
separators (l ∷ ls) = cond (same l separator) (suc (separators ls)) (separators ls)

some_block : (ls : List (List ℕ)) → 1 ≤ length (blocks_of ls)
unfolding blocks_of
some_block [] = omega arith
some_block (l ∷ ls) = by (same l separator) (blocks_of ls)
  where
    by : (e : Bool) (bs : List (List ℕ)) → 1 ≤ length (cond e ([] ∷ bs) (before_first l bs))
    by true bs = omega arith
    by false [] = omega arith
    by false (b ∷ bs) = omega arith

joined_separator : (bs : List (List ℕ)) → 1 ≤ length bs → joined ([] ∷ bs) ≡ separator ++ joined bs
unfolding joined
joined_separator [] h = absurd (omega arith)
joined_separator (b ∷ bs) h = refl

joined_line : (l : List ℕ) (bs : List (List ℕ)) → 1 ≤ length bs → joined (before_first l bs) ≡ l ++ joined bs
unfolding joined
joined_line l [] h = absurd (omega arith)
joined_line l (b ∷ []) h = refl
joined_line l (b ∷ c ∷ bs) h = append_assoc l b (separator ++ joined (c ∷ bs))

joined_lines : (ls : List (List ℕ)) → joined (blocks_of ls) ≡ flatten ls
unfolding blocks_of joined flatten
joined_lines [] = refl
joined_lines (l ∷ ls) = by (same l separator) refl (joined_lines ls)
  where
    by : (e : Bool) → same l separator ≡ e → joined (blocks_of ls) ≡ flatten ls → joined (cond e ([] ∷ blocks_of ls) (before_first l (blocks_of ls))) ≡ l ++ flatten ls
    by true i ih = joined_separator (blocks_of ls) (some_block ls) ∙ rw (ih, same_sound l separator i)
    by false i ih = joined_line l (blocks_of ls) (some_block ls) ∙ rw ih

flat_lines : (t : List ℕ) → flatten (lines t) ≡ t
unfolding lines flatten
flat_lines [] = refl
flat_lines (b ∷ t) = by (eqb b 10) refl (lines t) (flat_lines t)
  where
    by : (e : Bool) → eqb b 10 ≡ e → (ls : List (List ℕ)) → flatten ls ≡ t → flatten (cond e ((10 ∷ []) ∷ ls) (onto_first b ls)) ≡ b ∷ t
    by true i ls f = rw (f, eqb-true b 10 i)
    by false i [] f = rw f
    by false i (l ∷ ls) f = rw f

-- Joined back they give the text.
pub blocks_joined : (t : List ℕ) → joined (blocks t) ≡ t
unfolding blocks
blocks_joined t = joined_lines (lines t) ∙ flat_lines t

counted : (ls : List (List ℕ)) → length (blocks_of ls) ≡ suc (separators ls)
unfolding blocks_of separators
counted [] = refl
counted (l ∷ ls) = by (same l separator) (blocks_of ls) (some_block ls) (counted ls)
  where
    by : (e : Bool) (bs : List (List ℕ)) → 1 ≤ length bs → length bs ≡ suc (separators ls) → length (cond e ([] ∷ bs) (before_first l bs)) ≡ suc (cond e (suc (separators ls)) (separators ls))
    by true bs s h = omega arith
    by false [] s h = absurd (omega arith)
    by false (b ∷ bs) s h = h

-- One more than the lines `next`.
pub blocks_counted : (t : List ℕ) → length (blocks t) ≡ suc (separators (lines t))
unfolding blocks
blocks_counted t = counted (lines t)
