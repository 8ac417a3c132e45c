-- The first line of a text, and the blocks from it on. Assumes nothing.
use mathlib.Core.Path.{◌≡◌, refl, sym, ap, ◌∙◌}
use mathlib.Core.Bool.{Bool, true, false, cond, ◌||◌, and-eq-true_iff, true≢false, false≢true}
use mathlib.Core.List.{List, [], ◌∷◌, ◌++◌}
use mathlib.Core.Option.{none, some, none-ne-some}
use Prim.Native.Nat.{ℕ, zero, suc, ◌+◌, ◌-◌, ◌≤◌}
use native.Mathlib.Omega.{arith}
use lib.Dec.{eqb}
use lib.ListN.{length, take, drop, take-append-drop, length-drop}
use lib.Seq.{take_all}
use borrow.Author.Tests.{eqb-true}
use Rattle.std.specs.List.{list_any}
use Rattle.text_tokens.specs.Tokens.{after}
use Rattle.text_lines.proofs.Lines.{key_sound, key_complete}
use Rattle.season_blocks.specs.Blocks.{onto_first, lines, same, separator, before_first, blocks_of, blocks, line_size}

-- Bytes in front that hold no LF are the first line's.
pub no_end : (n : ℕ) (t : List ℕ) → n ≤ length t → list_any (λ b. eqb b 10) (take n t) ≡ false → line_size t ≡ n + line_size (drop n t)
unfolding line_size
no_end zero t h e = omega arith
no_end (suc n) [] h e = absurd (omega arith)
no_end (suc n) (b ∷ t) h e = by (eqb b 10) e (no_end n t (omega arith))
  where
    by : (x : Bool) → (x || list_any (λ b. eqb b 10) (take n t)) ≡ false → (list_any (λ b. eqb b 10) (take n t) ≡ false → line_size t ≡ n + line_size (drop n t)) →
        cond x 1 (suc (line_size t)) ≡ suc n + line_size (drop n t)
    by true f more = absurd (true≢false f)
    by false f more = omega (arith, more f)

-- What is lent of a text from a place on is all that stands there.
pub rest_whole : (t : List ℕ) (n : ℕ) → take (length t - n) (drop n t) ≡ drop n t
rest_whole t n = take_all (length t - n) (drop n t) (omega (arith, length-drop n t))

-- Its size, within the text.
pub line_most : (t : List ℕ) → line_size t ≤ length t
unfolding line_size
line_most [] = omega arith
line_most (b ∷ t) = by (eqb b 10) (line_most t)
  where
    by : (e : Bool) → line_size t ≤ length t → cond e 1 (suc (line_size t)) ≤ length (b ∷ t)
    by true h = omega arith
    by false h = omega arith

line_least : (b : ℕ) (t : List ℕ) → 1 ≤ line_size (b ∷ t)
unfolding line_size
line_least b t = by (eqb b 10)
  where
    by : (e : Bool) → 1 ≤ cond e 1 (suc (line_size t))
    by true = omega arith
    by false = omega arith

pub line_within : (b : ℕ) (t : List ℕ) → (1 ≤ line_size (b ∷ t)) × (line_size (b ∷ t) ≤ length (b ∷ t))
line_within b t = (line_least b t, line_most (b ∷ t))

-- The first line, and then the others.
pub first_line : (b : ℕ) (t : List ℕ) → let n = line_size (b ∷ t) in lines (b ∷ t) ≡ take n (b ∷ t) ∷ lines (drop n (b ∷ t))
unfolding lines line_size
first_line b [] = by (eqb b 10) refl
  where
    by : (e : Bool) → eqb b 10 ≡ e → cond e ((10 ∷ []) ∷ []) ((b ∷ []) ∷ []) ≡ take (cond e 1 1) (b ∷ []) ∷ lines (drop (cond e 1 1) (b ∷ []))
    by true i = rw (eqb-true b 10 i)
    by false i = refl
first_line b (c ∷ u) = by (eqb b 10) refl (first_line c u)
  where
    t : List ℕ
    t = c ∷ u

    by : (e : Bool) → eqb b 10 ≡ e → lines t ≡ take (line_size t) t ∷ lines (drop (line_size t) t) →
        cond e ((10 ∷ []) ∷ lines t) (onto_first b (lines t)) ≡ take (cond e 1 (suc (line_size t))) (b ∷ t) ∷ lines (drop (cond e 1 (suc (line_size t))) (b ∷ t))
    by true i ih = rw (eqb-true b 10 i)
    by false i ih = rw ih

pub same_sound : (xs ys : List ℕ) → same xs ys ≡ true → xs ≡ ys
unfolding same
same_sound [] [] e = refl
same_sound [] (y ∷ ys) e = absurd (false≢true e)
same_sound (x ∷ xs) [] e = absurd (false≢true e)
same_sound (x ∷ xs) (y ∷ ys) e = let p = (and-eq-true_iff (eqb x y) (same xs ys)).0 e in rw (eqb-true x y p.0, same_sound xs ys p.1)

-- A separator in front.
pub separated : (t r : List ℕ) → after separator t ≡ some r → (t ≡ separator ++ r) × (blocks t ≡ [] ∷ blocks r)
unfolding blocks blocks_of lines same
separated t r e = let s = key_sound separator t r e in (s, rw s)

-- None in front: the first line is the first block's.
pub not_separated : (b : ℕ) (t : List ℕ) → after separator (b ∷ t) ≡ none →
    let n = line_size (b ∷ t) in blocks (b ∷ t) ≡ before_first (take n (b ∷ t)) (blocks (drop n (b ∷ t)))
unfolding blocks blocks_of
not_separated b t e = rw (first_line b t) (by (same l separator) refl)
  where
    n : ℕ
    n = line_size (b ∷ t)

    l : List ℕ
    l = take n (b ∷ t)

    rest : List ℕ
    rest = drop n (b ∷ t)

    by : (x : Bool) → same l separator ≡ x → cond x ([] ∷ blocks_of (lines rest)) (before_first l (blocks_of (lines rest))) ≡ before_first l (blocks_of (lines rest))
    by true i =
        let whole : b ∷ t ≡ separator ++ rest = sym (take-append-drop n (b ∷ t)) ∙ ap (λ (x : List ℕ). x ++ rest) (same_sound l separator i) in
        absurd (none-ne-some rest (sym e ∙ ap (after separator) whole ∙ key_complete separator rest))
    by false i = refl
