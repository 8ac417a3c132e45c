-- The first block of what is left of a text, and the later ones. Assumes nothing.
use mathlib.Core.Path.{◌≡◌, refl, sym, ap, ◌∙◌}
use mathlib.Core.Bool.{Bool, true, false, cond}
use mathlib.Core.List.{List, [], ◌∷◌, ◌++◌}
use mathlib.Core.Option.{Option, none, some}
use Prim.Native.Nat.{ℕ, zero, suc, ◌+◌, ◌-◌, ◌≤◌, ◌<◌}
use native.Mathlib.Omega.{arith}
use lib.Dec.{ltb}
use lib.ListN.{length, get_or, take, drop, length-append, length-drop, drop_of_length-le}
use lib.Seq.{drop-cons, drop-drop, take-add, length-take-le}
use borrow.Author.Tests.{lt-ltb, le-ltb, ltb-true, ltb-false}
use Rattle.text_tokens.specs.Tokens.{after}
use Rattle.season_blocks.specs.Blocks.{lines, separator, blocks_of, blocks, line_size, block_size}
use Rattle.season_blocks.proofs.Lines.{line_within, separated, not_separated}

-- The blocks after one that ends at a place.
abbrev pub later : List ℕ → ℕ → List (List ℕ)
later t end = cond (ltb end (length t)) (blocks (drop (end + 5) t)) []

block_size_is : (t b : List ℕ) (bs : List (List ℕ)) → blocks t ≡ b ∷ bs → block_size t ≡ length b
unfolding block_size
block_size_is t b bs e = rw e

-- The first block lies in front; behind it stands a separator, or nothing.
pub record First (t : List ℕ) : Type 0 where
  pub within : block_size t ≤ length t
  pub room : block_size t < length t → block_size t + 5 ≤ length t
  pub is : blocks t ≡ take (block_size t) t ∷ later t (block_size t)

first_of : {t : List ℕ} (n : ℕ) → n ≤ length t → (n < length t → n + 5 ≤ length t) → blocks t ≡ take n t ∷ later t n → First t
first_of {t} n w r e = let s : block_size t ≡ n = block_size_is t _ _ e ∙ length-take-le n t w in record { within = rw s w; room = rw s r; is = rw s e }

first_empty : First []
unfolding blocks lines blocks_of
first_empty = first_of 0 (omega arith) (λ h. omega arith) refl

first_separated : (t r : List ℕ) → after separator t ≡ some r → First t
first_separated t r e =
    let s = separated t r e in
    rw s.0 (first_of {t = separator ++ r} 0 (omega arith) (λ h. omega arith) (ap blocks (sym s.0) ∙ s.1 ∙ rw (lt-ltb 0 (length (separator ++ r)) (omega arith))))

-- The later blocks are the same, counted from a place further on.
pub later_from : (t : List ℕ) (m n : ℕ) → m ≤ length t → later (drop m t) n ≡ later t (m + n)
later_from t m n h = by (ltb n (length (drop m t))) refl
  where
    by : (b : Bool) → ltb n (length (drop m t)) ≡ b → cond b (blocks (drop (n + 5) (drop m t))) [] ≡ later t (m + n)
    by true i = rw (lt-ltb (m + n) (length t) (omega (arith, ltb-true n (length (drop m t)) i, length-drop m t)), drop-drop (n + 5) m t, assoc)
      where
        assoc : m + (n + 5) ≡ m + n + 5
        assoc = omega arith
    by false i = rw (le-ltb (m + n) (length t) (omega (arith, ltb-false n (length (drop m t)) i, length-drop m t)))

first_longer : (b : ℕ) (t : List ℕ) → after separator (b ∷ t) ≡ none → First (drop (line_size (b ∷ t)) (b ∷ t)) → First (b ∷ t)
first_longer b t e f =
    let m = line_size (b ∷ t) in
    let w = line_within b t in
    let rest = drop m (b ∷ t) in
    let n = block_size rest in
    let l : length rest ≡ length (b ∷ t) - m = length-drop m (b ∷ t) in
    first_of (m + n) (omega (arith, f.within)) (λ h. omega (arith, f.room (omega arith))) (
    not_separated b t e ∙ rw (f.is, ← take-add m n (b ∷ t), later_from (b ∷ t) m n w.1)
    )

first_step : (t : List ℕ) → ((u : List ℕ) → length u < length t → First u) → First t
first_step [] ih = first_empty
first_step (b ∷ t) ih = by (after separator (b ∷ t)) refl
  where
    by : (o : Option (List ℕ)) → after separator (b ∷ t) ≡ o → First (b ∷ t)
    by none e = first_longer b t e (ih (drop (line_size (b ∷ t)) (b ∷ t)) (omega (arith, length-drop (line_size (b ∷ t)) (b ∷ t), line_within b t)))
    by (some r) e = first_separated (b ∷ t) r e

first_within : (most : ℕ) (t : List ℕ) → length t ≤ most → First t
first_within zero t h = first_step t (λ u k. absurd (omega arith))
first_within (suc most) t h = first_step t (λ u k. first_within most u (omega arith))

pub first : (t : List ℕ) → First t
first t = first_within (length t) t (omega arith)

-- ---- its size, as it is sought line by line

pub size_at_end : (t : List ℕ) (at : ℕ) → length t ≤ at → block_size (drop at t) ≡ 0
size_at_end t at h = omega (arith, (first (drop at t)).within, ap length (drop_of_length-le t {i = at} h))

pub size_separated : (t r : List ℕ) → after separator t ≡ some r → block_size t ≡ 0
size_separated t r e = block_size_is t _ _ (separated t r e).1

pub size_longer : (t : List ℕ) (at : ℕ) → at < length t → after separator (drop at t) ≡ none →
    let n = line_size (drop at t) in (1 ≤ n) × (at + n ≤ length t) × (block_size (drop at t) ≡ n + block_size (drop (at + n) t))
size_longer t at h e = rw (d, ← drop-drop (line_size (b ∷ u)) at t, d) (w.0, omega (arith, w.1, ap length d, length-drop at t), size)
  where
    b : ℕ
    b = get_or t at 0

    u : List ℕ
    u = drop (suc at) t

    d : drop at t ≡ b ∷ u
    d = drop-cons t at 0 h

    w : (1 ≤ line_size (b ∷ u)) × (line_size (b ∷ u) ≤ length (b ∷ u))
    w = line_within b u

    rest : List ℕ
    rest = drop (line_size (b ∷ u)) (b ∷ u)

    size : block_size (b ∷ u) ≡ line_size (b ∷ u) + block_size rest
    size =
        let is = rw (first rest).is at (not_separated b u (rw d at e)) in
        block_size_is (b ∷ u) _ _ is ∙ simp length-append (omega (arith, length-take-le (line_size (b ∷ u)) (b ∷ u) w.1, length-take-le (block_size rest) rest (first rest).within))
