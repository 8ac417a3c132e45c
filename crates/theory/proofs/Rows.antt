-- Patterns as lent rows: how many, which stands at an index, and that the rows of a list of patterns are that list. Assumes nothing.
use mathlib.Core.Path.{◌≡◌, refl, ap, ◌∙◌}
use mathlib.Core.List.{List, [], ◌∷◌, ◌++◌, map, flatten, append_assoc, Memᴰ}
use Prim.Native.Nat.{ℕ, zero, suc, ◌+◌, ◌-◌, ◌*◌, ◌≤◌, ◌<◌}
use native.Mathlib.Omega.{arith}
use native.Mathlib.Nat.{mul-le-mul, le_refl, suc-mul}
use native.Mathlib.Numerals.{add-one}
use lib.ListN.{length, get_or, take, drop}
use lib.Seq.{take_at, drop_at, drop-drop}
use Rattle.theory.specs.Moves.{Pattern}
use Rattle.theory.specs.Tables.{pattern_rows, PatternRows, ForK}
use Rattle.theory.proofs.Index.{mem_get_or}

pub length_rows : (k : ℕ) (orders masks : List ℕ) → length (pattern_rows k orders masks) ≡ length masks
unfolding pattern_rows
length_rows k orders [] = refl
length_rows k orders (m ∷ masks) = ap suc (length_rows k (drop (suc k) orders) masks)

pub row_at : (k : ℕ) (orders masks : List ℕ) (i : ℕ) (d : Pattern) → i < length masks →
    get_or (pattern_rows k orders masks) i d ≡ record { order = take (suc k) (drop (i * suc k) orders); mask = get_or masks i 0 }
unfolding pattern_rows
row_at k orders [] i d h = absurd (omega arith)
row_at k orders (m ∷ masks) zero d h = let e : 0 * suc k ≡ 0 = omega arith in rw e
row_at k orders (m ∷ masks) (suc i) d h =
    let e : suc k + i * suc k ≡ suc i * suc k = omega arith in
    row_at k (drop (suc k) orders) masks i d (omega arith)
    ∙ ap (λ l. record { order = take (suc k) l; mask = get_or masks i 0 }) (drop-drop (i * suc k) (suc k) orders ∙ ap (λ n. drop n orders) e)

-- As code lends the row of an index, `&orders[at..at + width]` with at = i * width and width = k + 1.
abbrev pub lent_row : ℕ → List ℕ → ℕ → List ℕ
lent_row k orders i = take (i * (k + 1) + (k + 1) - i * (k + 1)) (drop (i * (k + 1)) orders)

pub lent_at : (k : ℕ) (orders masks : List ℕ) (i : ℕ) (d : Pattern) → i < length masks → get_or (pattern_rows k orders masks) i d ≡ record { order = lent_row k orders i; mask = get_or masks i 0 }
lent_at k orders masks i d h =
    let many : i * (k + 1) + (k + 1) - i * (k + 1) ≡ suc k = omega arith in
    let at : i * (k + 1) ≡ i * suc k = ap (λ n. i * n) (add-one k) in
    rw (many, at) (row_at k orders masks i d h)

pub lent_within : (k : ℕ) (orders masks : List ℕ) (i : ℕ) → length orders ≡ length masks * suc k → i < length masks → i * (k + 1) + (k + 1) ≤ length orders
lent_within k orders masks i long h =
    let m : suc i * suc k ≤ length masks * suc k = mul-le-mul h (le_refl (suc k)) in
    rw long (omega (arith, m, suc-mul i (suc k), add-one k))

pub listed_for_k : (k : ℕ) (orders masks : List ℕ) → PatternRows k orders masks → (i : ℕ) (d : Pattern) → i < length masks →
    ForK k (get_or (pattern_rows k orders masks) i d).order (get_or (pattern_rows k orders masks) i d).mask
listed_for_k k orders masks rows i d h = rows.each _ (mem_get_or (pattern_rows k orders masks) i d (omega (arith, length_rows k orders masks)))

-- The rows of a list of patterns, whatever stands behind them.
pub rows_of : (k : ℕ) (ps : List Pattern) (more : List ℕ) → ((p : Pattern) → Memᴰ p ps → length p.order ≡ suc k) →
    pattern_rows k (flatten (map (λ p. p.order) ps) ++ more) (map (λ p. p.mask) ps) ≡ ps
unfolding pattern_rows flatten
rows_of k [] more h = refl
rows_of k (p ∷ ps) more h =
    let e = h p (Memᴰ.head refl) in
    let rest = flatten (map (λ p. p.order) ps) ++ more in
    rw (append_assoc p.order (flatten (map (λ p. p.order) ps)) more, take_at p.order rest (suc k) e, drop_at p.order rest (suc k) e)
    (ap (λ l. p ∷ l) (rows_of k ps more (λ q i. h q (Memᴰ.tail i))))
