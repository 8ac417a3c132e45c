-- The rows of a text put into their places one after the other. Assumes nothing.
use mathlib.Core.Path.{◌≡◌, refl, sym, ap, ap₂, ◌∙◌}
use mathlib.Core.Bool.{Bool, true, false, not, true≢false}
use mathlib.Core.List.{List, [], ◌∷◌, ◌++◌, Memᴰ}
use mathlib.Core.Option.{some, some-injective}
use Prim.Native.Nat.{ℕ, suc, ◌+◌, ◌-◌, ◌*◌, ◌^◌, ◌≤◌, ◌<◌}
use native.Mathlib.Nat.{suc-mul, mul-le-mul_right}
use native.Mathlib.Decide.{dec_lt}
use native.Mathlib.Numerals.{add-one}
use native.Mathlib.Omega.{arith}
use lib.ListN.{length, get_or, take, drop, set, take-append-drop, length-append, length-take, length-drop, length-set}
use lib.Seq.{drop-cons, drop_at, take_at, drop-append-le, take-append-le, get_or-set_same, get_or-set_other, ext_get_or, length-take-le}
use lib.Pow.{pow_mono}
use Rattle.theory.specs.Moves.{Pattern, total, upfrom}
use Rattle.theory.specs.Tables.{pattern_rows}
use Rattle.std.specs.List.{list_any}
use Rattle.theory.proofs.Index.{mem_get_or}
use Rattle.theory.proofs.Moves.{total_ones, length_upfrom}
use Rattle.theory.proofs.Rows.{length_rows, row_at}
use Rattle.pattern_lists.specs.Lists.{fine_row, no_row, row}
use Rattle.pattern_lists.proofs.Fine.{none_listed, fine_for_k}
use Rattle.pattern_list_text.specs.Reading.{row_of, row_before, rows_of}
use Rattle.pattern_list_text.proofs.Rows.{rows_next, first_row, row_in_front}
use Rattle.pattern_list_loading.specs.Loading.{Fits, Takeable}

-- ---- a row that does not fit is not fine

ones_upfrom : (k : ℕ) (f : ℕ) → total (λ x. 1) (upfrom f k) ≡ k
ones_upfrom k f = total_ones (upfrom f k) ∙ length_upfrom f k

fine_fits : (k : ℕ) (p : Pattern) → 2 ≤ k → k ≤ 5 → fine_row k p ≡ true → Fits (k + 1) p
fine_fits k p h l f =
    let r = fine_for_k k p (omega arith) f in
    let m : length r.middle ≡ k - 1 = sym (total_ones r.middle) ∙ r.once (λ x. 1) ∙ ones_upfrom (k - 1) 1 in
    let top : 2 ^ (k - 1) ≤ 16 = pow_mono {i = k - 1} {j = 4} (omega arith) in
    (ap length r.order_is ∙ omega (arith, length-append r.middle (k ∷ []), m), omega (arith, r.mask_is, r.few, top))

misfit : (k : ℕ) (p : Pattern) → 2 ≤ k → k ≤ 5 → (Fits (k + 1) p → ⊥) → not (fine_row k p) ≡ true
misfit k p h l n = by (fine_row k p) refl
  where
    by : (b : Bool) → fine_row k p ≡ b → not (fine_row k p) ≡ true
    by true e = absurd (n (fine_fits k p h l e))
    by false e = rw e

some_listed : (t : Pattern → Bool) (l : List Pattern) (p : Pattern) → Memᴰ p l → t p ≡ true → list_any t l ≡ true
some_listed t l p i e = by (list_any t l) refl
  where
    by : (b : Bool) → list_any t l ≡ b → list_any t l ≡ true
    by true h = h
    by false h = absurd (true≢false (sym e ∙ none_listed t l h p i))

-- ---- the places

pub row_within : (n i w : ℕ) → i < n → i * w + w ≤ n * w
row_within n i w h = omega (arith, suc-mul i w, mul-le-mul_right {m = suc i} {n = n} w h)

pub lent_long : (n w : ℕ) (l : List ℕ) → n + w ≤ length l → length (take (n + w - n) (drop n l)) ≡ w
lent_long n w l h = simp (length-take, length-drop) (omega arith)

-- A row put into its places, as code lends them, `&mut orders[at..at + width]`.
abbrev pub put_row : List ℕ → ℕ → ℕ → List ℕ → List ℕ
put_row orders k i order = take (i * (k + 1)) orders ++ (order ++ drop (i * (k + 1) + (k + 1) - i * (k + 1)) (drop (i * (k + 1)) orders))

module _ (k : ℕ) (orders masks order : List ℕ) (mask i : ℕ) (h : i < length masks) (long : length orders ≡ length masks * suc k) (w : length order ≡ k + 1) where
  abbrev orders' : List ℕ
  orders' = put_row orders k i order

  abbrev masks' : List ℕ
  masks' = set masks i mask

  start : length (take (i * (k + 1)) orders) ≡ i * suc k
  start = length-take-le (i * (k + 1)) orders (rw long (omega (arith, row_within (length masks) i (suc k) h, add-one k, ap (λ n. i * n) (add-one k)))) ∙ ap (λ n. i * n) (add-one k)

  put_here : row k orders' masks' i ≡ record { order = order; mask = mask }
  put_here =
      row_at k orders' masks' i no_row (rw (length-set masks i mask) h)
      ∙ ap₂ {C = Pattern} (λ o m. record { order = o; mask = m })
      (ap (take (suc k)) (drop_at (take (i * (k + 1)) orders) (order ++ drop (i * (k + 1) + (k + 1) - i * (k + 1)) (drop (i * (k + 1)) orders)) (i * suc k) start)
      ∙ take_at order (drop (i * (k + 1) + (k + 1) - i * (k + 1)) (drop (i * (k + 1)) orders)) (suc k) (w ∙ add-one k))
      (get_or-set_same masks i mask 0 h)

  -- A row in front of those places stays.
  front_row : (j : ℕ) → j < i → (r : List ℕ) → take (suc k) (drop (j * suc k) (take (i * (k + 1)) orders ++ r)) ≡ take (suc k) (drop (j * suc k) (take (i * (k + 1)) orders))
  front_row j l r =
      let b = row_within i j (suc k) l in
      rw (drop-append-le (j * suc k) (take (i * (k + 1)) orders) r (omega (arith, start, b)))
      (take-append-le (suc k) (drop (j * suc k) (take (i * (k + 1)) orders)) r (simp length-drop (omega (arith, start, b))))

  put_others : (j : ℕ) → j < i → row k orders' masks' j ≡ row k orders masks j
  put_others j l =
      row_at k orders' masks' j no_row (rw (length-set masks i mask) (omega arith))
      ∙ ap₂ {C = Pattern} (λ o m. record { order = o; mask = m })
      (front_row j l (order ++ drop (i * (k + 1) + (k + 1) - i * (k + 1)) (drop (i * (k + 1)) orders))
      ∙ sym (front_row j l (drop (i * (k + 1)) orders))
      ∙ ap (λ (z : List ℕ). take (suc k) (drop (j * suc k) z)) (take-append-drop (i * (k + 1)) orders))
      (get_or-set_other masks i j mask 0 (λ e. omega arith))
      ∙ sym (row_at k orders masks j no_row (omega arith))

-- ---- row after row

-- The first rows stand in their places, and the others in the rest of the text.
pub record Taking (k : ℕ) (ps : List Pattern) (orders masks : List ℕ) (i : ℕ) (rest : List ℕ) : Type 0 where
  pub placed : (j : ℕ) → j < i → row k orders masks j ≡ get_or ps j no_row
  pub left : rows_of (60000 - i) rest ≡ some (drop i ps)

taking_begin : (t : List ℕ) (k : ℕ) (ps : List Pattern) (orders masks : List ℕ) → rows_of 60000 t ≡ some ps → Taking k ps orders masks 0 t
taking_begin t k ps orders masks e = record { placed = λ j l. absurd (omega arith); left = e }

module _ {k : ℕ} {ps : List Pattern} {orders masks rest : List ℕ} {i : ℕ} (g : Taking k ps orders masks i rest)
    (many : length ps ≡ length masks) (few : length masks ≤ 383) where
  taking_all : length masks ≤ i → pattern_rows k orders masks ≡ ps
  taking_all h = ext_get_or no_row (pattern_rows k orders masks) ps (length_rows k orders masks ∙ sym many) (λ j l. g.placed j (omega (arith, length_rows k orders masks)))

  module _ (h : i < length masks) where
    next_row : drop i ps ≡ get_or ps i no_row ∷ drop (suc i) ps
    next_row = drop-cons ps i no_row (omega arith)

    taking_misfit : 2 ≤ k → k ≤ 5 → ((p : Pattern) (r : List ℕ) → row_of rest ≡ some (p, r) → Fits (k + 1) p → ⊥) → list_any (λ p. not (fine_row k p)) ps ≡ true
    taking_misfit least most n =
        let f = row_in_front (60000 - i) rest (get_or ps i no_row) (drop (suc i) ps) (g.left ∙ ap some next_row) in
        some_listed (λ p. not (fine_row k p)) ps (get_or ps i no_row) (mem_get_or ps i no_row (omega arith)) (misfit k (get_or ps i no_row) least most (n (get_or ps i no_row) f.0 f.1))

    taking_on : (order : List ℕ) (mask : ℕ) (next : List ℕ) → length orders ≡ length masks * suc k → length order ≡ k + 1 →
        row_of rest ≡ some (record { order = order; mask = mask }, next) → Taking k ps (put_row orders k i order) (set masks i mask) (i + 1) next
    taking_on order mask next long w e =
        let p : Pattern = record { order = order; mask = mask } in
        let f : 60000 - i ≡ suc (60000 - (i + 1)) = omega arith in
        let first : row_before p (rows_of (60000 - (i + 1)) (next)) ≡ some (get_or ps i no_row ∷ drop (suc i) ps) = sym (rows_next (60000 - (i + 1)) rest p (next) e) ∙ ap (λ (n : ℕ). rows_of n rest) (sym f) ∙ g.left ∙ ap some next_row in
        let b = first_row p (get_or ps i no_row) (rows_of (60000 - (i + 1)) (next)) (drop (suc i) ps) first in
        record {
          placed = λ j l. by j (dec_lt j i) b.0 l;
          left = b.1 ∙ ap (λ (n : ℕ). some (drop n ps)) (sym (add-one i));
        }
      where
        by : (j : ℕ) → Dec (j < i) → ◌≡◌ {A = Pattern} (record { order = order; mask = mask }) (get_or ps i no_row) → j < i + 1 → row k (put_row orders k i order) (set masks i mask) j ≡ get_or ps j no_row
        by j (yes l) q m = put_others k orders masks order mask i h long w j l ∙ g.placed j l
        by j (no n) q m = let z : j ≡ i = omega arith in rw z (put_here k orders masks order mask i h long w ∙ q)

-- The rows of the text, taken so far.
pub record Rest (whole : List ℕ) (k : ℕ) (orders masks : List ℕ) (i : ℕ) (rest : List ℕ) : Type 0 where
  pub rows : List Pattern
  pub lines : rows_of 60000 whole ≡ some rows
  pub many : length rows ≡ length masks
  pub taking : Taking k rows orders masks i rest

pub rest_begin : {t : List ℕ} {k : ℕ} {orders masks : List ℕ} → Takeable t k orders masks → Rest t k orders masks 0 t
rest_begin {t} {k} {orders} {masks} g = record { rows = g.rows; lines = g.lines; many = g.many; taking = taking_begin t k g.rows orders masks g.lines }

module _ {whole rest : List ℕ} {k : ℕ} {orders masks : List ℕ} {i : ℕ} (g : Rest whole k orders masks i rest) (few : length masks ≤ 383) where
  pub rest_end : length masks ≤ i → rows_of 60000 whole ≡ some (pattern_rows k orders masks)
  rest_end h = g.lines ∙ ap some (sym (taking_all g.taking g.many few h))

  pub rest_misfit : i < length masks → 2 ≤ k → k ≤ 5 → ((p : Pattern) (r : List ℕ) → row_of rest ≡ some (p, r) → Fits (k + 1) p → ⊥) →
      (rows : List Pattern) → rows_of 60000 whole ≡ some rows → list_any (λ p. not (fine_row k p)) rows ≡ true
  rest_misfit h least most n rows e =
      rw (some-injective rows g.rows (sym e ∙ g.lines)) (taking_misfit g.taking g.many few h least most n)

  pub rest_on : i < length masks → (order : List ℕ) (mask : ℕ) (next : List ℕ) → length orders ≡ length masks * suc k → length order ≡ k + 1 →
      row_of rest ≡ some (record { order = order; mask = mask }, next) → Rest whole k (put_row orders k i order) (set masks i mask) (i + 1) next
  rest_on h order mask next long w e =
      record { rows = g.rows; lines = g.lines; many = g.many ∙ sym (length-set masks i mask); taking = taking_on g.taking g.many few h order mask next long w e }
