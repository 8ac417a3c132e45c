-- A text's list judged: its numbers, and then its rows. Assumes nothing.
use mathlib.Core.Path.{◌≡◌, refl, sym, ap, ap₂, ◌∙◌}
use mathlib.Core.Bool.{true, not}
use mathlib.Core.List.{List, [], ◌∷◌, ◌++◌}
use mathlib.Core.Option.{none, some, some-injective}
use Prim.Native.Nat.{ℕ, suc, ◌+◌, ◌*◌, ◌≤◌}
use native.Mathlib.Nat.{mul-le-mul}
use native.Mathlib.Numerals.{add-one}
use native.Mathlib.Omega.{arith}
use lib.ListN.{length, take}
use lib.Seq.{length-take-le, take_at}
use Rattle.std.specs.List.{list_any}
use Rattle.theory.specs.Moves.{Pattern}
use Rattle.theory.specs.Tables.{pattern_rows}
use Rattle.theory.specs.Refusals.{either, refusal}
use Rattle.theory.proofs.Refusals.{known, accepted, either_zero, either_assoc, applies_first, passed_over}
use Rattle.theory.proofs.Judged.{cut_count_fine}
use Rattle.pattern_lists.specs.Lists.{fine_row, row_shapes, row_news, Counted}
use Rattle.pattern_lists.proofs.Judging.{some_rows}
use Rattle.pattern_list_text.specs.Reading.{rows_of, read}
use Rattle.pattern_list_text.specs.Told.{Found}
use Rattle.pattern_list_loading.specs.Loading.{sizes, text_list_rules, text_rules, Takeable, JudgedRows, NotLoaded, InPlaces}

-- ---- the rows in their places

pub judged_in_place : {t : List ℕ} {k answer : ℕ} {orders masks : List ℕ} → rows_of 60000 t ≡ some (pattern_rows k orders masks) →
    answer ≡ refusal (row_shapes k (pattern_rows k orders masks) ∷ row_news k (pattern_rows k orders masks) ∷ []) → JudgedRows t k answer orders masks
judged_in_place {t} {k} {answer} {orders} {masks} stand e =
    record {
      number_is = λ rows r. e ∙ ap (λ (l : List Pattern). refusal (row_shapes k l ∷ row_news k l ∷ [])) (some-injective (pattern_rows k orders masks) rows (sym stand ∙ r));
      stand = λ z. stand;
    }

pub judged_misfit : {t : List ℕ} {k : ℕ} {orders masks : List ℕ} → ((rows : List Pattern) → rows_of 60000 t ≡ some rows → list_any (λ p. not (fine_row k p)) rows ≡ true) →
    JudgedRows t k 27 orders masks
unfolding refusal either
judged_misfit h = record { number_is = λ rows r. rw (h rows r); stand = λ z. absurd (omega arith) }

pub still_counted : {t : List ℕ} {k : ℕ} {orders masks : List ℕ} (orders' masks' : List ℕ) → Takeable t k orders masks → length orders' ≡ length orders → length masks' ≡ length masks →
    Counted k orders' masks'
still_counted {t} {k} orders' masks' g o m =
    record { least = g.least; most = g.most; some_row = omega (arith, g.some_row); few = omega (arith, g.few); long = o ∙ g.long ∙ ap (λ n. n * suc k) (sym m) }

-- ---- the numbers

pub record Bounds (k count : ℕ) : Type 0 where
  pub least : 2 ≤ k
  pub most : k ≤ 5
  pub some_row : 1 ≤ count
  pub few : count ≤ 383

pub bounded : (k announced count a : ℕ) → a ≡ refusal (sizes k announced count) → a ≡ 0 → Bounds k count
unfolding known
bounded k announced count a e z =
    let p = accepted (sizes k announced count) refl (sym e ∙ z) in
    let c = cut_count_fine k p.0 in
    let r = some_rows count p.1.0 in
    record { least = c.0; most = c.1; some_row = r.0; few = r.1 }

pub list_places : (k count : ℕ) → k ≤ 5 → count ≤ 383 → count * (k + 1) ≤ 2298
list_places k count m f = let h : k + 1 ≤ 6 = omega arith in mul-le-mul f h

pub places_few : {k count : ℕ} → Bounds k count → count * (k + 1) ≤ 2298
places_few {k} {count} b = list_places k count b.most b.few

-- The first places, for the rows of a text.
module _ {t rest : List ℕ} {k announced count : ℕ} (f : Found t k announced count rest) (b : Bounds k count) (orders masks : List ℕ)
    (o : length orders ≡ 2298) (m : length masks ≡ 383) where
  order_places : length (take (count * (k + 1)) orders) ≡ count * (k + 1)
  order_places = length-take-le (count * (k + 1)) orders (omega (arith, places_few b))

  mask_places : length (take count masks) ≡ count
  mask_places = length-take-le count masks (omega (arith, b.few))

  pub takeable : Takeable rest k (take (count * (k + 1)) orders) (take count masks)
  takeable =
      record {
        least = b.least;
        most = b.most;
        some_row = rw mask_places b.some_row;
        few = rw mask_places b.few;
        long = order_places ∙ ap₂ (λ x y. x * y) (sym mask_places) (add-one k);
        rows = f.rows;
        lines = f.lines;
        many = f.many ∙ sym mask_places;
      }

-- ---- the list

module _ {t lines : List ℕ} {k announced count : ℕ} (f : Found t k announced count lines) (a : ℕ) (judged : a ≡ refusal (sizes k announced count)) where
  abbrev rest : ℕ
  rest = refusal (row_shapes k f.rows ∷ row_news k f.rows ∷ [])

  in_parts : either (refusal (sizes k announced count)) rest ≡ refusal (text_list_rules (record { k = k; announced = announced; rows = f.rows }))
  unfolding refusal
  in_parts = rw f.many (simp (either_assoc, either_zero))

  whole : either (refusal (sizes k announced count)) rest ≡ refusal (text_rules (read t))
  whole = in_parts ∙ ap (λ l. refusal (text_rules l)) (sym f.reads)

  pub numbers_refused : (a ≡ 0 → ⊥) → NotLoaded t a
  numbers_refused h = record { some_number = h; number_is = applies_first a (refusal (sizes k announced count)) rest judged h ∙ whole }

  module _ (z : a ≡ 0) (c : ℕ) {orders masks : List ℕ} (rows : JudgedRows lines k c orders masks) where
    row_number : c ≡ refusal (text_rules (read t))
    row_number = rows.number_is f.rows f.lines ∙ passed_over a (refusal (sizes k announced count)) rest judged z ∙ whole

    pub rows_refused : (c ≡ 0 → ⊥) → NotLoaded t c
    rows_refused h = record { some_number = h; number_is = row_number }

    pub in_places : c ≡ 0 → (more others : List ℕ) → length orders ≡ count * (k + 1) → length masks ≡ count → InPlaces t k count (orders ++ more) (masks ++ others)
    in_places h more others o m =
        let b = bounded k announced count a judged z in
        let same : f.rows ≡ pattern_rows k orders masks = some-injective f.rows (pattern_rows k orders masks) (sym f.lines ∙ rows.stand h) in
        record {
          announced = announced;
          reads =
              rw (take_at orders more (count * suc k) (o ∙ ap (λ n. count * n) (add-one k)), take_at masks others count m)
              (f.reads ∙ ap (λ (l : List Pattern). some (record { k = k; announced = announced; rows = l })) same);
          fine = sym row_number ∙ h;
          most = b.most;
          few = b.few;
        }

pub malformed : (t : List ℕ) → read t ≡ none → NotLoaded t 10
unfolding refusal either
malformed t e = record { some_number = λ z. absurd (omega arith); number_is = rw e }
