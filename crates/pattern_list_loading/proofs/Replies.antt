-- A judged list handed over, and the reply of loading, over plain values. Assumes nothing.
use mathlib.Core.Path.{◌≡◌, refl, sym, ap, ap₂, ◌∙◌}
use mathlib.Core.Bool.{cond}
use mathlib.Core.List.{List, [], ◌∷◌, ◌++◌, map, flatten}
use mathlib.Core.Option.{Option, none, some}
use Prim.Native.Nat.{ℕ, suc, ◌+◌, ◌*◌, ◌≤◌}
use native.Mathlib.Numerals.{add-one}
use native.Mathlib.Omega.{arith}
use lib.Dec.{eqb}
use lib.ListN.{length, take, drop, set, length-drop, take-append-drop}
use lib.Seq.{length-take-le}
use Rattle.theory.specs.Moves.{Pattern}
use Rattle.theory.specs.Tables.{pattern_rows}
use Rattle.theory.specs.Refusals.{Rule, either, refusal}
use Rattle.theory.proofs.Refusals.{Passes, known, accepted, either_zero, either_assoc, applies_first, passed_over}
use Rattle.theory.proofs.Rows.{length_rows}
use Rattle.theory.proofs.Judged.{room_fine}
use Rattle.theory.proofs.Taken.{refused_kept, taken_done}
use Rattle.pattern_list_text.specs.List.{PatternList}
use Rattle.pattern_list_text.specs.Reading.{read}
use Rattle.pattern_list_loading.specs.Loading.{text_list_rules, text_rules, orders_of, masks_of, numbers_of, rooms, load_rules, put_before, loaded, LoadReply, NotLoaded, InPlaces, Whole, HandedOver}
use Rattle.pattern_list_loading.proofs.Judging.{list_places}

-- ---- handed over

module _ {k : ℕ} {from_orders from_masks : List ℕ} (w : Whole k from_orders from_masks) (orders masks result : List ℕ) (n : ℕ)
    (judged : n ≡ refusal (rooms k (length from_masks) (length orders) (length masks) (length result))) where
  abbrev rules : List Rule
  rules = rooms k (length from_masks) (length orders) (length masks) (length result)

  abbrev numbers : List ℕ
  numbers = k ∷ length from_masks ∷ []

  pub not_handed : (n ≡ 0 → ⊥) → HandedOver k from_orders from_masks orders masks result n orders masks result
  not_handed h =
      record {
        number_is = judged;
        orders_are = refused_kept rules n judged (put_before from_orders orders) orders h;
        masks_are = refused_kept rules n judged (put_before from_masks masks) masks h;
        result_is = refused_kept rules n judged (put_before numbers result) result h;
      }

  module _ (h : n ≡ 0) where
    fine : Passes rules
    unfolding known
    fine = accepted rules refl (sym judged ∙ h)

    pub orders_room : length from_orders ≤ length orders
    orders_room = omega (arith, room_fine (length from_masks * suc k) (length orders) fine.0, w.long)

    pub masks_room : length from_masks ≤ length masks
    masks_room = room_fine (length from_masks) (length masks) fine.1.0

    pub result_room : 2 ≤ length result
    result_room = room_fine 2 (length result) fine.1.1.0

    two_put : (l : List ℕ) (a b : ℕ) → 2 ≤ length l → set (set l 0 a) 1 b ≡ a ∷ b ∷ drop 2 l
    two_put [] a b h = absurd (omega arith)
    two_put (x ∷ []) a b h = absurd (omega arith)
    two_put (x ∷ y ∷ l) a b h = refl

    pub handed : HandedOver k from_orders from_masks orders masks result 0 (put_before from_orders orders) (put_before from_masks masks) (set (set result 0 k) 1 (length from_masks))
    handed =
        record {
          number_is = sym h ∙ judged;
          orders_are = taken_done rules n judged (put_before from_orders orders) orders h;
          masks_are = taken_done rules n judged (put_before from_masks masks) masks h;
          result_is = two_put result k (length from_masks) result_room ∙ taken_done rules n judged (put_before numbers result) result h;
        }

-- ---- the reply

-- The list, and then the rooms.
then_rooms : (l : PatternList) (o m r : ℕ) → either (refusal (text_list_rules l)) (refusal (rooms l.k (length l.rows) o m r)) ≡ refusal (load_rules (some l) o m r)
unfolding refusal
then_rooms l o m r = simp (either_assoc, either_zero)

not_read : (o : Option PatternList) (n a b c : ℕ) → (n ≡ 0 → ⊥) → n ≡ refusal (text_rules o) → n ≡ refusal (load_rules o a b c)
not_read none n a b c h e = e
not_read (some l) n a b c h e = applies_first n (refusal (text_list_rules l)) (refusal (rooms l.k (length l.rows) a b c)) e h ∙ then_rooms l a b c

module _ (text orders masks result : List ℕ) where
  abbrev load : List Rule
  load = load_rules (read text) (length orders) (length masks) (length result)

  pub refused : (n : ℕ) → NotLoaded text n → LoadReply text orders masks result n orders masks result
  refused n e =
      let judged = not_read (read text) n (length orders) (length masks) (length result) e.some_number e.number_is in
      record {
        number_is = judged;
        orders_are = refused_kept load n judged (loaded orders_of (read text) orders) orders e.some_number;
        masks_are = refused_kept load n judged (loaded masks_of (read text) masks) masks e.some_number;
        result_is = refused_kept load n judged (loaded numbers_of (read text) result) result e.some_number;
      }

-- The rows of lent orders and masks, end to end again.
rows_orders : (k : ℕ) (orders masks : List ℕ) → length orders ≡ length masks * suc k → flatten (map (λ p. p.order) (pattern_rows k orders masks)) ≡ orders
unfolding pattern_rows flatten
rows_orders k [] [] h = refl
rows_orders k (x ∷ orders) [] h = absurd (omega arith)
rows_orders k orders (m ∷ masks) h =
    ap (λ (l : List ℕ). take (suc k) orders ++ l) (rows_orders k (drop (suc k) orders) masks (simp length-drop (omega arith))) ∙ take-append-drop (suc k) orders

rows_masks : (k : ℕ) (orders masks : List ℕ) → map (λ p. p.mask) (pattern_rows k orders masks) ≡ masks
unfolding pattern_rows
rows_masks k orders [] = refl
rows_masks k orders (m ∷ masks) = ap (λ (l : List ℕ). m ∷ l) (rows_masks k (drop (suc k) orders) masks)

pub whole : {t : List ℕ} {k count : ℕ} {orders masks : List ℕ} → InPlaces t k count orders masks → length orders ≡ 2298 → length masks ≡ 383 →
    Whole k (take (count * (k + 1)) orders) (take count masks)
whole {t} {k} {count} {orders} {masks} p o m =
    let c = length-take-le count masks (omega (arith, p.few)) in
    record {
      most = p.most;
      few = rw c p.few;
      long = length-take-le (count * (k + 1)) orders (omega (arith, list_places k count p.most p.few)) ∙ ap₂ (λ x y. x * y) (sym c) (add-one k);
    }

module _ (text orders masks result : List ℕ) {k count : ℕ} {own_orders own_masks : List ℕ} (p : InPlaces text k count own_orders own_masks)
    (w : Whole k (take (count * (k + 1)) own_orders) (take count own_masks)) where
  abbrev from_orders : List ℕ
  from_orders = take (count * (k + 1)) own_orders

  abbrev from_masks : List ℕ
  from_masks = take count own_masks

  abbrev rows : List Pattern
  rows = pattern_rows k from_orders from_masks

  abbrev list : PatternList
  list = record { k = k; announced = p.announced; rows = rows }

  reads : read text ≡ some list
  reads = p.reads ∙ ap (λ (n : ℕ). some (record { k = k; announced = p.announced; rows = pattern_rows k (take (count * n) own_orders) from_masks })) (sym (add-one k))

  abbrev room_rules : List Rule
  room_rules = rooms k (length from_masks) (length orders) (length masks) (length result)

  same_number : refusal room_rules ≡ refusal (load_rules (read text) (length orders) (length masks) (length result))
  same_number =
      ap (λ (n : ℕ). refusal (rooms k n (length orders) (length masks) (length result))) (sym (length_rows k from_orders from_masks))
      ∙ passed_over 0 (refusal (text_list_rules list)) (refusal (rooms k (length rows) (length orders) (length masks) (length result))) (sym p.fine ∙ ap (λ o. refusal (text_rules o)) reads) refl
      ∙ then_rooms list (length orders) (length masks) (length result)
      ∙ ap (λ o. refusal (load_rules o (length orders) (length masks) (length result))) (sym reads)

  same_values : (values : PatternList → List ℕ) (l : List ℕ) → loaded values (read text) l ≡ put_before (values list) l
  same_values values l = ap (λ o. loaded values o l) reads

  pub loaded_reply : {answer : ℕ} {orders' masks' result' : List ℕ} → HandedOver k from_orders from_masks orders masks result answer orders' masks' result' →
      LoadReply text orders masks result answer orders' masks' result'
  loaded_reply h =
      record {
        number_is = h.number_is ∙ same_number;
        orders_are = h.orders_are ∙ ap₂ (λ n (l : List ℕ). cond (eqb n 0) l orders) same_number (sym (same_values orders_of orders ∙ ap (λ (l : List ℕ). put_before l orders) (rows_orders k from_orders from_masks w.long)));
        masks_are = h.masks_are ∙ ap₂ (λ n (l : List ℕ). cond (eqb n 0) l masks) same_number (sym (same_values masks_of masks ∙ ap (λ (l : List ℕ). put_before l masks) (rows_masks k from_orders from_masks)));
        result_is = h.result_is ∙ ap₂ (λ n (l : List ℕ). cond (eqb n 0) l result) same_number (sym (same_values numbers_of result ∙ ap (λ (n : ℕ). put_before (k ∷ n ∷ []) result) (length_rows k from_orders from_masks)));
      }
