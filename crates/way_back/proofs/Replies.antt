-- The replies of the call, over plain values. Assumes nothing.
use mathlib.Core.Path.{◌≡◌, refl, sym, ap, ap₂, ◌∙◌}
use mathlib.Core.List.{List, [], ◌∷◌, ◌++◌, Memᴰ}
use Prim.Native.Nat.{ℕ, suc, ◌+◌, ◌-◌, ◌≤◌}
use native.Mathlib.Numerals.{add-one}
use native.Mathlib.Omega.{arith}
use lib.ListN.{length, take, drop, set, length-append}
use lib.Seq.{take_at}
use Rattle.theory.specs.Numbers.{refusal_number}
use Rattle.theory.specs.declared.Refusal.{Refusal}
use Rattle.theory.proofs.Checks.{some}
use Rattle.theory.specs.Moves.{Pattern, patterns}
use Rattle.theory.specs.Refusals.{refusal}
use Rattle.theory.specs.declared.KOptReconnection.{KOptReconnection}
use Rattle.theory.proofs.Index.{mem_get_or, length_pattern}
use Rattle.theory.proofs.Refusals.{known}
use Rattle.theory.proofs.Judged.{pattern_fine, cuts_fine, room_fine}
use Rattle.theory.proofs.Taken.{refused_kept, taken_done, taken_passes}
use Rattle.patterns.specs.Enumeration.{pattern, HoldsPattern}
use Rattle.inverse.specs.WayBack.{inverse_order, inverse_mask, ends, inverse_cuts, way_back}
use Rattle.inverse.specs.PatternIndex.{index_of}
use Rattle.inverse.specs.GoesBack.{move_back, back_values, GoesBack}
use Rattle.inverse.proofs.GoesBack.{goes_back}
use Rattle.way_back.specs.WayBack.{way_back_rules, WayBackReply, ListedPattern, sizes_of, CutPlaces, Invertible}
use Rattle.way_back.proofs.Index.{each_once}

-- The pattern that the index names, as the struct holds it.
module _ (k index n : ℕ) (cuts result : List ℕ) (v : Invertible k index n cuts result) (found : KOptReconnection) (holds : HoldsPattern k (pattern k index) found) where
  abbrev order : List ℕ
  order = take (k + 1) found.segment_order

  member : Memᴰ (pattern k index) (patterns k)
  member = mem_get_or (patterns k) index (record { order = []; mask = 0 }) v.listed

  size : length (pattern k index).order ≡ k + 1
  size = length_pattern k (pattern k index) member ∙ sym (add-one k)

  order_is : order ≡ (pattern k index).order
  order_is = rw holds.order (take_at (pattern k index).order _ (k + 1) size)

  pub wide : k + 1 ≤ length found.segment_order
  wide = rw holds.order (simp length-append (omega (arith, size)))

  pub long : k + 1 ≡ length order
  long = sym (ap length order_is ∙ size)

  pub listed : ListedPattern k order found.reverse_mask
  listed = record { least = v.cut_set.least; most = v.cut_set.most; listed = rw (order_is, holds.mask) member }

  pub cut_places : (out : List ℕ) → length out ≡ k → CutPlaces cuts n order out
  cut_places out h =
      let many = v.cut_set.many in
      record {
        cut_set = rw many v.cut_set;
        once = λ g. rw (many, order_is) (each_once k (pattern k index) (omega (arith, v.cut_set.least)) member g);
        places = h ∙ sym many;
      }

  -- The index in the first place, the cuts behind it, and what stood beyond.
  pub values_are : (i : ℕ) (cs : List ℕ) → i ≡ index_of k (record { order = inverse_order order; mask = inverse_mask order found.reverse_mask }) → cs ≡ ends 0 (sizes_of cuts n order) →
      take 1 (set result 0 i) ++ (cs ++ drop (k + 1 - 1) (drop 1 (set result 0 i))) ≡ back_values k index n cuts ++ drop (k + 1) result
  unfolding way_back inverse_cuts
  values_are i cs e f =
      let less : k + 1 - 1 ≡ k = omega arith in
      let p : Pattern = pattern k index in
      let same : i ≡ index_of k (record { order = inverse_order p.order; mask = inverse_mask p.order p.mask }) =
      e ∙ ap₂ (λ (o : List ℕ) m. index_of k (record { order = inverse_order o; mask = inverse_mask o m })) order_is holds.mask in
      let cuts_are : cs ≡ ends 0 (sizes_of cuts n p.order) = f ∙ ap (λ (o : List ℕ). ends 0 (sizes_of cuts n o)) order_is in
      rw (less, add-one k) (by result v.places ∙ ap₂ (λ x (l : List ℕ). x ∷ (l ++ drop (suc k) result)) same cuts_are)
    where
      by : (l : List ℕ) → k + 1 ≤ length l → take 1 (set l 0 i) ++ (cs ++ drop k (drop 1 (set l 0 i))) ≡ i ∷ (cs ++ drop (suc k) l)
      by [] h = absurd (omega arith)
      by (x ∷ l) h = refl

module _ (k index n : ℕ) (cuts result : List ℕ) (number : ℕ) (judged : number ≡ refusal (way_back_rules k index n cuts (length result))) where
  abbrev done : List ℕ
  done = back_values k index n cuts ++ drop (k + 1) result

  refused : (number ≡ 0 → ⊥) → WayBackReply k index n cuts result number result
  refused h =
      record {
        number_is = judged;
        result_is = refused_kept (way_back_rules k index n cuts (length result)) number judged done result h;
        goes_back = λ z. absurd (h z);
      }

  module _ (h : number ≡ 0) where
    fine : Invertible k index n cuts result
    unfolding known
    fine =
        let p = taken_passes (way_back_rules k index n cuts (length result)) number judged refl h in
        record {
          cut_set = cuts_fine k n cuts p.0 p.1.0 p.1.1.1.0;
          listed = pattern_fine k index p.1.1.0;
          places = room_fine (k + 1) (length result) p.1.1.1.1.0;
        }

    back : GoesBack k index n cuts (index_of k (move_back k index n cuts).pattern) (move_back k index n cuts).cuts
    back = goes_back k index n cuts fine.cut_set.many fine.cut_set.rising fine.listed

    written : (result' : List ℕ) → result' ≡ back_values k index n cuts ++ drop (k + 1) result → WayBackReply k index n cuts result 0 result'
    written result' e =
        record {
          number_is = sym h ∙ judged;
          result_is = e ∙ taken_done (way_back_rules k index n cuts (length result)) number judged done result h;
          goes_back = λ z. rw (e, take_at (move_back k index n cuts).cuts (drop (k + 1) result) k back.many) back;
        }

pub way_back_err : (k index n : ℕ) (cuts result : List ℕ) (e : Refusal) → refusal_number e ≡ refusal (way_back_rules k index n cuts (length result)) → WayBackReply k index n cuts result (refusal_number e) result
way_back_err k index n cuts result e free = refused k index n cuts result (refusal_number e) free (some e)

pub way_back_fine : (k index n : ℕ) (cuts result : List ℕ) → 0 ≡ refusal (way_back_rules k index n cuts (length result)) → Invertible k index n cuts result
way_back_fine k index n cuts result free = fine k index n cuts result 0 free refl

pub way_back_ok : (k index n : ℕ) (cuts result result' : List ℕ) → 0 ≡ refusal (way_back_rules k index n cuts (length result)) → result' ≡ back_values k index n cuts ++ drop (k + 1) result → WayBackReply k index n cuts result 0 result'
way_back_ok k index n cuts result result' free e = written k index n cuts result 0 free refl result' e

pub ruleset replies = (way_back_err, way_back_fine, way_back_ok)
