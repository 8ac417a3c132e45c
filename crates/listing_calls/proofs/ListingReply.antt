-- The replies of the two listings and of those that write their number, over plain values. Assumes nothing.
use mathlib.Core.Path.{◌≡◌, refl, ap, ◌∙◌, subst}
use mathlib.Core.List.{List}
use Prim.Native.Nat.{ℕ, ◌≤◌}
use lib.Ieee.{Float}
use lib.ListN.{length}
use Rattle.std.specs.Prelude.{Ok, Err}
use Rattle.theory.specs.Numbers.{refusal_number}
use Rattle.theory.specs.declared.Refusal.{Refusal}
use Rattle.theory.proofs.Checks.{some, err_reply, ok_reply}
use Rattle.theory.specs.Refusals.{Rule, refusal}
use Rattle.theory.specs.Answers.{reply}
use Rattle.theory.specs.Answers.{listing_values as shown}
use Rattle.theory.specs.declared.Listing.{Listing}
use Rattle.theory.proofs.Refusals.{Passes, known}
use Rattle.theory.proofs.Judged.{room_fine}
use Rattle.theory.proofs.Taken.{refused_kept, taken_done, taken_passes}
use Rattle.nearby.specs.Listing.{NearbyInput, Lists}
use Rattle.nearby.proofs.Judged.{nearby_fine}
use Rattle.refusal_rules.specs.Rules.{nearby_rules, with_room}
use Rattle.entry_results.specs.Handed.{Handed}
use Rattle.entry_results.proofs.Handing.{handed_done}
use Rattle.listing_calls.specs.Listings.{listing_values, listing_places, ListingReply, ListingWritten}
use Rattle.entry_results.proofs.Written.{nothing_written, values_written}

pub listing_err : (n : ℕ) (distances : List Float) (k m neighbours : ℕ) (sets : List ℕ) (all : List (List ℕ)) (e : Refusal) → refusal_number e ≡ refusal (nearby_rules n distances k m neighbours (length sets)) → ListingReply (nearby_rules n distances k m neighbours (length sets)) all k sets (Err e) sets
listing_err n distances k m neighbours sets all e free =
    record {
      reply_is = err_reply e _ _ free;
      sets_are = refused_kept (nearby_rules n distances k m neighbours (length sets)) (refusal_number e) free (listing_places all k sets) sets (some e);
    }

pub listing_fine : (n : ℕ) (distances : List Float) (k m neighbours : ℕ) (sets : List ℕ) → 0 ≡ refusal (nearby_rules n distances k m neighbours (length sets)) → NearbyInput n distances k m neighbours (length sets)
unfolding known
listing_fine n distances k m neighbours sets judged =
    let p = taken_passes (nearby_rules n distances k m neighbours (length sets)) 0 judged refl refl in
    nearby_fine k n distances m neighbours (length sets) p.0 p.1.0 p.1.1.0 p.1.1.1.0

pub listing_ok : (n : ℕ) (distances : List Float) (k m neighbours : ℕ) (sets : List ℕ) (all : List (List ℕ)) (answer : Listing) (sets' : List ℕ) → 0 ≡ refusal (nearby_rules n distances k m neighbours (length sets)) → Lists n k m all sets answer sets' →
    ListingReply (nearby_rules n distances k m neighbours (length sets)) all k sets (Ok answer) sets'
listing_ok n distances k m neighbours sets all answer sets' free l =
    record {
      reply_is = ap (λ v. reply 0 v) l.answer_is ∙ ok_reply _ _ free;
      sets_are = l.lent_is ∙ taken_done (nearby_rules n distances k m neighbours (length sets)) 0 free (listing_places all k sets) sets refl;
    }

module _ (n : ℕ) (distances : List Float) (k m neighbours : ℕ) (sets result : List ℕ) (number : ℕ)
    (judged : number ≡ refusal (with_room (nearby_rules n distances k m neighbours (length sets)) 2 (length result))) where
  abbrev given : List Rule
  given = nearby_rules n distances k m neighbours (length sets)

  abbrev asked : List Rule
  asked = with_room given 2 (length result)

  call_refused : (all : List (List ℕ)) → (number ≡ 0 → ⊥) → ListingWritten given all k sets result number sets result
  call_refused all h =
      record {
        written = nothing_written given 2 (listing_values all k sets) result number judged h;
        sets_are = refused_kept asked number judged (listing_places all k sets) sets h;
      }

  module _ (h : number ≡ 0) where
    passes : Passes asked
    unfolding known
    passes = taken_passes asked number judged refl h

    call_fine : NearbyInput n distances k m neighbours (length sets)
    call_fine = nearby_fine k n distances m neighbours (length sets) passes.0 passes.1.0 passes.1.1.0 passes.1.1.1.0

    call_space : 2 ≤ length result
    call_space = room_fine 2 (length result) passes.1.1.1.1.0

    call_listed : (all : List (List ℕ)) (answer : Listing) (sets' : List ℕ) → Lists n k m all sets answer sets' → (a : ℕ) (result' : List ℕ) →
        Handed (reply 0 (shown answer)) result a result' → ListingWritten given all k sets result a sets' result'
    call_listed all answer sets' l a result' handed =
        let d = handed_done (listing_values all k sets) result result' a (subst (λ v. Handed (reply 0 v) result a result') l.answer_is handed) call_space in
        record {
          written = values_written given 2 (listing_values all k sets) result number judged h a result' d.0 d.1;
          sets_are = l.lent_is ∙ taken_done asked number judged (listing_places all k sets) sets h;
        }

-- ---- in a lent result

pub written_err : (n : ℕ) (distances : List Float) (k m neighbours : ℕ) (sets result : List ℕ) (all : List (List ℕ)) (e : Refusal) → refusal_number e ≡ refusal (with_room (nearby_rules n distances k m neighbours (length sets)) 2 (length result)) → ListingWritten (nearby_rules n distances k m neighbours (length sets)) all k sets result (refusal_number e) sets result
written_err n distances k m neighbours sets result all e free = call_refused n distances k m neighbours sets result (refusal_number e) free all (some e)

pub written_fine : (n : ℕ) (distances : List Float) (k m neighbours : ℕ) (sets result : List ℕ) → 0 ≡ refusal (with_room (nearby_rules n distances k m neighbours (length sets)) 2 (length result)) → NearbyInput n distances k m neighbours (length sets)
written_fine n distances k m neighbours sets result free = call_fine n distances k m neighbours sets result 0 free refl

pub written_ok : (n : ℕ) (distances : List Float) (k m neighbours : ℕ) (sets result : List ℕ) (all : List (List ℕ)) (answer : Listing) (sets' values : List ℕ) (number : ℕ) (result' : List ℕ) → 0 ≡ refusal (with_room (nearby_rules n distances k m neighbours (length sets)) 2 (length result)) → Lists n k m all sets answer sets' →
    values ≡ shown answer → Handed (reply 0 values) result number result' → ListingWritten (nearby_rules n distances k m neighbours (length sets)) all k sets result number sets' result'
written_ok n distances k m neighbours sets result all answer sets' values number result' free l told handed =
    call_listed n distances k m neighbours sets result 0 free refl all answer sets' l number result' (rw told at handed)

pub ruleset listing = (listing_err, listing_fine, listing_ok, written_err, written_fine, written_ok)
