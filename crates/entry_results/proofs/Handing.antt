-- Answers handed over, over plain values. Assumes nothing.
use mathlib.Core.Path.{◌≡◌, refl, sym, ◌∙◌}
use mathlib.Core.Bool.{Bool, true, false, cond, true≢false}
use mathlib.Core.List.{List, [], ◌∷◌, ◌++◌}
use Prim.Native.Nat.{ℕ, ◌<◌, ◌≤◌}
use native.Mathlib.Omega.{arith}
use lib.Dec.{eqb}
use lib.ListN.{length, drop, set}
use borrow.Author.Tests.{lt-ltb, le-ltb, eqb-true}
use Rattle.theory.specs.Refusals.{either}
use Rattle.theory.specs.Answers.{reply, refused}
use Rattle.theory.proofs.Refusals.{either_zero}
use Rattle.entry_results.specs.Handed.{Handed}

-- A refused answer's number, whatever is lent.
pub handed_refused : {A : Type 0} (n : ℕ) (result : List A) → Handed (refused n) result n result
handed_refused n result =
    record {
      number_is = rw (le-ltb (length result) 0 (omega arith)) (sym (either_zero n));
      result_is = kept (eqb n 0);
    }
  where
    kept : (b : Bool) → result ≡ cond b result result
    kept true = refl
    kept false = refl

pub handed_short : {A : Type 0} (values result : List A) → length result < length values → Handed (reply 0 values) result 21 result
unfolding either
handed_short values result h = record { number_is = rw (lt-ltb (length result) (length values) h); result_is = refl }

pub handed_values : {A : Type 0} (values result result' : List A) → length values ≤ length result → result' ≡ values ++ drop (length values) result → Handed (reply 0 values) result 0 result'
unfolding either
handed_values values result result' h e = record { number_is = rw (le-ltb (length result) (length values) h); result_is = e }

-- Where there is room, the values are handed over.
pub handed_done : {A : Type 0} (values result result' : List A) (n : ℕ) → Handed (reply 0 values) result n result' → length values ≤ length result → (n ≡ 0) × (result' ≡ values ++ drop (length values) result)
unfolding either
handed_done values result result' n h r =
    let zero_is : n ≡ 0 = h.number_is ∙ rw (le-ltb (length result) (length values) r) in
    (zero_is, rw zero_is at h.result_is)

-- One value in the first place.
pub handed_value : {A : Type 0} (v : A) (result : List A) → eqb (length result) 0 ≡ false → Handed (reply 0 (v ∷ [])) result 0 (set result 0 v)
handed_value v [] h = absurd (true≢false h)
handed_value v (x ∷ result) h = handed_values (v ∷ []) (x ∷ result) _ (omega arith) refl

pub handed_empty : {A : Type 0} (v : A) (result : List A) → eqb (length result) 0 ≡ true → Handed (reply 0 (v ∷ [])) result 21 result
handed_empty v result h = let e = eqb-true (length result) 0 h in handed_short (v ∷ []) result (omega arith)

pub ruleset handing = (handed_short, handed_values)
