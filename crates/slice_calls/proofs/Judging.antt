-- What a slice is handed, judged in parts. Assumes nothing.
use mathlib.Core.Path.{◌≡◌, refl, sym, ◌∙◌}
use mathlib.Core.List.{List, ◌∷◌}
use Prim.Native.Nat.{ℕ, suc, ◌+◌, ◌≤◌, ◌<◌}
use native.Mathlib.Omega.{arith}
use lib.ListN.{length}
use borrow.Author.Tests.{le-leb, lt-leb, ltb-false}
use Rattle.theory.specs.Tables.{Trip}
use Rattle.theory.specs.Refusals.{number, either, refusal, cut_count, room, paired_rules}
use Rattle.theory.proofs.Refusals.{known, either_zero, either_assoc}
use Rattle.theory.proofs.Checks.{passes}
use Rattle.theory.proofs.Taken.{taken_passes}
use Rattle.theory.proofs.Judged.{cut_count_fine}
use Rattle.slices.specs.Places.{place_rules}
use Rattle.slice_calls.specs.Slicing.{slice_rules, place_found, PlaceJudged}

-- The place's own rules, where the route has a cut set and where it has none.
pub with_cuts : (k n : ℕ) (place : List ℕ) → k ≤ n + 1 → either (place_found k n place) (number (room (k + 1) (length place))) ≡ refusal (place_rules k n place)
unfolding refusal
with_cuts k n place h =
    let e : suc k ≡ k + 1 = omega arith in
    rw (e, le-leb k (suc n) (omega arith)) (simp (either_assoc, either_zero))

pub without_cuts : (k n : ℕ) (place : List ℕ) (b : ℕ) → n + 1 < k → b ≡ number (room (k + 1) (length place)) → b ≡ refusal (place_rules k n place)
unfolding refusal either
without_cuts k n place b h q =
    let e : suc k ≡ k + 1 = omega arith in
    rw (e, lt-leb k (suc n) (omega arith)) (q ∙ sym (either_zero (number (room (k + 1) (length place)))))

-- What passes up to the place is let through.
pub let_through : (k : ℕ) (T : Trip) (route : List ℕ) → 0 ≡ number (cut_count k) → 0 ≡ refusal (paired_rules T route) → PlaceJudged k (length route)
unfolding known refusal
let_through k T route c t =
    let p = taken_passes (cut_count k ∷ paired_rules T route) 0 (passes _ _ _ c t) refl refl in
    let n = cut_count_fine k p.0 in
    record { least = n.0; most = n.1; short = ltb-false 512 (length route) p.1.1.1.1.1.1.1.1.0 }

-- The question, then the place, then the room.
pub slice_parts : (k : ℕ) (T : Trip) (route place : List ℕ) (lent : ℕ) →
    either (number (cut_count k)) (either (refusal (paired_rules T route)) (either (refusal (place_rules k (length route) place)) (number (room 6 lent)))) ≡ refusal (slice_rules k T route place lent)
unfolding refusal
slice_parts k T route place lent = simp (either_assoc, either_zero)
