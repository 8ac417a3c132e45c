-- The lengths of a text that is answered: the round is no longer than before, and both fit 64 bits many times over. Assumes nothing.
use mathlib.Core.Path.{◌≡◌, refl, ap}
use mathlib.Core.List.{List, [], ◌∷◌, ◌++◌}
use mathlib.Core.Option.{some, none-ne-some, some-injective}
use Prim.Native.Nat.{ℕ, zero, suc, ◌*◌, ◌≤◌}
use native.Mathlib.Omega.{arith}
use native.Mathlib.Decide.{ℕ_discrete}
use lib.ListN.{length, length-append}
use Rattle.theory.specs.Moves.{patterns}
use Rattle.theory.specs.Scan.{Reply}
use Rattle.theory.specs.Route.{Problem, path, tour_length}
use Rattle.theory.specs.Tables.{problem}
use Rattle.theory.specs.Polish.{polish, Demand3}
use Rattle.theory.specs.Refusals.{refusal}
use Rattle.theory.specs.Question.{Question, question_rules}
use Rattle.theory.proofs.Polish.{polish_demand3}
use Rattle.theory.proofs.Refusals.{known, accepted}
use Rattle.theory.proofs.Judged.{cut_count_fine}
use Rattle.polishing.proofs.Judged.{timed_fine}
use Rattle.text_problem.specs.Judged.{Judged, refused, taken, judged}
use Rattle.text_polishing.specs.Outcome.{lengths_of, outcome_of, outcome, lengths}
use Rattle.text_polishing.proofs.Outcome.{taken_fine}

path_small : (d : ℕ → ℕ → ℕ) (most : ℕ) → ((a b : ℕ) → d a b ≤ most) → (a : ℕ) (xs : List ℕ) → path d a xs ≤ most * length xs
unfolding path
path_small d most small a [] = omega arith
path_small d most small a (x ∷ xs) = omega (arith, small a x, path_small d most small x xs)

-- 513 legs of at most 1,000,000 seconds.
tour_small : (P : Problem) (route : List ℕ) → ((a b : ℕ) → P.leg a b ≤ 1000000) → length route ≤ 512 → tour_length P route ≤ 513000000
unfolding tour_length
tour_small P route small short =
    omega (arith, path_small P.leg 1000000 small P.depot (route ++ (P.end ∷ [])), length-append route (P.end ∷ []))

no_longer : (P : Problem) (k a : ℕ) (r : List ℕ) (q : Reply (List ℕ)) → Demand3 P (patterns (suc k)) (suc k) a r q → tour_length P q.route ≤ tour_length P r
no_longer P k a r q d = by (ℕ_discrete q.accepted 0)
  where
    by : Dec (q.accepted ≡ 0) → tour_length P q.route ≤ tour_length P r
    by (yes e) = rw (d.unchanged e) (omega arith)
    by (no n) = omega (arith, (d.changed (omega arith)).1)

polished_no_longer : (P : Problem) (k a : ℕ) (r : List ℕ) → 2 ≤ k → tour_length P (polish P k a r).route ≤ tour_length P r
polished_no_longer P zero a r h = absurd (omega arith)
polished_no_longer P (suc k) a r h = no_longer P k a r (polish P (suc k) a r) (polish_demand3 P k a r)

-- What the lengths before and after keep to.
pub record Lengths (before after : ℕ) : Type 0 where
  pub no_longer_after : after ≤ before
  pub small : before ≤ 513000000

lengths_kept : (j : Judged) → ((q : Question) → j ≡ taken q → refusal (question_rules q) ≡ 0) → (x y : ℕ) → lengths_of (outcome_of j) ≡ some (x, y) → Lengths x y
unfolding known
lengths_kept (refused number) f x y e = absurd (none-ne-some (x, y) e)
lengths_kept (taken q) f x y e =
    let P = problem q.trip in
    let p = accepted (question_rules q) refl (f q refl) in
    let t = (timed_fine q.trip q.route p.1).measurable in
    let before : tour_length P q.route ≡ x = ap (λ (l : ℕ × ℕ). l.0) (some-injective _ _ e) in
    let after : tour_length P (polish P q.k q.allowance q.route).route ≡ y = ap (λ (l : ℕ × ℕ). l.1) (some-injective _ _ e) in
    record {
      no_longer_after = rw (← before, ← after) (polished_no_longer P q.k q.allowance q.route (cut_count_fine q.k p.0).0);
      small = rw (← before) (tour_small P q.route (λ a b. t.table.small _) t.stops.short);
    }

pub kept_lengths : (text : List ℕ) (x y : ℕ) → lengths text ≡ some (x, y) → Lengths x y
unfolding outcome
kept_lengths text x y e = lengths_kept (judged text) (taken_fine text) x y e
