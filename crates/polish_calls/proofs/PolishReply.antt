-- The replies of the entries that polish with every pattern, and that of a list of all patterns, over plain values. Assumes nothing.
use mathlib.Core.Path.{◌≡◌, refl, sym}
use mathlib.Core.List.{List, [], ◌∷◌, ◌++◌}
use Prim.Native.Nat.{ℕ, suc, ◌*◌, ◌≤◌}
use native.Mathlib.Omega.{arith}
use lib.ListN.{length, drop}
use Rattle.theory.specs.Moves.{patterns}
use Rattle.theory.specs.Tables.{Tables, problem, pattern_rows}
use Rattle.theory.specs.Refusals.{Rule, refusal}
use Rattle.theory.specs.Question.{Question, question, question_with_pairs, question_rules, paired_question_rules}
use Rattle.theory.specs.Answers.{Polishes, polish_values}
use Rattle.theory.specs.declared.Polished.{Polished}
use Rattle.theory.proofs.Refusals.{Passes, known}
use Rattle.theory.proofs.Taken.{taken_passes}
use Rattle.polishing.specs.Loop.{Polishable, PolishableWithPairs}
use Rattle.polishing.proofs.Judged.{polishable_fine, polishable_with_pairs_fine, none_lent}
use Rattle.refusal_rules.specs.Rules.{polish_to_end_rules, polish_with_pairs_rules}
use Rattle.refusal_rules.proofs.Parts.{pass_with_room}
use Rattle.refusal_rules.proofs.Closed.{polish_closed, polish_unpaired}
use Rattle.pattern_list_polishing.specs.Polishing.{PolishWithPatternsReply, PolishWithPatternsAndPairsReply}
use Rattle.pattern_list_polishing.proofs.Replies.{refused_with, polished_with, alike}
use Rattle.pattern_list_polishing.proofs.Judging.{list_unpaired, full_rules}
use Rattle.polish_calls.specs.Polishing.{PolishReply, PolishToEndReply, PolishWithPairsReply}

module _ (q : Question) (result : List ℕ) (number : ℕ) (judged : number ≡ refusal (polish_to_end_rules q (length result))) where
  abbrev rules : List Rule
  rules = polish_to_end_rules q (length result)

  pub refused : (number ≡ 0 → ⊥) → PolishToEndReply q result number q.route result
  refused = refused_with rules (patterns q.k) q result number judged

  module _ (h : number ≡ 0) where
    passes : Passes (question_rules q) × (6 ≤ length result)
    unfolding known
    passes = pass_with_room (question_rules q) 6 (length result) (taken_passes rules number judged refl h)

    pub fine : q.trip.pairs ≡ [] → Polishable q.k q.trip [] q.route
    fine none = polishable_fine q [] (rw none (none_lent [] refl)) passes.0

    pub space : 6 ≤ length result
    space = passes.1

    pub polished : (answer : Polished) (route' result' : List ℕ) → Polishes (problem q.trip) (patterns q.k) q.k q.allowance q.route answer route' →
        result' ≡ polish_values answer ++ drop 6 result → PolishToEndReply q result 0 route' result'
    polished = polished_with rules (patterns q.k) q result number judged h

-- A closed tour: the entry's own rules refuse the same.
pub closed_polish : (k A : ℕ) (T : Tables) (depot : ℕ) (route result : List ℕ) {answer : ℕ} {route' result' : List ℕ} →
    PolishToEndReply (question k A T.locations T.legs T.latest T.service depot depot route) result answer route' result' →
    PolishReply (question k A T.locations T.legs T.latest T.service depot depot route) result answer route' result'
closed_polish k A T depot route result =
    alike (question k A T.locations T.legs T.latest T.service depot depot route) result (polish_closed k A T depot route (length result)) refl

-- ---- with pairs

module _ (q : Question) (result : List ℕ) (number : ℕ) (judged : number ≡ refusal (polish_with_pairs_rules q (length result))) where
  abbrev paired_rules : List Rule
  paired_rules = polish_with_pairs_rules q (length result)

  pub refused_paired : (number ≡ 0 → ⊥) → PolishWithPairsReply q result number q.route result
  refused_paired = refused_with paired_rules (patterns q.k) q result number judged

  module _ (h : number ≡ 0) where
    passes_paired : Passes (paired_question_rules q) × (6 ≤ length result)
    unfolding known
    passes_paired = pass_with_room (paired_question_rules q) 6 (length result) (taken_passes paired_rules number judged refl h)

    pub fine_paired : PolishableWithPairs q.k q.trip q.route
    fine_paired = polishable_with_pairs_fine q passes_paired.0

    pub space_paired : 6 ≤ length result
    space_paired = passes_paired.1

    pub polished_paired : (answer : Polished) (route' result' : List ℕ) → Polishes (problem q.trip) (patterns q.k) q.k q.allowance q.route answer route' →
        result' ≡ polish_values answer ++ drop 6 result → PolishWithPairsReply q result 0 route' result'
    polished_paired = polished_with paired_rules (patterns q.k) q result number judged h

-- "Entries of before act as with an empty list."
pub unpaired_polish : (k A : ℕ) (T : Tables) (depot end : ℕ) (route result : List ℕ) {answer : ℕ} {route' result' : List ℕ} →
    PolishWithPairsReply (question_with_pairs k A T.locations T.legs T.latest T.service depot end [] route) result answer route' result' →
    PolishToEndReply (question k A T.locations T.legs T.latest T.service depot end route) result answer route' result'
unpaired_polish k A T depot end route result =
    alike (question k A T.locations T.legs T.latest T.service depot end route) result (polish_unpaired k A T depot end route (length result)) refl

pub unpaired_list : (q : Question) (orders masks result : List ℕ) → q.trip.pairs ≡ [] → {answer : ℕ} {route' result' : List ℕ} →
    PolishWithPatternsAndPairsReply q orders masks result answer route' result' → PolishWithPatternsReply q orders masks result answer route' result'
unpaired_list q orders masks result none = alike q result (list_unpaired q orders masks (length result) none) refl

-- An empty list is answered by the call without pairs.
pub none_polished : (k A : ℕ) (T : Tables) (depot end : ℕ) (pairs route result : List ℕ) → length pairs ≡ 0 → {answer : ℕ} {route' result' : List ℕ} →
    PolishToEndReply (question k A T.locations T.legs T.latest T.service depot end route) result answer route' result' →
    PolishWithPairsReply (question_with_pairs k A T.locations T.legs T.latest T.service depot end pairs route) result answer route' result'
none_polished k A T depot end [] route result none =
    alike (question k A T.locations T.legs T.latest T.service depot end route) result (sym (polish_unpaired k A T depot end route (length result))) refl
none_polished k A T depot end (a ∷ l) route result none = absurd (omega (arith, none))

-- "A list of all patterns in index order gives the built-in replies."
pub full_list : (q : Question) (orders masks result : List ℕ) → pattern_rows q.k orders masks ≡ patterns q.k → length orders ≡ length masks * suc q.k →
    {answer : ℕ} {route' result' : List ℕ} → PolishWithPatternsReply q orders masks result answer route' result' → PolishToEndReply q result answer route' result'
full_list q orders masks result all long = alike q result (full_rules q orders masks (length result) all long) all
