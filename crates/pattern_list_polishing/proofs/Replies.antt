-- The reply of polishing with some patterns, judged by some rules, over plain values. Assumes nothing.
use mathlib.Core.Path.{◌≡◌, subst}
use mathlib.Core.List.{List, ◌++◌}
use Prim.Native.Nat.{ℕ}
use lib.ListN.{drop}
use Rattle.theory.specs.Moves.{Pattern}
use Rattle.theory.specs.Route.{Problem}
use Rattle.theory.specs.Tables.{problem}
use Rattle.theory.specs.Refusals.{Rule, refusal}
use Rattle.theory.specs.Question.{Question}
use Rattle.theory.specs.Answers.{Polishes, polish_values}
use Rattle.theory.specs.declared.Polished.{Polished}
use Rattle.polish_numbers.proofs.Replied.{nothing_told, told, read_back, judged_otherwise}
use Rattle.pattern_list_polishing.specs.Polishing.{asked_with, PolishedWith}

module _ (rules : List Rule) (ps : List Pattern) (q : Question) (result : List ℕ) (number : ℕ) (judged : number ≡ refusal rules) where
  abbrev P : Problem
  P = problem q.trip

  pub refused_with : (number ≡ 0 → ⊥) → PolishedWith rules ps q result number q.route result
  refused_with h = record { replied = nothing_told rules P q.route (asked_with ps q) result number judged h; demand3 = λ z. absurd (h z) }

  pub polished_with : number ≡ 0 → (answer : Polished) (route' result' : List ℕ) → Polishes P ps q.k q.allowance q.route answer route' →
      result' ≡ polish_values answer ++ drop 6 result → PolishedWith rules ps q result 0 route' result'
  polished_with h answer route' result' p e =
      record {
        replied = told rules P q.route (asked_with ps q) result number judged h answer route' result' p.scan p.before p.after p.late e;
        demand3 = λ z. rw (e, read_back answer (drop 6 result) route') p.demand3;
      }

-- Rules that refuse the same, and the same patterns.
pub alike : {rules rules' : List Rule} {ps ps' : List Pattern} (q : Question) (result : List ℕ) → refusal rules ≡ refusal rules' → ps ≡ ps' → {answer : ℕ} {route' result' : List ℕ} →
    PolishedWith rules ps q result answer route' result' → PolishedWith rules' ps' q result answer route' result'
alike {rules} {rules'} {ps} {ps'} q result e same {answer} {route'} {result'} p =
    subst (λ (l : List Pattern). PolishedWith rules' l q result answer route' result') same (record { replied = judged_otherwise e p.replied; demand3 = p.demand3 })
