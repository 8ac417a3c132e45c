-- What polishing with every pattern and the pair loop promise.
use Rattle.std.specs.Prelude.{◌≡◌, List, [], ℕ, length}
use Rattle.theory.specs.Moves.{patterns}
use Rattle.theory.specs.Route.{Problem}
use Rattle.theory.specs.Tables.{Tables, problem}
use Rattle.theory.specs.Question.{Question}
use Rattle.theory.specs.Refusals.{Rule}
use Rattle.theory.specs.Answers.{handed_back}
use Rattle.refusal_rules.specs.Rules.{polish_rules, polish_to_end_rules, polish_with_pairs_rules, pair_loop_rules}
use Rattle.pair_loop.specs.PairLoop.{pair_loop, PairPromise}
use Rattle.polish_numbers.specs.Replied.{Replied}
use Rattle.pattern_list_polishing.specs.Polishing.{PolishedWith}

-- With every pattern for k: the record of polishing with a list (crate pattern_list_polishing), over document 01's patterns.
abbrev pub PolishedBy : List Rule → Question → List ℕ → ℕ → List ℕ → List ℕ → Type 0
PolishedBy rules q = PolishedWith rules (patterns q.k) q

-- A closed tour: the entry is handed a question whose end is its depot.
abbrev pub PolishReply : Question → List ℕ → ℕ → List ℕ → List ℕ → Type 0
PolishReply q result = PolishedBy (polish_rules q (length result)) q result

abbrev pub PolishToEndReply : Question → List ℕ → ℕ → List ℕ → List ℕ → Type 0
PolishToEndReply q result = PolishedBy (polish_to_end_rules q (length result)) q result

-- To an end harbour, with pairs; those above have none.
abbrev pub PolishWithPairsReply : Question → List ℕ → ℕ → List ℕ → List ℕ → Type 0
PolishWithPairsReply q result = PolishedBy (polish_with_pairs_rules q (length result)) q result

-- The pair loop "keeps closed tours", and has no pairs.
abbrev pub closed_tour : Tables → (depot : ℕ) → Problem
closed_tour T depot = problem (record { tables = T; depot = depot; end = depot; pairs = [] })

-- Route and result are those of the pair loop; and what it keeps whenever it returns 0.
pub record PairLoopReply (allowance : ℕ) (T : Tables) (depot : ℕ) (route result : List ℕ) (answer : ℕ) (route' result' : List ℕ) : Type 0 where
  pub replied : Replied (pair_loop_rules T depot route (length result)) (closed_tour T depot) route (pair_loop (closed_tour T depot) allowance route) result answer route' result'
  pub promise : answer ≡ 0 → PairPromise (closed_tour T depot) allowance route (handed_back result' route')
