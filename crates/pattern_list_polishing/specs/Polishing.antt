-- What polishing with a lent list of patterns promises: "takes its k and scans its rows in file order. The rival is then limited to those rows, and the
-- candidate bound counts them."
use Rattle.std.specs.Prelude.{◌≡◌, List, ◌++◌, ℕ, ◌≤◌, ◌<◌, length}
use Rattle.theory.specs.Moves.{Pattern}
use Rattle.theory.specs.Scan.{Reply}
use Rattle.theory.specs.Polish.{polish_with, Demand3}
use Rattle.theory.specs.Tables.{Trip, problem, Timed, PatternRows, pattern_rows}
use Rattle.theory.specs.Question.{Question}
use Rattle.theory.specs.Refusals.{Rule, trip_rules, paired_rules}
use Rattle.theory.specs.Answers.{handed_back}
use Rattle.precedence.specs.Words.{PairsFillable}
use Rattle.polish_numbers.specs.Replied.{Replied}
use Rattle.refusal_rules.specs.Rules.{with_room}
use Rattle.pattern_lists.specs.Lists.{list_rules}

-- Document 01's scan of a question, with the patterns listed in the order of the list.
abbrev pub asked_with : List Pattern → Question → Reply (List ℕ)
asked_with ps q = polish_with (problem q.trip) ps q.k q.allowance q.route

-- Judged by some rules: route and result are those of the scan with the patterns listed; and demand 3 with them, of what is handed back, whenever it returns 0.
pub record PolishedWith (rules : List Rule) (ps : List Pattern) (q : Question) (result : List ℕ) (answer : ℕ) (route' result' : List ℕ) : Type 0 where
  pub replied : Replied rules (problem q.trip) q.route (asked_with ps q) result answer route' result'
  pub demand3 : answer ≡ 0 → Demand3 (problem q.trip) ps q.k q.allowance q.route (handed_back result' route')

abbrev pub polish_list_rules : Question → (orders masks : List ℕ) → ℕ → List Rule
polish_list_rules q orders masks lent = with_room (list_rules q.k orders masks ++ trip_rules q.trip q.route) 6 lent

-- With the rows lent.
abbrev pub PolishWithPatternsReply : Question → (orders masks result : List ℕ) → ℕ → List ℕ → List ℕ → Type 0
PolishWithPatternsReply q orders masks result = PolishedWith (polish_list_rules q orders masks (length result)) (pattern_rows q.k orders masks) q result

-- The same with pairs: 29 beside the others.
abbrev pub polish_list_with_pairs_rules : Question → (orders masks : List ℕ) → ℕ → List Rule
polish_list_with_pairs_rules q orders masks lent = with_room (list_rules q.k orders masks ++ paired_rules q.trip q.route) 6 lent

abbrev pub PolishWithPatternsAndPairsReply : Question → (orders masks result : List ℕ) → ℕ → List ℕ → List ℕ → Type 0
PolishWithPatternsAndPairsReply q orders masks result = PolishedWith (polish_list_with_pairs_rules q orders masks (length result)) (pattern_rows q.k orders masks) q result

-- What polishing with lent rows asks where the words of the pairs are still to be made: a list that 29 does not refuse.
pub record RowsWithPairs (k : ℕ) (T : Trip) (orders masks route : List ℕ) : Type 0 where
  pub least : 2 ≤ k
  pub most : k ≤ 5
  pub timed : Timed T route
  pub patterns : PatternRows k orders masks
  pub not_empty : 0 < length masks
  pub fillable : PairsFillable T.pairs
