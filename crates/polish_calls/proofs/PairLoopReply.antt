-- The replies of the entry `mittenschist_pair_loop`, over plain values. Assumes nothing.
use mathlib.Core.Path.{◌≡◌, refl}
use mathlib.Core.List.{List, [], ◌++◌}
use Prim.Native.Nat.{ℕ, ◌≤◌}
use lib.ListN.{length, drop}
use Rattle.theory.specs.Route.{Problem}
use Rattle.theory.specs.Scan.{Reply}
use Rattle.theory.specs.Tables.{Tables, Timed}
use Rattle.theory.specs.Refusals.{Rule, refusal, problem_rules}
use Rattle.theory.specs.Answers.{polish_values}
use Rattle.theory.specs.declared.Polished.{Polished}
use Rattle.theory.proofs.Refusals.{Passes, known}
use Rattle.theory.proofs.Taken.{taken_passes}
use Rattle.theory.proofs.Judged.{closed}
use Rattle.theory.proofs.Judged.{clocked_fine}
use Rattle.pair_loop.specs.PairLoop.{pair_loop, PairsTried}
use Rattle.refusal_rules.specs.Rules.{pair_loop_rules}
use Rattle.refusal_rules.proofs.Parts.{pass_with_room}
use Rattle.polish_calls.specs.Polishing.{closed_tour, PairLoopReply}
use Rattle.polish_numbers.proofs.Replied.{nothing_told, told, read_back}

module _ (A : ℕ) (T : Tables) (depot : ℕ) (route result : List ℕ) (number : ℕ) (judged : number ≡ refusal (pair_loop_rules T depot route (length result))) where
  abbrev rules : List Rule
  rules = pair_loop_rules T depot route (length result)

  abbrev P : Problem
  P = closed_tour T depot

  abbrev looped : Reply (List ℕ)
  looped = pair_loop P A route

  pub refused : (number ≡ 0 → ⊥) → PairLoopReply A T depot route result number route result
  refused h = record { replied = nothing_told rules P route looped result number judged h; promise = λ z. absurd (h z) }

  module _ (h : number ≡ 0) where
    passes : Passes (problem_rules T depot route) × (6 ≤ length result)
    unfolding known
    passes = pass_with_room (problem_rules T depot route) 6 (length result) (taken_passes rules number judged refl h)

    pub fine : Timed (record { tables = T; depot = depot; end = depot; pairs = [] }) route
    fine = closed (clocked_fine T depot route passes.0)

    pub space : 6 ≤ length result
    space = passes.1

    pub tried : (answer : Polished) (route' result' : List ℕ) → PairsTried P A route answer route' → result' ≡ polish_values answer ++ drop 6 result →
        PairLoopReply A T depot route result 0 route' result'
    tried answer route' result' p e =
        record {
          replied = told rules P route looped result number judged h answer route' result' p.loop p.before p.after p.late e;
          promise = λ z. rw (e, read_back answer (drop 6 result) route') p.promise;
        }
