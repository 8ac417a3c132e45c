-- A closed tour ends at its depot, and is judged and measured so. Assumes nothing.
use Rattle.std.proofs.Common.{ℕ, List, [], ◌∷◌, ap, ◌∙◌, ℤ, Result}
use Rattle.theory.specs.Moves.{patterns}
use Rattle.theory.specs.Route.{tour_length}
use Rattle.theory.specs.Polish.{move_at}
use Rattle.theory.specs.Tables.{legs_only}
use Rattle.theory.specs.Answers.{reply}
use Rattle.theory.specs.declared.Refusal.{Refusal}
use Rattle.moves.specs.Moves.{length_change}
use Rattle.refusal_rules.proofs.Closed.{route_length_closed, delta_closed}
use Rattle.measure_calls.specs.Measures.{RouteLengthReply, RouteLengthToEndReply, DeltaReply, DeltaToEndReply}

pub closed_length : (locations : ℕ) (legs : List ℕ) (depot : ℕ) (route : List ℕ) (answer : Result ℕ Refusal) → RouteLengthToEndReply locations legs depot depot route answer →
    RouteLengthReply locations legs depot route answer
closed_length locations legs depot route answer r =
    record { reply_is = r.reply_is ∙ ap (λ n. reply n (tour_length (legs_only locations legs depot depot) route ∷ [])) (route_length_closed locations legs depot route) }

pub closed_delta : (k pattern : ℕ) (cuts : List ℕ) (locations : ℕ) (legs : List ℕ) (depot : ℕ) (route : List ℕ) (answer : Result ℤ Refusal) →
    DeltaToEndReply k pattern cuts locations legs depot depot route answer → DeltaReply k pattern cuts locations legs depot route answer
closed_delta k pattern cuts locations legs depot route answer r =
    record {
      reply_is = r.reply_is ∙ ap (λ n. reply n (length_change (legs_only locations legs depot depot) (move_at (patterns k) cuts pattern) route ∷ [])) (delta_closed locations legs depot route k pattern cuts);
    }

pub ruleset closed = (closed_length, closed_delta)
