-- What the rules establish where none applies. Assumes nothing.
use Rattle.std.proofs.Common.{◌≡◌, ℕ, List, length, refl}
use Rattle.theory.specs.Tables.{Measurable, tables, Clocked}
use Rattle.theory.specs.Refusals.{refusal, problem_rules}
use Rattle.theory.proofs.Refusals.{known}
use Rattle.theory.proofs.Judged.{measurable_fine, pattern_fine, cuts_fine, clocked_fine}
use Rattle.theory.proofs.Taken.{taken_passes}
use Rattle.moves.specs.Moves.{Comparable}
use Rattle.refusal_rules.specs.Rules.{route_length_to_end_rules, delta_to_end_rules}

pub measurable : (locations : ℕ) (legs : List ℕ) (depot end : ℕ) (route : List ℕ) → 0 ≡ refusal (route_length_to_end_rules locations legs depot end route) → Measurable locations legs depot end route
unfolding known
measurable locations legs depot end route judged =
    let p = taken_passes (route_length_to_end_rules locations legs depot end route) 0 judged refl refl in
    measurable_fine locations legs depot end route p.0 p.1.0 p.1.1.0 p.1.1.1.0 p.1.1.1.1.0

pub comparable : (k pattern : ℕ) (cuts : List ℕ) (locations : ℕ) (legs : List ℕ) (depot end : ℕ) (route : List ℕ) → 0 ≡ refusal (delta_to_end_rules k pattern cuts locations legs depot end route) →
    Comparable k pattern cuts locations legs depot end route
unfolding known
comparable k pattern cuts locations legs depot end route judged =
    let p = taken_passes (delta_to_end_rules k pattern cuts locations legs depot end route) 0 judged refl refl in
    let r = p.1.1.1.1.1 in
    record {
      cut_set = cuts_fine k (length route) cuts r.0 p.1.1.1.1.0 r.1.1.0;
      listed = pattern_fine k pattern r.1.0;
      measurable = measurable_fine locations legs depot end route p.0 p.1.0 p.1.1.0 p.1.1.1.0 p.1.1.1.1.0;
    }

pub clocked : (locations : ℕ) (legs latest service : List ℕ) (depot : ℕ) (route : List ℕ) → 0 ≡ refusal (problem_rules (tables locations legs latest service) depot route) → Clocked (tables locations legs latest service) depot route
unfolding known
clocked locations legs latest service depot route judged =
    let T = tables locations legs latest service in
    clocked_fine T depot route (taken_passes (problem_rules T depot route) 0 judged refl refl)

pub ruleset fine = (measurable, comparable, clocked)
