-- The replies of the entries of the run, over plain values. Assumes nothing.
use mathlib.Core.Path.{◌≡◌, refl, sym, ap, ◌∙◌}
use mathlib.Core.Bool.{cond}
use mathlib.Core.List.{List, [], ◌∷◌, ◌++◌}
use Prim.Native.Nat.{ℕ, ◌*◌}
use native.Mathlib.Omega.{arith}
use lib.Dec.{eqb}
use lib.ListN.{length, drop}
use Rattle.theory.specs.Tables.{Tables, Fleet, fleet}
use Rattle.theory.specs.Refusals.{Rule, refusal, cut_count, table_rules}
use Rattle.theory.proofs.Refusals.{known}
use Rattle.polishing.proofs.Judged.{none_lent, pairs_fine}
use Rattle.rounds.specs.Rounds.{rounds, routes}
use Rattle.run.specs.Run.{run, numbers, RunnableLent, RunnableWithPairs, Ran}
use Rattle.run.proofs.Judged.{runnable_fine}
use Rattle.refusal_rules.specs.Rules.{rounds_to_ends_rules, rounds_with_pairs_rules, run_rules, run_to_ends_rules, run_with_pairs_rules}
use Rattle.refusal_rules.proofs.Parts.{both_pass, pass_with_room}
use Rattle.refusal_rules.proofs.Closed.{run_closed, run_unpaired}
use Rattle.run_calls.specs.Runs.{RunBy, RunReply, RunToEndsReply, RunWithPairsReply}
use Rattle.theory.proofs.Taken.{refused_kept, taken_done, taken_passes}

-- Judged by some rules.
module _ (rules : List Rule) (k A : ℕ) (T : Tables) (F : Fleet) (pairs result : List ℕ) (number : ℕ) (judged : number ≡ refusal rules) where
  abbrev stops_done : List ℕ
  stops_done = routes (run k A (rounds T F pairs))

  abbrev result_done : List ℕ
  result_done = numbers (run k A (rounds T F pairs)) ++ drop (4 * length F.lengths) result

  pub run_refused : (number ≡ 0 → ⊥) → RunBy rules k A T F pairs result number F.stops result
  run_refused h =
      record {
        number_is = judged;
        stops_are = refused_kept rules number judged stops_done F.stops h;
        result_is = refused_kept rules number judged result_done result h;
        ran = λ z. absurd (h z);
      }

  pub has_run : number ≡ 0 → (stops' result' : List ℕ) → Ran k A T F pairs result stops' result' → RunBy rules k A T F pairs result 0 stops' result'
  has_run h stops' result' r =
      record {
        number_is = sym h ∙ judged;
        stops_are = r.stops_are ∙ taken_done rules number judged stops_done F.stops h;
        result_is = r.result_is ∙ taken_done rules number judged result_done result h;
        ran = λ z. r;
      }

-- Without pairs no words are lent.
pub runnable : (k : ℕ) (T : Tables) (F : Fleet) (result : List ℕ) (number : ℕ) → number ≡ refusal (run_to_ends_rules k T F (length result)) → number ≡ 0 → RunnableLent k T F [] [] result
unfolding known
runnable k T F result number judged h =
    let rounds_of = rounds_to_ends_rules T.locations F in
    let p = pass_with_room (cut_count k ∷ (table_rules T ++ rounds_of)) (4 * length F.lengths) (length result) (taken_passes (run_to_ends_rules k T F (length result)) number judged refl h) in
    let t = both_pass (table_rules T) rounds_of p.0.1 in
    record {
      runnable = runnable_fine k T F result p.0.0 t.0 t.1.0 t.1.1.0 t.1.1.1.0 t.1.1.1.1.0 p.1;
      lent = none_lent [] refl;
    }

pub runnable_with_pairs : (k : ℕ) (T : Tables) (F : Fleet) (pairs result : List ℕ) (number : ℕ) →
    number ≡ refusal (run_with_pairs_rules k T F pairs (length result)) → number ≡ 0 → RunnableWithPairs k T F pairs result
unfolding known
runnable_with_pairs k T F pairs result number judged h =
    let rounds_of = rounds_with_pairs_rules T.locations F pairs in
    let p = pass_with_room (cut_count k ∷ (table_rules T ++ rounds_of)) (4 * length F.lengths) (length result) (taken_passes (run_with_pairs_rules k T F pairs (length result)) number judged refl h) in
    let t = both_pass (table_rules T) rounds_of p.0.1 in
    let q = t.1.1.1 in
    let fine = runnable_fine k T F result p.0.0 t.0 t.1.0 t.1.1.0 q.1.0 q.1.1.0 p.1 in
    record { runnable = fine; fillable = pairs_fine T.locations pairs fine.table.few q.0 }

-- Rules that refuse the same.
run_alike : {rules rules' : List Rule} (k A : ℕ) (T : Tables) (F : Fleet) (pairs result : List ℕ) → refusal rules ≡ refusal rules' → {answer : ℕ} {stops' result' : List ℕ} →
    RunBy rules k A T F pairs result answer stops' result' → RunBy rules' k A T F pairs result answer stops' result'
run_alike k A T F pairs result e r =
    record {
      number_is = r.number_is ∙ e;
      stops_are = r.stops_are ∙ ap (λ n. cond (eqb n 0) (routes (run k A (rounds T F pairs))) F.stops) e;
      result_is = r.result_is ∙ ap (λ n. cond (eqb n 0) (numbers (run k A (rounds T F pairs)) ++ drop (4 * length F.lengths) result) result) e;
      ran = r.ran;
    }

-- Closed tours: the entry's own rules refuse the same.
pub closed_run : (k A : ℕ) (T : Tables) (stops lengths depots pins result : List ℕ) {answer : ℕ} {stops' result' : List ℕ} →
    RunToEndsReply k A T (fleet stops lengths depots depots pins) result answer stops' result' → RunReply k A T (fleet stops lengths depots depots pins) result answer stops' result'
closed_run k A T stops lengths depots pins result =
    let F = fleet stops lengths depots depots pins in
    run_alike {rules = run_to_ends_rules k T F (length result)} {rules' = run_rules k T F (length result)} k A T F [] result (run_closed k T stops lengths depots pins (length result))

-- "Entries of before act as with an empty list."
pub unpaired_run : (k A : ℕ) (T : Tables) (F : Fleet) (result : List ℕ) {answer : ℕ} {stops' result' : List ℕ} →
    RunWithPairsReply k A T F [] result answer stops' result' → RunToEndsReply k A T F result answer stops' result'
unpaired_run k A T F result =
    run_alike {rules = run_with_pairs_rules k T F [] (length result)} {rules' = run_to_ends_rules k T F (length result)} k A T F [] result (run_unpaired k T F (length result))

-- An empty list is answered by the call without pairs.
pub none_ran : (k A : ℕ) (T : Tables) (F : Fleet) (pairs result : List ℕ) → length pairs ≡ 0 → {answer : ℕ} {stops' result' : List ℕ} →
    RunToEndsReply k A T F result answer stops' result' → RunWithPairsReply k A T F pairs result answer stops' result'
none_ran k A T F [] result none =
    run_alike {rules = run_to_ends_rules k T F (length result)} {rules' = run_with_pairs_rules k T F [] (length result)} k A T F [] result (sym (run_unpaired k T F (length result)))
none_ran k A T F (a ∷ l) result none = absurd (omega (arith, none))
