-- The reply of the entry of the shares, over plain values. Assumes nothing.
use mathlib.Core.Path.{◌≡◌, sym, ◌∙◌}
use mathlib.Core.List.{List, ◌++◌}
use Prim.Native.Nat.{ℕ, ◌*◌}
use lib.ListN.{length, drop}
use Rattle.theory.specs.Tables.{Tables, Fleet}
use Rattle.theory.specs.Refusals.{Rule, refusal}
use Rattle.theory.proofs.Taken.{refused_kept, taken_done}
use Rattle.refusal_rules.specs.Rules.{run_with_pairs_rules}
use Rattle.run_numbers.specs.States.{kept_values}
use Rattle.rounds.specs.Rounds.{rounds, routes, rows}
use Rattle.share_numbers.specs.Shares.{in_shares}
use Rattle.share_numbers.specs.Shared.{Shared}
use Rattle.run_calls.specs.Runs.{SharesReply}

module _ (k A : ℕ) (T : Tables) (F : Fleet) (pairs result : List ℕ) (number : ℕ) (judged : number ≡ refusal (run_with_pairs_rules k T F pairs (length result))) where
  abbrev rules : List Rule
  rules = run_with_pairs_rules k T F pairs (length result)

  abbrev stops_done : List ℕ
  stops_done = routes (in_shares k A (rounds T F pairs))

  abbrev result_done : List ℕ
  result_done = rows kept_values (in_shares k A (rounds T F pairs)) ++ drop (4 * length F.lengths) result

  pub shares_refused : (number ≡ 0 → ⊥) → SharesReply k A T F pairs result number F.stops result
  shares_refused h =
      record {
        number_is = judged;
        stops_are = refused_kept rules number judged stops_done F.stops h;
        result_is = refused_kept rules number judged result_done result h;
        shared = λ z. absurd (h z);
      }

  pub has_shared : number ≡ 0 → (stops' result' : List ℕ) → Shared k A T F pairs result stops' result' → SharesReply k A T F pairs result 0 stops' result'
  has_shared h stops' result' r =
      record {
        number_is = sym h ∙ judged;
        stops_are = r.stops_are ∙ taken_done rules number judged stops_done F.stops h;
        result_is = r.result_is ∙ taken_done rules number judged result_done result h;
        shared = λ z. r;
      }
