-- `run_calls::run_to_ends` meets its contract. Assumes nothing.
use Rattle.std.proofs.Common.{rules, ◌≡◌}
use Rattle.theory.specs.Numbers.{judged, refusal_number}
use mathlib.Core.Path.{refl}
use Rattle.theory.proofs.Checks.{some}
use mathlib.Core.List.{[]}
use lib.ListN.{length}
use Rattle.theory.specs.Tables.{Tables, tables, Fleet, fleet}
use Rattle.refusal_rules.specs.Rules.{run_to_ends_rules}
use Rattle.run_calls.proofs.RunReply.{run_refused, runnable, has_run}
use Rattle.run_calls.proofs.run_to_ends.Goals as goal
use Rattle.run_calls.proofs.run_to_ends.Goals.{Start}

abbrev tables_at : Start → Tables
tables_at s = tables s.args.locations s.args.legs.now s.args.latest.now s.args.service.now

abbrev fleet_at : Start → Fleet
fleet_at s = fleet s.args.stops.now s.args.lengths.now s.args.depots.now s.args.ends.now s.args.pins.now

pub returns-in_err-run_refusal : goal.returns-in_err-run_refusal
returns-in_err-run_refusal c =
    let goes : judged c.from_residual.result ≡ refusal_number c.in_err-run_refusal.field-0.0 = search rules in
    rw goes
    (let r = c.in_err-run_refusal in
    run_refused (run_to_ends_rules c.args.k (tables_at (goal.at.returns-in_err-run_refusal c).Start) (fleet_at (goal.at.returns-in_err-run_refusal c).Start) (length c.args.res.now)) c.args.k c.args.allowance (tables_at (goal.at.returns-in_err-run_refusal c).Start) (fleet_at (goal.at.returns-in_err-run_refusal c).Start) [] c.args.res.now _ r.ensures (some _))

pub run_list_k_opt_in_phase-requires : goal.run_list_k_opt_in_phase-requires
run_list_k_opt_in_phase-requires c =
    let r = c.in_ok-run_refusal in
    runnable c.args.k (tables_at (goal.at.run_list_k_opt_in_phase-requires c).Start) (fleet_at (goal.at.run_list_k_opt_in_phase-requires c).Start) c.args.res.now _ r.ensures refl

pub returns : goal.returns
returns c =
    let r = c.in_ok-run_refusal in
    has_run (run_to_ends_rules c.args.k (tables_at (goal.at.returns c).Start) (fleet_at (goal.at.returns c).Start) (length c.args.res.now)) c.args.k c.args.allowance (tables_at (goal.at.returns c).Start) (fleet_at (goal.at.returns c).Start) [] c.args.res.now _ r.ensures refl _ _ c.run_list_k_opt_in_phase.ensures
