-- `run_calls::run_in_shares` meets its contract. Assumes nothing.
use Rattle.std.proofs.Common.{rules, ◌≡◌}
use Rattle.theory.specs.Numbers.{judged, refusal_number}
use mathlib.Core.Path.{refl}
use Rattle.theory.proofs.Checks.{some}
use Rattle.theory.specs.Tables.{Tables, tables, Fleet, fleet}
use Rattle.run_calls.proofs.RunReply.{runnable_with_pairs}
use Rattle.run_calls.proofs.SharesReply.{shares_refused, has_shared}
use Rattle.run_calls.proofs.run_in_shares.Goals as goal
use Rattle.run_calls.proofs.run_in_shares.Goals.{Start}

abbrev tables_at : Start → Tables
tables_at s = tables s.args.locations s.args.legs.now s.args.latest.now s.args.service.now

abbrev fleet_at : Start → Fleet
fleet_at s = fleet s.args.stops.now s.args.lengths.now s.args.depots.now s.args.ends.now s.args.pins.now

pub returns-in_err-run_paired_refusal : goal.returns-in_err-run_paired_refusal
returns-in_err-run_paired_refusal c =
    let goes : judged c.from_residual.result ≡ refusal_number c.in_err-run_paired_refusal.field-0.0 = search rules in
    rw goes
    (let r = c.in_err-run_paired_refusal in
    shares_refused c.args.k c.args.allowance (tables_at (goal.at.returns-in_err-run_paired_refusal c).Start) (fleet_at (goal.at.returns-in_err-run_paired_refusal c).Start) c.args.pairs.now c.args.res.now _ r.ensures (some _))

pub run_in_shares-requires : goal.run_in_shares-requires
run_in_shares-requires c =
    let r = c.in_ok-run_paired_refusal in
    runnable_with_pairs c.args.k (tables_at (goal.at.run_in_shares-requires c).Start) (fleet_at (goal.at.run_in_shares-requires c).Start) c.args.pairs.now c.args.res.now _ r.ensures refl

pub returns : goal.returns
returns c =
    let r = c.in_ok-run_paired_refusal in
    has_shared c.args.k c.args.allowance (tables_at (goal.at.returns c).Start) (fleet_at (goal.at.returns c).Start) c.args.pairs.now c.args.res.now _ r.ensures refl _ _ c.run_in_shares.ensures
