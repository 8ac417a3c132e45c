use Rattle.cut_calls.proofs.NextCutSet.{step_written_ok}
use Rattle.std.proofs.Common.{rules, ◌≡◌, length}
use Rattle.theory.specs.Refusals.{refusal}
use Rattle.refusal_rules.specs.Rules.{next_cut_set_rules, with_room}
use Rattle.cut_calls.proofs.write_next_cut_set.Goals as goal

pub returns : goal.returns
returns c =
    let moved = c.next_cut_set-moved in
    let known : 0 ≡ refusal (with_room (next_cut_set_rules c.args.k c.args.n c.args.cuts.now) 1 (length c.args.res.now)) = search rules in
    step_written_ok c.args.k c.args.n c.args.cuts.now c.args.res.now moved.result _ _ _ _ known moved.ensures c.flag_number.ensures c.put.ensures
