use Rattle.std.proofs.Common.{refl}
use Rattle.theory.proofs.LastRule.{early}
use Rattle.entry_results.proofs.Written.{value_written}
use Rattle.measure_calls.proofs.write_route_length_to_end.Goals as goal

pub returns : goal.returns
unfolding early
returns c = value_written _ _ c.args.res.now _ _ _ c.route_length_to_end.ensures.reply_is c.put_value.ensures refl
