-- `season_report::report_season` meets its contract. Assumes nothing.
use mathlib.Core.Path.{◌∙◌}
use native.Mathlib.Omega.{arith}
use Rattle.season_report.proofs.Printed.{shown}
use Rattle.season_report.proofs.report_season.Goals as goal

pub new-requires : goal.new-requires
new-requires c = let within = (shown c.args.text.now c.report_text-length.ensures).1 in (omega arith, (omega arith, omega (arith, within)))

pub returns : goal.returns
returns c = c.new.ensures ∙ (shown c.args.text.now c.report_text-length.ensures).0
