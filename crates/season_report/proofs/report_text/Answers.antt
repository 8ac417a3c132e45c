-- `season_report::report_text` meets its contract. Assumes nothing.
use mathlib.Core.Path.{sym}
use native.Mathlib.Omega.{arith}
use Rattle.text_printing.proofs.Lengths.{refusal_length}
use Rattle.season_report.proofs.Printed.{too_long, many_told, told_length, parts_told, report_told}
use Rattle.season_report.proofs.report_text.Goals as goal

pub print_refusal-requires : goal.print_refusal-requires
print_refusal-requires c = record { room = omega (arith, refusal_length 30 (omega arith), c.requires.places) }

pub returns-then-text-gt60000 : goal.returns-then-text-gt60000
returns-then-text-gt60000 c = rw (too_long c.args.text.now c.if-text-gt60000.true) c.print_refusal.ensures

pub print_refusal-requires-in_default : goal.print_refusal-requires-in_default
print_refusal-requires-in_default c = record { room = omega (arith, refusal_length 30 (omega arith), c.requires.places) }

pub returns-in_default : goal.returns-in_default
returns-in_default c = rw (many_told c.part_blocks.ensures c.in_default.is) c.print_refusal-in_default.ensures

pub slice_bounds-report_blocks-end : goal.slice_bounds-report_blocks-end
slice_bounds-report_blocks-end c = sym (told_length c.part_blocks.ensures c.in-Some.is)

pub report_blocks-requires : goal.report_blocks-requires
report_blocks-requires c = parts_told c.part_blocks.ensures c.in-Some.is c.requires

pub returns : goal.returns
returns c = rw (report_told c.part_blocks.ensures c.in-Some.is c.if-text-gt60000.false) c.report_blocks.ensures
