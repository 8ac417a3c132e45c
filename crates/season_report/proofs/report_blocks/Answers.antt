-- `season_report::report_blocks` meets its contract. Assumes nothing.
use Rattle.season_report.proofs.Printed.{middling, printable, text_is}
use borrow.Author.Rules.{rules}
use Rattle.season_report.proofs.report_blocks.Goals as goal

pub add_blocks-sums-requires : goal.add_blocks-sums-requires
add_blocks-sums-requires c = record { lent = search rules; in_text = c.requires.in_text; few = c.requires.few; afters_places = search rules }

pub middle-middle-requires : goal.middle-middle-requires
middle-middle-requires c =
    middling c.args.text.now c.args.ends.now c.add_blocks-sums.ensures c.requires.few

pub print_season-requires : goal.print_season-requires
print_season-requires c = printable c.args.text.now c.args.ends.now c.add_blocks-sums.ensures c.requires.room.places

pub returns : goal.returns
returns c = rw (← text_is c.args.text.now c.args.ends.now c.add_blocks-sums.ensures _ c.middle-middle.ensures) c.print_season.ensures
