-- `text_sizes::question_size` meets its contract. Assumes nothing.
use Rattle.theory.specs.Question.{question}
use Rattle.text_sizes.proofs.Parts.{text_sum}
use Rattle.text_sizes.proofs.question_size.Goals as goal

pub returns : goal.returns
returns c =
    text_sum (question c.args.k c.args.allowance c.args.locations c.args.legs.now c.args.latest.now c.args.service.now c.args.depot c.args.end c.args.route.now) _ _ _ c.header_size-of_header.ensures c.tables_size-of_tables.ensures c.line_size-of_round.ensures
