-- `season_printing::put_value_or_none` meets its contract. Assumes nothing.
use Rattle.text_decimal.proofs.Putting.{put_none, put_more, put_rest}
use Rattle.season_printing.proofs.Lines.{none_where}
use Rattle.season_printing.proofs.put_value_or_none.Goals as goal

pub returns-then-rounds-eq0 : goal.returns-then-rounds-eq0
returns-then-rounds-eq0 c =
    put_rest (put_more (none_where c.args.key.now c.args.rounds c.args.value c.if-rounds-eq0.true) (put_none c.requires) c.put_text-none.ensures) c.put_text.ensures
