-- `text_decimal::put_number` meets its contract. Assumes nothing.
use Rattle.text_decimal.proofs.Digits.{spelled_part}
use Rattle.text_decimal.proofs.put_number.Goals as goal

pub put_text-requires : goal.put_text-requires
put_text-requires c = rw (spelled_part c.spell-start.ensures) (record { room = c.requires.room })

pub returns : goal.returns
returns c = rw (spelled_part c.spell-start.ensures) at c.put_text.ensures
