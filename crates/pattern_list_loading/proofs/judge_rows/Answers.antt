-- `pattern_list_loading::judge_rows` meets its contract. Assumes nothing.
use Rattle.pattern_list_loading.proofs.Judging.{judged_in_place, judged_misfit, still_counted}
use Rattle.pattern_list_loading.proofs.judge_rows.Goals as goal

pub rows_refusal-requires : goal.rows_refusal-requires
rows_refusal-requires c =
    let taken = c.take_rows in
    still_counted taken.new.orders taken.new.masks c.requires taken.auto.orders taken.auto.masks

pub returns-then-take_rows : goal.returns-then-take_rows
returns-then-take_rows c = judged_in_place (rw c.if-take_rows.true at c.take_rows.ensures) c.rows_refusal.ensures

pub returns : goal.returns
returns c = judged_misfit (rw c.if-take_rows.false at c.take_rows.ensures)
