-- `pattern_list_polishing::polish_rows_with_pairs` meets its contract. Assumes nothing.
use Rattle.polishing.proofs.Judged.{fillable, words_lent}
use Rattle.pattern_list_polishing.proofs.polish_rows_with_pairs.Goals as goal

pub fill_members-requires : goal.fill_members-requires
fill_members-requires c = fillable c.requires.fillable

pub polish_rows-requires : goal.polish_rows-requires
polish_rows-requires c =
    let p = c.requires in
    record { least = p.least; most = p.most; timed = p.timed; patterns = p.patterns; not_empty = p.not_empty; lent = words_lent c.fill_members.ensures }
