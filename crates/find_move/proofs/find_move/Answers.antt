use Rattle.find_move.proofs.Walking.{tables_of, start, finds}
use Rattle.find_move.proofs.find_move.Goals as goal

pub walk-requires : goal.walk-requires
walk-requires c =
    start c.requires
    (tables_of c.fill_along.new.table c.fill_against.new.table c.requires.pair c.same_words-same.ensures c.fill_stands.ensures c.fill_along.ensures.0 c.fill_against.ensures.0 c.merge.ensures c.fill_parts.ensures
    c.head_places.ensures c.tail_places.ensures)

pub returns : goal.returns
returns c = let s = c.args in finds s.k s.old.now s.wanted.now c.walk.result c.walk.ensures
