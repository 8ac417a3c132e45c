-- `precedence_marks::stretch_marks` meets its contract. Assumes nothing.
use mathlib.Core.Path.{refl}
use Rattle.costs.proofs.Segments.{last_cut}
use Rattle.precedence_marks.proofs.Filling.{stretched}
use Rattle.precedence_marks.proofs.stretch_marks.Goals as goal

pub grow_marks-more-requires : goal.grow_marks-more-requires
grow_marks-more-requires c =
    record { readable = c.requires.readable; least = c.requires.behind; most = last_cut c.args.cuts.now c.args.route.now c.requires.cut_set }

pub returns : goal.returns
returns c =
    rw c.put_marks.ensures (stretched c.args.members.now c.args.route.now c.args.cuts.now c.args.held.now _ _ c.requires refl c.grow_marks-more.ensures)
