-- `desks::keeps_pairs` meets its contract. Assumes nothing.
use Rattle.polishing.proofs.Judged.{fillable}
use Rattle.desks.proofs.keeps_pairs.Goals as goal

pub fill_members-requires : goal.fill_members-requires
fill_members-requires c = fillable c.requires.fillable

pub returns : goal.returns
returns c = c.keeps_pairs.ensures.is _ c.fill_members.ensures.is
