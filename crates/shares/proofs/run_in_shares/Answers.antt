-- `shares::run_in_shares` meets its contract. Assumes nothing.
use Rattle.polishing.proofs.Judged.{fillable, words_lent}
use Rattle.shares.proofs.run_in_shares.Goals as goal

pub fill_members-requires : goal.fill_members-requires
fill_members-requires c = fillable c.requires.fillable

pub share_rounds-requires : goal.share_rounds-requires
share_rounds-requires c = record { runnable = c.requires.runnable; lent = words_lent c.fill_members.ensures }
