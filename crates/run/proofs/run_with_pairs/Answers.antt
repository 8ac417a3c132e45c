-- `run::run_with_pairs` meets its contract. Assumes nothing.
use Rattle.polishing.proofs.Judged.{fillable, words_lent}
use Rattle.run.proofs.run_with_pairs.Goals as goal

pub fill_members-requires : goal.fill_members-requires
fill_members-requires c = fillable c.requires.fillable

pub run_list_k_opt_in_phase-requires : goal.run_list_k_opt_in_phase-requires
run_list_k_opt_in_phase-requires c = record { runnable = c.requires.runnable; lent = words_lent c.fill_members.ensures }
