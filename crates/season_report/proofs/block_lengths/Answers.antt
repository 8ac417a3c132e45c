-- `season_report::block_lengths` meets its contract. Assumes nothing.
use Rattle.season_report.proofs.Kept.{none_told, some_told}
use Rattle.season_report.proofs.block_lengths.Goals as goal

pub returns-in-Ok : goal.returns-in-Ok
returns-in-Ok c = rw (c.accepted_lengths.ensures.before, c.accepted_lengths.ensures.after) (some_told c.polish_in_places.ensures _ c.in-Ok.is)

pub returns-in-Err : goal.returns-in-Err
returns-in-Err c = none_told c.polish_in_places.ensures _ c.in-Err.is
