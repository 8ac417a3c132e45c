-- `desks::which_desk` meets its contract. Assumes nothing.
use mathlib.Core.Path.{refl}
use borrow.Author.Tests.{ne_eqb}
use Rattle.theory.specs.Tables.{Trip, trip}
use Rattle.theory.proofs.Checks.{some}
use Rattle.desks.proofs.Judging.{both_fine}
use Rattle.desks.proofs.Replies.{told, untold}
use Rattle.desks.proofs.which_desk.Goals as goal
use Rattle.desks.proofs.which_desk.Goals.{Start}

abbrev lent : Start → Trip
lent s = trip s.args.locations s.args.legs.now s.args.latest.now s.args.service.now s.args.depot s.args.end s.args.pairs.now

pub which_taken-requires : goal.which_taken-requires
which_taken-requires c = both_fine (lent (goal.at.which_taken-requires c).Start) c.args.first.now c.args.second.now _ c.in-Ok.ensures refl

pub returns-in-Ok : goal.returns-in-Ok
returns-in-Ok c = told (lent (goal.at.returns-in-Ok c).Start) c.args.first.now c.args.second.now _ c.in-Ok.ensures refl _ c.which_taken.ensures

pub returns-in-Err : goal.returns-in-Err
returns-in-Err c = untold (lent (goal.at.returns-in-Err c).Start) c.args.first.now c.args.second.now _ c.in-Err.ensures (ne_eqb _ 0 (some _))
