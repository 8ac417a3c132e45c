-- `shares::share_rounds` meets its contract. Assumes nothing.
use Rattle.theory.specs.Tables.{tables, fleet}
use Rattle.shares.proofs.Turn.{Sharing}
use Rattle.shares.proofs.share_rounds.Given as goal

abbrev pub invariant-loop-i : goal.invariant-loop-i
invariant-loop-i l =
    Sharing l.k l.allowance (tables l.locations l.legs l.latest l.service) (fleet l.initial.stops l.lengths l.depots l.ends l.pins) l.pairs l.initial.res l.each l.stops l.res l.left l.at l.i
