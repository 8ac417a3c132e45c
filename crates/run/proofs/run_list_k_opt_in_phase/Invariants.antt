-- `run::run_list_k_opt_in_phase` meets its contract. Assumes nothing.
use Rattle.theory.specs.Tables.{tables, fleet}
use Rattle.run.proofs.Turn.{Running}
use Rattle.run.proofs.run_list_k_opt_in_phase.Given as goal

abbrev pub invariant-loop-i : goal.invariant-loop-i
invariant-loop-i l =
    Running l.k l.allowance (tables l.locations l.legs l.latest l.service) (fleet l.initial.stops l.lengths l.depots l.ends l.pins) l.pairs l.initial.res l.stops l.res l.left l.at l.i
