-- `deadlines::fill_lateness` meets its contract: back from the end, position by position. Assumes nothing.
use Prim.Native.Nat.{◌≤◌}
use lib.ListN.{length}
use Rattle.theory.specs.Tables.{clock_by, tables}
use Rattle.deadlines.proofs.Filling.{Back}
use Rattle.deadlines.proofs.fill_lateness.Given as goal

abbrev pub invariant-loop-i : goal.invariant-loop-i
invariant-loop-i l =
    (l.i ≤ length l.route) × Back (clock_by (tables l.locations l.legs l.latest l.service)) l.depot l.route l.lateness l.i l.longest l.soonest l.most
