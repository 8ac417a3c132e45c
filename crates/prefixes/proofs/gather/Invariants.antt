-- `gather` meets its contract. The invariant: the places from y on, moved down by y, are left. Assumes nothing.
use Prim.Native.Nat.{◌-◌}
use Rattle.prefixes.proofs.Gathering.{Gathering}
use Rattle.prefixes.proofs.gather.Given as goal

abbrev pub invariant-loop-rest : goal.invariant-loop-rest
invariant-loop-rest l = Gathering l.ahead l.row l.places l.rest l.y l.all

abbrev pub decreases-loop-rest : goal.decreases-loop-rest
decreases-loop-rest l = 49 - l.y
