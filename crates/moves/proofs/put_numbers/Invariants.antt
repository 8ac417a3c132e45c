-- The numbers up to the present place, and then what stood.
use Rattle.std.proofs.Common.{◌≡◌, ◌++◌, map, take, drop}
use Rattle.moves.proofs.put_numbers.Given as goal

abbrev pub invariant-loop-i : goal.invariant-loop-i
invariant-loop-i g l = l.res ≡ take l.i (map g.T.Number.value l.numbers) ++ drop l.i l.initial.res
