-- `pair_loop::try_sweep` meets its contract. The invariant: what is left of the row makes the row of what stands. Assumes nothing.
use mathlib.Core.Path.{◌≡◌}
use mathlib.Core.List.{[]}
use Prim.Native.Nat.{◌≤◌, ◌<◌}
use lib.ListN.{length}
use Rattle.theory.specs.Tables.{problem, Timed, trip}
use Rattle.pair_loop.specs.PairLoop.{so_far, sweep}
use Rattle.pair_loop.proofs.Steps.{sweep_left}
use Rattle.pair_loop.proofs.try_sweep.Given as goal

abbrev pub invariant-loop-j : goal.invariant-loop-j
invariant-loop-j l =
    Timed (trip l.locations l.legs l.latest l.service l.depot l.depot []) l.route
    × (length l.route ≡ length l.initial.route)
    × (l.i < l.j)
    × (l.j ≤ length l.initial.route)
    × (l.examined ≤ l.allowance)
    × (l.accepted ≤ l.examined)
    × (l.a < l.locations)
    × (l.b < l.locations)
    × (sweep_left (problem (trip l.locations l.legs l.latest l.service l.depot l.depot [])) l.allowance (length l.initial.route) l.a l.b l.i (so_far l.examined l.accepted l.route) l.j
    ≡ sweep (problem (trip l.locations l.legs l.latest l.service l.depot l.depot [])) l.allowance (length l.initial.route) (so_far l.initial.examined l.initial.accepted l.initial.route) l.i)
