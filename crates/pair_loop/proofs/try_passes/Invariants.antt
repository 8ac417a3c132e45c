-- `pair_loop::try_passes` meets its contract. The invariant: the passes from what stands make those from the start. Assumes nothing.
use mathlib.Core.Path.{◌≡◌}
use mathlib.Core.List.{[]}
use Prim.Native.Nat.{◌-◌}
use lib.ListN.{length}
use Rattle.theory.specs.Tables.{problem, trip}
use Rattle.pair_loop.specs.PairLoop.{reply_so_far, passes, pair_loop}
use Rattle.pair_loop.specs.Parts.{Going}
use Rattle.pair_loop.proofs.try_passes.Given as goal

abbrev pub invariant-loop-so_far : goal.invariant-loop-so_far
invariant-loop-so_far l =
    Going l.allowance (trip l.locations l.legs l.latest l.service l.depot l.depot []) l.so_far l.route
    × (length l.route ≡ length l.initial.route)
    × (passes (problem (trip l.locations l.legs l.latest l.service l.depot l.depot [])) l.allowance (length l.initial.route) l.allowance (reply_so_far l.so_far l.route) ≡ pair_loop (problem (trip l.locations l.legs l.latest l.service l.depot l.depot [])) l.allowance l.initial.route)

abbrev pub decreases-loop-so_far : goal.decreases-loop-so_far
decreases-loop-so_far l = l.allowance - l.so_far.examined
