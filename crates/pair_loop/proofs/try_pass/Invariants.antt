-- `pair_loop::try_pass` meets its contract. The invariant: what is left of the pass makes the pass of what stands. Assumes nothing.
use mathlib.Core.Path.{◌≡◌}
use mathlib.Core.List.{[]}
use Prim.Native.Nat.{◌≤◌}
use lib.ListN.{length}
use Rattle.theory.specs.Tables.{problem, trip}
use Rattle.pair_loop.specs.PairLoop.{reply_so_far, pass}
use Rattle.pair_loop.specs.Parts.{Going}
use Rattle.pair_loop.proofs.Steps.{pass_left}
use Rattle.pair_loop.proofs.try_pass.Given as goal

abbrev pub invariant-loop-i : goal.invariant-loop-i
invariant-loop-i l =
    Going l.allowance (trip l.locations l.legs l.latest l.service l.depot l.depot []) l.passed l.route
    × (length l.route ≡ length l.initial.route)
    × (l.i ≤ length l.initial.route)
    × (pass_left (problem (trip l.locations l.legs l.latest l.service l.depot l.depot [])) l.allowance (length l.initial.route) (reply_so_far l.passed l.route) l.i
    ≡ pass (problem (trip l.locations l.legs l.latest l.service l.depot l.depot [])) l.allowance (length l.initial.route) (reply_so_far l.initial.passed l.initial.route))
