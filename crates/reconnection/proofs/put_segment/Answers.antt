-- `reconnection::put_segment` meets its contract. Assumes nothing.
use Prim.Native.Nat.{◌-◌}
use mathlib.Core.Path.{◌≡◌}
use Rattle.theory.specs.Route.{reverse_if}
use lib.ListN.{length, take, drop, length-take, length-drop}
use native.Mathlib.Omega.{arith}
use Rattle.reconnection.proofs.put_segment.Goals as goal

pub returns-then-flip : goal.returns-then-flip
unfolding reverse_if
returns-then-flip c =
    let e : length (take (c.args.b - c.args.a) (drop c.args.a c.args.route.now)) ≡ c.args.b - c.args.a = simp (length-take, length-drop) (omega arith) in
    rw c.if-flip.true (rw e at c.reverse_in.ensures)

pub returns-else-flip : goal.returns-else-flip
unfolding reverse_if
returns-else-flip c =
    let e : length (take (c.args.b - c.args.a) (drop c.args.a c.args.route.now)) ≡ c.args.b - c.args.a = simp (length-take, length-drop) (omega arith) in
    rw c.if-flip.false (rw e at c.copy_in.ensures)
