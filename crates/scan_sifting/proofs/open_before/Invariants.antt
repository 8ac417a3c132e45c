-- `scan_sifting::open_before` meets its contract. The invariant: the open rows below i are counted. Assumes nothing.
use mathlib.Core.Path.{◌≡◌}
use Prim.Native.Nat.{◌-◌, ◌≤◌}
use lib.ListN.{length}
use Rattle.scan_shared.specs.Filling.{open_by}
use Rattle.scan_sifting.specs.Sifting.{opens}
use Rattle.scan_sifting.proofs.open_before.Given as goal

abbrev pub invariant-loop-i : goal.invariant-loop-i
invariant-loop-i l = (l.i ≤ l.limit) × (l.count ≡ length (opens (open_by l.signs l.blocked) l.i))
