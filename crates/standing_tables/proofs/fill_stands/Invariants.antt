-- `fill_stands` meets its contract. The invariant: the rows below a are filled. Assumes nothing.
use mathlib.Core.Path.{◌≡◌}
use Prim.Native.Nat.{◌≤◌}
use lib.ListN.{length}
use Rattle.standing_tables.proofs.Rows.{Below}
use Rattle.standing_tables.proofs.fill_stands.Given as goal

abbrev pub invariant-loop-a : goal.invariant-loop-a
invariant-loop-a l = (l.a ≤ l.n) × (l.n ≤ 48) × (length l.table ≡ 2401) × Below l.same l.table l.n l.a
