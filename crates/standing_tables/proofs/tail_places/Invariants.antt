-- `tail_places` meets its contract. The invariant: the cuts from c on are marked. Assumes nothing.
use mathlib.Core.Path.{◌≡◌}
use Prim.Native.Nat.{◌≤◌}
use lib.ListN.{length}
use Rattle.standing_tables.proofs.Agreeing.{DownTo}
use Rattle.standing_tables.proofs.tail_places.Given as goal

abbrev pub invariant-loop-c : goal.invariant-loop-c
invariant-loop-c l = (l.c ≤ length l.old) × (length l.old ≤ 48) × (length l.wanted ≡ length l.old) × DownTo (length l.old) l.c l.places
