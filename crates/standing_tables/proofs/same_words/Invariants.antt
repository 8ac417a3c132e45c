-- `same_words` meets its contract. The invariant: the stops below b are done. Assumes nothing.
use mathlib.Core.Path.{◌≡◌}
use Prim.Native.Nat.{◌≤◌}
use lib.ListN.{length}
use Rattle.standing_tables.specs.Filling.{SameBelow}
use Rattle.standing_tables.proofs.same_words.Given as goal

abbrev pub invariant-loop-b : goal.invariant-loop-b
invariant-loop-b l = (l.b ≤ length l.old) × (length l.old ≤ 48) × (length l.wanted ≤ 48) × (length l.same ≡ 49) × SameBelow l.b l.old l.wanted l.same
