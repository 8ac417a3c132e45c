-- `pattern_list_loading::take_rows` meets its contract: the first rows stand in their places, and the others in the text. Assumes nothing.
use mathlib.Core.Path.{◌≡◌}
use Prim.Native.Nat.{◌≤◌}
use lib.ListN.{length}
use Rattle.pattern_list_loading.proofs.Taking.{Rest}
use Rattle.pattern_list_loading.proofs.take_rows.Given as goal

abbrev pub invariant-loop-i : goal.invariant-loop-i
invariant-loop-i l = (l.i ≤ length l.masks) × (length l.orders ≡ length l.initial.orders) × (length l.masks ≡ length l.initial.masks) × Rest l.text l.k l.orders l.masks l.i l.rest
