-- `pattern_list_loading::put_digits` meets its contract: the first values are those of the first digits. Assumes nothing.
use mathlib.Core.Path.{◌≡◌}
use mathlib.Core.List.{map}
use Prim.Native.Nat.{◌-◌, ◌≤◌}
use lib.ListN.{length, take}
use Rattle.pattern_list_loading.proofs.put_digits.Given as goal

abbrev pub invariant-loop-i : goal.invariant-loop-i
invariant-loop-i l = (l.i ≤ length l.digits) × (length l.out ≡ length l.digits) × (take l.i l.out ≡ map (λ b. b - 48) (take l.i l.digits))
