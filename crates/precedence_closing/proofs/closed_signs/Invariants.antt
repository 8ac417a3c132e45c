-- `precedence_closing::closed_signs` meets its contract. The invariant: the signs of the events before (a, b) that are crossed are closed, and the bit is that of (a, b).
-- Assumes nothing.
use mathlib.Core.Path.{◌≡◌}
use Prim.Native.Nat.{◌≤◌, ◌<◌}
use Rattle.precedence_closing.proofs.Signs.{bit_of}
use Rattle.precedence_closing.proofs.Closed.{Closed, left}
use Rattle.precedence_closing.proofs.closed_signs.Given as goal

abbrev pub invariant-loop-b : goal.invariant-loop-b
invariant-loop-b l = (l.a ≤ l.b) × (l.b ≤ l.last) × (l.bit ≤ 1024) × (l.b < 4 → l.bit ≡ bit_of l.a l.b) × Closed l.visits l.cuts l.closed

abbrev pub decreases-loop-b : goal.decreases-loop-b
decreases-loop-b l = left l.last l.a l.b
