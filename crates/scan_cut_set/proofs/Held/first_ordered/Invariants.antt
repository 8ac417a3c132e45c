-- `scan_cut_set::Held::first_ordered` meets its contract. The invariant: no row passed is shorter and keeps every pair, and the one at i is shorter. Assumes nothing.
use mathlib.Core.Path.{◌≡◌}
use mathlib.Core.Bool.{false, ◌&&◌}
use Prim.Native.Nat.{ℕ, ◌+◌, ◌-◌, ◌*◌, ◌≤◌, ◌<◌}
use lib.Dec.{ltb}
use lib.Seq.{slice}
use Rattle.scan_chains.specs.Chains.{cost}
use Rattle.precedence_marks.specs.Held.{in_order}
use Rattle.scan_cut_set.proofs.Held.first_ordered.Given as goal

abbrev pub invariant-loop-i : goal.invariant-loop-i
invariant-loop-i l =
    (l.i ≤ l.rows.count) × ((x : ℕ) → x < l.i → (in_order l.self.marks 0 (slice (4 * x) (4 * x + l.m) l.rows.states.now) && ltb (cost l.self.joint l.rows.chains.now x) l.below) ≡ false) × (l.i < l.rows.count → cost l.self.joint l.rows.chains.now l.i < l.below)

abbrev pub decreases-loop-i : goal.decreases-loop-i
decreases-loop-i l = l.rows.count - l.i
