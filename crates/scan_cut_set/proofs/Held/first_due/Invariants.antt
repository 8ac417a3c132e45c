-- `scan_cut_set::Held::first_due` meets its contract. The invariant: no row passed is shorter and kept, and the one at i is shorter. Assumes nothing.
use mathlib.Core.Path.{◌≡◌}
use mathlib.Core.Bool.{false}
use Prim.Native.Nat.{ℕ, ◌-◌, ◌≤◌, ◌<◌}
use Rattle.scan_chains.specs.Chains.{cost}
use Rattle.scan_cut_set.specs.Gain.{due_gain}
use Rattle.scan_cut_set.proofs.Held.first_due.Given as goal

abbrev pub invariant-loop-i : goal.invariant-loop-i
invariant-loop-i l =
    (l.i ≤ l.rows.count) × ((x : ℕ) → x < l.i → due_gain l.self.joint l.rows.states.now l.rows.chains.now l.stays l.self.dues l.self.marks l.m l.clock l.below x ≡ false) × (l.i < l.rows.count → cost l.self.joint l.rows.chains.now l.i < l.below)

abbrev pub decreases-loop-i : goal.decreases-loop-i
decreases-loop-i l = l.rows.count - l.i
