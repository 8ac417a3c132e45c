-- `scan_cut_set::Held::next_shorter` meets its contract. The invariant: no row passed is shorter. Assumes nothing.
use Prim.Native.Nat.{ℕ, ◌≤◌, ◌<◌}
use Rattle.scan_chains.specs.Chains.{cost}
use Rattle.scan_cut_set.proofs.Held.next_shorter.Given as goal

abbrev pub invariant-loop-i : goal.invariant-loop-i
invariant-loop-i l = (x : ℕ) → l.from ≤ x → x < l.i → l.standing ≤ cost l.self.joint l.rows.chains.now x
