-- `text_lines::read_entries` meets its contract: the entries that stand in out come before those still to be read. Assumes nothing.
use Prim.Native.Nat.{◌≤◌, ◌-◌}
use mathlib.Core.Path.{◌≡◌}
use lib.ListN.{length}
use Rattle.text_lines.specs.Reading.{entries}
use Rattle.text_lines.proofs.Places.{to_come}
use Rattle.text_lines.proofs.read_entries.Given as goal

abbrev pub invariant-loop-count : goal.invariant-loop-count
invariant-loop-count l =
    (l.count ≤ length l.out) × (length l.out ≡ length l.initial.out) × (entries (length l.initial.out) l.text ≡ to_come l.out l.count l.rest)

abbrev pub decreases-loop-count : goal.decreases-loop-count
decreases-loop-count l = length l.out - l.count
