-- `text_round::scan_entries` meets its contract: the stops that are counted come before those still to be read. Assumes nothing.
use mathlib.Core.Path.{◌≡◌}
use Prim.Native.Nat.{◌-◌, ◌≤◌}
use Rattle.text_lines.specs.Reading.{entries}
use Rattle.text_round.specs.Round.{counted}
use Rattle.text_round.proofs.Counting.{to_count}
use Rattle.text_round.proofs.scan_entries.Given as goal

abbrev pub invariant-loop-count : goal.invariant-loop-count
invariant-loop-count l = (l.count ≤ 30000) × (counted 0 0 (entries 30000 l.text) ≡ to_count l.count l.highest l.rest)

abbrev pub decreases-loop-count : goal.decreases-loop-count
decreases-loop-count l = 30000 - l.count
