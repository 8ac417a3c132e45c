-- `same_places` meets its contract. The invariant: the places below z are marked. Assumes nothing.
use mathlib.Core.Path.{◌≡◌}
use Prim.Native.Nat.{ℕ, ◌≤◌, ◌<◌}
use lib.ListN.{length, get_or}
use Rattle.standing.specs.Places.{Has}
use Rattle.standing_tables.proofs.same_places.Given as goal

abbrev pub invariant-loop-z : goal.invariant-loop-z
invariant-loop-z l = (l.z ≤ length l.wanted) × (length l.wanted ≤ 48) × ((x : ℕ) → x < l.z → get_or l.wanted x 0 ≡ l.stop → Has l.places x)
