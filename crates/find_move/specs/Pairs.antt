-- What the walk is handed and what it answers, of the two routes and tables that it holds.
use Rattle.std.specs.Prelude.{Bool, List, ℕ}
use Rattle.std.specs.Prelude as Rust
use Rattle.first_move.specs.declared.FoundMove.{FoundMove}
use Rattle.find_move.specs.Search.{GoesOn, Walkable, Walked}
use Rattle.find_move.specs.declared.RoutePair.{RoutePair}

abbrev pub GoesOnBy : RoutePair → List ℕ → ℕ → Bool → Type 0
GoesOnBy p = GoesOn p.stands.now p.ends.now p.parts.now p.head p.tail p.k

abbrev pub CanWalk : RoutePair → List ℕ → ℕ → ℕ → Type 0
CanWalk p = Walkable p.k p.old.now p.wanted.now p.stands.now p.ends.now p.parts.now p.head p.tail

abbrev pub WalkedBy : RoutePair → List ℕ → ℕ → ℕ → Rust.Option FoundMove → Type 0
WalkedBy p = Walked p.k p.old.now p.wanted.now
