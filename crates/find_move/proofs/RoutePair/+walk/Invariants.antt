-- The first move is that of the cuts from d on. The measure is the number of cuts left.
use Rattle.std.proofs.Common.{◌≡◌, suc, ◌-◌, ◌≤◌, ◌<◌, length, take}
use Rattle.theory.specs.Moves.{patterns}
use Rattle.first_move.specs.FirstMove.{first_that, turns_into}
use Rattle.find_move.specs.Walk.{tried_from}
use Rattle.find_move.proofs.RoutePair.+walk.Given as goal

abbrev pub decreases-walk : goal.decreases-walk
decreases-walk l = l.self.now.k - l.j

abbrev pub invariant-loop-d : goal.invariant-loop-d
invariant-loop-d l =
    (l.low ≤ l.d) × (l.d ≤ suc (length l.self.old.now)) × (l.j < l.self.k)
    × (first_that (turns_into l.self.k l.self.old.now l.self.wanted.now) (tried_from (length (patterns l.self.k)) (length l.self.old.now) (take l.j l.cuts) l.low (l.self.k - l.j))
    ≡ first_that (turns_into l.self.k l.self.old.now l.self.wanted.now) (tried_from (length (patterns l.self.k)) (length l.self.old.now) (take l.j l.cuts) l.d (l.self.k - l.j)))
