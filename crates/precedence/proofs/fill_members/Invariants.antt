-- `precedence::fill_members` meets its contract. The invariant: the words are those of the pairs up to here. Assumes nothing.
use mathlib.Core.Path.{◌≡◌}
use Prim.Native.Nat.{◌/◌, ◌≤◌}
use lib.ListN.{length, take}
use Rattle.theory.specs.Pairs.{pairs_of}
use Rattle.precedence.specs.Words.{Members}
use Rattle.precedence.proofs.fill_members.Given as goal

abbrev pub invariant-loop-q : goal.invariant-loop-q
invariant-loop-q l = (l.q ≤ length l.pairs / 2) × (length l.members ≡ 2048) × Members (take l.q (pairs_of l.pairs)) l.members
