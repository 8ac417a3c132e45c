-- `cut_step::next_cut_set` meets its contract. The invariant: the cuts from `position` on have no next set of their own. Assumes nothing.
use mathlib.Core.Path.{◌≡◌, refl}
use mathlib.Core.Option.{none}
use mathlib.Core.List.{List}
use Prim.Native.Nat.{ℕ}
use native.Mathlib.Omega.{arith}
use lib.ListN.{length, drop}
use lib.Seq.{drop-length}
use Rattle.theory.specs.Moves.{next_cuts}
use Rattle.cut_step.proofs.Cuts.{stuck_down, moved_down}
use Rattle.cut_step.proofs.next_cut_set.Goals as goal

next_empty : (n : ℕ) (l : List ℕ) → next_cuts n (drop (length l) l) ≡ none
unfolding next_cuts
next_empty n l = rw (drop-length l)

pub loop-position-init : goal.loop-position-init
loop-position-init c = (omega arith, refl, refl, next_empty _ c.args.cuts.now)

pub returns-then-cut-k : goal.returns-then-cut-k
returns-then-cut-k c =
    let l = c.loop-position in
    let m = moved_down c.args.n c.args.cuts.now l.cuts l.position l.invariant.2 (omega arith) l.invariant.0 l.invariant.3 (omega arith) in
    record { moved = rw m refl; cuts_after = rw m c.follow_on.ensures }

pub loop-position-preserved : goal.loop-position-preserved
loop-position-preserved c =
    let l = c.loop-position in
    (omega arith, l.invariant.1, l.invariant.2, stuck_down c.args.n c.args.cuts.now l.cuts l.position l.invariant.2 (omega arith) l.invariant.0 l.invariant.3 (omega arith))
