-- The least of several sums, one more at a time. Assumes nothing.
use mathlib.Core.Path.{◌≡◌}
use mathlib.Core.List.{List}
use Prim.Native.Nat.{ℕ, min, ◌+◌, ◌≤◌}
use native.Mathlib.Omega.{arith}
use borrow.Author.Count.{below_more}
use lib.ListN.{get_or}
use Rattle.costs.specs.RouteCosts.{leg}
use Rattle.scan_bound.specs.Tests.{LeastInto, LeastOut}

pub more_into : {locations : ℕ} {legs : List ℕ} {from : ℕ} {entries inside low : List ℕ} {w best : ℕ} (r v : ℕ) → LeastInto locations legs from entries inside low w best →
    v ≡ leg locations legs from (get_or entries w 0) → r ≡ min best (get_or low w 0 + (v + get_or inside w 0)) → LeastInto locations legs from entries inside low (w + 1) r
more_into {locations} {legs} {from} {entries} {inside} {low} {w} r v l e h =
    record {
      small = omega (arith, l.small, h);
      below = below_more (λ x. r ≤ get_or low x 0 + (leg locations legs from (get_or entries x 0) + get_or inside x 0)) w (λ x k. omega (arith, l.below x k, h)) (omega (arith, h, e));
    }

pub more_out : {locations : ℕ} {legs exits : List ℕ} {to : ℕ} {add : List ℕ} {start u best : ℕ} (r v : ℕ) → LeastOut locations legs exits to add start u best →
    v ≡ leg locations legs (get_or exits u 0) to → r ≡ min best (get_or add (10 + u) 0 + v) → LeastOut locations legs exits to add start (u + 1) r
more_out {locations} {legs} {exits} {to} {add} {start} {u} r v l e h =
    record {
      start_above = omega (arith, l.start_above, h);
      below = below_more (λ x. r ≤ get_or add (10 + x) 0 + leg locations legs (get_or exits x 0) to) u (λ x k. omega (arith, l.below x k, h)) (omega (arith, h, e));
    }
