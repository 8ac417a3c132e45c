-- `generate_permutations`: the rows still to be written, stored from the next place, give all rows. The measure is the number of items left.
use mathlib.Core.Path.{◌≡◌, refl, sym, ap, ◌∙◌}
use mathlib.Core.List.{List}
use Prim.Native.Nat.{◌+◌, ℕ, ◌<◌}
use native.Mathlib.Omega.{arith}
use lib.ListN.{length, take, length-take}
use lib.Seq.{sets}
use borrow.Author.Rules.{rules}
use Rattle.pattern_orders.proofs.Permutations.{rows_from, none_left, rows_first, rows_last, turn_room, turn_after, turn_written}
use Rattle.pattern_orders.proofs.+generate_permutations.Goals as goal

pub copy_in-requires : goal.copy_in-requires
copy_in-requires t c =
    omega (arith, c.requires.room, ap length (none_left c.args.items c.args.row c.args.left c.args.depth c.if-left-eq0.true))

pub returns-then-left-eq0 : goal.returns-then-left-eq0
returns-then-left-eq0 t c =
    let r : length c.args.row ≡ 4 = search rules in
    let e = none_left c.args.items c.args.row c.args.left c.args.depth c.if-left-eq0.true in
    record { next_row = rw e (simp length-take (omega (arith, c.requires.few))); written = c.copy_in.ensures ∙ ap (sets c.args.out.now c.args.at) (sym e) }

pub loop-i-init : goal.loop-i-init
loop-i-init t c =
    let p : 0 < c.args.left = omega (arith, c.if-left-eq0.false) in
    let e = rows_first (take c.args.depth c.args.row) c.args.left (take c.args.left c.args.items) p in (
      p,
      omega arith,
      search rules,
      search rules,
      refl,
      ap (λ (l : List ℕ). c.args.at + length l) (sym e),
      ap (sets c.args.out.now c.args.at) (sym e),
    )

pub generate_permutations-next-requires : goal.generate_permutations-next-requires
generate_permutations-next-requires t c =
    let l = c.loop-i in (
      omega (arith, c.decreases, l.invariant.0),
      record {
        few = omega (arith, c.requires.few, l.invariant.0);
        room = rw c.remove-rest.ensures (turn_room c.args.items c.args.row c.args.out.now l.out c.args.left c.args.depth c.args.at l.next l.i c.requires.few l.invariant.2 l.invariant.3 c.loop-i-test.true (omega (arith, c.requires.room, l.invariant.4)) l.invariant.5 l.invariant.6);
      },
    )

pub loop-i-preserved : goal.loop-i-preserved
loop-i-preserved t c =
    let l = c.loop-i in
    let g = rw c.remove-rest.ensures at c.generate_permutations-next.ensures in (
      l.invariant.0,
      omega arith,
      l.invariant.2,
      l.invariant.3,
      c.generate_permutations-next.auto.out ∙ l.invariant.4,
      rw g.next_row (turn_after c.args.items c.args.row c.args.out.now l.out c.args.left c.args.depth c.args.at l.next l.i c.requires.few l.invariant.2 l.invariant.3 c.loop-i-test.true (omega (arith, c.requires.room, l.invariant.4)) l.invariant.5 l.invariant.6),
      rw (g.next_row, g.written) (turn_written c.args.items c.args.row c.args.out.now l.out c.args.left c.args.depth c.args.at l.next l.i c.requires.few l.invariant.2 l.invariant.3 c.loop-i-test.true (omega (arith, c.requires.room, l.invariant.4)) l.invariant.5 l.invariant.6),
    )

pub returns : goal.returns
returns t c =
    let l = c.loop-i in
    let z : l.i ≡ length (take c.args.left c.args.items) = simp length-take (omega (arith, c.requires.few)) in
    let e = ap (rows_from (take c.args.depth c.args.row) c.args.left (take c.args.left c.args.items)) z ∙ rows_last (take c.args.depth c.args.row) c.args.left (take c.args.left c.args.items) in
    record { next_row = omega (arith, l.invariant.5, ap length e); written = rw e at l.invariant.6 }
