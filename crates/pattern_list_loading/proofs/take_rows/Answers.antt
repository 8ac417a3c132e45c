-- `pattern_list_loading::take_rows` meets its contract: the first rows stand in their places, and the others in the text. Assumes nothing.
use mathlib.Core.Path.{◌≡◌, refl, sym, ap, ◌∙◌}
use Prim.Native.Nat.{suc, ◌+◌, ◌*◌, ◌≤◌, ◌<◌}
use native.Mathlib.Omega.{arith}
use lib.ListN.{length, length-set}
use Rattle.theory.proofs.Rows.{lent_within}
use Rattle.pattern_list_loading.proofs.Taking.{rest_begin, rest_end, rest_misfit, rest_on, lent_long}
use borrow.Author.Rules.{rules}
use Rattle.pattern_list_loading.proofs.take_rows.Goals as goal
use Rattle.pattern_list_loading.proofs.take_rows.Goals.{After-take_row, In-loop-i}

long : (c : In-loop-i) → let l = c.loop-i in length l.orders ≡ length l.masks * suc c.args.k
long c =
    let l = c.loop-i in
    l.invariant.1 ∙ c.requires.long ∙ ap (λ n. n * suc c.args.k) (sym l.invariant.2)

-- The places that a turn lends lie among the orders.
within : (c : In-loop-i) →
    let l = c.loop-i in l.i * (c.args.k + 1) + (c.args.k + 1) ≤ length l.orders
within c =
    let l = c.loop-i in
    lent_within c.args.k l.orders l.masks l.i (long c) (omega arith)

-- The row that was lent is as long as an order.
order_long : (c : After-take_row) → length c.take_row.new.order ≡ c.args.k + 1
order_long c =
    let l = c.loop-i in
    let w = c.args.k + 1 in
    c.take_row.auto.order ∙ lent_long (l.i * w) w l.orders (within (goal.at.After-take_row c).In-loop-i)

few : (c : In-loop-i) → length c.loop-i.masks ≤ 383
few c = rw c.loop-i.invariant.2 c.requires.few

pub loop-i-init : goal.loop-i-init
loop-i-init c = (omega arith, refl, refl, rest_begin c.requires)

pub overflow_mul-start : goal.overflow_mul-start
overflow_mul-start c = omega (arith, within (goal.at.overflow_mul-start c).In-loop-i)

pub overflow_add-end : goal.overflow_add-end
overflow_add-end c = omega (arith, within (goal.at.overflow_add-end c).In-loop-i)

pub slice_bounds-take_row-end : goal.slice_bounds-take_row-end
slice_bounds-take_row-end c = within (goal.at.slice_bounds-take_row-end c).In-loop-i

pub returns-in_default : goal.returns-in_default
returns-in_default c =
    let l = c.loop-i in
    let row = c.take_row in
    let none = rw c.in_default.is at row.ensures in
    rest_misfit l.invariant.3 (few (goal.at.returns-in_default c).In-loop-i) (omega arith) c.requires.least c.requires.most (λ p r e f. none p r e (f.0 ∙ sym (order_long (goal.at.returns-in_default c).After-take_row), f.1))

pub loop-i-preserved : goal.loop-i-preserved
loop-i-preserved c =
    let l = c.loop-i in
    let h : l.i < length l.masks = omega arith in
    let row = c.take_row in
    let read = rw c.in-Some.is at row.ensures in (
      rw (length-set l.masks l.i c.in-Some.mask) (omega arith),
      search rules,
      length-set l.masks l.i c.in-Some.mask ∙ l.invariant.2,
      rest_on l.invariant.3 (few (goal.at.loop-i-preserved c).In-loop-i) h row.new.order c.in-Some.mask c.in-Some.next.now (long (goal.at.loop-i-preserved c).In-loop-i) (order_long (goal.at.loop-i-preserved c).After-take_row) read,
    )

pub returns : goal.returns
returns c = rest_end c.loop-i.invariant.3 (rw c.loop-i.invariant.2 c.requires.few) (omega arith)
