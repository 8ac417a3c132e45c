-- `gather` meets its contract. The invariant: the places from y on, moved down by y, are left. Assumes nothing.
use native.Mathlib.Omega.{arith}
use Rattle.prefixes.proofs.Gathering.{none_left, all_taken, next_taken}
use Rattle.prefixes.proofs.gather.Goals as goal

pub returns-then-y-eq48 : goal.returns-then-y-eq48
returns-then-y-eq48 c =
    let l = c.loop-rest in
    let s = c.args in
    all_taken s.ahead.now s.row s.places l.rest l.y l.all l.invariant c.least_place-skip.result c.least_place-skip.ensures (omega (arith, c.if-y-eq48.true))

pub loop-rest-preserved : goal.loop-rest-preserved
loop-rest-preserved c =
    let l = c.loop-rest in
    let s = c.args in
    next_taken s.ahead.now s.row s.places l.rest l.y l.all l.invariant c.least_place-skip.result c.least_place-skip.ensures (omega (arith, c.if-y-eq48.false))

pub returns : goal.returns
returns c =
    let l = c.loop-rest in
    let s = c.args in
    none_left s.ahead.now s.row s.places l.rest l.y l.all l.invariant c.loop-rest-test.false
