use Rattle.std.proofs.Common.{ap, not, arith}
use Rattle.find_move.proofs.Walking.{begun, nothing, whole, whole_walked, found_here, not_here, nowhere}
use Rattle.find_move.proofs.RoutePair.+walk.Goals as goal

pub may_go_on-requires : goal.may_go_on-requires
may_go_on-requires t c = begun c.requires

pub returns-then-not-may_go_on : goal.returns-then-not-may_go_on
returns-then-not-may_go_on t c =
    nothing c.requires c.may_go_on.result c.may_go_on.ensures (ap not c.if-not-may_go_on.true)

pub first_pattern-requires : goal.first_pattern-requires
first_pattern-requires t c = whole c.requires c.if-j-self.true

pub returns-then-j-self : goal.returns-then-j-self
returns-then-j-self t c =
    whole_walked c.requires c.first_pattern.result c.if-j-self.true c.first_pattern.ensures

pub returns : goal.returns
returns t c =
    let l = c.loop-d in
    nowhere c.requires l.invariant.2 l.d l.invariant.0 (omega (arith, c.loop-d-test.false)) l.invariant.3

pub returns-in-Some : goal.returns-in-Some
returns-in-Some t c =
    let l = c.loop-d in
    found_here c.requires l.invariant.2 l.d l.invariant.0 (omega (arith, c.loop-d-test.true)) l.invariant.3 c.in-Some.found (rw (c.with_cut-longer.ensures, c.in-Some.is) at c.walk.ensures)

pub loop-d-preserved : goal.loop-d-preserved
loop-d-preserved t c =
    let l = c.loop-d in (
      omega (arith, l.invariant.0),
      omega (arith, c.loop-d-test.true),
      l.invariant.2,
      not_here c.requires l.invariant.2 l.d l.invariant.0 (omega (arith, c.loop-d-test.true)) l.invariant.3 (rw (c.with_cut-longer.ensures, c.in_default.is) at c.walk.ensures),
    )
