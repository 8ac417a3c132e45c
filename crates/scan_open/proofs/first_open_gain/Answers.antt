-- `scan_open::first_open_gain` meets its contract. Assumes nothing.
use native.Mathlib.Omega.{arith}
use Rattle.scan_open.proofs.Open.{at_hand, limit_asked, pattern_asked, findable_now, found_none, found_first}
use Rattle.scan_open.proofs.Given.{given_open, listed_as}
use Rattle.scan_open.proofs.first_open_gain.Goals as goal

pub open_limit-open-requires : goal.open_limit-open-requires
open_limit-open-requires c = limit_asked (given_open c.requires) c.keep_open.ensures

pub first_gain-found-requires : goal.first_gain-found-requires
first_gain-found-requires c =
    let p = c.requires in
    let q = given_open p in
    let h = at_hand c.args.closing.now.blocked c.keep_open.ensures p.sifting.places p.chained in
    let n = c.at_hand-now in
    record { at_cuts = p.at_cuts; listed = listed_as n.result n.ensures.states n.ensures.chains n.ensures.count (findable_now q h c.open_limit-open.ensures); ends = p.ends; held = p.held }

pub returns-then-found-open : goal.returns-then-found-open
returns-then-found-open c =
    let p = c.requires in
    let h = at_hand c.args.closing.now.blocked c.keep_open.ensures p.sifting.places p.chained in
    let n = c.at_hand-now.ensures in
    let f = rw (n.states, n.count) at c.first_gain-found.ensures in
    record { found = found_none (given_open p) h c.open_limit-open.ensures f c.if-found-open.true; held = c.keep_open.ensures.held }

pub pattern_at-requires : goal.pattern_at-requires
pattern_at-requires c =
    let n = c.at_hand-now.ensures in
    let f = rw (n.states, n.count) at c.first_gain-found.ensures in
    pattern_asked (given_open c.requires) (omega (arith, f.within, c.if-found-open.false, c.open_limit-open.ensures))

pub returns : goal.returns
returns c =
    let p = c.requires in
    let h = at_hand c.args.closing.now.blocked c.keep_open.ensures p.sifting.places p.chained in
    let n = c.at_hand-now.ensures in
    let o = c.open_limit-open.ensures in
    let f = rw (n.states, n.count) at c.first_gain-found.ensures in
    rw c.pattern_at.ensures (record { found = found_first (given_open p) h o f (omega (arith, f.within, c.if-found-open.false, o)); held = c.keep_open.ensures.held })
