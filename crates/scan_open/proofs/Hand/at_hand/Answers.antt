-- `scan_open::Hand::at_hand` meets its contract. Assumes nothing.
use mathlib.Core.Path.{refl, sym, ap}
use mathlib.Core.Bool.{cond}
use borrow.Author.Tests.{eq-eqb, ne_eqb}
use Rattle.scan_open.proofs.Hand.at_hand.Goals as goal

pub returns-then-blocked-eq0 : goal.returns-then-blocked-eq0
returns-then-blocked-eq0 c =
    let a = c.args in
    let e = eq-eqb a.blocked 0 c.if-blocked-eq0.true in
    record { states = sym (ap (λ b. cond b a.rows.now.states.now a.self.now.rows) e); chains = sym (ap (λ b. cond b a.rows.now.chains.now a.self.now.chains) e); count = refl }

pub returns : goal.returns
returns c =
    let a = c.args in
    let e = ne_eqb a.blocked 0 c.if-blocked-eq0.false in
    record { states = sym (ap (λ b. cond b a.rows.now.states.now a.self.now.rows) e); chains = sym (ap (λ b. cond b a.rows.now.chains.now a.self.now.chains) e); count = refl }
