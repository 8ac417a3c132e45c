-- `hand_on` meets its contract. Assumes nothing.
use Prim.Native.Nat.{◌+◌, ◌-◌, ◌*◌, ◌<◌}
use native.Mathlib.Omega.{arith}
use native.Mathlib.Nat.{add_comm}
use lib.Bits.{bit_and}
use lib.ListN.{get_or}
use borrow.Author.Tests.{eqb-false}
use Rattle.theory.specs.Route.{reverses}
use Rattle.standing.proofs.Places.{has_both, has_higher}
use Rattle.prefixes.proofs.hand_on.Goals as goal

pub returns-then-used-p-eq1 : goal.returns-then-used-p-eq1
unfolding reverses
returns-then-used-p-eq1 c = λ free y h i l. absurd (eqb-false _ 1 free c.if-used-p-eq1.true)

pub returns : goal.returns
returns c = λ free y h i l.
    let s = c.args in
    let size = get_or s.cuts.now s.p 0 - get_or s.cuts.now (s.p - 1) 0 in
    let there = bit_and s.places (get_or s.stands.now (get_or s.cuts.now (s.p - 1) 0 * 49 + get_or s.cuts.now s.p 0) 0) in
    let near : size + y < 64 = omega (arith, l) in
    rw (add_comm y size) (has_higher there size y near (has_both _ _ y h i))
