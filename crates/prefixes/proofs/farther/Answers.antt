-- `farther` meets its contract. Assumes nothing.
use Prim.Native.Nat.{◌+◌, ◌-◌, ◌<◌}
use native.Mathlib.Omega.{arith}
use native.Mathlib.Nat.{add_comm}
use lib.ListN.{get_or}
use Rattle.standing.proofs.Places.{has_higher}
use Rattle.prefixes.proofs.farther.Goals as goal

pub returns : goal.returns
returns c = λ g h l.
    let s = c.args in
    let size = get_or s.cuts.now s.p 0 - get_or s.cuts.now (s.p - 1) 0 in
    let near : size + g < 64 = omega (arith, l) in
    rw (add_comm g size) (has_higher s.goal size g near h)
