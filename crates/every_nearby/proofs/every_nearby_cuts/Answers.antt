-- `every_nearby::every_nearby_cuts` meets its contract. Assumes nothing.
use Prim.Native.Nat.{◌≤◌, ◌<◌, ◌^◌}
use native.Mathlib.Nat.{div-mul-le_self}
use lib.ListN.{length}
use Rattle.every_nearby.proofs.Listed.{more_listed, ended_listed}
use native.Mathlib.Omega.{arith}
use borrow.Author.Rules.{rules}
use Rattle.every_nearby.proofs.every_nearby_cuts.Goals as goal

pub first_cuts-counted-requires : goal.first_cuts-counted-requires
first_cuts-counted-requires c =
    let small : length c.args.sets.now < 2 ^ 61 = search rules in
    let least : 1 ≤ c.args.k = omega (arith, c.requires.least) in
    record {
      input = c.requires;
      room = record { least = least; most = c.requires.most; fits = div-mul-le_self (length c.args.sets.now) c.args.k; small = small; counted = omega arith };
    }

pub returns-then-counted-capacity : goal.returns-then-counted-capacity
returns-then-counted-capacity c =
    let q = c.first_cuts-counted in
    more_listed c.args.distances.now c.args.n c.args.k c.args.min_segment_len c.args.max_nearby c.requires.least q.result c.args.sets.now q.new.lent q.ensures c.if-counted-capacity.true

pub returns : goal.returns
returns c =
    let q = c.first_cuts-counted in
    ended_listed c.args.distances.now c.args.n c.args.k c.args.min_segment_len c.args.max_nearby c.requires.least q.result c.args.sets.now q.new.lent q.ensures c.if-counted-capacity.false
