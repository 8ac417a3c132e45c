-- `precedence::fill_members` meets its contract. The invariant: the words are those of the pairs up to here. Assumes nothing.
use Prim.Native.Nat.{◌+◌, ◌*◌, ◌<◌}
use native.Mathlib.Omega.{arith}
use lib.ListN.{length, get_or}
use Rattle.theory.specs.Pairs.{pairs_of}
use Rattle.precedence.proofs.Filling.{pairs_many, pair_at, no_members, below_bit, members_more, members_all}
use Rattle.precedence.proofs.fill_members.Goals as goal

pub loop-q-init : goal.loop-q-init
loop-q-init c = (omega arith, c.requires.places, no_members c.args.members.now c.requires.empty)

pub put_pair-requires : goal.put_pair-requires
put_pair-requires c =
    let l = c.loop-q in
    let pairs = c.args.pairs.now in
    let t = c.loop-q-test.true in
    let h : l.q < length (pairs_of pairs) = omega (arith, t, pairs_many pairs) in
    let below = below_bit (pairs_of pairs) l.q _ _ h (pair_at pairs l.q h) l.members l.invariant.2 in
    let a : get_or pairs (2 * l.q) 0 < 1024 = c.requires.list.known (2 * l.q) (omega (arith, t)) in
    let b : get_or pairs (2 * l.q + 1) 0 < 1024 = c.requires.list.known (2 * l.q + 1) (omega (arith, t)) in
    record {
      known = a;
      second_known = b;
      places = l.invariant.1;
      small = omega (arith, t, c.requires.list.few);
      room = rw (l.invariant.2.firsts _ a) (below _);
      second_room = rw (l.invariant.2.seconds _ b) (below _);
    }

pub loop-q-preserved : goal.loop-q-preserved
loop-q-preserved c =
    let l = c.loop-q in
    let pairs = c.args.pairs.now in
    let t = c.loop-q-test.true in
    let h : l.q < length (pairs_of pairs) = omega (arith, t, pairs_many pairs) in (
      omega (arith, t),
      c.put_pair.ensures.places,
      members_more (pairs_of pairs) l.q _ _ h (pair_at pairs l.q h) l.members l.invariant.2 _ c.put_pair.ensures,
    )

pub returns : goal.returns
returns c =
    let l = c.loop-q in
    let pairs = c.args.pairs.now in
    record { places = l.invariant.1; is = members_all (pairs_of pairs) l.q _ (omega (arith, c.loop-q-test.false, pairs_many pairs)) l.invariant.2 }
