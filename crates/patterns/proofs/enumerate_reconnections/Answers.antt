-- `enumerate_reconnections`: the patterns from the index on, stored from their places, give all patterns.
use mathlib.Core.Path.{◌≡◌, refl, ap, ◌∙◌}
use mathlib.Core.List.{[], ◌∷◌}
use Prim.Native.Nat.{ℕ, ◌+◌, ◌*◌, ◌<◌}
use native.Mathlib.Omega.{arith}
use lib.ListN.{length, replicate}
use lib.Seq.{sets}
use Rattle.theory.specs.Moves.{patterns}
use Rattle.patterns.specs.Enumeration.{orders_of}
use Rattle.patterns.proofs.Counts.{few_patterns, row_fits}
use Rattle.patterns.proofs.Enumeration.{recursion_room, middles_first, next_orders, next_masks, end_orders, end_masks}
use Rattle.patterns.proofs.enumerate_reconnections.Goals as goal

pub generate_permutations-requires : goal.generate_permutations-requires
generate_permutations-requires c =
    record { few = omega (arith, c.requires.cuts.most); room = recursion_room c.args.k c.requires.cuts (0 ∷ 0 ∷ 0 ∷ 0 ∷ []) }

pub loop-index-init : goal.loop-index-init
loop-index-init c =
    let g = c.generate_permutations in
    let z : 0 * (c.args.k + 1) ≡ 0 = omega arith in (
      omega arith,
      c.pattern_count-count.ensures,
      g.auto.out,
      middles_first c.args.k c.requires.cuts (0 ∷ 0 ∷ 0 ∷ 0 ∷ []) (replicate 96 0) g.new.out refl g.ensures.written,
      refl,
      refl,
      ap (λ (i : ℕ). sets c.args.orders.now i (orders_of (patterns c.args.k))) z,
      refl,
    )

pub put_pattern-requires : goal.put_pattern-requires
put_pattern-requires c =
    let l = c.loop-index in
    let known : l.index < length (patterns c.args.k) = omega (arith, c.loop-index-test.true, l.invariant.1) in
    record {
      listed = record { cuts = c.requires.cuts; known = known };
      permuted = l.invariant.3;
      order = omega (arith, row_fits c.args.k c.requires.cuts l.index known, c.requires.orders, l.invariant.4);
      mask = omega (arith, few_patterns c.args.k c.requires.cuts, c.requires.masks, l.invariant.5);
    }

pub loop-index-preserved : goal.loop-index-preserved
loop-index-preserved c =
    let l = c.loop-index in
    let p = c.put_pattern in
    let known : l.index < length (patterns c.args.k) = omega (arith, c.loop-index-test.true, l.invariant.1) in (
      omega (arith, c.loop-index-test.true),
      l.invariant.1,
      l.invariant.2,
      l.invariant.3,
      p.auto.orders ∙ l.invariant.4,
      p.auto.masks ∙ l.invariant.5,
      rw p.ensures.order (next_orders c.args.k l.index known l.orders ∙ l.invariant.6),
      rw p.ensures.mask (next_masks c.args.k l.index known l.masks ∙ l.invariant.7),
    )

pub returns : goal.returns
returns c =
    let l = c.loop-index in
    let all : l.index ≡ length (patterns c.args.k) = omega (arith, l.invariant.0, l.invariant.1, c.loop-index-test.false) in
    record {
      count = l.invariant.1;
      orders = end_orders c.args.k l.index c.requires.cuts all c.args.orders.now l.orders (l.index * (c.args.k + 1)) l.invariant.6 c.requires.orders;
      masks = end_masks c.args.k l.index c.requires.cuts all c.args.masks.now l.masks l.index l.invariant.7 c.requires.masks;
    }
