-- What the rules of the nearby listing establish, where none applies. Assumes nothing.
use mathlib.Core.Path.{◌≡◌}
use mathlib.Core.Bool.{false, not, ◌||◌}
use mathlib.Core.List.{List}
use Prim.Native.Nat.{ℕ, ◌*◌}
use lib.Dec.{ltb, eqb}
use lib.ListN.{length}
use lib.Ieee.{Float}
use borrow.Author.Tests.{ltb-false, eqb-true, not-false}
use Rattle.theory.specs.Refusals.{cut_count, stop_count, nearby_input, room}
use Rattle.std.specs.List.{list_any}
use Rattle.std.specs.Prelude.{is_nan}
use Rattle.theory.proofs.Judged.{or_false, cut_count_fine}
use Rattle.nearby.specs.Listing.{NearbyInput}

pub nearby_fine : (k n : ℕ) (distances : List Float) (m count lent : ℕ) →
    (cut_count k).1 ≡ false → (stop_count n).1 ≡ false → (nearby_input n distances m count).1 ≡ false → (room k lent).1 ≡ false → NearbyInput n distances k m count lent
nearby_fine k n distances m count lent a b c d =
    let cuts = cut_count_fine k a in
    let p = or_false (ltb m 1 || ltb 512 m || ltb 32 count || not (eqb (length distances) (n * n))) (list_any is_nan distances) c in
    let q = or_false (ltb m 1 || ltb 512 m || ltb 32 count) (not (eqb (length distances) (n * n))) p.0 in
    let r = or_false (ltb m 1 || ltb 512 m) (ltb 32 count) q.0 in
    let s = or_false (ltb m 1) (ltb 512 m) r.0 in
    record {
      least = cuts.0;
      most = cuts.1;
      few = ltb-false 512 n b;
      shortest = ltb-false m 1 s.0;
      short = ltb-false 512 m s.1;
      neighbours = ltb-false 32 count r.1;
      square = eqb-true (length distances) (n * n) (not-false _ q.1);
      numbers = p.1;
      room = ltb-false lent k d;
    }
