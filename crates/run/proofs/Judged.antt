-- What the rules of a run establish, where none applies. Assumes nothing.
use mathlib.Core.Path.{◌≡◌}
use mathlib.Core.Bool.{false, not, ◌||◌}
use mathlib.Core.List.{List}
use Prim.Native.Nat.{ℕ, ◌*◌, ◌≤◌}
use lib.Dec.{leb, ltb, eqb}
use lib.ListN.{length, get_or}
use borrow.Author.Tests.{ltb-false, leb-false, eqb-true, not-false}
use Rattle.theory.specs.Tables.{Tables, Fleet}
use Rattle.theory.specs.Moves.{total}
use Rattle.std.specs.List.{list_any}
use Rattle.theory.specs.Refusals.{cut_count, known_rounds, known_ends, round_lists, end_list, table_rules}
use Rattle.theory.proofs.Refusals.{Passes}
use Rattle.theory.proofs.Judged.{or_false, none_at, cut_count_fine, table_fine, times_fine}
use Rattle.run.specs.Run.{Runnable}

pub runnable_fine : (k : ℕ) (T : Tables) (F : Fleet) (result : List ℕ) →
    (cut_count k).1 ≡ false → Passes (table_rules T) →
    (known_rounds T.locations F.depots F.stops).1 ≡ false → (known_ends T.locations F.ends).1 ≡ false →
    (round_lists F.lengths F.depots F.pins (length F.stops)).1 ≡ false → (end_list F.lengths F.ends).1 ≡ false →
    4 * length F.lengths ≤ length result → Runnable k T F result
runnable_fine k T F result a t e d f l g =
    let n = cut_count_fine k a in
    let p = or_false (list_any (λ s. leb T.locations s) F.depots) (list_any (λ s. leb T.locations s) F.stops) e in
    let many = ltb 64 (length F.lengths) in
    let long = list_any (λ n. ltb 512 n) F.lengths in
    let depots_differ = not (eqb (length F.depots) (length F.lengths)) in
    let pins_differ = not (eqb (length F.pins) (length F.lengths)) in
    let stops_differ = not (eqb (total (λ n. n) F.lengths) (length F.stops)) in
    let q₁ = or_false (many || long || depots_differ || pins_differ) stops_differ f in
    let q₂ = or_false (many || long || depots_differ) pins_differ q₁.0 in
    let q₃ = or_false (many || long) depots_differ q₂.0 in
    let q₄ = or_false many long q₃.0 in
    record {
      least = n.0;
      most = n.1;
      table = table_fine T.locations T.legs t.0 t.1.1.0;
      times = times_fine T t.1.0 t.1.1.1.0;
      stops_known = λ i h. leb-false T.locations (get_or F.stops i 0) (none_at (λ s. leb T.locations s) F.stops p.1 i h);
      depots_known = λ i h. leb-false T.locations (get_or F.depots i 0) (none_at (λ s. leb T.locations s) F.depots p.0 i h);
      ends_known = λ i h. leb-false T.locations (get_or F.ends i 0) (none_at (λ s. leb T.locations s) F.ends d i h);
      few = ltb-false 64 (length F.lengths) q₄.0;
      short = λ i h. ltb-false 512 (get_or F.lengths i 0) (none_at (λ n. ltb 512 n) F.lengths q₄.1 i h);
      depots_each = eqb-true (length F.depots) (length F.lengths) (not-false _ q₃.1);
      ends_each = eqb-true (length F.ends) (length F.lengths) (not-false _ l);
      pins_each = eqb-true (length F.pins) (length F.lengths) (not-false _ q₂.1);
      end_to_end = eqb-true (total (λ n. n) F.lengths) (length F.stops) (not-false _ q₁.1);
      room = g;
    }
