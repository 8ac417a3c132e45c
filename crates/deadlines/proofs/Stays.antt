-- The stays of a route, filled stop by stop, and read. Assumes nothing.
use mathlib.Core.Path.{◌≡◌, sym, ap, ◌∙◌}
use mathlib.Core.List.{List, [], ◌∷◌, ◌++◌}
use Prim.Native.Nat.{ℕ, suc, ◌+◌, ◌*◌, ◌≤◌, ◌<◌}
use native.Mathlib.Decide.{ℕ_discrete}
use native.Mathlib.Numerals.{add-one}
use native.Mathlib.Omega.{arith}
use lib.ListN.{length, get_or, set, take, length-set, take-append-drop}
use lib.Seq.{slice, take-suc, take-take, get_or-set_same, get_or-set_other}
use Rattle.theory.specs.Moves.{total}
use Rattle.theory.specs.Route.{left}
use Rattle.theory.specs.Tables.{Tables, timetable_by, clock_by}
use Rattle.theory.proofs.Clock.{path_step}
use Rattle.theory.proofs.Moves.{total_append}
use Rattle.deadlines.specs.Stays.{Stays}
use Rattle.deadlines.specs.Lateness.{LeftAt, UntilAt}

total_next : (g : ℕ → ℕ) (r : List ℕ) (i : ℕ) → i < length r → total g (take (i + 1) r) ≡ total g (take i r) + g (get_or r i 0)
unfolding total
total_next g r i h = rw (add-one i, take-suc r i 0 h) (omega (arith, total_append g (take i r) (get_or r i 0 ∷ [])))

-- ---- filled up to position i

pub record Staying (service r stayed : List ℕ) (i sum : ℕ) : Type 0 where
  pub places : length stayed ≡ 513
  pub each : (c : ℕ) → c ≤ i → get_or stayed c 0 ≡ total (λ x. get_or service x 0) (take c r)
  pub small : (c : ℕ) → c ≤ i → get_or stayed c 0 ≤ 1000000 * c
  pub sum_is : sum ≡ get_or stayed i 0

pub no_stay : (service r stayed : List ℕ) → length stayed ≡ 513 → Staying service r (set stayed 0 0) 0 0
unfolding total
no_stay service r stayed h =
    record {
      places = simp length-set h;
      each = λ c l. let e : c ≡ 0 = omega arith in rw e (get_or-set_same stayed 0 0 0 (omega arith));
      small = λ c l. let e : c ≡ 0 = omega arith in rw e (omega (arith, get_or-set_same stayed 0 0 0 (omega arith)));
      sum_is = sym (get_or-set_same stayed 0 0 0 (omega arith));
    }

pub one_stay : (service r stayed : List ℕ) (i sum v : ℕ) → Staying service r stayed i sum → i < length r → length r ≤ 512 → v ≡ get_or service (get_or r i 0) 0 → v ≤ 1000000 →
    Staying service r (set stayed (i + 1) (sum + v)) (i + 1) (sum + v)
one_stay service r stayed i sum v so h short e brief =
    let there = get_or-set_same stayed (i + 1) (sum + v) 0 (omega (arith, so.places)) in
    record {
      places = simp length-set so.places;
      each = λ c l. by c l (ℕ_discrete c (i + 1));
      small = λ c l. few c l (ℕ_discrete c (i + 1));
      sum_is = sym there;
    }
  where
    by : (c : ℕ) → c ≤ i + 1 → Dec (c ≡ i + 1) → get_or (set stayed (i + 1) (sum + v)) c 0 ≡ total (λ x. get_or service x 0) (take c r)
    by c l (yes q) =
        rw q (omega (arith, get_or-set_same stayed (i + 1) (sum + v) 0 (omega (arith, so.places)), total_next (λ x. get_or service x 0) r i h, so.each i (omega arith), so.sum_is, e))
    by c l (no q) = get_or-set_other stayed (i + 1) c (sum + v) 0 q ∙ so.each c (omega arith)

    few : (c : ℕ) → c ≤ i + 1 → Dec (c ≡ i + 1) → get_or (set stayed (i + 1) (sum + v)) c 0 ≤ 1000000 * c
    few c l (yes q) = rw q (omega (arith, get_or-set_same stayed (i + 1) (sum + v) 0 (omega (arith, so.places)), so.small i (omega arith), so.sum_is))
    few c l (no q) = omega (arith, get_or-set_other stayed (i + 1) c (sum + v) 0 q, so.small c (omega arith))

-- ---- read

module _ {service r stayed : List ℕ} (stays : Stays service r stayed) (i : ℕ) (h : i < length r) where
  pub served : get_or stayed (i + 1) 0 ≡ get_or stayed i 0 + get_or service (get_or r i 0) 0
  served = omega (arith, stays.each (i + 1) (omega arith), stays.each i (omega arith), total_next (λ x. get_or service x 0) r i h)

-- The service of a part of the route.
pub stayed_along : {service r stayed : List ℕ} → Stays service r stayed → (start end : ℕ) → start ≤ end → end ≤ length r →
    get_or stayed start 0 + total (λ x. get_or service x 0) (slice start end r) ≡ get_or stayed end 0
stayed_along {service} {r} stays start end h k =
    let g : ℕ → ℕ = λ x. get_or service x 0 in
    let whole : take start r ++ slice start end r ≡ take end r =
    ap (λ (l : List ℕ). l ++ slice start end r) (sym (take-take start end r h)) ∙ take-append-drop start (take end r) in
    omega (arith, stays.each start (omega arith), stays.each end k, ap (total g) whole, total_append g (take start r) (slice start end r))

-- When a stop is left, and until when it may be, on the clock.
module _ (T : Tables) {r stayed : List ℕ} (stays : Stays T.service r stayed) (i : ℕ) (h : i < length r) where
  pub left_told : {depot v : ℕ} → LeftAt T.locations T.legs depot r stayed i v → v ≡ left (clock_by T) depot r i
  unfolding left
  left_told {depot} a = a.is ∙ rw (stays.each (i + 1) (omega arith), add-one i) (sym (path_step (timetable_by T) depot (take (suc i) r)))

  pub until_told : {v : ℕ} → UntilAt T.latest r stayed i v → v ≡ (clock_by T).until (get_or r i 0)
  until_told u = omega (arith, u.is, served stays i h)
