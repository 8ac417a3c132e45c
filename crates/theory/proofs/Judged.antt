-- What a rule that does not apply says of the input: the conditions under which the crates above work. Assumes nothing.
use mathlib.Core.Path.{◌≡◌, refl}
use mathlib.Core.Bool.{Bool, true, false, not, ◌&&◌, ◌||◌, true≢false, false≢true}
use mathlib.Core.List.{List, [], ◌∷◌}
use Prim.Native.Nat.{ℕ, zero, suc, ◌*◌, ◌<◌, ◌≤◌}
use native.Mathlib.Omega.{arith}
use lib.Dec.{leb, ltb, eqb}
use lib.ListN.{length, get_or}
use borrow.Author.Tests.{ltb-false, leb-false, ltb-true, eqb-true, not-false}
use Rattle.theory.specs.Moves.{patterns, Rising}
use Rattle.theory.specs.Tables.{Tables, LegTable, Times, Stops, Followable, Measurable, Clocked, Timed, Trip, CutSet}
use Rattle.std.specs.List.{list_any}
use Rattle.theory.specs.Refusals.{rises, cut_count, leg_table, deadline_list, leg_sizes, service_list, known_stops, known_end, stop_count, pattern_index, cut_positions, room, problem_rules}
use Rattle.theory.proofs.Refusals.{Passes}

pub and_true : (a b : Bool) → (a && b) ≡ true → (a ≡ true) × (b ≡ true)
and_true true b e = (refl, e)
and_true false b e = absurd (false≢true e)

pub or_false : (a b : Bool) → (a || b) ≡ false → (a ≡ false) × (b ≡ false)
or_false true b e = absurd (true≢false e)
or_false false b e = (refl, e)

-- Where no element passes a test, none does at any place.
pub none_at : (t : ℕ → Bool) (l : List ℕ) → list_any t l ≡ false → (i : ℕ) → i < length l → t (get_or l i 0) ≡ false
none_at t [] e i h = absurd (omega arith)
none_at t (x ∷ l) e zero h = (or_false (t x) (list_any t l) e).0
none_at t (x ∷ l) e (suc i) h = none_at t l (or_false (t x) (list_any t l) e).1 i (omega arith)

none_above : (most : ℕ) (l : List ℕ) → list_any (λ x. ltb most x) l ≡ false → (i : ℕ) → get_or l i 0 ≤ most
none_above most [] e i = omega arith
none_above most (x ∷ l) e zero = ltb-false most x (or_false (ltb most x) (list_any (λ x. ltb most x) l) e).0
none_above most (x ∷ l) e (suc i) = none_above most l (or_false (ltb most x) (list_any (λ x. ltb most x) l) e).1 i

pub cut_count_fine : (k : ℕ) → (cut_count k).1 ≡ false → (2 ≤ k) × (k ≤ 5)
cut_count_fine k e = let p = or_false (ltb k 2) (ltb 5 k) e in (ltb-false k 2 p.0, ltb-false 5 k p.1)

pub table_fine : (locations : ℕ) (legs : List ℕ) → (leg_table locations legs).1 ≡ false → (leg_sizes legs).1 ≡ false → LegTable locations legs
table_fine locations legs e f =
    let p = or_false (ltb locations 1 || ltb 1024 locations) (not (eqb (length legs) (locations * locations))) e in
    let q = or_false (ltb locations 1) (ltb 1024 locations) p.0 in
    record {
      few = ltb-false 1024 locations q.1;
      square = eqb-true (length legs) (locations * locations) (not-false _ p.1);
      small = none_above 1000000 legs f;
    }

pub stops_fine : (locations depot : ℕ) (route : List ℕ) → (known_stops locations depot route).1 ≡ false → (stop_count (length route)).1 ≡ false →
    (depot < locations) × Stops locations route
stops_fine locations depot route e f =
    let p = or_false (leb locations depot) (list_any (λ s. leb locations s) route) e in (
      leb-false locations depot p.0,
      record { short = ltb-false 512 (length route) f; known = λ i h. leb-false locations (get_or route i 0) (none_at (λ s. leb locations s) route p.1 i h) },
    )

pub followable_fine : (locations : ℕ) (legs : List ℕ) (depot : ℕ) (route : List ℕ) →
    (leg_table locations legs).1 ≡ false → (leg_sizes legs).1 ≡ false → (known_stops locations depot route).1 ≡ false → (stop_count (length route)).1 ≡ false →
    Followable locations legs depot route
followable_fine locations legs depot route a b c d =
    let p = stops_fine locations depot route c d in
    record { table = table_fine locations legs a b; depot_known = p.0; stops = p.1 }

-- To a known end a route that can be followed can be measured.
pub to_end : {locations depot end : ℕ} {legs route : List ℕ} → Followable locations legs depot route → end < locations → Measurable locations legs depot end route
to_end f e = record { table = f.table; depot_known = f.depot_known; end_known = e; stops = f.stops }

pub measurable_fine : (locations : ℕ) (legs : List ℕ) (depot end : ℕ) (route : List ℕ) →
    (leg_table locations legs).1 ≡ false → (leg_sizes legs).1 ≡ false → (known_stops locations depot route).1 ≡ false → (known_end locations end).1 ≡ false →
    (stop_count (length route)).1 ≡ false → Measurable locations legs depot end route
measurable_fine locations legs depot end route a b c e d = to_end (followable_fine locations legs depot route a b c d) (leb-false locations end e)

-- What is asked of the stops and the deadlines alone.
pub followed : {locations depot end : ℕ} {legs route : List ℕ} → Measurable locations legs depot end route → Followable locations legs depot route
followed m = record { table = m.table; depot_known = m.depot_known; stops = m.stops }

pub clocked : {T : Trip} {route : List ℕ} → Timed T route → Clocked T.tables T.depot route
clocked t = record { followable = followed t.measurable; times = t.times }

-- A closed tour.
pub closed : {T : Tables} {depot : ℕ} {route : List ℕ} → Clocked T depot route → Timed (record { tables = T; depot = depot; end = depot; pairs = [] }) route
closed c = record { measurable = to_end c.followable c.followable.depot_known; times = c.times }

pub times_fine : (T : Tables) → (deadline_list T.locations T.latest).1 ≡ false → (service_list T.locations T.service).1 ≡ false → Times T
times_fine T e f =
    let p = or_false (not (eqb (length T.service) T.locations)) (list_any (λ s. ltb 1000000 s) T.service) f in
    record {
      deadlines = eqb-true (length T.latest) T.locations (not-false _ e);
      services = eqb-true (length T.service) T.locations (not-false _ p.0);
      brief = none_above 1000000 T.service p.1;
    }

pub pattern_fine : (k index : ℕ) → (pattern_index k index).1 ≡ false → index < length (patterns k)
pattern_fine k index e = leb-false (length (patterns k)) index e

rising_fine : (n low : ℕ) (cs : List ℕ) → (0 < length cs → low ≤ get_or cs 0 0) → list_any (λ c. ltb n c) cs ≡ false → rises cs ≡ true → Rising low cs n
unfolding rises
rising_fine n low [] l e r = tt
rising_fine n low (c ∷ []) l e r = (omega (arith, l (omega arith)), ltb-false n c (or_false (ltb n c) false e).0, tt)
rising_fine n low (c ∷ d ∷ cs) l e r =
    let p = or_false (ltb n c) (list_any (λ c. ltb n c) (d ∷ cs)) e in
    let q = and_true (ltb c d) (rises (d ∷ cs)) r in
    (omega (arith, l (omega arith)), ltb-false n c p.0, rising_fine n (suc c) (d ∷ cs) (λ h. ltb-true c d q.0) p.1 q.1)

pub cuts_fine : (k n : ℕ) (cuts : List ℕ) → (cut_count k).1 ≡ false → (stop_count n).1 ≡ false → (cut_positions k n cuts).1 ≡ false → CutSet k n cuts
cuts_fine k n cuts a b e =
    let c = cut_count_fine k a in
    let p = or_false (not (eqb (length cuts) k) || list_any (λ c. ltb n c) cuts) (not (rises cuts)) e in
    let q = or_false (not (eqb (length cuts) k)) (list_any (λ c. ltb n c) cuts) p.0 in
    record {
      least = c.0;
      most = c.1;
      short = ltb-false 512 n b;
      many = eqb-true (length cuts) k (not-false _ q.0);
      rising = rising_fine n 0 cuts (λ h. omega arith) q.1 (not-false _ p.1);
    }

pub room_fine : (needed lent : ℕ) → (room needed lent).1 ≡ false → needed ≤ lent
room_fine needed lent e = ltb-false lent needed e

pub clocked_fine : (T : Tables) (depot : ℕ) (route : List ℕ) → Passes (problem_rules T depot route) → Clocked T depot route
clocked_fine T depot route p =
    record {
      followable = followable_fine T.locations T.legs depot route p.0 p.1.1.0 p.1.1.1.1.0 p.1.1.1.1.1.0;
      times = times_fine T p.1.0 p.1.1.1.0;
    }
