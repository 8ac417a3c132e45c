-- The dues of the middle segments in their places, segment by segment, are those of the states. Assumes nothing.
use mathlib.Core.Path.{◌≡◌, ◌∙◌}
use mathlib.Core.Bool.{Bool, true, false, cond}
use mathlib.Core.List.{List}
use Prim.Native.Nat.{ℕ, suc, zero, ◌+◌, ◌-◌, ◌*◌, ◌/◌, ◌%◌, ◌≤◌, ◌<◌}
use native.Mathlib.Decide.{dec_lt, ℕ_discrete}
use native.Mathlib.Omega.{arith}
use lib.Dec.{eqb}
use lib.ListN.{length, get_or, set, replicate, length-set}
use lib.Seq.{slice, set_out, get_or-set_same, get_or-set_other}
use Rattle.theory.specs.Moves.{total}
use Rattle.theory.specs.Route.{Clock, reverse_if}
use Rattle.theory.specs.Tables.{CutSet, Tables}
use Rattle.theory.proofs.Route.{total_reverse_if}
use Rattle.costs.proofs.Segments.{cut_below, segment_is, segment_filled}
use Rattle.deadlines.specs.Stays.{Stays}
use Rattle.deadlines.proofs.Stays.{stayed_along}
use Rattle.scan_joints.proofs.States.{part_at, halves}
use Rattle.deadline_dues.specs.Due.{Due, SegmentDues, Spannable}
use Rattle.deadline_dues.specs.Dues.{DuesFillable, BySegment, SegmentsDue, stay_of, StaysAsked, StaysTold, StaysOf, DuesOf}

pub none_placed : (of : ℕ → ℕ → ℕ → Type 0) (D : List ℕ) → length D ≡ 9 → BySegment of 0 D
none_placed of D h = record { places = h; each = λ i l m. absurd (omega arith) }

-- One segment more.
pub more_placed : (of : ℕ → ℕ → ℕ → Type 0) (D : List ℕ) (i s v : ℕ) → 1 ≤ i → i ≤ 4 → BySegment of (i - 1) D → of i s v → BySegment of i (set (set D (2 * i - 2) s) (2 * i - 2 + 1) v)
more_placed of D i s v h k w found =
    record {
      places = simp length-set w.places;
      each = λ j l m. by j l m (ℕ_discrete j i);
    }
  where
    first : get_or (set (set D (2 * i - 2) s) (2 * i - 2 + 1) v) (2 * i - 2) 0 ≡ s
    first = get_or-set_other (set D (2 * i - 2) s) (2 * i - 2 + 1) (2 * i - 2) v 0 (λ e. omega arith) ∙ get_or-set_same D (2 * i - 2) s 0 (omega (arith, w.places))

    second : get_or (set (set D (2 * i - 2) s) (2 * i - 2 + 1) v) (2 * i - 2 + 1) 0 ≡ v
    second = get_or-set_same (set D (2 * i - 2) s) (2 * i - 2 + 1) v 0 (simp length-set (omega (arith, w.places)))

    kept : (c : ℕ) → c < 2 * i - 2 → get_or (set (set D (2 * i - 2) s) (2 * i - 2 + 1) v) c 0 ≡ get_or D c 0
    kept c l = get_or-set_other (set D (2 * i - 2) s) (2 * i - 2 + 1) c v 0 (λ e. omega arith) ∙ get_or-set_other D (2 * i - 2) c s 0 (λ e. omega arith)

    by : (j : ℕ) → 1 ≤ j → j ≤ i → Dec (j ≡ i) → of j (get_or (set (set D (2 * i - 2) s) (2 * i - 2 + 1) v) (2 * j - 2) 0) (get_or (set (set D (2 * i - 2) s) (2 * i - 2 + 1) v) (2 * j - 2 + 1) 0)
    by j l m (yes e) = rw (e, first, second) found
    by j l m (no n) = rw (kept (2 * j - 2) (omega arith), kept (2 * j - 2 + 1) (omega arith)) (w.each j l (omega arith))

pub more_dues : (C : Clock) (cs r D : List ℕ) (i s v : ℕ) → 1 ≤ i → i ≤ 4 → SegmentsDue C cs r (i - 1) D → SegmentDues C (slice (get_or cs (i - 1) 0) (get_or cs i 0) r) s v →
    SegmentsDue C cs r i (set (set D (2 * i - 2) s) (2 * i - 2 + 1) v)
more_dues C cs r = more_placed (λ i s v. SegmentDues C (slice (get_or cs (i - 1) 0) (get_or cs i 0) r) s v)

-- No number grows beyond what those that are put do not.
pub still_brief : (D : List ℕ) (i v : ℕ) → ((s : ℕ) → get_or D s 0 ≤ 512 * 1000000) → v ≤ 512 * 1000000 → (s : ℕ) → get_or (set D i v) s 0 ≤ 512 * 1000000
still_brief D i v few h s = by (ℕ_discrete s i) (dec_lt i (length D))
  where
    by : Dec (s ≡ i) → Dec (i < length D) → get_or (set D i v) s 0 ≤ 512 * 1000000
    by (yes e) (yes l) = rw e (omega (arith, get_or-set_same D i v 0 l, h))
    by (yes e) (no l) = rw (set_out D i v (omega arith)) (few s)
    by (no n) l = omega (arith, get_or-set_other D i s v 0 n, few s)

-- A middle segment that can be spanned.
pub segment_spanned : {T : Tables} {r sums stayed cs D : List ℕ} {count : ℕ} → DuesFillable T r sums stayed cs count D → (i : ℕ) → 1 ≤ i → i ≤ count →
    Spannable T r sums stayed (get_or cs (i - 1) 0) (get_or cs i 0)
segment_spanned {r = r} {cs = cs} given i h k =
    record {
      read = given.read;
      filled = segment_filled cs r given.cut_set i h (omega (arith, given.fewer));
      within = cut_below cs r given.cut_set i (omega (arith, given.fewer));
    }

-- ---- the states

pub dues_of : (C : Clock) (cs r D : List ℕ) → CutSet (length cs) (length r) cs → SegmentsDue C cs r (length cs - 1) D → DuesOf C cs r D
unfolding reverse_if
dues_of C cs r D cut_set w =
    record {
      places = w.places;
      each = λ s h.
          let i = 1 + s / 2 in
          let k : i < length cs = omega (arith, h) in
          rw (part_at cs r s i (eqb (s % 2) 1) (omega arith) (halves s), segment_is cs r cut_set i (omega arith) k)
          (of s i (eqb (s % 2) 1) (omega arith) (halves s) (w.each i (omega arith) (omega arith)));
    }
  where
    of : (s i : ℕ) (b : Bool) → 1 ≤ i → s ≡ 2 * (i - 1) + cond b 1 0 → SegmentDues C (slice (get_or cs (i - 1) 0) (get_or cs i 0) r) (get_or D (2 * i - 2) 0) (get_or D (2 * i - 2 + 1) 0) →
        Due C (reverse_if b (slice (get_or cs (i - 1) 0) (get_or cs i 0) r)) (get_or D s 0)
    of s i true h e d = let f : s ≡ 2 * i - 2 + 1 = omega arith in rw f d.turned
    of s i false h e d = let f : s ≡ 2 * i - 2 = omega arith in rw f d.as_it_stands

pub no_stays : (n s : ℕ) → get_or (replicate n 0) s 0 ≤ 512 * 1000000
no_stays zero s = omega arith
no_stays (suc n) zero = omega arith
no_stays (suc n) (suc s) = no_stays n s

-- The stays at the cuts rise, and are small.
pub stays_asked : (service cs r stayed S : List ℕ) → CutSet (length cs) (length r) cs → Stays service r stayed → length S ≡ 9 → ((s : ℕ) → get_or S s 0 ≤ 512 * 1000000) → StaysAsked stayed cs S
stays_asked service cs r stayed S cut_set stays places brief =
    record {
      places = places;
      brief = brief;
      least = omega (arith, cut_set.least);
      most = cut_set.most;
      stay_places = stays.places;
      within = λ i h. omega (arith, cut_below cs r cut_set i h, cut_set.short);
      rises = λ i l h. omega (arith, stayed_along stays (get_or cs (i - 1) 0) (get_or cs i 0) (omega (arith, segment_filled cs r cut_set i l h)) (cut_below cs r cut_set i h));
      small = λ i h. omega (arith, stays.small (get_or cs i 0) (cut_below cs r cut_set i h), cut_below cs r cut_set i h, cut_set.short);
    }

-- The service of the states is that of their segments, reversed or not.
pub stays_of : (service cs r stayed S : List ℕ) → CutSet (length cs) (length r) cs → Stays service r stayed → StaysTold stayed cs S → StaysOf service cs r S
unfolding reverse_if
stays_of service cs r stayed S cut_set stays told =
    record {
      places = told.each.places;
      each = λ s h.
          let i = 1 + s / 2 in
          let k : i < length cs = omega (arith, h) in
          let b = eqb (s % 2) 1 in
          rw (part_at cs r s i b (omega arith) (halves s), segment_is cs r cut_set i (omega arith) k)
          (of s i b (omega arith) k (halves s) (told.each.each i (omega arith) (omega arith)));
      brief = told.brief;
    }
  where
    of : (s i : ℕ) (b : Bool) → 1 ≤ i → i < length cs → s ≡ 2 * (i - 1) + cond b 1 0 → (get_or S (2 * i - 2) 0 ≡ stay_of stayed cs i) × (get_or S (2 * i - 2 + 1) 0 ≡ stay_of stayed cs i) →
        get_or S s 0 ≡ total (λ x. get_or service x 0) (reverse_if b (slice (get_or cs (i - 1) 0) (get_or cs i 0) r))
    of s i b h k e d =
        let l = stayed_along stays (get_or cs (i - 1) 0) (get_or cs i 0) (omega (arith, segment_filled cs r cut_set i h k)) (cut_below cs r cut_set i k) in
        at s b e d ∙ omega (arith, l, total_reverse_if (λ x. get_or service x 0) b (slice (get_or cs (i - 1) 0) (get_or cs i 0) r))
      where
        at : (s : ℕ) (b : Bool) → s ≡ 2 * (i - 1) + cond b 1 0 → (get_or S (2 * i - 2) 0 ≡ stay_of stayed cs i) × (get_or S (2 * i - 2 + 1) 0 ≡ stay_of stayed cs i) → get_or S s 0 ≡ stay_of stayed cs i
        at s true e d = let f : s ≡ 2 * i - 2 + 1 = omega arith in rw f d.1
        at s false e d = let f : s ≡ 2 * i - 2 = omega arith in rw f d.0
