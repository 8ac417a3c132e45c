-- The dues held of the cut sets with the same first cuts, brought up to the last cut of one of them. Assumes nothing.
use mathlib.Core.Path.{◌≡◌}
use mathlib.Core.Logic.{◌⊎◌, inl, inr}
use mathlib.Core.List.{List, [], ◌∷◌, ◌++◌}
use Prim.Native.Nat.{ℕ, ◌+◌, ◌-◌, ◌*◌, ◌≤◌, ◌<◌}
use native.Mathlib.Omega.{arith}
use lib.ListN.{length, get_or, set, take, length-set, get_or-append}
use lib.Seq.{slice, get_or-take, get_or-append_seam, get_or-set_same, get_or-set_other}
use Rattle.theory.specs.Route.{Clock}
use Rattle.theory.specs.Tables.{clock_by, CutSet, Tables}
use Rattle.costs.specs.RouteCosts.{first_cuts}
use Rattle.costs.proofs.Segments.{segment_filled, last_cut, cuts_parted, first_many}
use Rattle.deadline_dues.specs.Due.{SegmentDues, GrowableTo}
use Rattle.deadline_dues.specs.Dues.{DuesFillable, SegmentsDue, DuesOf, DuesReach, DuesHeld, DuesReachable, DuesReached}
use Rattle.deadline_dues.proofs.Filling.{more_dues, dues_of}

-- ---- a new last cut

-- With another last cut, only the last middle segment has other dues.
pub last_replaced : (C : Clock) (r pre D : List ℕ) (c c' s v : ℕ) → 1 ≤ length pre → length pre ≤ 4 → SegmentsDue C (pre ++ (c ∷ [])) r (length pre) D → SegmentDues C (slice (get_or pre (length pre - 1) 0) c' r) s v →
    SegmentsDue C (pre ++ (c' ∷ [])) r (length pre) (set (set D (2 * length pre - 2) s) (2 * length pre - 2 + 1) v)
last_replaced C r pre D c c' s v h k w found =
    more_dues C (pre ++ (c' ∷ [])) r D (length pre) s v h k
    (record { places = w.places; each = λ i l m. rw (at c' (i - 1) (omega arith), at c' i (omega arith), ← (at c (i - 1) (omega arith)), ← (at c i (omega arith))) (w.each i l (omega arith)) })
    (rw (at c' (length pre - 1) (omega arith), get_or-append_seam pre c' [] 0) found)
  where
    at : (x i : ℕ) → i < length pre → get_or (pre ++ (x ∷ [])) i 0 ≡ get_or pre i 0
    at x i l = get_or-append pre (x ∷ []) 0 i l

reach_of : (C : Clock) (r pre D : List ℕ) → DuesHeld C r pre D → 0 < get_or D 8 0 → DuesReach C r pre D (get_or D 8 0)
reach_of C r pre D held h = by held.held
  where
    by : (get_or D 8 0 ≡ 0) ⊎ DuesReach C r pre D (get_or D 8 0) → DuesReach C r pre D (get_or D 8 0)
    by (inl e) = absurd (omega arith)
    by (inr w) = w

last_held : (C : Clock) (r pre D : List ℕ) (c : ℕ) → 1 ≤ length pre → SegmentsDue C (pre ++ (c ∷ [])) r (length pre) D →
    SegmentDues C (slice (get_or pre (length pre - 1) 0) c r) (get_or D (2 * length pre - 2) 0) (get_or D (2 * length pre - 2 + 1) 0)
last_held C r pre D c h w = rw (get_or-append pre (c ∷ []) 0 (length pre - 1) (omega arith), get_or-append_seam pre c [] 0) at (w.each (length pre) h (omega arith))

module _ {T : Tables} {r sums stayed cs D : List ℕ} (given : DuesReachable T r sums stayed cs D) where
  abbrev C : Clock
  C = clock_by T

  abbrev last : ℕ
  last = length cs - 1

  start : get_or (first_cuts cs) (last - 1) 0 ≡ get_or cs (last - 1) 0
  start = get_or-take last cs (last - 1) 0 (omega (arith, given.cut_set.least))

  pub fillable : DuesFillable T r sums stayed cs last D
  fillable =
      record {
        read = given.read;
        cut_set = given.cut_set;
        fewer = omega (arith, given.cut_set.least);
        places = given.held.places;
      }

  module _ (h : 0 < get_or D 8 0) where
    reaching : DuesReach C r (first_cuts cs) D (get_or D 8 0)
    reaching = reach_of C r (first_cuts cs) D given.held h

    pub growing : GrowableTo T r sums stayed (get_or cs (last - 1) 0) (get_or D 8 0) (get_or cs last 0) (get_or D (2 * last - 2) 0) (get_or D (2 * last - 2 + 1) 0)
    growing =
        record {
          of = record {
            read = given.read;
            filled = rw (first_many cs, start) at reaching.least;
            within = reaching.most;
          };
          least = given.behind;
          most = last_cut cs r given.cut_set;
          dues = rw (first_many cs, start) at (last_held C r (first_cuts cs) D (get_or D 8 0) (rw (first_many cs) (omega (arith, given.cut_set.least))) reaching.due);
        }

    pub stretched : (s v : ℕ) → SegmentDues C (slice (get_or cs (last - 1) 0) (get_or cs last 0) r) s v → SegmentsDue C cs r last (set (set D (2 * last - 2) s) (2 * last - 2 + 1) v)
    stretched s v found =
        rw (first_many cs, ← (cuts_parted cs (omega (arith, given.cut_set.least)))) at
        (last_replaced C r (first_cuts cs) D (get_or D 8 0) (get_or cs last 0) s v (rw (first_many cs) (omega (arith, given.cut_set.least))) (rw (first_many cs) (omega (arith, given.cut_set.most))) reaching.due
        (rw (first_many cs, start) found))

-- ---- the last cut reached

pub reached : (C : Clock) (r cs D' D : List ℕ) → CutSet (length cs) (length r) cs → D' ≡ D → SegmentsDue C cs r (length cs - 1) D → DuesReached C r cs (set D' 8 (get_or cs (length cs - 1) 0))
reached C r cs D' D cut_set e w =
    rw e (record {
      places = simp length-set w.places;
      reach = get_or-set_same D 8 (get_or cs (length cs - 1) 0) 0 (omega (arith, w.places));
      due = record {
        places = simp length-set w.places;
        each = λ i l m. rw (kept (2 * i - 2) (omega (arith, cut_set.most)), kept (2 * i - 2 + 1) (omega (arith, cut_set.most))) (w.each i l m);
      };
    })
  where
    kept : (c : ℕ) → c < 8 → get_or (set D 8 (get_or cs (length cs - 1) 0)) c 0 ≡ get_or D c 0
    kept c l = get_or-set_other D 8 c (get_or cs (length cs - 1) 0) 0 (λ e. omega arith)

-- For the cut sets to come with the same first cuts.
pub reached_held : {C : Clock} {r cs D : List ℕ} → DuesReached C r cs D → CutSet (length cs) (length r) cs → DuesHeld C r (take (length cs - 1) cs) D
reached_held {C} {r} {cs} {D} w cut_set =
    record {
      places = w.places;
      held = inr (record {
        least = rw (w.reach, first_many cs, get_or-take (length cs - 1) cs (length cs - 1 - 1) 0 (omega (arith, cut_set.least))) (segment_filled cs r cut_set (length cs - 1) (omega (arith, cut_set.least)) (omega (arith, cut_set.least)));
        most = rw w.reach (last_cut cs r cut_set);
        due = rw (w.reach, first_many cs, ← (cuts_parted cs (omega (arith, cut_set.least)))) w.due;
      });
    }

pub reached_dues : {C : Clock} {r cs D : List ℕ} → DuesReached C r cs D → CutSet (length cs) (length r) cs → DuesOf C cs r D
reached_dues {C} {r} {cs} {D} w cut_set = dues_of C cs r D cut_set w.due
