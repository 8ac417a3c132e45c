-- The words of the middle segments in their places, segment by segment, are those of the states. Assumes nothing.
use mathlib.Core.Path.{◌≡◌, sym, ap, ◌∙◌}
use mathlib.Core.Bool.{Bool, true, false, cond}
use mathlib.Core.Logic.{◌⊎◌, inl, inr}
use mathlib.Core.List.{List, [], ◌∷◌, ◌++◌}
use Prim.Native.Nat.{ℕ, ◌+◌, ◌-◌, ◌*◌, ◌/◌, ◌%◌, ◌≤◌, ◌<◌}
use native.Mathlib.Decide.{ℕ_discrete}
use native.Mathlib.Omega.{arith}
use lib.Dec.{eqb}
use lib.ListN.{length, get_or, set, length-set, get_or-append}
use lib.Seq.{slice, get_or-take, get_or-append_seam, get_or-set_same, get_or-set_other}
use Rattle.theory.specs.Route.{reverse_if}
use Rattle.theory.specs.Tables.{CutSet}
use Rattle.costs.specs.RouteCosts.{first_cuts}
use Rattle.costs.proofs.Segments.{segment_is, segment_filled, cuts_parted, first_many, last_cut}
use Rattle.scan_joints.specs.States.{state_count, placed_in}
use Rattle.scan_joints.proofs.States.{part_at, halves}
use Rattle.precedence.specs.declared.Marks.{Marks}
use Rattle.precedence.specs.Words.{Members, PartMarks, marks_of, MarksGrown}
use Rattle.precedence.proofs.Words.{marks_same}
use Rattle.precedence.proofs.Kept.{visited_reverse}
use Rattle.precedence_marks.specs.Held.{Putting, SegmentsMarked, MarksReach, MarksHeld, MarksReachable, MarksStretched, MarksReached}
use Rattle.precedence_marks.proofs.Order.{StateWords}

-- ---- one segment more

module _ (D : List ℕ) (i : ℕ) (m : Marks) (places : length D ≡ 17) (least : 1 ≤ i) (most : i ≤ 4) where
  abbrev one : List ℕ
  one = set D (i - 1) m.firsts

  abbrev two : List ℕ
  two = set one (4 + i - 1) m.seconds

  abbrev three : List ℕ
  three = set two (8 + (2 * i - 2)) m.broken

  long : (E : List ℕ) (a v : ℕ) → length E ≡ 17 → length (set E a v) ≡ 17
  long E a v e = length-set E a v ∙ e

  pub put_places : length (Putting D i m) ≡ 17
  put_places = long three _ _ (long two _ _ (long one _ _ (long D _ _ places)))

  put_firsts : get_or (Putting D i m) (i - 1) 0 ≡ m.firsts
  put_firsts =
      get_or-set_other three (8 + (2 * i - 2) + 1) (i - 1) m.turned 0 (λ e. omega arith)
      ∙ get_or-set_other two (8 + (2 * i - 2)) (i - 1) m.broken 0 (λ e. omega arith)
      ∙ get_or-set_other one (4 + i - 1) (i - 1) m.seconds 0 (λ e. omega arith)
      ∙ get_or-set_same D (i - 1) m.firsts 0 (omega arith)

  put_seconds : get_or (Putting D i m) (4 + i - 1) 0 ≡ m.seconds
  put_seconds =
      get_or-set_other three (8 + (2 * i - 2) + 1) (4 + i - 1) m.turned 0 (λ e. omega arith)
      ∙ get_or-set_other two (8 + (2 * i - 2)) (4 + i - 1) m.broken 0 (λ e. omega arith)
      ∙ get_or-set_same one (4 + i - 1) m.seconds 0 (omega (arith, long D (i - 1) m.firsts places))

  put_broken : get_or (Putting D i m) (8 + (2 * i - 2)) 0 ≡ m.broken
  put_broken =
      get_or-set_other three (8 + (2 * i - 2) + 1) (8 + (2 * i - 2)) m.turned 0 (λ e. omega arith)
      ∙ get_or-set_same two (8 + (2 * i - 2)) m.broken 0 (omega (arith, long one (4 + i - 1) m.seconds (long D (i - 1) m.firsts places)))

  put_turned : get_or (Putting D i m) (8 + (2 * i - 2) + 1) 0 ≡ m.turned
  put_turned =
      get_or-set_same three (8 + (2 * i - 2) + 1) m.turned 0 (omega (arith, long two (8 + (2 * i - 2)) m.broken (long one (4 + i - 1) m.seconds (long D (i - 1) m.firsts places))))

  put_kept : (c : ℕ) → (c ≡ i - 1 → ⊥) → (c ≡ 4 + i - 1 → ⊥) → (c ≡ 8 + (2 * i - 2) → ⊥) → (c ≡ 8 + (2 * i - 2) + 1 → ⊥) → get_or (Putting D i m) c 0 ≡ get_or D c 0
  put_kept c e f g h =
      get_or-set_other three (8 + (2 * i - 2) + 1) c m.turned 0 h
      ∙ get_or-set_other two (8 + (2 * i - 2)) c m.broken 0 g
      ∙ get_or-set_other one (4 + i - 1) c m.seconds 0 f
      ∙ get_or-set_other D (i - 1) c m.firsts 0 e

  -- The segments before it keep their words.
  pub more_marked : (ps : List (ℕ × ℕ)) (cuts r : List ℕ) → SegmentsMarked ps cuts r (i - 1) D → marks_of ps (slice (get_or cuts (i - 1) 0) (get_or cuts i 0) r) m → SegmentsMarked ps cuts r i (Putting D i m)
  more_marked ps cuts r w found = record { places = put_places; each = λ j l n. by j l n (ℕ_discrete j i) }
    where
      by : (j : ℕ) → 1 ≤ j → j ≤ i → Dec (j ≡ i) →
          PartMarks ps (slice (get_or cuts (j - 1) 0) (get_or cuts j 0) r) (get_or (Putting D i m) (j - 1) 0) (get_or (Putting D i m) (4 + j - 1) 0) (get_or (Putting D i m) (8 + (2 * j - 2)) 0) (get_or (Putting D i m) (8 + (2 * j - 2) + 1) 0)
      by j l n (yes e) = rw (e, put_firsts, put_seconds, put_broken, put_turned) found
      by j l n (no d) =
          let a = put_kept (j - 1) (λ e. omega arith) (λ e. omega arith) (λ e. omega arith) (λ e. omega arith) in
          let b = put_kept (4 + j - 1) (λ e. omega arith) (λ e. omega arith) (λ e. omega arith) (λ e. omega arith) in
          let g = put_kept (8 + (2 * j - 2)) (λ e. omega arith) (λ e. omega arith) (λ e. omega arith) (λ e. omega arith) in
          let h = put_kept (8 + (2 * j - 2) + 1) (λ e. omega arith) (λ e. omega arith) (λ e. omega arith) (λ e. omega arith) in
          rw (a, b, g, h) (w.each j l (omega arith))

pub none_marked : (ps : List (ℕ × ℕ)) (cuts r D : List ℕ) → length D ≡ 17 → SegmentsMarked ps cuts r 0 D
none_marked ps cuts r D e = record { places = e; each = λ i l m. absurd (omega arith) }

-- ---- a new last cut

-- The words held of the last middle segment, up to the cut that they reach.
pub last_held : (ps : List (ℕ × ℕ)) (cs r D : List ℕ) (c : ℕ) → 2 ≤ length cs → MarksReach ps r (first_cuts cs) D c →
    PartMarks ps (slice (get_or cs (length cs - 2) 0) c r) (get_or D (length cs - 1 - 1) 0) (get_or D (4 + (length cs - 1) - 1) 0) (get_or D (8 + (2 * (length cs - 1) - 2)) 0) (get_or D (8 + (2 * (length cs - 1) - 2) + 1) 0)
last_held ps cs r D c two w =
    let k = length cs - 1 in
    let n : length (first_cuts cs) ≡ k = first_many cs in
    let at : get_or (first_cuts cs ++ (c ∷ [])) (k - 1) 0 ≡ get_or cs (k - 1) 0 =
    get_or-append (first_cuts cs) (c ∷ []) 0 (k - 1) (omega (arith, n)) ∙ get_or-take k cs (k - 1) 0 (omega arith) in
    let seam : get_or (first_cuts cs ++ (c ∷ [])) k 0 ≡ c = ap (λ x. get_or (first_cuts cs ++ (c ∷ [])) x 0) (sym n) ∙ get_or-append_seam (first_cuts cs) c [] 0 in
    let e : length cs - 2 ≡ k - 1 = omega arith in
    rw e (rw (at, seam) at (w.marked.each k (omega arith) (omega (arith, n))))

-- With another last cut, only the last middle segment has other words.
pub last_replaced : (ps : List (ℕ × ℕ)) (cs r D : List ℕ) (c : ℕ) (m : Marks) → 2 ≤ length cs → length cs ≤ 5 → MarksReach ps r (first_cuts cs) D c →
    marks_of ps (slice (get_or cs (length cs - 2) 0) (get_or cs (length cs - 1) 0) r) m → SegmentsMarked ps cs r (length cs - 1) (Putting D (length cs - 1) m)
last_replaced ps cs r D c m two five w found =
    let k = length cs - 1 in
    let n : length (first_cuts cs) ≡ k = first_many cs in
    let e : length cs - 2 ≡ k - 1 = omega arith in
    more_marked D k m w.marked.places (omega arith) (omega arith) ps cs r
    (record { places = w.marked.places; each = λ i l h. rw (← (at i (omega arith)), ← (at (i - 1) (omega arith))) (w.marked.each i l (omega (arith, n))) })
    (rw e at found)
  where
    at : (i : ℕ) → i < length cs - 1 → get_or (first_cuts cs ++ (c ∷ [])) i 0 ≡ get_or cs i 0
    at i l = get_or-append (first_cuts cs) (c ∷ []) 0 i (omega (arith, first_many cs)) ∙ get_or-take (length cs - 1) cs i 0 l

reach_of : (ps : List (ℕ × ℕ)) (r pre D : List ℕ) → MarksHeld ps r pre D → 0 < get_or D 16 0 → MarksReach ps r pre D (get_or D 16 0)
reach_of ps r pre D held h = by held.held
  where
    by : (get_or D 16 0 ≡ 0) ⊎ MarksReach ps r pre D (get_or D 16 0) → MarksReach ps r pre D (get_or D 16 0)
    by (inl e) = absurd (omega arith)
    by (inr w) = w

pub stretched : (M r cs D : List ℕ) (m m' : Marks) → MarksReachable M r cs D → m ≡ record { firsts = get_or D (length cs - 1 - 1) 0; seconds = get_or D (4 + (length cs - 1) - 1) 0; broken = get_or D (8 + (2 * (length cs - 1) - 2)) 0; turned = get_or D (8 + (2 * (length cs - 1) - 2) + 1) 0 } →
    MarksGrown M r (get_or D 16 0) (get_or cs (length cs - 1) 0) m m' → MarksStretched M r cs D (Putting D (length cs - 1) m')
stretched M r cs D m m' given e grown =
    let two = given.cut_set.least in
    let five = given.cut_set.most in
    record {
      places = put_places D (length cs - 1) m' given.places (omega arith) (omega arith);
      is = λ ps members held.
          let w = reach_of ps r (first_cuts cs) D held given.some in
          last_replaced ps cs r D (get_or D 16 0) m' two five w (grown.is ps members (get_or cs (length cs - 2) 0) given.before (rw e (last_held ps cs r D (get_or D 16 0) two w)));
    }

-- ---- the last cut reached

pub reached : (M r cs D₀ D' D : List ℕ) → CutSet (length cs) (length r) cs → D' ≡ D → length D ≡ 17 → ((ps : List (ℕ × ℕ)) → Members ps M → MarksHeld ps r (first_cuts cs) D₀ → SegmentsMarked ps cs r (length cs - 1) D) →
    MarksReached M r cs D₀ (set D' 16 (get_or cs (length cs - 1) 0))
reached M r cs D₀ D' D cut_set e places marked =
    rw e (record {
      places = length-set D 16 _ ∙ places;
      reach = get_or-set_same D 16 (get_or cs (length cs - 1) 0) 0 (omega arith);
      is = λ ps members held.
          let w = marked ps members held in
          record {
            places = length-set D 16 _ ∙ places;
            each = λ i l n. rw (kept (i - 1) (omega (arith, cut_set.most)), kept (4 + i - 1) (omega (arith, cut_set.most)), kept (8 + (2 * i - 2)) (omega (arith, cut_set.most)), kept (8 + (2 * i - 2) + 1) (omega (arith, cut_set.most))) (w.each i l n);
          };
    })
  where
    kept : (c : ℕ) → c < 16 → get_or (set D 16 (get_or cs (length cs - 1) 0)) c 0 ≡ get_or D c 0
    kept c l = get_or-set_other D 16 c (get_or cs (length cs - 1) 0) 0 (λ e. omega arith)

-- For the cut sets to come with the same first cuts.
pub reached_held : (ps : List (ℕ × ℕ)) (r cs D : List ℕ) → CutSet (length cs) (length r) cs → get_or D 16 0 ≡ get_or cs (length cs - 1) 0 → SegmentsMarked ps cs r (length cs - 1) D → MarksHeld ps r (first_cuts cs) D
reached_held ps r cs D cut_set e w =
    record {
      places = w.places;
      held = inr (record {
        least = rw (e, first_many cs, get_or-take (length cs - 1) cs (length cs - 1 - 1) 0 (omega (arith, cut_set.least))) (segment_filled cs r cut_set (length cs - 1) (omega (arith, cut_set.least)) (omega (arith, cut_set.least)));
        most = rw e (last_cut cs r cut_set);
        marked = rw (e, first_many cs, ← (cuts_parted cs (omega (arith, cut_set.least)))) w;
      });
    }

-- ---- the states

pub state_words : (ps : List (ℕ × ℕ)) (cs r D : List ℕ) → CutSet (length cs) (length r) cs → SegmentsMarked ps cs r (length cs - 1) D → (s : ℕ) → s < state_count (length cs) →
    StateWords ps (placed_in cs r s) (get_or D (s / 2) 0) (get_or D (4 + s / 2) 0) (get_or D (8 + s) 0)
unfolding reverse_if
state_words ps cs r D cut_set w s h =
    let i = 1 + s / 2 in
    let k : i < length cs = omega (arith, h) in
    rw (part_at cs r s i (eqb (s % 2) 1) (omega arith) (halves s), segment_is cs r cut_set i (omega arith) k)
    (of (eqb (s % 2) 1) (halves s) (w.each i (omega arith) (omega arith)))
  where
    of : (b : Bool) → s ≡ 2 * (1 + s / 2 - 1) + cond b 1 0 →
        PartMarks ps (slice (get_or cs (1 + s / 2 - 1) 0) (get_or cs (1 + s / 2) 0) r) (get_or D (1 + s / 2 - 1) 0) (get_or D (4 + (1 + s / 2) - 1) 0) (get_or D (8 + (2 * (1 + s / 2) - 2)) 0) (get_or D (8 + (2 * (1 + s / 2) - 2) + 1) 0) →
        StateWords ps (reverse_if b (slice (get_or cs (1 + s / 2 - 1) 0) (get_or cs (1 + s / 2) 0) r)) (get_or D (s / 2) 0) (get_or D (4 + s / 2) 0) (get_or D (8 + s) 0)
    of true e p =
        let f : 1 + s / 2 - 1 ≡ s / 2 = omega arith in
        let g : 4 + (1 + s / 2) - 1 ≡ 4 + s / 2 = omega arith in
        let t : 8 + (2 * (1 + s / 2) - 2) + 1 ≡ 8 + s = omega arith in
        let part = slice (get_or cs (1 + s / 2 - 1) 0) (get_or cs (1 + s / 2) 0) r in
        record {
          first = ap (λ n. get_or D n 0) (sym f) ∙ p.first ∙ marks_same _ _ ps (λ q. sym (visited_reverse q.0 part));
          second = ap (λ n. get_or D n 0) (sym g) ∙ p.second ∙ marks_same _ _ ps (λ q. sym (visited_reverse q.1 part));
          breaks = ap (λ n. get_or D n 0) (sym t) ∙ p.turns;
        }
    of false e p =
        let f : 1 + s / 2 - 1 ≡ s / 2 = omega arith in
        let g : 4 + (1 + s / 2) - 1 ≡ 4 + s / 2 = omega arith in
        let t : 8 + (2 * (1 + s / 2) - 2) ≡ 8 + s = omega arith in
        record { first = ap (λ n. get_or D n 0) (sym f) ∙ p.first; second = ap (λ n. get_or D n 0) (sym g) ∙ p.second; breaks = ap (λ n. get_or D n 0) (sym t) ∙ p.breaks }
