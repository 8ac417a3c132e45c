-- The joint table of a cut set, reached. Assumes nothing.
use mathlib.Core.Path.{◌≡◌, sym, ap, ap₂, subst, ◌∙◌}
use mathlib.Core.Bool.{Bool, true, false, cond}
use mathlib.Core.Logic.{◌⊎◌, inl, inr}
use mathlib.Core.List.{List, [], ◌∷◌, ◌++◌}
use Prim.Native.Nat.{ℕ, suc, ◌+◌, ◌-◌, ◌*◌, ◌/◌, ◌%◌, ◌≤◌, ◌<◌}
use native.Mathlib.Omega.{arith}
use borrow.Author.Count.{below_more}
use borrow.Author.Tests.{eq-eqb, ne_eqb}
use lib.ListN.{length, get_or, set, get_or-append}
use lib.Seq.{get_or-set_same, get_or-take}
use Rattle.theory.specs.Costs.{last_of, first_of, inner}
use Rattle.theory.specs.Tables.{legs_only, CutSet}
use Rattle.costs.specs.RouteCosts.{leg, Spanned, span, head_end, tail_start, first_cuts}
use Rattle.costs.proofs.Segments as Segments
use Rattle.scan_joints.specs.States.{placed_in}
use Rattle.scan_joints.specs.JointTable.{cell, Padded, JointRow, JointOf, inner_sum}
use Rattle.scan_joints.proofs.Rows.{padded_set}
use Rattle.scan_joints.proofs.Ends as Ends
use Rattle.scan_reach.specs.Moving.{Next, RowsFixable, Fixed, Fixable, JointFixed, Movable, Row, JointMoved}
use Rattle.scan_reach.specs.Reach.{JointAt, JointHeld, JointAsked, JointReached}
use Rattle.scan_reach.proofs.Alike.{same_part, same_front, same_head}

-- Nothing is held: how a stretch begins.
pub held_bare : {table : List ℕ} → Padded table → Padded (set table 153 0) × (get_or (set table 153 0) 153 0 ≡ 0)
held_bare {table} p = (padded_set table 9 9 0 p (λ q. omega arith) (omega arith) (omega arith), get_or-set_same table 153 0 0 (omega (arith, p.places)))

-- The first and the last stop of P.
abbrev pub front : List ℕ → List ℕ → ℕ
front cs r = get_or r (get_or cs (length cs - 2) 0) 0

abbrev pub back : List ℕ → List ℕ → ℕ
back cs r = get_or r (get_or cs (length cs - 1) 0 - 1) 0

-- The legs inside state s, at the cut q that its segment starts behind.
inside_at : (forwards backwards cs : List ℕ) (s q : ℕ) (b : Bool) → s ≡ 2 * q + cond b 1 0 → span (cond b backwards forwards) (get_or cs q 0) (get_or cs (1 + q) 0) ≡ inner_sum forwards backwards cs s
inside_at forwards backwards cs s q true e =
    let odd : s % 2 ≡ 1 = omega arith in
    let from : s / 2 ≡ q = omega arith in
    rw (eq-eqb (s % 2) 1 odd, from)
inside_at forwards backwards cs s q false e =
    let from : s / 2 ≡ q = omega arith in
    rw (ne_eqb (s % 2) 1 (λ (z : s % 2 ≡ 1). omega arith), from)

module _ {locations : ℕ} {legs : List ℕ} {depot end : ℕ} {r forwards backwards cs entries exits inside table : List ℕ}
    (given : JointAsked locations legs depot end r forwards backwards cs entries exits inside table) where
  abbrev p : ℕ
  p = 2 * (length cs - 2)

  cut_set : CutSet (length cs) (length r) cs
  cut_set = given.joinable.cut_set

  least : 2 ≤ length cs
  least = cut_set.least

  most : length cs ≤ 5
  most = cut_set.most

  before_last : length cs - 1 - 1 ≡ length cs - 2
  before_last = omega arith

  -- ---- P

  pub PForwards : Spanned forwards (get_or cs (length cs - 2) 0) (get_or cs (length cs - 1) 0)
  PForwards = rw before_last at ((Ends.ends_fillable given.joinable given.ends).forwards (length cs - 1) (omega (arith, least)) (omega (arith, least)))

  pub PBackwards : Spanned backwards (get_or cs (length cs - 2) 0) (get_or cs (length cs - 1) 0)
  PBackwards = rw before_last at ((Ends.ends_fillable given.joinable given.ends).backwards (length cs - 1) (omega (arith, least)) (omega (arith, least)))

  pub PFilled : get_or cs (length cs - 2) 0 < get_or cs (length cs - 1) 0
  PFilled = PForwards.filled

  pub PWithin : get_or cs (length cs - 1) 0 ≤ length r
  PWithin = Segments.last_cut cs r cut_set

  front_known : front cs r < locations
  front_known = given.joinable.measurable.stops.known _ (omega (arith, PFilled, PWithin))

  back_known : back cs r < locations
  back_known = given.joinable.measurable.stops.known _ (omega (arith, PFilled, PWithin))

  first_stop : get_or r (get_or cs (length cs - 1 - 1) 0) 0 ≡ front cs r
  first_stop = ap (λ j. get_or r (get_or cs j 0) 0) before_last

  -- As it stands it is entered at its first stop and left at its last; reversed the other way round.
  PEntry : front cs r ≡ first_of (placed_in cs r (2 * (length cs - 2))) 0
  PEntry = sym first_stop ∙ Ends.entry_at cs r cut_set p (length cs - 1) false (omega (arith, least)) (omega (arith, least)) (omega (arith, least))

  PExit : back cs r ≡ last_of 0 (placed_in cs r (2 * (length cs - 2)))
  PExit = Ends.exit_at cs r cut_set p (length cs - 1) false (omega (arith, least)) (omega (arith, least)) (omega (arith, least))

  reversed_entry : back cs r ≡ first_of (placed_in cs r (2 * (length cs - 2) + 1)) 0
  reversed_entry = Ends.entry_at cs r cut_set (p + 1) (length cs - 1) true (omega (arith, least)) (omega (arith, least)) (omega (arith, least))

  reversed_exit : front cs r ≡ last_of 0 (placed_in cs r (2 * (length cs - 2) + 1))
  reversed_exit = sym first_stop ∙ Ends.exit_at cs r cut_set (p + 1) (length cs - 1) true (omega (arith, least)) (omega (arith, least)) (omega (arith, least))

  sum_at : (b : Bool) (s : ℕ) → s ≡ 2 * (length cs - 2) + cond b 1 0 → span (cond b backwards forwards) (get_or cs (length cs - 2) 0) (get_or cs (length cs - 1) 0) ≡ inner_sum forwards backwards cs s
  sum_at b s e =
      let n : 1 + (length cs - 2) ≡ length cs - 1 = omega (arith, least) in
      rw n at (inside_at forwards backwards cs s (length cs - 2) b e)

  PInside : span forwards (get_or cs (length cs - 2) 0) (get_or cs (length cs - 1) 0) ≡ inner (leg locations legs) (placed_in cs r (2 * (length cs - 2)))
  PInside = sum_at false p (omega arith) ∙ Ends.inside_is given.joinable p (omega (arith, least))

  reversed_inside : span backwards (get_or cs (length cs - 2) 0) (get_or cs (length cs - 1) 0) ≡ inner (leg locations legs) (placed_in cs r (2 * (length cs - 2) + 1))
  reversed_inside = sum_at true (p + 1) (omega arith) ∙ Ends.inside_is given.joinable (p + 1) (omega (arith, least))

  PSmall : span forwards (get_or cs (length cs - 2) 0) (get_or cs (length cs - 1) 0) ≤ 1000000 * 512
  PSmall = omega (arith, sum_at false p (omega arith), Ends.inside_small given.joinable p (omega (arith, least)))

  reversed_small : span backwards (get_or cs (length cs - 2) 0) (get_or cs (length cs - 1) 0) ≤ 1000000 * 512
  reversed_small = omega (arith, sum_at true (p + 1) (omega arith), Ends.inside_small given.joinable (p + 1) (omega (arith, least)))

  -- ---- what the last cut does not move

  rows_fixable : {t : List ℕ} → Padded t → RowsFixable locations legs entries exits inside (2 * (length cs - 2)) t
  rows_fixable padded =
      record {
        fillable = record {
          leg_table = given.joinable.measurable.table;
          few = omega (arith, most);
          entry_places = given.ends.entry_places;
          inside_places = given.ends.inside_places;
          entries_known = λ s l. rw (given.entry s l) (Ends.entry_known given.joinable s (omega arith));
          inside_small = λ s l. omega (arith, given.within s l, Ends.inside_is given.joinable s (omega arith), Ends.inside_small given.joinable s (omega arith));
        };
        padded = padded;
        leaving = record { places = given.ends.exit_places; known = λ s l. rw (given.exit s l) (Ends.exit_known given.joinable s (omega arith)) };
      }

  -- The table held is one with the same first cuts.
  module _ (held : JointAt locations legs depot end r (first_cuts cs) table) where
    abbrev cs' : List ℕ
    cs' = first_cuts cs ++ (held.last ∷ [])

    long : length (first_cuts cs ++ (held.last ∷ [])) ≡ length cs
    long = omega (arith, held.cut_set.many, Segments.first_many cs, least)

    cut_set' : CutSet (length (first_cuts cs ++ (held.last ∷ []))) (length r) (first_cuts cs ++ (held.last ∷ []))
    cut_set' = rw (sym held.cut_set.many) at held.cut_set

    alike : (j : ℕ) → j < length cs - 1 → get_or (first_cuts cs ++ (held.last ∷ [])) j 0 ≡ get_or cs j 0
    alike j h = get_or-append (first_cuts cs) (held.last ∷ []) 0 j (omega (arith, Segments.first_many cs)) ∙ get_or-take (length cs - 1) cs j 0 h

    early : (s : ℕ) → s < 2 * (length cs - 2) → placed_in (first_cuts cs ++ (held.last ∷ [])) r s ≡ placed_in cs r s
    early = same_part cs cs' r cut_set cut_set' long alike

    next_held : {a from from' : ℕ} {tail count : ℕ} → 2 * (length cs - 2) ≤ count →
        JointRow (leg locations legs) (λ s. first_of (placed_in (first_cuts cs ++ (held.last ∷ [])) r s) 0) (λ s. inner (leg locations legs) (placed_in (first_cuts cs ++ (held.last ∷ [])) r s)) count tail table a from →
        from ≡ from' → Next locations legs entries inside (2 * (length cs - 2)) table a from'
    next_held few row e b l = row.next b (omega arith) ∙ rw (e, early b l, given.entry b l, given.within b l)

    held_fixed : (head : ℕ) → head ≡ head_end (legs_only locations legs depot end) r cs → Fixed locations legs head (front cs r) entries exits inside (2 * (length cs - 2)) table
    held_fixed head e =
        record {
          each = λ a l. next_held (omega (arith, long)) (held.joined.from_each a (omega (arith, long))) (ap (last_of 0) (early a l) ∙ sym (given.exit a l));
          reversed = next_held (omega (arith, long)) (held.joined.from_each (p + 1) (omega (arith, long, least))) (same_front cs cs' r cut_set cut_set' long alike);
          from_head = next_held (omega (arith, long)) held.joined.from_head (same_head cs cs' r cut_set cut_set' long alike depot ∙ sym e);
        }

  pub joint_fixable : (head : ℕ) → head ≡ head_end (legs_only locations legs depot end) r cs →
      Fixable locations legs head (front cs r) entries exits inside (2 * (length cs - 2)) table
  joint_fixable head e =
      record {
        rows = rows_fixable given.joinable.padded;
        room = omega (arith, least, most);
        head_known = rw e (Ends.head_below given.joinable);
        front_known = front_known;
        held = by given.held;
      }
    where
      by : JointHeld locations legs depot end r (first_cuts cs) table → (get_or table 153 0 ≡ 0) ⊎ Fixed locations legs head (front cs r) entries exits inside (2 * (length cs - 2)) table
      by (inl z) = inl z
      by (inr h) = inr (held_fixed h head e)

  -- ---- what it moves

  module _ {head tail on turned : ℕ} (is_head : head ≡ head_end (legs_only locations legs depot end) r cs) (is_tail : tail ≡ tail_start (legs_only locations legs depot end) r cs)
      (is_on : on ≡ span forwards (get_or cs (length cs - 2) 0) (get_or cs (length cs - 1) 0)) (is_turned : turned ≡ span backwards (get_or cs (length cs - 2) 0) (get_or cs (length cs - 1) 0)) {t : List ℕ} where
    pub joint_movable : JointFixed locations legs head (front cs r) entries exits inside (2 * (length cs - 2)) t →
        Movable locations legs head (front cs r) (back cs r) tail on turned entries exits inside (2 * (length cs - 2)) t
    joint_movable f =
        record {
          placeable = record {
            leg_table = given.joinable.measurable.table;
            front_known = front_known;
            back_known = back_known;
            tail_known = rw is_tail (Ends.tail_below given.joinable);
            on_small = omega (arith, PSmall);
            turned_small = omega (arith, reversed_small);
            room = omega (arith, least, most);
          };
          rows = rows_fixable f.padded;
          head_known = rw is_head (Ends.head_below given.joinable);
          fixed = f.fixed;
        }

    row_of : {a from : ℕ} → Row locations legs (front cs r) (back cs r) tail on turned entries inside (2 * (length cs - 2)) t a from →
        JointRow (leg locations legs) (λ s. first_of (placed_in cs r s) 0) (λ s. inner (leg locations legs) (placed_in cs r s)) (2 * (length cs - 1)) tail t a from
    row_of {a} {from} w =
        record {
          next = λ b l. each b (omega (arith, least));
          last = w.moved.last;
        }
      where
        each : (b : ℕ) → b < 2 * (length cs - 2) + 1 + 1 → cell t a b ≡ leg locations legs from (first_of (placed_in cs r b) 0) + inner (leg locations legs) (placed_in cs r b)
        each =
            below_more (λ b. cell t a b ≡ leg locations legs from (first_of (placed_in cs r b) 0) + inner (leg locations legs) (placed_in cs r b)) (p + 1)
            (below_more (λ b. cell t a b ≡ leg locations legs from (first_of (placed_in cs r b) 0) + inner (leg locations legs) (placed_in cs r b)) p
            (λ b l. w.next b l ∙ rw (given.entry b l, given.within b l))
            (w.moved.stands ∙ ap₂ (λ x y. leg locations legs from x + y) PEntry (is_on ∙ PInside)))
            (w.moved.reversed ∙ ap₂ (λ x y. leg locations legs from x + y) reversed_entry (is_turned ∙ reversed_inside))

    joint_of : JointMoved locations legs head (front cs r) (back cs r) tail on turned entries exits inside (2 * (length cs - 2)) t →
        JointOf locations legs depot end r cs t
    joint_of m =
        rw (← is_head, ← is_tail)
        (record {
          padded = m.padded;
          from_head = row_of m.from_head;
          from_each = λ a l. each a (omega (arith, least));
        })
      where
        each : (a : ℕ) → a < 2 * (length cs - 2) + 1 + 1 →
            JointRow (leg locations legs) (λ s. first_of (placed_in cs r s) 0) (λ s. inner (leg locations legs) (placed_in cs r s)) (2 * (length cs - 1)) tail t a (last_of 0 (placed_in cs r a))
        each =
            below_more (λ a. JointRow (leg locations legs) (λ s. first_of (placed_in cs r s) 0) (λ s. inner (leg locations legs) (placed_in cs r s)) (2 * (length cs - 1)) tail t a (last_of 0 (placed_in cs r a))) (p + 1)
            (below_more (λ a. JointRow (leg locations legs) (λ s. first_of (placed_in cs r s) 0) (λ s. inner (leg locations legs) (placed_in cs r s)) (2 * (length cs - 1)) tail t a (last_of 0 (placed_in cs r a))) p
            (λ a l. rw (given.exit a l) at (row_of (m.each a l)))
            (rw PExit at (row_of m.stands)))
            (rw reversed_exit at (row_of m.reversed))

    pub joint_reached : JointMoved locations legs head (front cs r) (back cs r) tail on turned entries exits inside (2 * (length cs - 2)) t →
        JointReached locations legs depot end r cs t
    joint_reached m =
        let parted : cs ≡ first_cuts cs ++ (get_or cs (length cs - 1) 0 ∷ []) = Segments.cuts_parted cs (omega (arith, least)) in
        let many : length cs ≡ suc (length (first_cuts cs)) = omega (arith, Segments.first_many cs, least) in
        record {
          joined = joint_of m;
          held = inr (record {
            last = get_or cs (length cs - 1) 0;
            cut_set = subst (λ (l : List ℕ). CutSet (suc (length (first_cuts cs))) (length r) l) parted (subst (λ (n : ℕ). CutSet n (length r) cs) many cut_set);
            joined = subst (λ (l : List ℕ). JointOf locations legs depot end r l t) parted (joint_of m);
          });
        }
