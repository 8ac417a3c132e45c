-- Where the states are entered and left and the legs inside them, segment by segment. Assumes nothing.
use mathlib.Core.Path.{◌≡◌, sym, ap, ◌∙◌}
use mathlib.Core.Bool.{Bool, true, false, cond}
use mathlib.Core.List.{List}
use Prim.Native.Nat.{ℕ, ◌+◌, ◌-◌, ◌*◌, ◌/◌, ◌%◌, ◌≤◌, ◌<◌}
use native.Mathlib.Omega.{arith}
use borrow.Author.Count.{below_more}
use borrow.Author.Tests.{eq-eqb, ne_eqb}
use lib.Dec.{eqb}
use lib.ListN.{length, get_or, set, length-set}
use lib.Seq.{slice, get_or-set_same, get_or-set_other}
use Rattle.theory.specs.Route.{reverse_if}
use Rattle.theory.specs.Costs.{last_of, first_of, inner}
use Rattle.theory.specs.Tables.{legs_only, CutSet}
use Rattle.costs.specs.RouteCosts.{leg, Spanned, span, RouteCosts, head_end, tail_start}
use Rattle.costs.proofs.Placing as Placing
use Rattle.costs.proofs.Segments.{cut_below, segment_is, segment_filled, first_placed, last_placed, head_known, tail_known}
use Rattle.scan_joints.specs.States.{state_count, placed_in}
use Rattle.scan_joints.specs.JointTable.{Joinable, EndPlaces, EndsPuttable, EndsPut, EndsFillable, inner_sum, StateEnds}
use Rattle.scan_joints.proofs.States.{part_at, halves}

-- Two more places of an array that holds f.
two_more : (f : ℕ → ℕ) (l : List ℕ) (s x y : ℕ) → s + 1 < length l → ((j : ℕ) → j < s → get_or l j 0 ≡ f j) → x ≡ f s → y ≡ f (s + 1) →
    (j : ℕ) → j < s + 1 + 1 → get_or (set (set l s x) (s + 1) y) j 0 ≡ f j
two_more f l s x y h k ex ey =
    below_more (λ j. get_or (set (set l s x) (s + 1) y) j 0 ≡ f j) (s + 1)
    (λ j b. get_or-set_other (set l s x) (s + 1) j y 0 (λ q. omega arith) ∙ one j b)
    (get_or-set_same (set l s x) (s + 1) y 0 (simp length-set (omega arith)) ∙ ey)
  where
    one : (j : ℕ) → j < s + 1 → get_or (set l s x) j 0 ≡ f j
    one = below_more (λ j. get_or (set l s x) j 0 ≡ f j) s (λ j b. get_or-set_other l s j x 0 (λ q. omega arith) ∙ k j b) (get_or-set_same l s x 0 (omega arith) ∙ ex)

cond_below : (b : Bool) {x y n : ℕ} → x < n → y < n → cond b x y < n
cond_below true h k = h
cond_below false h k = k

-- The legs inside a state, at the segment i that it places.
inner_sum_at : (forwards backwards cs : List ℕ) (s i : ℕ) (b : Bool) → 1 ≤ i → s ≡ 2 * (i - 1) + cond b 1 0 →
    span (cond b backwards forwards) (get_or cs (i - 1) 0) (get_or cs i 0) ≡ inner_sum forwards backwards cs s
inner_sum_at forwards backwards cs s i true h e =
    let odd : s % 2 ≡ 1 = omega arith in
    let of : 1 + s / 2 ≡ i = omega arith in
    let from : s / 2 ≡ i - 1 = omega arith in
    rw (eq-eqb (s % 2) 1 odd, of, from)
inner_sum_at forwards backwards cs s i false h e =
    let of : 1 + s / 2 ≡ i = omega arith in
    let from : s / 2 ≡ i - 1 = omega arith in
    rw (ne_eqb (s % 2) 1 (λ (q : s % 2 ≡ 1). omega arith), of, from)

-- State s of segment i.
module _ (cs r : List ℕ) (cut_set : CutSet (length cs) (length r) cs) (s i : ℕ) (b : Bool) (h : 1 ≤ i) (k : i < length cs) (e : s ≡ 2 * (i - 1) + cond b 1 0) where
  pub part_slice : placed_in cs r s ≡ reverse_if b (slice (get_or cs (i - 1) 0) (get_or cs i 0) r)
  part_slice = part_at cs r s i b h e ∙ ap (reverse_if b) (segment_is cs r cut_set i h k)

  pub entry_at : cond b (get_or r (get_or cs i 0 - 1) 0) (get_or r (get_or cs (i - 1) 0) 0) ≡ first_of (placed_in cs r s) 0
  entry_at = sym (ap (λ l. first_of l 0) part_slice ∙ first_placed r (get_or cs (i - 1) 0) (get_or cs i 0) (segment_filled cs r cut_set i h k) (cut_below cs r cut_set i k) b 0)

  pub exit_at : cond b (get_or r (get_or cs (i - 1) 0) 0) (get_or r (get_or cs i 0 - 1) 0) ≡ last_of 0 (placed_in cs r s)
  exit_at = sym (ap (last_of 0) part_slice ∙ last_placed r (get_or cs (i - 1) 0) (get_or cs i 0) (segment_filled cs r cut_set i h k) (cut_below cs r cut_set i k) b 0)

-- ---- segment by segment

pub no_ends : {r forwards backwards cs entries exits inside : List ℕ} → EndsFillable r forwards backwards cs entries exits inside → StateEnds r forwards backwards cs 0 entries exits inside
no_ends given = record { places = given.places; entry = λ s h. absurd (omega arith); exit = λ s h. absurd (omega arith); legs = λ s h. absurd (omega arith) }

module _ {r forwards backwards cs entries exits inside : List ℕ} (given : EndsFillable r forwards backwards cs entries exits inside) (i : ℕ) (h : 1 ≤ i) (k : i < length cs) where
  pub segment_asked : {entries' exits' inside' : List ℕ} → EndPlaces entries' exits' inside' → EndsPuttable r forwards backwards (get_or cs (i - 1) 0) (get_or cs i 0) (2 * i - 2) entries' exits' inside'
  segment_asked places =
      record {
        within = cut_below cs r given.cut_set i k;
        forwards = given.forwards i h k;
        backwards = given.backwards i h k;
        room = omega (arith, given.cut_set.most);
        places = places;
      }

  pub more_ends : {e x n e' x' n' : List ℕ} → StateEnds r forwards backwards cs (2 * (i - 1)) e x n →
      EndsPut r forwards backwards (get_or cs (i - 1) 0) (get_or cs i 0) (2 * i - 2) e x n e' x' n' → StateEnds r forwards backwards cs (2 * (i + 1 - 1)) e' x' n'
  more_ends {e} {x} {n} w p =
      let s : ℕ = 2 * i - 2 in
      let even : 2 * i - 2 ≡ 2 * (i - 1) + 0 = omega arith in
      let odd : 2 * i - 2 + 1 ≡ 2 * (i - 1) + 1 = omega arith in
      let two : 2 * (i + 1 - 1) ≡ 2 * i - 2 + 1 + 1 = omega arith in
      let room : 2 * i - 2 + 1 < 8 = omega (arith, given.cut_set.most) in
      rw (two, p.entered, p.left, p.legs)
      (record {
        places = record {
          entry_places = simp length-set w.places.entry_places;
          exit_places = simp length-set w.places.exit_places;
          inside_places = simp length-set w.places.inside_places;
        };
        entry = two_more (λ j. first_of (placed_in cs r j) 0) e s _ _ (omega (arith, w.places.entry_places)) (λ j b. w.entry j (omega arith))
            (entry_at cs r given.cut_set s i false h k even) (entry_at cs r given.cut_set (s + 1) i true h k odd);
        exit = two_more (λ j. last_of 0 (placed_in cs r j)) x s _ _ (omega (arith, w.places.exit_places)) (λ j b. w.exit j (omega arith))
            (exit_at cs r given.cut_set s i false h k even) (exit_at cs r given.cut_set (s + 1) i true h k odd);
        legs = two_more (inner_sum forwards backwards cs) n s _ _ (omega (arith, w.places.inside_places)) (λ j b. w.legs j (omega arith))
            (inner_sum_at forwards backwards cs s i false h even) (inner_sum_at forwards backwards cs (s + 1) i true h odd);
      })

-- ---- what the tables and the running sums say of them

module _ {locations : ℕ} {legs : List ℕ} {depot end : ℕ} {r forwards backwards cs table : List ℕ} (given : Joinable locations legs depot end r forwards backwards cs table) where
  pub head_below : head_end (legs_only locations legs depot end) r cs < locations
  head_below = head_known cs r given.cut_set locations depot given.measurable.stops given.measurable.depot_known

  pub tail_below : tail_start (legs_only locations legs depot end) r cs < locations
  tail_below = tail_known cs r given.cut_set locations end given.measurable.stops given.measurable.end_known

  costs_of : RouteCosts locations legs r forwards backwards
  costs_of = record { table = given.measurable.table; stops = given.measurable.stops; forwards = given.forwards; backwards = given.backwards }

  -- Segment i, as it is placed.
  module _ (i : ℕ) (h : 1 ≤ i) (k : i < length cs) (b : Bool) where
    filled : get_or cs (i - 1) 0 < get_or cs i 0
    filled = segment_filled cs r given.cut_set i h k

    within : get_or cs i 0 ≤ length r
    within = cut_below cs r given.cut_set i k

    spanned : Spanned (cond b backwards forwards) (get_or cs (i - 1) 0) (get_or cs i 0)
    spanned = Placing.inner_asked costs_of b (get_or cs (i - 1) 0) (get_or cs i 0) filled within

    span_is : span (cond b backwards forwards) (get_or cs (i - 1) 0) (get_or cs i 0) ≡ inner (leg locations legs) (reverse_if b (slice (get_or cs (i - 1) 0) (get_or cs i 0) r))
    span_is = omega (arith, Placing.inner_sum costs_of b (get_or cs (i - 1) 0) (get_or cs i 0) filled within)

    span_small : span (cond b backwards forwards) (get_or cs (i - 1) 0) (get_or cs i 0) ≤ 1000000 * 512
    span_small = omega (arith, Placing.inner_small costs_of b (get_or cs (i - 1) 0) (get_or cs i 0) filled within)

    start_known : get_or r (get_or cs (i - 1) 0) 0 < locations
    start_known = given.measurable.stops.known _ (omega (arith, filled, within))

    end_known : get_or r (get_or cs i 0 - 1) 0 < locations
    end_known = given.measurable.stops.known _ (omega (arith, filled, within))

  pub ends_fillable : {entries exits inside : List ℕ} → EndPlaces entries exits inside → EndsFillable r forwards backwards cs entries exits inside
  ends_fillable places = record { cut_set = given.cut_set; forwards = λ i h k. spanned i h k false; backwards = λ i h k. spanned i h k true; places = places }

  -- State s.
  module _ (s : ℕ) (h : s < state_count (length cs)) where
    abbrev i : ℕ
    i = 1 + s / 2

    abbrev b : Bool
    b = eqb (s % 2) 1

    least : 1 ≤ i
    least = omega arith

    most : i < length cs
    most = omega arith

    pub inside_is : inner_sum forwards backwards cs s ≡ inner (leg locations legs) (placed_in cs r s)
    inside_is =
        sym (inner_sum_at forwards backwards cs s i b least (halves s))
        ∙ span_is i least most b
        ∙ ap (inner (leg locations legs)) (sym (part_slice cs r given.cut_set s i b least most (halves s)))

    pub inside_small : inner_sum forwards backwards cs s ≤ 1000000 * 512
    inside_small = rw (inner_sum_at forwards backwards cs s i b least (halves s)) at (span_small i least most b)

    pub entry_known : first_of (placed_in cs r s) 0 < locations
    entry_known = rw (entry_at cs r given.cut_set s i b least most (halves s)) at (cond_below b (end_known i least most b) (start_known i least most b))

    pub exit_known : last_of 0 (placed_in cs r s) < locations
    exit_known = rw (exit_at cs r given.cut_set s i b least most (halves s)) at (cond_below b (start_known i least most b) (end_known i least most b))
