-- The segments of a cut set with the last cut moved on, and what a row does to a pair that goes from one to another. Assumes nothing.
use mathlib.Core.Path.{◌≡◌, refl, sym, ap, ◌∙◌}
use mathlib.Core.Bool.{Bool, true, false, ◌&&◌, false≢true}
use mathlib.Core.List.{List, [], ◌∷◌, ◌++◌, map, flatten, Memᴰ}
use Prim.Native.Nat.{ℕ, suc, ◌+◌, ◌-◌, ◌*◌, ◌/◌, ◌%◌, ◌≤◌, ◌<◌}
use native.Mathlib.Decide.{ℕ_discrete}
use native.Mathlib.Omega.{arith}
use lib.Dec.{eqb}
use lib.ListN.{length, get_or, take, drop, length-append, take-append-drop, get_or-append}
use lib.Seq.{slice, take-take, drop-append-le, length-take-le, get_or-take, get_or-append_seam}
use borrow.Author.Tests.{eq-eqb}
use Rattle.theory.specs.Moves.{Rising}
use Rattle.theory.specs.Pairs.{visited, pair_kept}
use Rattle.theory.specs.Route.{segments, placed, reverse_if}
use Rattle.theory.specs.Tables.{CutSet, ForK}
use Rattle.theory.proofs.Orders.{in_range}
use Rattle.costs.specs.RouteCosts.{first_cuts}
use Rattle.costs.proofs.Orders.{middle_is}
use Rattle.costs.proofs.Segments.{cuts_parted, first_many, cut_below, segment_is, segment_filled}
use Rattle.scan_joints.specs.States.{state_of, states, placed_in}
use Rattle.scan_joints.proofs.States.{placed_states}
use Rattle.deadline_dues.specs.Parts.{middle}
use Rattle.precedence.proofs.Kept.{visited_append, visited_reverse, kept_append}
use Rattle.precedence_closing.specs.Closing.{occurs}
use Rattle.precedence_closing.proofs.Broken.{occurs_tail, occurs_broken, turned_broken}

-- ---- parts of a route

both_true : (a b : Bool) → (a && b) ≡ true → (a ≡ true) × (b ≡ true)
both_true true b e = (refl, e)
both_true false b e = absurd (false≢true e)

parts_kept : (p : ℕ × ℕ) (xs ys : List ℕ) → pair_kept p (xs ++ ys) ≡ true → (pair_kept p xs ≡ true) × (pair_kept p ys ≡ true)
parts_kept p xs ys e = both_true (pair_kept p xs) (pair_kept p ys) (both_true (pair_kept p xs && pair_kept p ys) _ (sym (kept_append p xs ys) ∙ e)).0

-- A part of a route that keeps a pair keeps it.
slice_kept : (p : ℕ × ℕ) (r : List ℕ) (a b : ℕ) → pair_kept p r ≡ true → pair_kept p (slice a b r) ≡ true
slice_kept p r a b e =
    let f = (parts_kept p (take b r) (drop b r) (ap (pair_kept p) (take-append-drop b r) ∙ e)).0 in
    (parts_kept p (take a (take b r)) (drop a (take b r)) (ap (pair_kept p) (take-append-drop a (take b r)) ∙ f)).1

-- A part that goes on visits what it visited.
visited_further : (x : ℕ) (r : List ℕ) (a b c : ℕ) → a ≤ b → b ≤ c → c ≤ length r → visited x (slice a b r) ≡ true → visited x (slice a c r) ≡ true
visited_further x r a b c h k l e =
    let L = take c r in
    let many : length (take b r) ≡ b = length-take-le b r (omega arith) in
    let parted : take b r ++ drop b L ≡ L = ap (λ l. l ++ drop b L) (sym (take-take b c r k)) ∙ take-append-drop b L in
    let is : slice a c r ≡ slice a b r ++ drop b L = ap (drop a) (sym parted) ∙ drop-append-le a (take b r) (drop b L) (omega arith) in
    ap (visited x) is ∙ visited_append x (slice a b r) (drop b L) ∙ rw e

visited_turned : (x : ℕ) (b : Bool) (l : List ℕ) → visited x (reverse_if b l) ≡ visited x l
unfolding reverse_if
visited_turned x true l = visited_reverse x l
visited_turned x false l = refl

-- ---- the last cut moved on

last_on : (n low : ℕ) (pre : List ℕ) (c t : ℕ) → Rising low (pre ++ (c ∷ [])) n → c ≤ t → t ≤ n → Rising low (pre ++ (t ∷ [])) n
last_on n low [] c t r h l = (omega (arith, r.0), l, tt)
last_on n low (a ∷ pre) c t r h l = (r.0, r.1, last_on n (suc a) pre c t r.2 h l)

module _ (cs r : List ℕ) (cut_set : CutSet (length cs) (length r) cs) (c : ℕ) (on : get_or cs (length cs - 1) 0 ≤ c) (within : c ≤ length r) where
  abbrev moved : List ℕ
  moved = first_cuts cs ++ (c ∷ [])

  long : length moved ≡ length cs
  long = simp length-append (omega (arith, first_many cs, cut_set.least))

  moved_set : CutSet (length moved) (length r) moved
  moved_set =
      record {
        least = rw long cut_set.least;
        most = rw long cut_set.most;
        short = cut_set.short;
        many = refl;
        rising = last_on (length r) 0 (first_cuts cs) (get_or cs (length cs - 1) 0) c (rw (← (cuts_parted cs (omega (arith, cut_set.least)))) cut_set.rising) on within;
      }

  same_cut : (g : ℕ) → g + 1 < length cs → get_or moved g 0 ≡ get_or cs g 0
  same_cut g h = get_or-append (first_cuts cs) (c ∷ []) 0 g (omega (arith, first_many cs)) ∙ get_or-take (length cs - 1) cs g 0 (omega arith)

  next_cut : (g : ℕ) → g + 1 < length cs → get_or cs (g + 1) 0 ≤ get_or moved (g + 1) 0
  next_cut g h = by (ℕ_discrete (g + 1) (length cs - 1))
    where
      by : Dec (g + 1 ≡ length cs - 1) → get_or cs (g + 1) 0 ≤ get_or moved (g + 1) 0
      by (yes e) =
          let seam : get_or moved (length cs - 1) 0 ≡ c = ap (λ x. get_or moved x 0) (sym (first_many cs)) ∙ get_or-append_seam (first_cuts cs) c [] 0 in
          rw (e, seam) on
      by (no n) = omega (arith, same_cut (g + 1) (omega arith))

  segment_at : (s g : ℕ) → s / 2 ≡ g → g + 1 < length cs → placed_in moved r s ≡ reverse_if (eqb (s % 2) 1) (slice (get_or cs g 0) (get_or moved (g + 1) 0) r)
  unfolding placed_in
  segment_at s g e h =
      let i : 1 + s / 2 ≡ g + 1 = omega arith in
      let j : g + 1 - 1 ≡ g = omega arith in
      ap (λ n. reverse_if (eqb (s % 2) 1) (get_or (segments 0 moved r) n [])) i
      ∙ ap (reverse_if (eqb (s % 2) 1)) (segment_is moved r moved_set (g + 1) (omega arith) (rw long h) ∙ ap (λ a. slice a (get_or moved (g + 1) 0) r) (ap (λ n. get_or moved n 0) j ∙ same_cut g h))

  grown : (x g : ℕ) → g + 1 < length cs → visited x (slice (get_or cs g 0) (get_or cs (g + 1) 0) r) ≡ true → visited x (slice (get_or cs g 0) (get_or moved (g + 1) 0) r) ≡ true
  grown x g h e =
      let j : g + 1 - 1 ≡ g = omega arith in
      let rises : get_or cs g 0 < get_or cs (g + 1) 0 = rw j at (segment_filled cs r cut_set (g + 1) (omega arith) h) in
      visited_further x r (get_or cs g 0) (get_or cs (g + 1) 0) (get_or moved (g + 1) 0) (omega arith) (next_cut g h) (cut_below moved r moved_set (g + 1) (rw long h)) e

  module _ (p e : ℕ × ℕ) (kept : pair_kept p r ≡ true) (rises : e.0 ≤ e.1) (among : e.1 + 1 < length cs)
      (first : visited p.0 (slice (get_or cs e.0 0) (get_or cs (e.0 + 1) 0) r) ≡ true) (second : visited p.1 (slice (get_or cs e.1 0) (get_or cs (e.1 + 1) 0) r) ≡ true) where
    earlier : (s : ℕ) → s / 2 ≡ e.0 → visited p.0 (placed_in moved r s) ≡ true
    earlier s q = ap (visited p.0) (segment_at s e.0 q (omega arith)) ∙ visited_turned p.0 (eqb (s % 2) 1) _ ∙ grown p.0 e.0 (omega arith) first

    later : (s : ℕ) → s / 2 ≡ e.1 → visited p.1 (placed_in moved r s) ≡ true
    later s q = ap (visited p.1) (segment_at s e.1 q among) ∙ visited_turned p.1 (eqb (s % 2) 1) _ ∙ grown p.1 e.1 among second

    turn : e.0 ≡ e.1 → pair_kept p (placed_in moved r (2 * e.1 + 1)) ≡ false
    unfolding reverse_if
    turn q =
        let part = slice (get_or cs e.1 0) (get_or moved (e.1 + 1) 0) r in
        let f : visited p.0 (slice (get_or cs e.1 0) (get_or cs (e.1 + 1) 0) r) ≡ true = rw (← q) first in
        ap (pair_kept p) (segment_at (2 * e.1 + 1) e.1 (omega arith) among ∙ ap (λ b. reverse_if b part) (eq-eqb ((2 * e.1 + 1) % 2) 1 (omega arith)))
        ∙ turned_broken p part (slice_kept p r (get_or cs e.1 0) (get_or moved (e.1 + 1) 0) kept) (grown p.0 e.1 among f) (grown p.1 e.1 among second)

    pub middle_broken : (order : List ℕ) (mask : ℕ) → ForK (length cs) order mask → occurs (states (length cs) order mask) e ≡ true → pair_kept p (middle r moved order mask) ≡ false
    unfolding states
    middle_broken order mask f o =
        let l = slice 1 (length cs) order in
        let ss = map (state_of mask) l in
        let o' : occurs ss e ≡ true = sym (occurs_tail e (omega (arith, cut_set.most)) (omega (arith, cut_set.most)) (5 - length cs) ss) ∙ o in
        let is : flatten (map (placed_in moved r) ss) ≡ flatten (placed mask (segments 0 moved r) l) = ap flatten (placed_states moved r mask l in_middle) in
        rw long (ap (pair_kept p) (sym is) ∙ occurs_broken (placed_in moved r) p e turn earlier later ss o')
      where
        in_middle : (x : ℕ) → Memᴰ x (slice 1 (length cs) order) → 1 ≤ x
        in_middle x m = (in_range f.middle 1 (length cs - 1) f.once x (rw (middle_is (length cs) order mask cut_set.least f) at m)).0
