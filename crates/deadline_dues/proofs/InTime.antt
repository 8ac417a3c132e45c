-- A row whose states are left before their dues: along the row, and as a middle that keeps its deadlines. Assumes nothing.
use mathlib.Core.Path.{◌≡◌, refl, sym, ap, ◌∙◌}
use mathlib.Core.Bool.{Bool, true, false, ◌&&◌}
use mathlib.Core.List.Memᴰ
use mathlib.Core.List.{List, [], ◌∷◌, map, flatten, Memᴰ}
use Prim.Native.Nat.{ℕ, zero, suc, ◌+◌, ◌-◌, ◌*◌, ◌≤◌, ◌<◌}
use native.Mathlib.Numerals.{add-one}
use native.Mathlib.Omega.{arith}
use lib.Dec.{ltb}
use lib.ListN.{length, get_or, take, drop, replicate, length-map}
use lib.Seq.{slice, slice-cons, slice_empty, length-slice, take_at, take-take, get_or-drop, get_or-take, take-nil}
use borrow.Author.Tests.{lt-ltb, le-ltb}
use Rattle.theory.specs.Moves.{total}
use Rattle.theory.specs.Route.{Timetable, clock, path, segments, placed, on_time}
use Rattle.theory.specs.Costs.{last_of, first_of, inner}
use Rattle.theory.specs.Tables.{Tables, timetable_by, clock_by, CutSet, ForK}
use Rattle.theory.proofs.Clock.{path_step}
use Rattle.theory.proofs.Index.{get_or_map}
use Rattle.theory.proofs.Orders.{in_range}
use Rattle.costs.proofs.Orders.{middle_is, pattern_middle}
use Rattle.deadlines.proofs.Along.{path_in, on_time_append}
use Rattle.scan_joints.specs.States.{state_count, state_of, placed_in, states, row}
use Rattle.scan_joints.specs.JointTable.{cell, JointRow, JointTable}
use Rattle.scan_joints.proofs.States.{state_below, placed_states}
use Rattle.scan_joints.proofs.Chain.{full_part, last_any}
use Rattle.deadline_dues.specs.Due.{Due}
use Rattle.deadline_dues.specs.Dues.{in_time, StaysOf, DuesOf}

-- ---- along the row

module _ (J S D rows : List ℕ) (a t at end state : ℕ) (whole : Bool) (h : at < end) (k : end ≤ length rows) (is : state ≡ get_or rows at 0) (so_far : whole ≡ in_time J S D a t (slice at end rows)) where
  next : whole ≡ (ltb (t + (cell J a state + get_or S state 0)) (get_or D state 0) && in_time J S D state (t + (cell J a state + get_or S state 0)) (slice (at + 1) end rows))
  unfolding in_time
  next = so_far ∙ rw (slice-cons at end rows 0 h k, is, add-one at)

  pub next_late : get_or D state 0 ≤ t + (cell J a state + get_or S state 0) → whole ≡ false
  next_late l = next ∙ rw (le-ltb _ _ l)

  pub next_in_time : t + (cell J a state + get_or S state 0) < get_or D state 0 → whole ≡ in_time J S D state (t + (cell J a state + get_or S state 0)) (slice (at + 1) end rows)
  next_in_time l = next ∙ rw (lt-ltb _ _ l)

pub no_states : (J S D rows : List ℕ) (a t at end : ℕ) (whole : Bool) → at ≡ end → whole ≡ in_time J S D a t (slice at end rows) → whole ≡ true
unfolding in_time
no_states J S D rows a t at end whole e so_far = so_far ∙ rw (e, slice_empty end rows)

-- ---- as a middle

module _ (B : Timetable) (part : ℕ → List ℕ) {count head tail : ℕ} {J : List ℕ} (S D : List ℕ) (t : JointTable B.leg part count head tail J)
    (full : (s : ℕ) → s < count → 0 < length (part s)) (stays : (s : ℕ) → s < count → get_or S s 0 ≡ total B.service (part s)) (dues : (s : ℕ) → s < count → Due (clock B) (part s) (get_or D s 0)) where
  along : (a exit c : ℕ) → JointRow B.leg (λ s. first_of (part s) 0) (λ s. inner B.leg (part s)) count tail J a exit →
      (bs : List ℕ) → ((b : ℕ) → Memᴰ b bs → b < count) → in_time J S D a c bs ≡ on_time (clock B) exit c (flatten (map part bs))
  unfolding in_time on_time flatten
  along a exit c legs [] h = refl
  along a exit c legs (b ∷ bs) h =
      let k : b < count = h b (Memᴰ.head refl) in
      let e : cell J a b + get_or S b 0 ≡ path (clock B).step exit (part b) = omega (arith, legs.next b k, path_in B.leg exit (part b) (full b k), stays b k, path_step B exit (part b)) in
      let ih = along b (last_of 0 (part b)) (c + path (clock B).step exit (part b)) (t.from_each b k) bs (λ x m. h x (Memᴰ.tail m)) in
      rw (e, on_time_append (clock B) exit c (part b) (flatten (map part bs)), (dues b k).is exit c, last_any exit 0 (part b) (full b k), ih)

front_of : (a b : ℕ) (l : List ℕ) → slice a b l ≡ take (b - a) (drop a l)
front_of zero b l = let e : b - 0 ≡ b = omega arith in rw e
front_of (suc a) zero l = let e : 0 - suc a ≡ 0 = omega arith in rw e
front_of (suc a) (suc b) [] = let e : take (suc b - suc a) [] ≡ [] = take-nil (suc b - suc a) in sym e
front_of (suc a) (suc b) (x ∷ l) = let e : suc b - suc a ≡ b - a = omega arith in rw e (front_of a b l)

first_states : (rows : List ℕ) (i m : ℕ) → m ≤ 4 → slice (4 * i) (4 * i + m) rows ≡ take m (row rows i)
first_states rows i m h =
    let e : 4 * i + m - 4 * i ≡ m = omega arith in
    let f : 4 * i + 4 - 4 * i ≡ 4 = omega arith in
    rw (front_of (4 * i) (4 * i + m) rows, front_of (4 * i) (4 * i + 4) rows, e, f, take-take m 4 (drop (4 * i) rows) h)

-- A pattern's row begins with the states of its middle segments.
module _ (k : ℕ) (order rows : List ℕ) (mask i : ℕ) (two : 2 ≤ k) (most : k ≤ 5) (f : ForK k order mask) (e : row rows i ≡ states k order mask) where
  long : k ≤ length order
  long = (pattern_middle k order mask two f).long

  pub row_states : slice (4 * i) (4 * i + (k - 1)) rows ≡ map (state_of mask) (slice 1 k order)
  unfolding states
  row_states =
      first_states rows i (k - 1) (omega arith)
      ∙ ap (take (k - 1)) e
      ∙ take_at (map (state_of mask) (slice 1 k order)) (replicate (5 - k) 8) (k - 1) (length-map (slice 1 k order) (state_of mask) ∙ length-slice 1 k order long)

  pub row_known : (c : ℕ) → 4 * i ≤ c → c < 4 * i + (k - 1) → get_or rows c 0 < 8
  row_known c l m =
      let j = c - 4 * i in
      let at : 4 * i + j ≡ c = omega arith in
      let o = slice 1 k order in
      let stands : get_or rows c 0 ≡ get_or (slice (4 * i) (4 * i + (k - 1)) rows) j 0 =
      sym (get_or-drop (4 * i) (take (4 * i + (k - 1)) rows) j 0 ∙ ap (λ n. get_or (take (4 * i + (k - 1)) rows) n 0) at ∙ get_or-take (4 * i + (k - 1)) rows c 0 m) in
      let is : get_or rows c 0 ≡ state_of mask (get_or o j 0) =
      stands ∙ ap (λ s. get_or s j 0) row_states ∙ get_or_map (state_of mask) o j 0 0 (omega (arith, length-slice 1 k order long)) in
      let place : get_or o j 0 ≡ get_or order (1 + j) 0 = get_or-drop 1 (take k order) j 0 ∙ get_or-take k order (1 + j) 0 (omega arith) in
      let middle = pattern_middle k order mask two f in
      let b = state_below k mask (get_or order (1 + j) 0) (middle.least (1 + j) (omega arith) (omega arith)) (middle.most (1 + j) (omega arith) (omega arith)) in
      omega (arith, b, is, ap (state_of mask) place)

module _ (T : Tables) (cs r J S D : List ℕ) (cut_set : CutSet (length cs) (length r) cs) {head tail : ℕ} (t : JointTable (timetable_by T).leg (placed_in cs r) (state_count (length cs)) head tail J)
    (stays : StaysOf T.service cs r S) (dues : DuesOf (clock_by T) cs r D) where
  -- The states of a pattern's row are left before their dues exactly where its middle segments, walked from the head's end, keep their deadlines.
  pub row_kept : (order rows : List ℕ) (mask i now : ℕ) → ForK (length cs) order mask → row rows i ≡ states (length cs) order mask →
      in_time J S D 9 now (slice (4 * i) (4 * i + (length cs - 1)) rows) ≡ on_time (clock_by T) head now (flatten (placed mask (segments 0 cs r) (slice 1 (length cs) order)))
  row_kept order rows mask i now f e =
      let o = slice 1 (length cs) order in
      ap (in_time J S D 9 now) (row_states (length cs) order rows mask i cut_set.least cut_set.most f e)
      ∙ along (timetable_by T) (placed_in cs r) S D t (full_part cs r cut_set) stays.each dues.each 9 head now t.from_head (map (state_of mask) o) below
      ∙ ap (λ ps. on_time (clock_by T) head now (flatten ps)) (placed_states cs r mask o (λ x m. (within x m).0))
    where
      within : (x : ℕ) → Memᴰ x (slice 1 (length cs) order) → (1 ≤ x) × (x < 1 + (length cs - 1))
      within x m = in_range f.middle 1 (length cs - 1) f.once x (rw (middle_is (length cs) order mask cut_set.least f) at m)

      below : (b : ℕ) → Memᴰ b (map (state_of mask) (slice 1 (length cs) order)) → b < state_count (length cs)
      below b m =
          let u = Memᴰ.of_map (state_of mask) (slice 1 (length cs) order) m in
          rw (← u.2) (state_below (length cs) mask u.0 (within u.0 u.1).0 (omega (arith, (within u.0 u.1).1)))
