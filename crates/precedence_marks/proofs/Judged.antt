-- A candidate judged by its pairs, part by part, whatever the standing route does: head and tail by where they are cut, the middle along its states. Assumes nothing.
use mathlib.Core.Path.{◌≡◌, refl, sym, ap, ◌∙◌}
use mathlib.Core.Bool.{Bool, true, false, ◌&&◌, false≢true}
use mathlib.Core.List.Memᴰ
use mathlib.Core.List.{List, [], ◌++◌, map, flatten, append_assoc, append-nil, Memᴰ}
use Prim.Native.Nat.{ℕ, ◌+◌, ◌-◌, ◌≤◌, ◌<◌}
use native.Mathlib.Omega.{arith}
use lib.Dec.{leb}
use lib.ListN.{length, take, drop, length-append, take-append-drop}
use lib.Seq.{slice, take_at, drop_at}
use borrow.Author.Tests.{le-leb}
use Rattle.theory.specs.Route.{segments, placed}
use Rattle.theory.specs.Tables.{CutSet, ForK}
use Rattle.theory.proofs.Orders.{in_range}
use Rattle.costs.proofs.Orders.{middle_is}
use Rattle.scan_joints.specs.States.{state_count, state_of, placed_in}
use Rattle.scan_joints.proofs.States.{state_below, placed_states}
use Rattle.theory.specs.Pairs.{visited, pairs_kept, front_kept, back_kept}
use Rattle.precedence.specs.Words.{FrontReach, BackSince}
use Rattle.precedence.proofs.Kept.{rejoined_kept}
use Rattle.precedence_marks.specs.Held.{in_order, SegmentsMarked}
use Rattle.precedence_marks.proofs.Order.{row_kept}
use Rattle.precedence_marks.proofs.Filling.{state_words}

-- ---- a head, a middle and a tail; m stands, m' is put in its place

-- With the head no longer than the front reaches and the tail not before it may begin, the middle decides; else no middle keeps the pairs.
pub rejoined_judged : (ps : List (ℕ × ℕ)) (h m m' t : List ℕ) (reach since : ℕ) → ((x : ℕ) → visited x m' ≡ visited x m) → FrontReach ps (h ++ (m ++ t)) reach → BackSince ps (h ++ (m ++ t)) since →
    pairs_kept ps (h ++ (m' ++ t)) ≡ ((leb (length h) reach && leb since (length h + length m)) && pairs_kept ps m')
rejoined_judged ps h m m' t reach since same front back =
    let r = h ++ (m ++ t) in
    let c = length h + length m in
    let parted : r ≡ (h ++ m) ++ t = sym (append_assoc h m t) in
    let many : length (h ++ m) ≡ c = length-append h m in
    let long : length r ≡ length h + (length m + length t) = simp length-append in
    let heads : take (length h) r ≡ h = take_at h (m ++ t) (length h) refl in
    let rest : drop (length h) r ≡ m ++ t = drop_at h (m ++ t) (length h) refl in
    let before : take c r ≡ h ++ m = ap (take c) parted ∙ take_at (h ++ m) t c many in
    let tails : drop c r ≡ t = ap (drop c) parted ∙ drop_at (h ++ m) t c many in
    let f : front_kept ps h (m ++ t) ≡ leb (length h) reach = rw (heads, rest) at (front.is (length h) (omega (arith, long))) in
    let b : back_kept ps (h ++ m) t ≡ leb since c = rw (before, tails) at (back.is c (omega (arith, long))) in
    rejoined_kept ps h m m' t same ∙ rw (f, b)

-- ---- the middle, along its states

module _ (ps : List (ℕ × ℕ)) (cs r D : List ℕ) (cut_set : CutSet (length cs) (length r) cs) (words : SegmentsMarked ps cs r (length cs - 1) D) where
  -- The states of a pattern are in order exactly if its middle segments, as it places them, keep every pair.
  pub states_judged : (order : List ℕ) (mask : ℕ) → ForK (length cs) order mask →
      in_order D 0 (map (state_of mask) (slice 1 (length cs) order)) ≡ pairs_kept ps (flatten (placed mask (segments 0 cs r) (slice 1 (length cs) order)))
  states_judged order mask f =
      row_kept ps (placed_in cs r) (state_count (length cs)) D (state_words ps cs r D cut_set words) (map (state_of mask) (slice 1 (length cs) order)) below
      ∙ ap (λ l. pairs_kept ps (flatten l)) (placed_states cs r mask (slice 1 (length cs) order) (λ x m. (within x m).0))
    where
      within : (x : ℕ) → Memᴰ x (slice 1 (length cs) order) → (1 ≤ x) × (x < 1 + (length cs - 1))
      within x m = in_range f.middle 1 (length cs - 1) f.once x (rw (middle_is (length cs) order mask cut_set.least f) at m)

      below : (b : ℕ) → Memᴰ b (map (state_of mask) (slice 1 (length cs) order)) → b < state_count (length cs)
      below b m =
          let u = Memᴰ.of_map (state_of mask) (slice 1 (length cs) order) m in
          rw (← u.2) (state_below (length cs) mask u.0 (within u.0 u.1).0 (omega (arith, (within u.0 u.1).1)))

-- ---- a route that keeps its pairs

both_true : (a b : Bool) → (a && b) ≡ true → (a ≡ true) × (b ≡ true)
both_true true b e = (refl, e)
both_true false b e = absurd (false≢true e)

-- Each head and each tail of it does: after an acceptance the front reaches the end, and a tail may begin anywhere.
module _ (ps : List (ℕ × ℕ)) (r : List ℕ) (kept : pairs_kept ps r ≡ true) where
  parts_kept : (c : ℕ) → (front_kept ps (take c r) (drop c r) && back_kept ps (take c r) (drop c r)) ≡ true
  parts_kept c =
      let h = take c r in
      let t = drop c r in
      let whole : h ++ ([] ++ t) ≡ r = take-append-drop c r in
      let e : pairs_kept ps r ≡ ((front_kept ps h t && back_kept ps (h ++ []) t) && pairs_kept ps []) = ap (pairs_kept ps) (sym whole) ∙ rejoined_kept ps h [] [] t (λ x. refl) in
      (both_true (front_kept ps h t && back_kept ps h t) (pairs_kept ps []) (ap (λ l. (front_kept ps h t && back_kept ps l t) && pairs_kept ps []) (sym (append-nil h)) ∙ sym e ∙ kept)).0

  pub kept_reach : FrontReach ps r (length r)
  kept_reach = record { within = omega arith; is = λ c l. (both_true (front_kept ps (take c r) (drop c r)) (back_kept ps (take c r) (drop c r)) (parts_kept c)).0 ∙ sym (le-leb c (length r) l) }

  pub kept_since : BackSince ps r 0
  kept_since = record { within = omega arith; is = λ c l. (both_true (front_kept ps (take c r) (drop c r)) (back_kept ps (take c r) (drop c r)) (parts_kept c)).1 ∙ sym (le-leb 0 c (omega arith)) }
