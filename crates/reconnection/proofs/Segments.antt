-- Segments by their bounds, and one turn of the loop that puts them together. Assumes nothing.
use mathlib.Core.Path.{◌≡◌, refl, sym, ap, ◌∙◌}
use mathlib.Core.Bool.{Bool}
use mathlib.Core.List.{List, [], ◌∷◌, ◌++◌, append-nil, append_assoc, flatten}
use Prim.Native.Nat.{ℕ, zero, suc, ◌+◌, ◌-◌, ◌<◌, ◌≤◌}
use native.Mathlib.Numerals.{add-one}
use native.Mathlib.Omega.{arith}
use lib.ListN.{length, get_or, take, drop, length-append, length-take, length-drop, drop_of_length-le}
use lib.Seq.{drop-cons, take_at, take_all}
use Rattle.theory.specs.Moves.{Rising}
use Rattle.theory.specs.Route.{segments, reverses, reverse_if, placed, joined, reconnected}
use Rattle.theory.proofs.Moves.{total_ones}
use Rattle.theory.proofs.Orders.{in_range}
use Rattle.theory.proofs.Route.{total_reconnected}
use Rattle.theory.proofs.Index.{mem_get_or}
use Rattle.theory.proofs.Delta.{length_reverse_if}
use Rattle.theory.proofs.Stores.{drop_take}
use Rattle.reconnection.specs.Segments.{bound, Reconnectable}

-- Segment i lies between two bounds.
between : (from low : ℕ) (cs r : List ℕ) (i : ℕ) → Rising low cs (length r) → i ≤ length cs →
    get_or (segments from cs r) i []
    ≡ take (get_or (from ∷ (cs ++ (length r ∷ []))) (suc i) 0 - get_or (from ∷ (cs ++ (length r ∷ []))) i 0) (drop (get_or (from ∷ (cs ++ (length r ∷ []))) i 0) r)
unfolding segments
between from low [] r zero h k = sym (take_all (length r - from) (drop from r) (simp length-drop (omega arith)))
between from low [] r (suc i) h k = absurd (omega arith)
between from low (c ∷ cs) r zero h k = drop_take from c r
between from low (c ∷ cs) r (suc i) h k = between c (suc c) cs r i h.2 (omega arith)

pub segment_between : (cs r : List ℕ) (i : ℕ) → Rising 0 cs (length r) → i ≤ length cs →
    get_or (segments 0 cs r) i [] ≡ take (bound cs (length r) (i + 1) - bound cs (length r) i) (drop (bound cs (length r) i) r)
segment_between cs r i h k = rw (add-one i) (between 0 0 cs r i h k)

-- The bounds rise, and none is beyond the route.
rise : (from low n : ℕ) (cs : List ℕ) (i : ℕ) → from ≤ low → from ≤ n → Rising low cs n → i ≤ length cs →
    (get_or (from ∷ (cs ++ (n ∷ []))) i 0 ≤ get_or (from ∷ (cs ++ (n ∷ []))) (suc i) 0) × (get_or (from ∷ (cs ++ (n ∷ []))) (suc i) 0 ≤ n)
rise from low n [] zero h l t k = (l, omega arith)
rise from low n [] (suc i) h l t k = absurd (omega arith)
rise from low n (c ∷ cs) zero h l t k = (omega arith, t.1)
rise from low n (c ∷ cs) (suc i) h l t k = rise c (suc c) n cs i (omega arith) t.1 t.2 (omega arith)

pub bounds_rise : (cs : List ℕ) (n i : ℕ) → Rising 0 cs n → i ≤ length cs → (bound cs n i ≤ bound cs n (i + 1)) × (bound cs n (i + 1) ≤ n)
bounds_rise cs n i t k = rw (add-one i) (rise 0 0 n cs i (omega arith) (omega arith) t k)

-- What is still to be put: the segments that the order names from a place on.
pub rest : ℕ → List (List ℕ) → List ℕ → ℕ → List ℕ
rest mask ps order i = flatten (placed mask ps (drop i order))

pub rest_cons : (mask : ℕ) (ps : List (List ℕ)) (o : List ℕ) (i : ℕ) → i < length o →
    rest mask ps o i ≡ reverse_if (reverses mask (get_or o i 0)) (get_or ps (get_or o i 0) []) ++ rest mask ps o (i + 1)
unfolding rest placed flatten
rest_cons mask ps o i h = rw (add-one i, drop-cons o i 0 h)

pub rest_end : (mask : ℕ) (ps : List (List ℕ)) (o : List ℕ) (i : ℕ) → length o ≤ i → rest mask ps o i ≡ []
unfolding rest placed flatten
rest_end mask ps o i h = rw (drop_of_length-le o h)

-- A segment put behind what stands: what stands then, and what is to come, are still the whole.
put_next : (out s more whole : List ℕ) (at : ℕ) → at ≤ length out → take at out ++ (s ++ more) ≡ whole → at + length s ≤ length out →
    (take (at + length s) (take at out ++ s ++ drop (at + length s) out) ++ more ≡ whole) × (length (take at out ++ s ++ drop (at + length s) out) ≡ length out)
put_next out s more whole at h e k =
    let f : length (take at out ++ s) ≡ at + length s = simp (length-append, length-take) (omega arith) in (
      rw (take_at (take at out ++ s) (drop (at + length s) out) (at + length s) f, append_assoc) e,
      simp (length-append, length-take, length-drop) (omega arith),
    )

room_next : (out s more whole : List ℕ) (at : ℕ) → at ≤ length out → take at out ++ (s ++ more) ≡ whole → length whole ≡ length out → at + length s ≤ length out
room_next out s more whole at h e k = let f = simp (length-append, length-take) at (ap length e) in omega arith

put_all : (out whole : List ℕ) (at : ℕ) → at ≤ length out → take at out ++ [] ≡ whole → length whole ≡ length out → out ≡ whole
put_all out whole at h e k =
    let g : take at out ≡ whole = rw append-nil at e in
    let f : length out ≤ at = omega (arith, simp length-take at (ap length g)) in
    sym (take_all at out f) ∙ g

-- ---- the loop of `reconnect`

abbrev pub whole : List ℕ → List ℕ → List ℕ → ℕ → List ℕ
whole r cs o mask = reconnected (record { cuts = cs; pattern = record { order = o; mask = mask } }) r

module _ (r cs o out₀ : List ℕ) (mask : ℕ) (ready : Reconnectable r cs o out₀) where
  -- The whole has as many stops as the route.
  pub as_long : length (whole r cs o mask) ≡ length r
  as_long =
      sym (total_ones (whole r cs o mask))
      ∙ total_reconnected (λ x. 1) (length r) (record { cuts = cs; pattern = record { order = o; mask = mask } }) r ready.cut_set.rising ready.once.once
      ∙ total_ones r

  pub from_start : rest mask (segments 0 cs r) o 0 ≡ whole r cs o mask
  unfolding rest reconnected joined
  from_start = refl

  -- A place of the order names a segment.
  pub named : (i : ℕ) → i < length o → get_or o i 0 ≤ length cs
  named i h = omega (arith, in_range o 0 (suc (length cs)) ready.once.once (get_or o i 0) (mem_get_or o i 0 h))

  -- One turn: the segment at `position` lies at a..b, and goes into `out` at `at`.
  module _ (out : List ℕ) (at position a b : ℕ) (flip : Bool) (more : position < length o)
      (ea : a ≡ bound cs (length r) (get_or o position 0)) (eb : b ≡ bound cs (length r) (get_or o position 0 + 1)) (ef : flip ≡ reverses mask (get_or o position 0))
      (h : at ≤ length out) (kept : length out ≡ length out₀) (inv : take at out ++ rest mask (segments 0 cs r) o position ≡ whole r cs o mask) where
    within : (a ≤ b) × (b ≤ length r)
    within = rw (ea, eb) (bounds_rise cs (length r) (get_or o position 0) ready.cut_set.rising (named position more))

    segment : List ℕ
    segment = reverse_if flip (take (b - a) (drop a r))

    segment_length : length segment ≡ b - a
    unfolding segment
    segment_length = length_reverse_if flip (take (b - a) (drop a r)) ∙ simp (length-take, length-drop) (omega (arith, within))

    stands : take at out ++ (segment ++ rest mask (segments 0 cs r) o (position + 1)) ≡ whole r cs o mask
    unfolding segment
    stands =
        rw (ef, ea, eb)
        (rw (rest_cons mask (segments 0 cs r) o position more, segment_between cs r (get_or o position 0) ready.cut_set.rising (named position more)) at inv)

    full : length (whole r cs o mask) ≡ length out
    full = as_long ∙ sym ready.room ∙ sym kept

    pub segment_room : (a ≤ b) × (b ≤ length r) × (at + (b - a) ≤ length out)
    segment_room = (within.0, within.1, omega (arith, segment_length, room_next out segment (rest mask (segments 0 cs r) o (position + 1)) (whole r cs o mask) at h stands full))

    pub segment_put : (last : List ℕ) → last ≡ take at out ++ reverse_if flip (take (b - a) (drop a r)) ++ drop (at + (b - a)) out →
        (at + (b - a) ≤ length last) × (length last ≡ length out) × (take (at + (b - a)) last ++ rest mask (segments 0 cs r) o (position + 1) ≡ whole r cs o mask)
    unfolding segment
    segment_put last e =
        let p = put_next out segment (rest mask (segments 0 cs r) o (position + 1)) (whole r cs o mask) at h stands (omega (arith, segment_length, segment_room.2)) in
        let q = rw segment_length at p in
        rw e (omega (arith, q.1, segment_room.2), q.1, q.0)

  pub all_put : (out : List ℕ) (at position : ℕ) → length o ≤ position → at ≤ length out → length out ≡ length out₀ →
      take at out ++ rest mask (segments 0 cs r) o position ≡ whole r cs o mask → out ≡ whole r cs o mask
  all_put out at position more h kept inv =
      put_all out (whole r cs o mask) at h (rw (← (rest_end mask (segments 0 cs r) o position more)) inv) (as_long ∙ sym ready.room ∙ sym kept)
