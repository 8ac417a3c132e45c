-- The turns of the search for a way: each known segment first, then an unknown one. Assumes nothing.
use mathlib.Core.Path.{◌≡◌, refl}
use mathlib.Core.Bool.{Bool, false}
use mathlib.Core.List.Memᴰ
use mathlib.Core.List.{List, [], ◌∷◌}
use Prim.Native.Nat.{ℕ, suc, ◌+◌, ◌-◌, ◌*◌, ◌≤◌, ◌<◌}
use native.Mathlib.Omega.{arith}
use native.Mathlib.Decide.{dec_lt}
use lib.ListN.{get_or}
use Rattle.standing.specs.Places.{Has}
use Rattle.prefixes.specs.Ways.{start_of, size_of, Nowhere, NowhereFirst, FirstCuts, Handable, Handed, Farther, Reaches, Marked, Gathered}
use Rattle.prefixes.proofs.Ways.{middle_filled, middle_within, way_near, way_known, way_unknown, some_unknown}

pub handable : (known : ℕ) (cuts : List ℕ) (p : ℕ) → FirstCuts known cuts → 1 ≤ p → p ≤ known → Handable cuts p
handable known cuts p f least most =
    let e : suc (p - 1) ≡ p = omega arith in
    record { least = least; most = omega (arith, f.few); rise = rw e at (f.rise (p - 1) (omega arith)); small = f.small p most }

module _ (known : ℕ) (cuts stands ahead : List ℕ) (row goal used unknown left places : ℕ) where
  pub not_reached : (r : Bool) → Reaches places goal unknown r → r ≡ false → Nowhere known cuts stands ahead row goal used unknown left places
  not_reached r reaching e n k old wanted cs s o y h l w = reaching e y h (way_near o w)

  -- Known segment p first: none of the places that it hands on leads anywhere.
  pub known_tried : (p used' goal' next : ℕ) → 1 ≤ p → p ≤ known → Handed cuts stands p used places next → Farther cuts p goal goal' → Marked used p used' →
      Nowhere known cuts stands ahead row goal' used' unknown (left - 1) next → NowhereFirst p known cuts stands ahead row goal used unknown left places
  known_tried p used' goal' next least most handed moved marked nowhere n k old wanted cs s o y h l w =
      let i = w.within p (Memᴰ.head refl) in
      let filled = middle_filled n k cs s.many s.rising p i.0 i.1 in
      let within = middle_within n k cs s.many s.rising p i.0 i.1 in
      let a : get_or cs (p - 1) 0 ≡ get_or cuts (p - 1) 0 = s.same (p - 1) (omega arith) in
      let b : get_or cs p 0 ≡ get_or cuts p 0 = s.same p (omega arith) in
      let size : size_of cs p ≡ size_of cuts p = omega (arith, a, b) in
      let end : get_or cs (p - 1) 0 + size_of cs p ≡ get_or cs p 0 = omega (arith, filled) in
      let marks : Has (get_or stands (start_of cs p * 49 + (start_of cs p + size_of cs p)) 0) y =
      s.stood.marked (start_of cs p) (size_of cs p) y (omega (arith, filled)) (omega (arith, within, filled)) w.laid.1 w.laid.0 in
      let there : Has (get_or stands (start_of cuts p * 49 + get_or cuts p 0) 0) y = rw (end, a, b) at marks in
      let more : Has next (y + size_of cuts p) = handed (w.free p (Memᴰ.head refl) (omega arith)) y h there (omega (arith, w.laid.1, s.few, size)) in
      nowhere n k old wanted cs s o (y + size_of cs p) (rw size more) w.laid.1
      (way_known p o w used' goal' (omega arith) l marked (λ g q b. rw size (moved g q (omega (arith, b, s.few, size)))))

  pub next_tried : (p : ℕ) → ((i : ℕ) → 1 ≤ i → i < p → NowhereFirst i known cuts stands ahead row goal used unknown left places) →
      NowhereFirst p known cuts stands ahead row goal used unknown left places →
      (i : ℕ) → 1 ≤ i → i < p + 1 → NowhereFirst i known cuts stands ahead row goal used unknown left places
  next_tried p gone this i a b = by (dec_lt i p)
    where
      by : Dec (i < p) → NowhereFirst i known cuts stands ahead row goal used unknown left places
      by (yes l) = gone i a l
      by (no l) = let e : i ≡ p = omega arith in rw e this

  -- All known ones first, and an unknown one: nothing is left.
  pub all_tried : (next : ℕ) → 0 < left → ((i : ℕ) → 1 ≤ i → i ≤ known → NowhereFirst i known cuts stands ahead row goal used unknown left places) →
      (0 < unknown → Gathered ahead row places next) → (0 < unknown → Nowhere known cuts stands ahead row goal used (unknown - 1) (left - 1) next) →
      Nowhere known cuts stands ahead row goal used unknown left places
  all_tried next some gone gathered nowhere n k old wanted cs s [] y h l w = absurd (omega (arith, w.many))
  all_tried next some gone gathered nowhere n k old wanted cs s (i ∷ o) y h l w = by (dec_lt known i)
    where
      by : Dec (known < i) → ⊥
      by (no d) = gone i (w.within i (Memᴰ.head refl)).0 (omega arith) n k old wanted cs s o y h l w
      by (yes d) =
          let u = some_unknown i o w (omega arith) in
          let q = w.within i (Memᴰ.head refl) in
          let m = s.further i y (omega arith) q.1 w.laid.1 w.laid.0 in
          nowhere u n k old wanted cs s o (y + size_of cs i) (gathered u y (y + size_of cs i) (omega (arith, s.few)) h m) w.laid.1 (way_unknown i o w (omega arith))
