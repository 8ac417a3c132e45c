-- How the dues of a segment grow with the stop behind it. Assumes nothing.
use mathlib.Core.Path.{◌≡◌, refl, sym, ap, ◌∙◌}
use mathlib.Core.Bool.{Bool, true, false, ◌&&◌, and-true}
use mathlib.Core.List.{List, [], ◌∷◌, ◌++◌, reverse, reverse-append}
use Prim.Native.Nat.{ℕ, suc, ◌+◌, ◌-◌, ◌≤◌, ◌<◌, min}
use native.Mathlib.Numerals.{add-one}
use native.Mathlib.Decide.{dec_lt}
use native.Mathlib.Omega.{arith}
use lib.Dec.{leb, ltb}
use lib.ListN.{length, get_or, take, drop}
use lib.Seq.{slice, slice-cons, slice_empty, take-suc, drop-append-le, length-take-le}
use borrow.Author.Tests.{lt-ltb, le-ltb, le-leb, lt-leb}
use Rattle.theory.specs.Moves.{total}
use Rattle.theory.specs.Route.{Clock, path, reverse_if, on_time}
use Rattle.theory.specs.Costs.{last_of, inner}
use Rattle.theory.specs.Tables.{Tables, timetable_by, clock_by}
use Rattle.theory.proofs.Clock.{path_step}
use Rattle.theory.proofs.Costs.{path_append, backward_inner}
use Rattle.theory.proofs.Route.{total_reverse_if}
use Rattle.costs.specs.RouteCosts.{leg}
use Rattle.costs.proofs.Segments.{last_placed}
use Rattle.deadlines.proofs.Along.{on_time_append}
use Rattle.deadlines.proofs.Stays.{stayed_along}
use Rattle.deadline_dues.specs.Due.{Due, OwnDue, WayBackAsked, WayBack, SegmentDues, Spannable, Growable}

-- ---- numbers

below : (e u : ℕ) → leb e u ≡ ltb e (u + 1)
below e u = by (dec_lt u e)
  where
    by : Dec (u < e) → leb e u ≡ ltb e (u + 1)
    by (yes h) = lt-leb e u h ∙ sym (le-ltb e (u + 1) (omega arith))
    by (no n) = le-leb e u (omega arith) ∙ sym (lt-ltb e (u + 1) (omega arith))

shift : (e g l : ℕ) → ltb e g ≡ ltb (e + l) (g + l)
shift e g l = by (dec_lt e g)
  where
    by : Dec (e < g) → ltb e g ≡ ltb (e + l) (g + l)
    by (yes h) = lt-ltb e g h ∙ sym (lt-ltb (e + l) (g + l) (omega arith))
    by (no n) = le-ltb e g (omega arith) ∙ sym (le-ltb (e + l) (g + l) (omega arith))

both : (e g u : ℕ) → (ltb e g && ltb e u) ≡ ltb e (min g u)
both e g u = by (dec_lt e g) (dec_lt e u)
  where
    by : Dec (e < g) → Dec (e < u) → (ltb e g && ltb e u) ≡ ltb e (min g u)
    by (yes h) (yes k) = rw (lt-ltb e g h, lt-ltb e u k) (sym (lt-ltb e (min g u) (omega arith)))
    by (yes h) (no n) = rw (lt-ltb e g h, le-ltb e u (omega arith)) (sym (le-ltb e (min g u) (omega arith)))
    by (no n) k = rw (le-ltb e g (omega arith)) (sym (le-ltb e (min g u) (omega arith)))

swap : (a b : Bool) → (a && b) ≡ (b && a)
swap true true = refl
swap true false = refl
swap false true = refl
swap false false = refl

-- ---- a stop more

pub due_one : (C : Clock) (x : ℕ) → Due C (x ∷ []) (C.until x + 1)
unfolding on_time path
due_one C x =
    record {
      is = λ a t.
          let e : t + (C.step a x + 0) ≡ t + C.step a x = omega arith in
          rw e (and-true (leb (t + C.step a x) (C.until x)) ∙ below (t + C.step a x) (C.until x));
    }

one_leg : (d : ℕ → ℕ → ℕ) (a x : ℕ) → path d a (x ∷ []) ≡ d a x
unfolding path
one_leg d a x = omega arith

pub due_behind : (C : Clock) (part : List ℕ) (g z y : ℕ) → Due C part g → ((a : ℕ) → last_of a part ≡ z) → Due C (part ++ (y ∷ [])) (min (g + C.step z y) (C.until y + 1))
due_behind C part g z y due last =
    record {
      is = λ a t.
          let l = C.step z y in
          let e = t + path C.step a part in
          let whole : t + path C.step a (part ++ (y ∷ [])) ≡ e + l = rw (path_append C.step a part (y ∷ []), last a) (omega (arith, one_leg C.step z y)) in
          on_time_append C a t part (y ∷ [])
          ∙ rw (due.is a t, last a, (due_one C y).is z e, whole, one_leg C.step z y) (ap (λ b. b && ltb (e + l) (C.until y + 1)) (shift e g l) ∙ both (e + l) (g + l) (C.until y + 1));
    }

pub due_before : (C : Clock) (part : List ℕ) (g y : ℕ) → Due C part g → Due C (y ∷ part) (min g (C.until y + 1 + path C.step y part))
unfolding on_time path
due_before C part g y due =
    record {
      is = λ a t.
          let p = path C.step y part in
          let e = t + C.step a y in
          let whole : t + (C.step a y + p) ≡ e + p = omega arith in
          rw (due.is y e, whole, below e (C.until y), shift e (C.until y + 1) p) (swap (ltb (e + p) (C.until y + 1 + p)) (ltb (e + p) g) ∙ both (e + p) g (C.until y + 1 + p));
    }

-- ---- a segment of a route

slice_one : (r : List ℕ) (s : ℕ) → s < length r → slice s (s + 1) r ≡ get_or r s 0 ∷ []
slice_one r s h = rw (add-one s) (slice-cons s (suc s) r 0 (omega arith) h ∙ rw (slice_empty (suc s) r))

slice_snoc : (r : List ℕ) (s e : ℕ) → s ≤ e → e < length r → slice s (e + 1) r ≡ slice s e r ++ (get_or r e 0 ∷ [])
slice_snoc r s e h k =
    rw (add-one e)
    (ap (drop s) (take-suc r e 0 k) ∙ drop-append-le s (take e r) (get_or r e 0 ∷ []) (omega (arith, length-take-le e r (omega arith))))

module _ {T : Tables} {r sums stayed : List ℕ} {start end straight reversed : ℕ} (given : Growable T r sums stayed start end straight reversed) where
  abbrev C : Clock
  C = clock_by T

  abbrev stop : ℕ
  stop = get_or r end 0

  abbrev last : ℕ
  last = get_or r (end - 1) 0

  turned_with : reverse (slice start (end + 1) r) ≡ stop ∷ reverse (slice start end r)
  turned_with = ap reverse (slice_snoc r start end (omega (arith, given.of.filled)) given.more) ∙ reverse-append (slice start end r) (stop ∷ [])

  -- The legs back, and the services on the way.
  legs_back : get_or sums start 0 + path (leg T.locations T.legs) stop (reverse (slice start end r)) ≡ get_or sums end 0
  unfolding inner
  legs_back =
      let d = leg T.locations T.legs in
      let w = given.of.read.backwards in
      let b = backward_inner d r start end (omega (arith, given.of.filled)) given.more in
      let c = ap (inner d) (ap (λ n. reverse (slice start n r)) (sym (add-one end)) ∙ turned_with) in
      omega (arith, b, c, w.each start (omega (arith, given.of.filled, given.of.within)), w.each end given.more)

  services_back : get_or stayed start 0 + total (λ x. get_or T.service x 0) (reverse (slice start end r)) ≡ get_or stayed end 0
  unfolding reverse_if
  services_back =
      omega (arith, stayed_along given.of.read.stays start end (omega (arith, given.of.filled)) given.of.within, total_reverse_if (λ x. get_or T.service x 0) true (slice start end r))

  way_back : (v : ℕ) → WayBack sums stayed start end v → v ≡ path C.step stop (reverse (slice start end r))
  way_back v w = omega (arith, w.is, legs_back, services_back, path_step (timetable_by T) stop (reverse (slice start end r)))

  pub way_back_asked : WayBackAsked sums stayed start end
  way_back_asked =
      let o = given.of.read in
      record {
        places = o.backwards.places;
        stay_places = o.stays.places;
        filled = given.of.filled;
        within = omega (arith, given.more, o.stops.short);
        rises = omega (arith, legs_back);
        stays = omega (arith, services_back);
        small = omega (arith, o.backwards.small end given.more, given.more, o.stops.short);
        brief = omega (arith, o.stays.small end (omega (arith, given.more)), given.more, o.stops.short);
      }

  last_stop : (a : ℕ) → last_of a (slice start end r) ≡ last
  unfolding reverse_if
  last_stop a = last_placed r start end given.of.filled given.of.within false a

  pub grown : (served own seconds back s v : ℕ) → served ≡ get_or T.service stop 0 → OwnDue T.latest stop served own → seconds ≡ leg T.locations T.legs last stop →
      WayBack sums stayed start end back → s ≡ min (straight + (seconds + served)) own → v ≡ min reversed (own + back) → SegmentDues C (slice start (end + 1) r) s v
  grown served own seconds back s v p due l w e f =
      let o : own ≡ C.until stop + 1 = omega (arith, due.is, p) in
      let step : seconds + served ≡ C.step last stop = omega (arith, l, p) in
      record {
        as_it_stands = rw (e, step, o, slice_snoc r start end (omega (arith, given.of.filled)) given.more) (due_behind C (slice start end r) straight last stop given.dues.as_it_stands last_stop);
        turned = rw (f, way_back back w, o, turned_with) (due_before C (reverse (slice start end r)) reversed stop given.dues.turned);
        small = omega (arith, e, due.small);
        turned_small = omega (arith, f, given.dues.turned_small);
      }

-- The first stop of a segment alone.
module _ {T : Tables} {r sums stayed : List ℕ} {start end : ℕ} (given : Spannable T r sums stayed start end) where
  pub alone : (served own : ℕ) → served ≡ get_or T.service (get_or r start 0) 0 → OwnDue T.latest (get_or r start 0) served own → SegmentDues (clock_by T) (slice start (start + 1) r) own own
  alone served own p due =
      let C = clock_by T in
      let one : slice start (start + 1) r ≡ get_or r start 0 ∷ [] = slice_one r start (omega (arith, given.filled, given.within)) in
      let o : own ≡ C.until (get_or r start 0) + 1 = omega (arith, due.is, p) in
      record {
        as_it_stands = rw (one, o) (due_one C (get_or r start 0));
        turned = rw (one, o) (due_one C (get_or r start 0));
        small = due.small;
        turned_small = due.small;
      }
