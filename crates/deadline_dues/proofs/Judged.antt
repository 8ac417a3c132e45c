-- Whether a candidate keeps every deadline, part by part, whatever the standing route does: the head is as it was, the middle segments are walked, and the tail is
-- reached sooner by what the candidate gains. Assumes nothing.
use mathlib.Core.Path.{◌≡◌, refl, sym, ap, ap₂, ◌∙◌}
use mathlib.Core.Bool.{true, false, ◌&&◌}
use mathlib.Core.List.{List, [], ◌∷◌, ◌++◌, flatten, append_assoc}
use Prim.Native.Nat.{ℕ, zero, suc, ◌+◌, ◌-◌, ◌*◌, ◌^◌, ◌≤◌, ◌<◌}
use native.Mathlib.Nat.{pow-suc}
use native.Mathlib.Omega.{arith}
use lib.Dec.{leb}
use lib.ListN.{length, get_or, take, drop, length-append, length-drop}
use lib.Seq.{slice, take_at, drop_at, get_or_at, split_at, take-take, get_or-take, length-take-le}
use borrow.Author.Tests.{le-leb}
use Rattle.theory.specs.Moves.{Pattern, total, upfrom}
use Rattle.theory.specs.Route.{Problem, Timetable, Clock, timetable_of, clock, segments, placed, reconnected, path, tour_length, left, timely, on_time}
use Rattle.theory.specs.Costs.{last_of, first_of}
use Rattle.theory.specs.Tables.{CutSet, ForK}
use Rattle.theory.proofs.Clock.{path_step, timely_on_time}
use Rattle.theory.proofs.Costs.{path_append, delta}
use Rattle.theory.proofs.Delta.{joined_split, even_head, small_tail, changes_nothing}
use Rattle.theory.proofs.ForK.{for_k_order}
use Rattle.theory.proofs.Moves.{total_append}
use Rattle.theory.proofs.Route.{flatten_segments, length_segments, total_placed, total_reconnected}
use Rattle.costs.proofs.Orders.{middle_is}
use Rattle.costs.proofs.Segments.{head_at, tail_at, cut_below, last_cut}
use Rattle.deadlines.specs.Lateness.{lateness, LongestHead}
use Rattle.deadlines.proofs.Along.{on_time_append}
use Rattle.deadlines.proofs.Lateness.{lateness_end, tail_on_time, head_too_long}
use Rattle.deadline_dues.specs.Parts.{head, middle, tail}

-- ---- a head, a middle and a tail; m stands, m' is put in its place

-- When the standing tail's first stop is left.
tail_left : (C : Clock) (depot : ℕ) (h m : List ℕ) (x : ℕ) (t : List ℕ) →
    left C depot (h ++ (m ++ (x ∷ t))) (length h + length m) ≡ path C.step depot h + path C.step (last_of depot h) (m ++ (x ∷ []))
unfolding left
tail_left C depot h m x t =
    let e : h ++ (m ++ (x ∷ t)) ≡ (h ++ (m ++ (x ∷ []))) ++ t = simp append_assoc in
    let n : length (h ++ (m ++ (x ∷ []))) ≡ suc (length h + length m) = simp length-append (omega arith) in
    rw (e, take_at (h ++ (m ++ (x ∷ []))) t (suc (length h + length m)) n, path_append C.step depot h (m ++ (x ∷ [])))

module _ (P : Problem) (h m m' : List ℕ) (same : total P.service m' ≡ total P.service m) (g : ℕ) where
  abbrev B : Timetable
  B = timetable_of P

  abbrev C : Clock
  C = clock B

  -- When the tail is set out for.
  abbrev from : ℕ
  from = last_of (last_of P.depot h) m'

  abbrev now : ℕ
  now = path C.step P.depot h + path C.step (last_of P.depot h) m'

  no_tail : on_time C from now [] ≡ leb (lateness C P.depot (h ++ (m ++ [])) (length h + length m)) g
  unfolding on_time
  no_tail = rw (lateness_end C P.depot (h ++ (m ++ [])) (length h + length m) (simp length-append (omega arith))) (sym (le-leb 0 g (omega arith)))

  some_tail : (x : ℕ) (t : List ℕ) → tour_length P (h ++ (m' ++ (x ∷ t))) + g ≡ tour_length P (h ++ (m ++ (x ∷ t))) →
      on_time C from now (x ∷ t) ≡ leb (lateness C P.depot (h ++ (m ++ (x ∷ t))) (length h + length m)) g
  unfolding first_of path
  some_tail x t e =
      let r = h ++ (m ++ (x ∷ t)) in
      let c = length h + length m in
      let parted : r ≡ (h ++ m) ++ (x ∷ t) = simp append_assoc in
      let many : length (h ++ m) ≡ c = simp length-append in
      let rest : drop c r ≡ x ∷ t = rw parted (drop_at (h ++ m) (x ∷ t) c many) in
      let first : get_or r c 0 ≡ x = rw parted (get_or_at (h ++ m) x t 0 c many) in
      let a = last_of P.depot h in
      let there : now + C.step from x + g ≡ left C P.depot r c =
      omega
      (arith, e, delta P h m m' (x ∷ t), tail_left C P.depot h m x t, path_append C.step a m' (x ∷ []), path_step B a (m ++ (x ∷ [])), path_step B a (m' ++ (x ∷ [])), total_append P.service m (x ∷ []), total_append P.service m' (x ∷ []), same) in
      ap (on_time C from now) (sym rest)
      ∙ tail_on_time C P.depot r c from now g (simp length-append (omega arith)) (λ _. ap (λ y. now + C.step from y + g) first ∙ there)

  -- The tail is on time exactly if what is gained is at least its lateness: the services before it are the same.
  pub tail_judged : (t : List ℕ) → tour_length P (h ++ (m' ++ t)) + g ≡ tour_length P (h ++ (m ++ t)) → on_time C from now t ≡ leb (lateness C P.depot (h ++ (m ++ t)) (length h + length m)) g
  tail_judged [] e = no_tail
  tail_judged (x ∷ t) e = some_tail x t e

  -- "A round keeps every deadline": by head, middle and tail.
  pub judged : (t : List ℕ) → tour_length P (h ++ (m' ++ t)) + g ≡ tour_length P (h ++ (m ++ t)) →
      timely B P.depot (h ++ (m' ++ t))
      ≡ (on_time C P.depot 0 h && (on_time C (last_of P.depot h) (path C.step P.depot h) m' && leb (lateness C P.depot (h ++ (m ++ t)) (length h + length m)) g))
  judged t e =
      let z : 0 + path C.step P.depot h ≡ path C.step P.depot h = omega arith in
      timely_on_time B P.depot (h ++ (m' ++ t))
      ∙ on_time_append C P.depot 0 h (m' ++ t)
      ∙ rw (z, on_time_append C (last_of P.depot h) (path C.step P.depot h) m' t, tail_judged t e)

-- ---- a candidate

pub candidate_parts : (r cs : List ℕ) (p : Pattern) → 2 ≤ length cs → ForK (length cs) p.order p.mask →
    reconnected (record { cuts = cs; pattern = p }) r ≡ head r cs ++ (middle r cs p.order p.mask ++ tail r cs)
unfolding reconnected
candidate_parts r cs p two f =
    let many : length cs ≡ suc (length cs - 1) = omega arith in
    let e : 2 ^ (length cs) ≡ 2 ^ (length cs - 1) * 2 = ap (λ n. 2 ^ n) many ∙ pow-suc 2 (length cs - 1) in
    ap₂ (λ o m. reconnected (record { cuts = cs; pattern = record { order = o; mask = m } }) r) f.order_is f.mask_is
    ∙ joined_split f.middle (length cs) (2 * f.bits) (segments 0 cs r) (even_head f.bits) (small_tail (2 * f.bits) (length cs) (omega (arith, f.few, e)))
    ∙ sym (ap₂ (λ m o. head r cs ++ (flatten (placed m (segments 0 cs r) o) ++ tail r cs)) f.mask_is (middle_is (length cs) p.order p.mask two f))

some_bits : (n : ℕ) → 0 < 2 ^ n
some_bits zero = omega arith
some_bits (suc n) = omega (arith, some_bits n, pow-suc 2 n)

-- The pattern that changes nothing.
abbrev standing : ℕ → Pattern
standing k = record { order = 0 ∷ (upfrom 1 (k - 1) ++ (k ∷ [])); mask = 0 }

module _ (cs r : List ℕ) (cut_set : CutSet (length cs) (length r) cs) where
  stands : (k m : ℕ) → k ≡ suc m → length cs ≡ k → reconnected (record { cuts = cs; pattern = standing k }) r ≡ r
  unfolding reconnected
  stands k m e many =
      let less : suc m - 1 ≡ m = omega arith in
      rw (e, less) (changes_nothing m (segments 0 cs r) (length_segments 0 cs r ∙ ap suc (many ∙ e)) ∙ flatten_segments (length r) 0 0 cs r (omega arith) cut_set.rising)

  standing_for_k : ForK (length cs) (standing (length cs)).order 0
  standing_for_k = record { middle = upfrom 1 (length cs - 1); bits = 0; order_is = refl; once = λ g. refl; mask_is = refl; few = some_bits (length cs - 1) }

  -- The standing route as its parts.
  abbrev pub stays : List ℕ
  stays = middle r cs (standing (length cs)).order 0

  pub as_parts : r ≡ head r cs ++ (stays ++ tail r cs)
  as_parts =
      sym (stands (length cs) (length cs - 1) (omega (arith, cut_set.least)) refl)
      ∙ candidate_parts r cs (standing (length cs)) cut_set.least standing_for_k

  pub tail_begins : length (head r cs) + length stays ≡ get_or cs (length cs - 1) 0
  tail_begins =
      let whole : length r ≡ length (head r cs) + (length stays + length (tail r cs)) = ap length as_parts ∙ simp length-append in
      let left : length (tail r cs) ≡ length r - get_or cs (length cs - 1) 0 = ap length (tail_at 0 cs r (omega (arith, cut_set.least))) ∙ simp length-drop in
      omega (arith, whole, left, last_cut cs r cut_set)

  -- Every sum over the middle is the same, whichever the pattern.
  pub middle_total : (g : ℕ → ℕ) (p : Pattern) → ForK (length cs) p.order p.mask → total g (middle r cs p.order p.mask) ≡ total g stays
  middle_total g p f = of p f ∙ sym (of (standing (length cs)) standing_for_k)
    where
      of : (p : Pattern) → ForK (length cs) p.order p.mask → total g (middle r cs p.order p.mask) ≡ total (λ i. total g (get_or (segments 0 cs r) i [])) (upfrom 1 (length cs - 1))
      of p f =
          total_placed g p.mask (segments 0 cs r) (slice 1 (length cs) p.order)
          ∙ ap (total (λ i. total g (get_or (segments 0 cs r) i []))) (middle_is (length cs) p.order p.mask cut_set.least f)
          ∙ f.once (λ i. total g (get_or (segments 0 cs r) i []))

  -- With a head that is on time, a candidate that gains g keeps every deadline exactly if its middle segments do and g is at least the lateness behind the last cut.
  pub candidate_judged : (P : Problem) (p : Pattern) (g : ℕ) → ForK (length cs) p.order p.mask → on_time (clock (timetable_of P)) P.depot 0 (head r cs) ≡ true →
      tour_length P (reconnected (record { cuts = cs; pattern = p }) r) + g ≡ tour_length P r →
      timely (timetable_of P) P.depot (reconnected (record { cuts = cs; pattern = p }) r)
      ≡ (on_time (clock (timetable_of P)) (last_of P.depot (head r cs)) (path (clock (timetable_of P)).step P.depot (head r cs)) (middle r cs p.order p.mask)
      && leb (lateness (clock (timetable_of P)) P.depot r (get_or cs (length cs - 1) 0)) g)
  candidate_judged P p g f early e =
      let C = clock (timetable_of P) in
      let parts = candidate_parts r cs p cut_set.least f in
      let n = middle r cs p.order p.mask in
      let gained : tour_length P (head r cs ++ (n ++ tail r cs)) + g ≡ tour_length P (head r cs ++ (stays ++ tail r cs)) = omega (arith, e, ap (tour_length P) parts, ap (tour_length P) as_parts) in
      let late : lateness C P.depot (head r cs ++ (stays ++ tail r cs)) (length (head r cs) + length stays) ≡ lateness C P.depot r (get_or cs (length cs - 1) 0) =
      ap (lateness C P.depot (head r cs ++ (stays ++ tail r cs))) tail_begins ∙ ap (λ l. lateness C P.depot l (get_or cs (length cs - 1) 0)) (sym as_parts) in
      ap (timely (timetable_of P) P.depot) parts ∙ judged P (head r cs) stays n (middle_total P.service p f) g (tail r cs) gained ∙ rw (early, late)

  -- With a head beyond the longest, none does.
  pub candidate_too_late : (B : Timetable) (depot : ℕ) (longest : ℕ) → LongestHead (clock B) depot r longest → longest < get_or cs 0 0 → (p : Pattern) → ForK (length cs) p.order p.mask →
      timely B depot (reconnected (record { cuts = cs; pattern = p }) r) ≡ false
  candidate_too_late B depot n f l p k =
      let c = get_or cs 0 0 in
      let long : c ≤ length r = cut_below cs r cut_set 0 (omega (arith, cut_set.least)) in
      let whole : length (take c r) ≡ c = length-take-le c r long in
      let rest = drop (suc n) (take c r) ++ (middle r cs p.order p.mask ++ tail r cs) in
      let parted : take c r ≡ take n r ++ (get_or r n 0 ∷ drop (suc n) (take c r)) =
      split_at (take c r) n 0 (omega (arith, whole)) ∙ rw (take-take n c r (omega arith), get_or-take c r n 0 l) in
      let e : reconnected (record { cuts = cs; pattern = p }) r ≡ take n r ++ (get_or r n 0 ∷ rest) =
      candidate_parts r cs p cut_set.least k
      ∙ ap (λ h. h ++ (middle r cs p.order p.mask ++ tail r cs)) (head_at cs r (omega (arith, cut_set.least)) ∙ parted)
      ∙ append_assoc (take n r) (get_or r n 0 ∷ drop (suc n) (take c r)) (middle r cs p.order p.mask ++ tail r cs) in
      let same : (g : ℕ → ℕ) → total g (take n r ++ (get_or r n 0 ∷ rest)) ≡ total g r = λ g.
      ap (total g) (sym e) ∙ total_reconnected g (length r) (record { cuts = cs; pattern = p }) r cut_set.rising (for_k_order (length cs) p.order p.mask (omega (arith, cut_set.least)) k).once in
      ap (timely B depot) e ∙ timely_on_time B depot (take n r ++ (get_or r n 0 ∷ rest)) ∙ head_too_long (clock B) depot r n (f.beyond (omega arith)) rest same
