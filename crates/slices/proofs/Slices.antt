-- Slices add up to one call, and demand 3 holds of the whole. Assumes nothing.
use mathlib.Core.Path.{◌≡◌, refl, sym, ap, ap₂, ◌∙◌}
use mathlib.Core.Bool.{Bool, true, false, cond}
use mathlib.Core.Logic.{◌↔◌}
use mathlib.Core.List.Memᴰ
use mathlib.Core.List.{List, [], ◌∷◌, Memᴰ}
use Prim.Native.Nat.{ℕ, suc, ◌+◌, ◌-◌, ◌*◌, ◌≤◌, ◌<◌}
use native.Mathlib.Omega.{arith}
use native.Mathlib.Nat.{add-zero}
use lib.ListN.{length, take, drop, length-append, length-take, length-drop, take-append-drop}
use lib.Seq.{take_at, drop_at}
use Rattle.theory.specs.Scan.{Search, Reply, improves, scan_from, LocallyOptimal}
use Rattle.theory.specs.Moves.{Pattern, Move, cut_sets, candidates, total}
use Rattle.theory.specs.Route.{Problem, tour_length}
use Rattle.theory.specs.Polish.{search_of, polish_with, KOptimal, ForCuts, Demand3}
use Rattle.theory.proofs.Scan.{Run, runs, searched, finishes, still_finished, scan_ended}
use Rattle.theory.proofs.Route.{total_reconnected}
use Rattle.theory.proofs.Stops.{as_many}
use Rattle.theory.proofs.Polish.{legal, polish_with_demand3}
use Rattle.slices.specs.Places.{Place, first_place, number_of, place_of, from_place, before_place}
use Rattle.slices.specs.Slices.{left_over, Slice, slice_on, slice, carried, followed, in_slices, all_of, PassedBefore, Reached}
use Rattle.slices.proofs.LeftOver.{Part, adds, left_adds, carries, none_left, some_left, part_left, same_quantity}
use Rattle.slices.proofs.Places.{number_place, from_first, from_nowhere}

-- The slice of a list of moves.
abbrev pub slice_of : Problem → List Pattern → (k n : ℕ) → Reply (List ℕ) → List Move → Slice
slice_of P ps k n q left = record { reply = q; place = cond q.finished (first_place k) (place_of ps k n (length (candidates ps (cut_sets k n)) - length left)) }

module _ (P : Problem) (ps : List Pattern) (k n : ℕ) where
  abbrev S : Search (List ℕ) Move
  S = search_of P ps k n

  abbrev N : ℕ
  N = length (candidates ps (cut_sets k n))

  pub slice_is : (a : ℕ) (p : Place) (r : List ℕ) →
      slice_on P ps k n a p r ≡ slice_of P ps k n (scan_from (search_of P ps k n) a (from_place ps k n p) 0 0 r) (left_over (search_of P ps k n) a (from_place ps k n p) r)
  unfolding slice_on
  slice_is a p r = refl

  -- What stands behind a slice that finished plays no part, nor what is left there.
  stops : (q q' : Reply (List ℕ)) (l l' : List Move) (t : Slice) → q' ≡ q → q.finished ≡ true → slice_of P ps k n q' l' ≡ followed (slice_of P ps k n q l) t
  stops q q' l l' t e f = rw (e, f)

  goes_on : (q : Reply (List ℕ)) (l : List Move) (t : Slice) → q.finished ≡ false → followed (slice_of P ps k n q l) t ≡ record { reply = carried q.examined q.accepted t.reply; place = t.place }
  goes_on q l t f = rw f

  module _ (a : ℕ) (p : Place) (r : List ℕ) where
    abbrev ms : List Move
    ms = from_place ps k n p

    abbrev q : Reply (List ℕ)
    q = scan_from S a ms 0 0 r

    abbrev left : List Move
    left = left_over S a ms r

    pub run : Run (search_of P ps k n) a (from_place ps k n p) 0 0 r (scan_from (search_of P ps k n) a (from_place ps k n p) 0 0 r)
    run = runs S a ms 0 0 r

    -- The place that such a list begins at.
    abbrev x : ℕ
    x = N - length left

    pub begun : Part S ((m : Move) → Memᴰ m (before_place ps k n p) → improves S r m ≡ false) ms r
    begun = record { front = before_place ps k n p; whole = sym (take-append-drop (number_of ps k n p) (candidates ps (cut_sets k n))); idle = λ h. h }

    -- What is left is the list from x on.
    module _ {Q : Type 0} (t : Part S Q left q.route) where
      x_is : length t.front ≡ x
      x_is = omega (arith, ap length t.whole ∙ length-append t.front left)

      pub front_is : take x (candidates ps (cut_sets k n)) ≡ t.front
      front_is = ap (take x) t.whole ∙ take_at t.front left x x_is

      left_is : drop x (candidates ps (cut_sets k n)) ≡ left
      left_is = ap (drop x) t.whole ∙ drop_at t.front left x x_is

    module _ (f : q.finished ≡ false) where
      pub x_few : x < length (candidates ps (cut_sets k n))
      x_few = let t = part_left S run begun in omega (arith, x_is t, ap length t.whole ∙ length-append t.front left, some_left S run f)

      pub next_is : (slice_on P ps k n a p r).place ≡ place_of ps k n x
      unfolding slice_on
      next_is = rw f

      pub number_next : number_of ps k n (slice_on P ps k n a p r).place ≡ x
      number_next = ap (number_of ps k n) next_is ∙ number_place ps k n x x_few

      from_next : from_place ps k n (slice_on P ps k n a p r).place ≡ left
      from_next = ap (λ y. drop y (candidates ps (cut_sets k n))) number_next ∙ left_is (part_left S run begun)

    -- Two slices on routes of n stops.
    pub adds_on : (b : ℕ) → slice_on P ps k n (a + b) p r ≡ followed (slice_on P ps k n a p r) (slice_on P ps k n b (slice_on P ps k n a p r).place (slice_on P ps k n a p r).reply.route)
    unfolding slice_on
    adds_on b = by q.finished refl
      where
        s : Slice
        s = slice_on P ps k n a p r

        by : (t : Bool) → q.finished ≡ t → slice_on P ps k n (a + b) p r ≡ followed s (slice_on P ps k n b s.place q.route)
        by true f =
            let e : scan_from S (a + b) ms 0 0 r ≡ q =
            adds S run b
            ∙ ap (λ l. scan_from S b l q.examined q.accepted q.route) (none_left S run f)
            ∙ scan_ended S b q.examined q.accepted q.route
            ∙ ap (λ t. record { finished = t; examined = q.examined; accepted = q.accepted; route = q.route }) (sym f) in
            stops q (scan_from S (a + b) ms 0 0 r) left (left_over S (a + b) ms r) (slice_on P ps k n b s.place q.route) e f
        by false f =
            let e : scan_from S (a + b) ms 0 0 r ≡ carried q.examined q.accepted (scan_from S b left 0 0 q.route) =
            adds S run b
            ∙ ap₂ (λ e c. scan_from S b left e c q.route) (sym (add-zero q.examined)) (sym (add-zero q.accepted))
            ∙ carries S (runs S b left 0 0 q.route) q.examined q.accepted in
            let t : slice_on P ps k n b s.place q.route ≡ slice_of P ps k n (scan_from S b left 0 0 q.route) (left_over S b left q.route) =
            ap (λ l. slice_of P ps k n (scan_from S b l 0 0 q.route) (left_over S b l q.route)) (from_next f) in
            ap₂ (slice_of P ps k n) e (left_adds S run b)
            ∙ ap (λ (t : Slice). record { reply = carried q.examined q.accepted t.reply; place = t.place }) (sym t)
            ∙ sym (goes_on q left (slice_on P ps k n b s.place q.route) f)

-- ---- polishing

module _ (P : Problem) (ps : List Pattern) (k : ℕ) where
  -- "The first place gives polishing itself."
  pub from_the_first : (a : ℕ) (r : List ℕ) → (slice P ps k a (first_place k) r).reply ≡ polish_with P ps k a r
  unfolding slice_on
  from_the_first a r = ap (λ l. scan_from (search_of P ps k (length r)) a l 0 0 r) (from_first ps k (length r))

  -- "With k > n + 1 finished at once whatever the place holds."
  pub nowhere : (a : ℕ) (p : Place) (r : List ℕ) → suc (length r) < k →
      slice P ps k a p r ≡ record { reply = record { finished = true; examined = 0; accepted = 0; route = r }; place = first_place k }
  nowhere a p r h =
      slice_is P ps k (length r) a p r
      ∙ ap (λ l. slice_of P ps k (length r) (scan_from (search_of P ps k (length r)) a l 0 0 r) (left_over (search_of P ps k (length r)) a l r)) (from_nowhere ps k (length r) h p)
      ∙ ap (λ q. slice_of P ps k (length r) q (left_over (search_of P ps k (length r)) a [] r)) (scan_ended (search_of P ps k (length r)) a 0 0 r)

  -- Nothing comes before the first place.
  pub first_passed : (r : List ℕ) → PassedBefore P ps k (first_place k) r
  first_passed r m i = absurd (nothing (before_place ps k (length r) (first_place k)) empty i)
    where
      empty : length (before_place ps k (length r) (first_place k)) ≡ 0
      empty =
          let c = candidates ps (cut_sets k (length r)) in
          let x = number_of ps k (length r) (first_place k) in
          omega (arith, length-take x c, length-drop x c, ap length (from_first ps k (length r)))

      nothing : (l : List Move) → length l ≡ 0 → Memᴰ m l → ⊥
      nothing [] h j = Memᴰ.not-nil j
      nothing (y ∷ l) h j = absurd (omega arith)

  module _ (good : ForCuts k ps) where
    -- Unbeaten by the listed moves is k-optimal: by demand 3 of a call that finishes.
    pub rival : (r : List ℕ) → LocallyOptimal (search_of P ps k (length r)) r ↔ KOptimal P ps k r
    rival r =
        let S = search_of P ps k (length r) in
        let A = 1 + (1 + tour_length P r) * length (candidates ps (cut_sets k (length r))) in
        let d = (polish_with_demand3 P ps k good A r).exactly (finishes S r) in
        let s = (searched S A r).exactly (finishes S r) in
        (λ u. d.0 (s.1 u), λ u. s.0 (d.1 u))

    module _ (a : ℕ) (p : Place) (r : List ℕ) where
      abbrev n : ℕ
      n = length r

      abbrev out : Reply (List ℕ)
      out = scan_from (search_of P ps k (length r)) a (from_place ps k (length r) p) 0 0 r

      abbrev goes : Run (search_of P ps k (length r)) a (from_place ps k (length r) p) 0 0 r out
      goes = runs (search_of P ps k (length r)) a (from_place ps k (length r) p) 0 0 r

      -- A rearrangement.
      pub same_total : (g : ℕ → ℕ) → total g (slice P ps k a p r).reply.route ≡ total g r
      unfolding slice_on
      same_total g =
          same_quantity (search_of P ps k n) (total g)
          (λ m i s. let l = legal ps k n m i in total_reconnected g n m s l.rising (λ h. rw l.many (good m.pattern l.known h)))
          goes (begun P ps k n a p r)

      pub same_length : length (slice P ps k a p r).reply.route ≡ length r
      same_length = as_many r (slice P ps k a p r).reply.route same_total

      -- Two slices are one.
      pub slices_add : (b : ℕ) → slice P ps k (a + b) p r ≡ followed (slice P ps k a p r) (slice P ps k b (slice P ps k a p r).place (slice P ps k a p r).reply.route)
      slices_add b =
          let s = slice P ps k a p r in
          adds_on P ps k n a p r b ∙ ap (λ n. followed s (slice_on P ps k n b s.place s.reply.route)) (sym same_length)

    -- Any number of slices are one: "route, ending and the sums of examined and accepted are those of one call with a1 + .. + am"; and the place.
    pub in_slices_is : (a : ℕ) (more : List ℕ) (p : Place) (r : List ℕ) → in_slices P ps k a more p r ≡ slice P ps k (all_of a more) p r
    unfolding in_slices total
    in_slices_is a [] p r = rw (add-zero a)
    in_slices_is a (b ∷ more) p r =
        let s = slice P ps k a p r in
        ap (followed s) (in_slices_is b more s.place s.reply.route) ∙ sym (slices_add a p r (all_of b more))

    -- From the first place: the very reply of one long call.
    pub one_call : (a : ℕ) (more : List ℕ) (r : List ℕ) → (in_slices P ps k a more (first_place k) r).reply ≡ polish_with P ps k (all_of a more) r
    one_call a more r = ap (λ s. s.reply) (in_slices_is a more (first_place k) r) ∙ from_the_first (all_of a more) r

    pub whole_demand3 : (a : ℕ) (more : List ℕ) (r : List ℕ) → Demand3 P ps k (all_of a more) r (in_slices P ps k a more (first_place k) r).reply
    whole_demand3 a more r = rw (one_call a more r) (polish_with_demand3 P ps k good (all_of a more) r)

    -- Who goes on with slices comes to finished: so many candidates are enough.
    pub comes_to_finished : (a : ℕ) (more : List ℕ) (r : List ℕ) → 1 + (1 + tour_length P r) * length (candidates ps (cut_sets k (length r))) ≤ all_of a more →
        (in_slices P ps k a more (first_place k) r).reply.finished ≡ true
    comes_to_finished a more r h =
        let S = search_of P ps k (length r) in
        let A = 1 + (1 + tour_length P r) * length (candidates ps (cut_sets k (length r))) in
        ap (λ q. q.finished) (one_call a more r) ∙ still_finished S (all_of a more) A r (finishes S r) (omega (arith, (searched S A r).within))

    -- ---- a slice begun where others were spent

    module _ (r₀ : List ℕ) (e c : ℕ) (p : Place) (r : List ℕ) (reached : Reached P ps k r₀ e c p r) where
      abbrev before : Slice
      before = record { reply = record { finished = false; examined = e; accepted = c; route = r }; place = p }

      -- One slice led there, with e as its allowance.
      pub led_by_one : slice P ps k e (first_place k) r₀ ≡ record { reply = record { finished = false; examined = e; accepted = c; route = r }; place = p }
      led_by_one =
          let A = all_of reached.a reached.more in
          let i : slice P ps k A (first_place k) r₀ ≡ before = sym (in_slices_is reached.a reached.more (first_place k) r₀) ∙ reached.led in
          let d = polish_with_demand3 P ps k good A r₀ in
          let w : polish_with P ps k A r₀ ≡ before.reply = sym (from_the_first A r₀) ∙ ap (λ s. s.reply) i in
          let z : A ≡ e = sym (d.spent (ap (λ q. q.finished) w)) ∙ ap (λ q. q.examined) w in
          rw z at i

      -- The next slice, and the whole with it: the counts are carried along.
      pub then_slice : (b : ℕ) → slice P ps k (e + b) (first_place k) r₀ ≡ record { reply = carried e c (slice P ps k b p r).reply; place = (slice P ps k b p r).place }
      then_slice b = slices_add e (first_place k) r₀ b ∙ ap (λ s. followed s (slice P ps k b s.place s.reply.route)) led_by_one

      pub then_call : (b : ℕ) → carried e c (slice P ps k b p r).reply ≡ polish_with P ps k (e + b) r₀
      then_call b = sym (ap (λ s. s.reply) (then_slice b)) ∙ from_the_first (e + b) r₀

      pub then_demand3 : (b : ℕ) → Demand3 P ps k (e + b) r₀ (carried e c (slice P ps k b p r).reply)
      then_demand3 b = rw (then_call b) (polish_with_demand3 P ps k good (e + b) r₀)

      -- Spent again, it led on.
      pub reached_next : (b : ℕ) → (slice P ps k b p r).reply.finished ≡ false →
          Reached P ps k r₀ (e + (slice P ps k b p r).reply.examined) (c + (slice P ps k b p r).reply.accepted) (slice P ps k b p r).place (slice P ps k b p r).reply.route
      unfolding in_slices
      reached_next b f =
          let s = slice P ps k b p r in
          record {
            a = e + b;
            more = [];
            led = then_slice b ∙ ap (λ t. record { reply = record { finished = t; examined = e + s.reply.examined; accepted = c + s.reply.accepted; route = s.reply.route }; place = s.place }) f;
          }
