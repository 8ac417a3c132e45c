-- From a pair to the whole loop: the stops stay, the counts rise together, what was accepted keeps every deadline, and the allowance holds. So the passes
-- repeat until one accepts nothing. Assumes nothing.
use mathlib.Core.Path.{◌≡◌, refl, sym, ap, ◌∙◌}
use mathlib.Core.Bool.{Bool, true, false, cond, ◌&&◌, not, false≢true, and-eq-true_iff}
use mathlib.Core.List.{List, foldl}
use Prim.Native.Nat.{ℕ, zero, suc, ◌+◌, ◌-◌, ◌≤◌, ◌<◌}
use native.Mathlib.Decide.{dec_lt}
use native.Mathlib.Omega.{arith}
use borrow.Author.Tests.{ltb-true, lt-ltb, le-ltb, eqb-true, eqb-false}
use lib.Dec.{ltb, eqb}
use lib.ListN.{length}
use Rattle.theory.specs.Tables.{Trip}
use Rattle.theory.specs.Moves.{total, upfrom}
use Rattle.theory.specs.Route.{Problem, count, timetable_of, timely}
use Rattle.theory.specs.Scan.{Reply}
use Rattle.theory.proofs.Route.{timely_iff}
use Rattle.pair_loop.specs.declared.PairLoop.{PairLoop}
use Rattle.pair_loop.specs.Parts.{Going}
use Rattle.pair_loop.specs.PairLoop.{PairPromise, reply_so_far, so_far, spent, examine, pair, sweep, pass, goes_on, passes, pair_loop}
use Rattle.pair_reversal.specs.Reversal.{turned, accepts}
use Rattle.pair_reversal.proofs.Turning.{total_turned}
use Rattle.pair_reversal.proofs.Trying.{accepted_kept, timed_rearranged}

-- What holds of all that the loop comes to.
pub record Bounded (allowance : ℕ) (s : Reply (List ℕ)) : Type 0 where
  pub within : s.examined ≤ allowance
  pub fewer : s.accepted ≤ s.examined
  pub spent : s.finished ≡ false → s.examined ≡ allowance

-- From s on to t.
pub record Onward (P : Problem) (allowance : ℕ) (s t : Reply (List ℕ)) : Type 0 where
  pub same : (g : ℕ → ℕ) → total g t.route ≡ total g s.route
  pub more : s.accepted ≤ t.accepted
  pub unchanged : t.accepted ≡ s.accepted → t.route ≡ s.route
  pub changed : s.accepted < t.accepted → timely (timetable_of P) P.depot t.route ≡ true
  pub each : s.examined + t.accepted ≤ t.examined + s.accepted
  pub bounded : Bounded allowance s → Bounded allowance t

onward_none : (P : Problem) (allowance : ℕ) (s : Reply (List ℕ)) → Onward P allowance s s
onward_none P allowance s = record { same = λ g. refl; more = omega arith; unchanged = λ e. refl; changed = λ h. absurd (omega arith); each = omega arith; bounded = λ b. b }

onward_on : {P : Problem} {allowance : ℕ} {s t u : Reply (List ℕ)} → Onward P allowance s t → Onward P allowance t u → Onward P allowance s u
onward_on {P} {s = s} {t = t} {u = u} a b =
    record {
      same = λ g. b.same g ∙ a.same g;
      more = omega (arith, a.more, b.more);
      unchanged = λ e. b.unchanged (omega (arith, e, a.more, b.more)) ∙ a.unchanged (omega (arith, e, a.more, b.more));
      changed = λ h. last h (dec_lt t.accepted u.accepted);
      each = omega (arith, a.each, b.each);
      bounded = λ h. b.bounded (a.bounded h);
    }
  where
    last : s.accepted < u.accepted → Dec (t.accepted < u.accepted) → timely (timetable_of P) P.depot u.route ≡ true
    last h (yes l) = b.changed l
    last h (no n) = rw (b.unchanged (omega (arith, b.more))) (a.changed (omega (arith, h, b.more)))

onward_fold : (P : Problem) (allowance low : ℕ) (f : Reply (List ℕ) → ℕ → Reply (List ℕ)) → ((s : Reply (List ℕ)) (x : ℕ) → low ≤ x → Onward P allowance s (f s x)) →
    (m from : ℕ) (s : Reply (List ℕ)) → low ≤ from → Onward P allowance s (foldl f s (upfrom from m))
unfolding upfrom
onward_fold P allowance low f step zero from s h = onward_none P allowance s
onward_fold P allowance low f step (suc m) from s h = onward_on (step s from h) (onward_fold P allowance low f step m (suc from) (f s from) (omega arith))

module _ (P : Problem) (allowance : ℕ) where
  onward_pair : (a b i : ℕ) (s : Reply (List ℕ)) (j : ℕ) → i ≤ j → Onward P allowance s (pair P allowance a b i s j)
  unfolding pair examine
  onward_pair a b i s j h = by s.finished refl (eqb s.examined allowance) refl (accepts P a b i s.route j) refl
    where
      stopped : (s.finished ≡ true → s.examined ≡ allowance) → Onward P allowance s (spent s)
      stopped at =
          record {
            same = λ g. refl;
            more = omega arith;
            unchanged = λ e. refl;
            changed = λ l. absurd (omega arith);
            each = omega arith;
            bounded = λ k. record { within = k.within; fewer = k.fewer; spent = λ e. end k s.finished refl };
          }
        where
          end : Bounded allowance s → (f : Bool) → s.finished ≡ f → s.examined ≡ allowance
          end k true e = at e
          end k false e = k.spent e

      one_more : eqb s.examined allowance ≡ false → {c : ℕ} {r : List ℕ} → c ≤ suc s.accepted → Bounded allowance s → Bounded allowance (so_far (suc s.examined) c r)
      one_more l h k =
          record { within = omega (arith, eqb-false s.examined allowance l, k.within); fewer = omega (arith, h, k.fewer); spent = λ z. absurd (false≢true (sym z)) }

      by : (f : Bool) → s.finished ≡ f → (t : Bool) → eqb s.examined allowance ≡ t → (c : Bool) → accepts P a b i s.route j ≡ c →
          Onward P allowance s
          (cond (f && not t) (cond c (so_far (suc s.examined) (suc s.accepted) (turned i j s.route)) (so_far (suc s.examined) s.accepted s.route)) (spent s))
      by false e t l c k = stopped (λ f. absurd (false≢true (sym e ∙ f)))
      by true e true l c k = stopped (λ f. eqb-true _ _ l)
      by true e false l true k =
          record {
            same = λ g. total_turned g i j s.route h;
            more = omega arith;
            unchanged = λ f. absurd (omega (arith, f));
            changed = λ f. accepted_kept P a b i j s.route k;
            each = omega arith;
            bounded = one_more l (omega arith);
          }
      by true e false l false k =
          record { same = λ g. refl; more = omega arith; unchanged = λ f. refl; changed = λ f. absurd (omega arith); each = omega arith; bounded = one_more l (omega arith) }

  module _ (n : ℕ) where
    onward_sweep : (s : Reply (List ℕ)) (i : ℕ) → Onward P allowance s (sweep P allowance n s i)
    unfolding sweep
    onward_sweep s i = onward_fold P allowance (suc i) (pair P allowance _ _ i) (λ t j h. onward_pair _ _ i t j (omega arith)) (n - suc i) (suc i) s (omega arith)

    onward_pass : (s : Reply (List ℕ)) → Onward P allowance s (pass P allowance n s)
    unfolding pass
    onward_pass s = onward_fold P allowance 0 (sweep P allowance n) (λ t i h. onward_sweep t i) (n - 1) 0 s (omega arith)

    onward_passes : (more : ℕ) (s : Reply (List ℕ)) → Onward P allowance s (passes P allowance n more s)
    unfolding passes
    onward_passes zero s = onward_pass s
    onward_passes (suc more) s = by (goes_on s (pass P allowance n s)) (onward_passes more (pass P allowance n s))
      where
        by : (b : Bool) → Onward P allowance (pass P allowance n s) (passes P allowance n more (pass P allowance n s)) →
            Onward P allowance s (cond b (passes P allowance n more (pass P allowance n s)) (pass P allowance n s))
        by true o = onward_on (onward_pass s) o
        by false o = onward_pass s

    -- A pass that accepts has examined.
    pass_examines : (s : Reply (List ℕ)) → s.accepted < (pass P allowance n s).accepted → s.examined < (pass P allowance n s).examined
    pass_examines s h = let o = onward_pass s in omega (arith, o.each, h)

    accepting : (s : Reply (List ℕ)) → goes_on s (pass P allowance n s) ≡ true → s.examined < (pass P allowance n s).examined
    accepting s e = pass_examines s (ltb-true _ _ ((and-eq-true_iff (pass P allowance n s).finished (ltb s.accepted (pass P allowance n s).accepted)).0 e).1)

    -- At the allowance no pass accepts.
    resting : (s : Reply (List ℕ)) → Bounded allowance s → allowance ≤ s.examined → goes_on s (pass P allowance n s) ≡ false
    resting s b h = by (goes_on s (pass P allowance n s)) refl
      where
        by : (x : Bool) → goes_on s (pass P allowance n s) ≡ x → x ≡ false
        by true e = absurd (omega (arith, accepting s e, ((onward_pass s).bounded b).within))
        by false e = refl

    -- More passes than are left of the allowance change nothing.
    passes_enough : (more : ℕ) (s : Reply (List ℕ)) → Bounded allowance s → allowance - s.examined ≤ more → passes P allowance n (suc more) s ≡ passes P allowance n more s
    unfolding passes
    passes_enough zero s b h = rw (resting s b (omega arith))
    passes_enough (suc more) s b h = by (goes_on s (pass P allowance n s)) refl (passes_enough more (pass P allowance n s) ((onward_pass s).bounded b))
      where
        by : (x : Bool) → goes_on s (pass P allowance n s) ≡ x →
            (allowance - (pass P allowance n s).examined ≤ more → passes P allowance n (suc more) (pass P allowance n s) ≡ passes P allowance n more (pass P allowance n s)) →
            cond x (passes P allowance n (suc more) (pass P allowance n s)) (pass P allowance n s) ≡ cond x (passes P allowance n more (pass P allowance n s)) (pass P allowance n s)
        by true e ih = ih (omega (arith, accepting s e))
        by false e ih = refl

    -- "Passes repeat until one accepts nothing."
    pub passes_repeat : (more : ℕ) (s : Reply (List ℕ)) → Bounded allowance s → allowance - s.examined ≤ more →
        passes P allowance n more s ≡ cond (goes_on s (pass P allowance n s)) (passes P allowance n more (pass P allowance n s)) (pass P allowance n s)
    unfolding passes
    passes_repeat zero s b h = rw (resting s b (omega arith))
    passes_repeat (suc more) s b h = by (goes_on s (pass P allowance n s)) refl
      where
        by : (x : Bool) → goes_on s (pass P allowance n s) ≡ x →
            cond x (passes P allowance n more (pass P allowance n s)) (pass P allowance n s) ≡ cond x (passes P allowance n (suc more) (pass P allowance n s)) (pass P allowance n s)
        by true e = sym (passes_enough more (pass P allowance n s) ((onward_pass s).bounded b) (omega (arith, accepting s e)))
        by false e = refl

  begun : (r : List ℕ) → Bounded allowance (so_far 0 0 r)
  begun r = record { within = omega arith; fewer = omega arith; spent = λ e. absurd (false≢true (sym e)) }

  -- Of the whole loop.
  pub loop_onward : (r : List ℕ) → Onward P allowance (so_far 0 0 r) (pair_loop P allowance r)
  unfolding pair_loop
  loop_onward r = onward_passes (length r) allowance (so_far 0 0 r)

  pub loop_bounded : (r : List ℕ) → Bounded allowance (pair_loop P allowance r)
  loop_bounded r = (loop_onward r).bounded (begun r)

  pub loop_promise : (r : List ℕ) → PairPromise P allowance r (pair_loop P allowance r)
  unfolding count
  loop_promise r =
      let o = loop_onward r in
      let b = loop_bounded r in
      record {
        same_stops = λ x. o.same (λ y. cond (eqb x y) 1 0);
        unchanged = o.unchanged;
        changed = λ h. (timely_iff (timetable_of P) P.depot (pair_loop P allowance r).route).0 (o.changed h);
        within = b.within;
        spent = b.spent;
      }

  -- ---- as the code goes on

  pub passes_first : (r : List ℕ) → passes P allowance (length r) allowance (so_far 0 0 r) ≡ pair_loop P allowance r
  unfolding pair_loop
  passes_first r = refl

  module _ {T : Trip} {counted : PairLoop} {r : List ℕ} (g : Going allowance T counted r) where
    going_bounded : Bounded allowance (reply_so_far counted r)
    going_bounded = record { within = g.within; fewer = g.fewer; spent = λ e. absurd (false≢true (sym e ∙ g.going)) }

    still_going : {counted' : PairLoop} {r' : List ℕ} → Onward P allowance (reply_so_far counted r) (reply_so_far counted' r') → counted'.finished ≡ true →
        Going allowance T counted' r' × (length r' ≡ length r)
    still_going on f =
        let b = on.bounded going_bounded in
        let k = timed_rearranged on.same g.timed in
        (record { timed = k.0; going = f; within = b.within; fewer = b.fewer }, k.1)

    pub going_after_sweep : (n i : ℕ) {counted' : PairLoop} {r' : List ℕ} → reply_so_far counted' r' ≡ sweep P allowance n (reply_so_far counted r) i → counted'.finished ≡ true →
        Going allowance T counted' r' × (length r' ≡ length r)
    going_after_sweep n i e f = still_going (rw e (onward_sweep n (reply_so_far counted r) i)) f

    pub going_after_pass : (n : ℕ) {counted' : PairLoop} {r' : List ℕ} → reply_so_far counted' r' ≡ pass P allowance n (reply_so_far counted r) → counted'.finished ≡ true →
        Going allowance T counted' r' × (length r' ≡ length r)
    going_after_pass n e f = still_going (rw e (onward_pass n (reply_so_far counted r))) f

    -- A pass that the code made, on a route of n stops.
    module _ (n : ℕ) {t : Reply (List ℕ)} {m : ℕ} (size : m ≡ n) (e : t ≡ pass P allowance m (reply_so_far counted r)) where
      abbrev s : Reply (List ℕ)
      s = reply_so_far counted r

      is : pass P allowance n s ≡ t
      is = rw (← size) (sym e)

      repeated : passes P allowance n allowance s ≡ cond (goes_on s t) (passes P allowance n allowance t) t
      repeated = rw is at (passes_repeat n allowance s going_bounded (omega arith))

      chosen : {x : Bool} → goes_on s t ≡ x → passes P allowance n allowance s ≡ cond x (passes P allowance n allowance t) t
      chosen q = repeated ∙ ap (λ (x : Bool). cond x (passes P allowance n allowance t) t) q

      onward : Onward P allowance s t
      onward = rw e (onward_pass m s)

      pub stopped_there : t.finished ≡ false → t ≡ passes P allowance n allowance s
      stopped_there f = sym (chosen (ap (λ (x : Bool). x && ltb s.accepted t.accepted) f))

      pub nothing_accepted : t.accepted ≡ s.accepted → t ≡ passes P allowance n allowance s
      nothing_accepted a = sym (chosen (ap (λ (x : Bool). t.finished && x) (le-ltb s.accepted t.accepted (omega (arith, a))) ∙ by t.finished))
        where
          by : (x : Bool) → (x && false) ≡ false
          by true = refl
          by false = refl

      pub passes_further : t.finished ≡ true → (t.accepted ≡ s.accepted → ⊥) → passes P allowance n allowance t ≡ passes P allowance n allowance s
      passes_further f a =
          sym (chosen (ap (λ (x : Bool). x && ltb s.accepted t.accepted) f ∙ lt-ltb s.accepted t.accepted (omega (arith, a, onward.more))))

      pub examined_more : (t.accepted ≡ s.accepted → ⊥) → s.examined < t.examined
      examined_more a = omega (arith, a, onward.more, onward.each)
