-- Demand 3 of any search, by induction over the scan's run. Assumes nothing.
use mathlib.Core.Path.{◌≡◌, refl, sym, ap, ◌∙◌, subst}
use mathlib.Core.Bool.{Bool, true, false, and-eq-true_iff, true≢false}
use mathlib.Core.Logic.{◌⊎◌, inl, inr, ⊎_elim}
use mathlib.Core.List.Memᴰ
use mathlib.Core.List.{List, [], ◌∷◌, Memᴰ}
use Prim.Native.Nat.{ℕ, zero, suc, ◌+◌, ◌-◌, ◌*◌, min, ◌≤◌, ◌<◌}
use native.Mathlib.Nat.{mul-le-mul_right, sub-le}
use native.Mathlib.Decide.{dec_le}
use native.Mathlib.Omega.{arith}
use lib.Dec.{ltb}
use lib.ListN.{length}
use borrow.Author.Tests.{ltb-true, ltb-false}
use Rattle.theory.specs.Scan.{Search, Reply, improves, scan_from, scan, LocallyOptimal, Searched}

saved : (x n l l' : ℕ) → l' ≤ l → x + l' * n ≤ n + l * n → x ≤ (1 + (l - l')) * n
saved x n l l' h p =
    let e : l ≡ l' + (l - l') = omega arith in
    let t : x + l' * n ≤ n + (l' + (l - l')) * n = subst (λ z. x + l' * n ≤ n + z * n) e p in
    cut (l - l') t
  where
    cut : (s : ℕ) → x + l' * n ≤ n + (l' + s) * n → x ≤ (1 + s) * n
    cut s t = omega arith

module _ {R M : Type 0} (S : Search R M) where
  -- The scan's rules.
  pub data Run : ℕ → List M → ℕ → ℕ → R → Reply R → Type 0 where
    ended : {a e c : ℕ} {r : R} → Run a [] e c r (record { finished = true; examined = e; accepted = c; route = r })
    halted : {m : M} {ms : List M} {e c : ℕ} {r : R} → Run 0 (m ∷ ms) e c r (record { finished = false; examined = e; accepted = c; route = r })
    passed : {m : M} {ms : List M} {a e c : ℕ} {r : R} {q : Reply R} → improves S r m ≡ false → Run a ms (suc e) c r q → Run (suc a) (m ∷ ms) e c r q
    taken : {m : M} {ms : List M} {a e c : ℕ} {r : R} {q : Reply R} → improves S r m ≡ true → Run a S.moves (suc e) (suc c) (S.apply m r) q → Run (suc a) (m ∷ ms) e c r q

  pub runs : (a : ℕ) (ms : List M) (e c : ℕ) (r : R) → Run a ms e c r (scan_from S a ms e c r)
  unfolding scan_from
  runs zero [] e c r = ended
  runs zero (m ∷ ms) e c r = halted
  runs (suc a) [] e c r = ended
  runs (suc a) (m ∷ ms) e c r = step (improves S r m) refl (runs a S.moves (suc e) (suc c) (S.apply m r)) (runs a ms (suc e) c r)
    where
      step : (b : Bool) → improves S r m ≡ b → Run a S.moves (suc e) (suc c) (S.apply m r) (scan_from S a S.moves (suc e) (suc c) (S.apply m r)) →
          Run a ms (suc e) c r (scan_from S a ms (suc e) c r) →
          Run (suc a) (m ∷ ms) e c r (elim b [ true ↦ scan_from S a S.moves (suc e) (suc c) (S.apply m r) | false ↦ scan_from S a ms (suc e) c r ])
      step true h t p = taken h t
      step false h t p = passed h p

  -- What a taken move gives, and what a passed one lacks.
  shorter : {r : R} {m : M} → improves S r m ≡ true → S.cost (S.apply m r) < S.cost r
  shorter {r} {m} h = ltb-true _ _ ((and-eq-true_iff (S.feasible (S.apply m r)) _).0 h).1

  feasible_after : {r : R} {m : M} → improves S r m ≡ true → S.feasible (S.apply m r) ≡ true
  feasible_after {r} {m} h = ((and-eq-true_iff (S.feasible (S.apply m r)) (ltb (S.cost (S.apply m r)) (S.cost r))).0 h).0

  no_gain : {r : R} {m : M} → improves S r m ≡ false → S.feasible (S.apply m r) ≡ true → S.cost r ≤ S.cost (S.apply m r)
  no_gain {r} {m} h k = ltb-false _ _ (rw k at h)

  -- A quantity that no listed move changes, the scan does not change.
  same_quantity : {X : Type 0} (f : R → X) → ((m : M) → Memᴰ m S.moves → (r : R) → f (S.apply m r) ≡ f r) →
      {a e c : ℕ} {ms : List M} {r : R} {q : Reply R} → Run a ms e c r q → ((m : M) → Memᴰ m ms → Memᴰ m S.moves) → f q.route ≡ f r
  same_quantity f h ended s = refl
  same_quantity f h halted s = refl
  same_quantity f h (passed i d) s = same_quantity f h d (λ m j. s m (Memᴰ.tail j))
  same_quantity f h (taken {m} {r = r} i d) s = same_quantity f h d (λ m j. j) ∙ h m (s m (Memᴰ.head refl)) r

  pub scan_preserves : {X : Type 0} (f : R → X) → ((m : M) → Memᴰ m S.moves → (r : R) → f (S.apply m r) ≡ f r) → (a : ℕ) (r : R) → f (scan S a r).route ≡ f r
  scan_preserves f h a r = same_quantity f h (runs a S.moves 0 0 r) (λ m i. i)

  -- Nothing accepted and the same route, or something accepted and a kept and shorter one.
  abbrev Outcome : ℕ → R → Reply R → Type 0
  Outcome c r q = ((q.accepted ≡ c) × (q.route ≡ r)) ⊎ ((c < q.accepted) × (S.feasible q.route ≡ true) × (S.cost q.route < S.cost r))

  outcome : {a e c : ℕ} {ms : List M} {r : R} {q : Reply R} → Run a ms e c r q → Outcome c r q
  outcome ended = inl (refl, refl)
  outcome halted = inl (refl, refl)
  outcome (passed i d) = outcome d
  outcome (taken {m} {c = c} {r = r} {q = q} i d) = after (outcome d)
    where
      after : Outcome (suc c) (S.apply m r) q → Outcome c r q
      after (inl h) = inr (omega arith, rw h.1 (feasible_after i), rw h.1 (shorter i))
      after (inr h) = inr (omega arith, h.1, omega (arith, shorter i))

  -- Each candidate takes one of the allowance.
  within : {a e c : ℕ} {ms : List M} {r : R} {q : Reply R} → Run a ms e c r q → q.examined ≤ e + a
  within ended = omega arith
  within halted = omega arith
  within (passed i d) = omega (arith, within d)
  within (taken i d) = omega (arith, within d)

  spent : {a e c : ℕ} {ms : List M} {r : R} {q : Reply R} → Run a ms e c r q → q.finished ≡ false → q.examined ≡ e + a
  spent ended h = absurd (true≢false h)
  spent halted h = omega arith
  spent (passed i d) h = omega (arith, spent d h)
  spent (taken i d) h = omega (arith, spent d h)

  -- A pass over the list costs at most its length, and each second saved pays for one more pass.
  paid : {a e c : ℕ} {ms : List M} {r : R} {q : Reply R} → Run a ms e c r q →
      q.examined + S.cost q.route * length S.moves ≤ e + length ms + S.cost r * length S.moves
  paid ended = omega arith
  paid halted = omega arith
  paid (passed i d) = omega (arith, paid d)
  paid (taken i d) = omega (arith, paid d, mul-le-mul_right (length S.moves) (shorter i))

  -- When it finished, every move was passed on the final route: those of the list behind as well, if they were on the route at hand.
  optimal : {a e c : ℕ} {ms : List M} {r : R} {q : Reply R} → Run a ms e c r q → q.finished ≡ true →
      ((m : M) → Memᴰ m S.moves → Memᴰ m ms ⊎ (improves S r m ≡ false)) → (m : M) → Memᴰ m S.moves → improves S q.route m ≡ false
  optimal ended f h m i = ⊎_elim (λ j. absurd (Memᴰ.not-nil j)) (λ x. x) (h m i)
  optimal halted f h m i = absurd (true≢false (sym f))
  optimal (passed {m = n} {r = r} x d) f h m i = optimal d f (λ m' j. ⊎_elim (λ k. ⊎_elim (λ p. inr (rw p x)) inl (Memᴰ.cases_cons k)) inr (h m' j)) m i
  optimal (taken x d) f h m i = optimal d f (λ m' j. inl j) m i

  -- Passed at every move of the list: unbeaten.
  locally_optimal : {r : R} → ((m : M) → Memᴰ m S.moves → improves S r m ≡ false) → LocallyOptimal S r
  locally_optimal h m i k = no_gain (h m i) k

  -- What is unbeaten is not improved: nothing is accepted.
  idle : {a e c : ℕ} {ms : List M} {r : R} {q : Reply R} → Run a ms e c r q → ((m : M) → Memᴰ m ms → Memᴰ m S.moves) → LocallyOptimal S r → q.accepted ≡ c
  idle ended s u = refl
  idle halted s u = refl
  idle (passed i d) s u = idle d (λ m j. s m (Memᴰ.tail j)) u
  idle (taken {m} i d) s u = absurd (omega (arith, u m (s m (Memᴰ.head refl)) (feasible_after i), shorter i))

  pub searched : (a : ℕ) (r : R) → Searched S a r (scan S a r)
  searched a r =
      let d = runs a S.moves 0 0 r in
      let u : (scan S a r).finished ≡ true → LocallyOptimal S (scan S a r).route = λ f. locally_optimal (optimal d f (λ m i. inl i)) in
      let still : (scan S a r).accepted ≡ 0 → (scan S a r).route ≡ r = λ z. ⊎_elim (λ h. h.1) (λ h. absurd (omega arith)) (outcome d) in
      record {
        optimal = u;
        exactly = λ f. (λ z. rw (still z) at (u f), idle d (λ m i. i));
        changed = λ h. ⊎_elim (λ k. absurd (omega arith)) (λ k. (k.1, k.2)) (outcome d);
        unchanged = still;
        within = omega (arith, within d);
        spent = λ f. omega (arith, spent d f);
        bound = saved _ _ _ _ (⊎_elim (λ h. rw h.1 (omega arith)) (λ h. omega arith) (outcome d)) (omega (arith, paid d));
      }

  -- ---- other allowances

  -- The count only rises.
  counted : {a e c : ℕ} {ms : List M} {r : R} {q : Reply R} → Run a ms e c r q → e ≤ q.examined
  counted ended = omega arith
  counted halted = omega arith
  counted (passed i d) = omega (arith, counted d)
  counted (taken i d) = omega (arith, counted d)

  -- A finished run is the run under every allowance that holds what it examined.
  enough : {a e c : ℕ} {ms : List M} {r : R} {q : Reply R} → Run a ms e c r q → q.finished ≡ true → (b : ℕ) → q.examined ≤ e + b → Run b ms e c r q
  enough ended f b h = ended
  enough halted f b h = absurd (true≢false (sym f))
  enough (passed i d) f zero h = absurd (omega (arith, counted d))
  enough (passed i d) f (suc b) h = passed i (enough d f b (omega arith))
  enough (taken i d) f zero h = absurd (omega (arith, counted d))
  enough (taken i d) f (suc b) h = taken i (enough d f b (omega arith))

  -- The scan has one run.
  pub scan_ended : (a e c : ℕ) (r : R) → scan_from S a [] e c r ≡ record { finished = true; examined = e; accepted = c; route = r }
  unfolding scan_from
  scan_ended zero e c r = refl
  scan_ended (suc a) e c r = refl

  pub scan_halted : (m : M) (ms : List M) (e c : ℕ) (r : R) → scan_from S 0 (m ∷ ms) e c r ≡ record { finished = false; examined = e; accepted = c; route = r }
  unfolding scan_from
  scan_halted m ms e c r = refl

  pub scan_passed : (m : M) (ms : List M) (a e c : ℕ) (r : R) → improves S r m ≡ false → scan_from S (suc a) (m ∷ ms) e c r ≡ scan_from S a ms (suc e) c r
  unfolding scan_from
  scan_passed m ms a e c r i = rw (i, scan_from)

  pub scan_taken : (m : M) (ms : List M) (a e c : ℕ) (r : R) → improves S r m ≡ true → scan_from S (suc a) (m ∷ ms) e c r ≡ scan_from S a S.moves (suc e) (suc c) (S.apply m r)
  unfolding scan_from
  scan_taken m ms a e c r i = rw (i, scan_from)

  is_scan : {a e c : ℕ} {ms : List M} {r : R} {q : Reply R} → Run a ms e c r q → scan_from S a ms e c r ≡ q
  is_scan (ended {a} {e} {c} {r}) = scan_ended a e c r
  is_scan halted = scan_halted _ _ _ _ _
  is_scan (passed i d) = scan_passed _ _ _ _ _ _ i ∙ is_scan d
  is_scan (taken i d) = scan_taken _ _ _ _ _ _ i ∙ is_scan d

  -- An allowance that holds what a finished scan examined gives the same reply.
  pub same_answer : (a b : ℕ) (r : R) → (scan S b r).finished ≡ true → (scan S b r).examined ≤ a → scan S a r ≡ scan S b r
  same_answer a b r f h = is_scan (enough (runs b S.moves 0 0 r) f a (omega arith))

  pub still_finished : (a b : ℕ) (r : R) → (scan S b r).finished ≡ true → (scan S b r).examined ≤ a → (scan S a r).finished ≡ true
  still_finished a b r f h = ap (λ q. q.finished) (same_answer a b r f h) ∙ f

  pub one_answer : (a b : ℕ) (r : R) → (scan S a r).finished ≡ true → (scan S b r).finished ≡ true → scan S a r ≡ scan S b r
  one_answer a b r f g =
      sym (same_answer (a + b) a r f (omega (arith, (searched a r).within))) ∙ same_answer (a + b) b r g (omega (arith, (searched b r).within))

  -- A scan examines the smaller of its allowance and what the finished scan counts.
  pub examined_least : (a b : ℕ) (r : R) → (scan S b r).finished ≡ true → (scan S a r).examined ≡ min a (scan S b r).examined
  examined_least a b r g = by (scan S a r).finished refl (dec_le (scan S b r).examined a)
    where
      by : (t : Bool) → (scan S a r).finished ≡ t → Dec ((scan S b r).examined ≤ a) → (scan S a r).examined ≡ min a (scan S b r).examined
      by t f (yes h) = omega (arith, ap (λ q. q.examined) (same_answer a b r g h))
      by true f (no h) = omega (arith, (searched a r).within, ap (λ q. q.examined) (one_answer a b r f g))
      by false f (no h) = omega (arith, (searched a r).spent f)

  pub fair : (a b : ℕ) (r : R) → (scan S b r).finished ≡ true → min a (scan S b r).examined ≤ (scan S a r).examined
  fair a b r g = omega (arith, examined_least a b r g)

  -- With this allowance every scan finishes.
  pub finishes : (r : R) → (scan S (1 + (1 + S.cost r) * length S.moves) r).finished ≡ true
  finishes r = by (scan S A r).finished refl
    where
      A : ℕ
      A = 1 + (1 + S.cost r) * length S.moves

      by : (t : Bool) → (scan S A r).finished ≡ t → (scan S A r).finished ≡ true
      by true f = f
      by false f = absurd (omega (arith, (searched A r).spent f, (searched A r).bound, mul-le-mul_right (length S.moves) (sub-le (S.cost r) (S.cost (scan S A r).route))))
