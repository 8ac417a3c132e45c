-- The scan of any search in two parts: with what the first leaves the second goes on. And what one part gives, from wherever in the list it begins.
-- Assumes nothing.
use mathlib.Core.Path.{◌≡◌, refl, sym, ap, ◌∙◌}
use mathlib.Core.Bool.{true, false, and-eq-true_iff, true≢false}
use mathlib.Core.Logic.{◌⊎◌, inl, inr, ⊎_elim}
use mathlib.Core.List.Memᴰ
use mathlib.Core.List.{List, [], ◌∷◌, ◌++◌, Memᴰ}
use Prim.Native.Nat.{ℕ, zero, suc, ◌+◌, ◌-◌, ◌*◌, ◌≤◌, ◌<◌}
use native.Mathlib.Omega.{arith}
use native.Mathlib.Nat.{zero-add, suc-add, add-suc, mul-le-mul_right}
use lib.Dec.{ltb}
use lib.ListN.{length}
use borrow.Author.Tests.{ltb-true}
use Rattle.theory.specs.Scan.{Search, Reply, improves, scan_from}
use Rattle.theory.proofs.Scan.{Run, ended, halted, passed, taken, scan_ended, scan_halted, scan_passed, scan_taken}
use Rattle.slices.specs.Slices.{left_over, carried}

module _ {R M : Type 0} (S : Search R M) where
  -- ---- what is left, step for step

  pub left_ended : (a : ℕ) (r : R) → left_over S a [] r ≡ []
  unfolding left_over
  left_ended zero r = refl
  left_ended (suc a) r = refl

  pub left_halted : (ms : List M) (r : R) → left_over S 0 ms r ≡ ms
  unfolding left_over
  left_halted ms r = refl

  pub left_passed : (m : M) (ms : List M) (a : ℕ) (r : R) → improves S r m ≡ false → left_over S (suc a) (m ∷ ms) r ≡ left_over S a ms r
  unfolding left_over
  left_passed m ms a r i = rw (i, left_over)

  pub left_taken : (m : M) (ms : List M) (a : ℕ) (r : R) → improves S r m ≡ true → left_over S (suc a) (m ∷ ms) r ≡ left_over S a S.moves (S.apply m r)
  unfolding left_over
  left_taken m ms a r i = rw (i, left_over)

  -- ---- two parts are one scan

  pub adds : {a e c : ℕ} {ms : List M} {r : R} {q : Reply R} → Run S a ms e c r q → (b : ℕ) →
      scan_from S (a + b) ms e c r ≡ scan_from S b (left_over S a ms r) q.examined q.accepted q.route
  adds (ended {a} {e} {c} {r}) b = rw (left_ended a r) (scan_ended S (a + b) e c r ∙ sym (scan_ended S b e c r))
  adds halted b = rw (left_halted, zero-add b)
  adds (passed {m} {ms} {a} {e} {c} {r} i d) b = rw (left_passed m ms a r i, suc-add a b) (scan_passed S m ms (a + b) e c r i ∙ adds d b)
  adds (taken {m} {ms} {a} {e} {c} {r} i d) b = rw (left_taken m ms a r i, suc-add a b) (scan_taken S m ms (a + b) e c r i ∙ adds d b)

  pub left_adds : {a e c : ℕ} {ms : List M} {r : R} {q : Reply R} → Run S a ms e c r q → (b : ℕ) → left_over S (a + b) ms r ≡ left_over S b (left_over S a ms r) q.route
  left_adds (ended {a} {e} {c} {r}) b = rw (left_ended a r) (left_ended (a + b) r ∙ sym (left_ended b r))
  left_adds halted b = rw (left_halted, zero-add b)
  left_adds (passed {m} {ms} {a} {e} {c} {r} i d) b = rw (left_passed m ms a r i, suc-add a b) (left_passed m ms (a + b) r i ∙ left_adds d b)
  left_adds (taken {m} {ms} {a} {e} {c} {r} i d) b = rw (left_taken m ms a r i, suc-add a b) (left_taken m ms (a + b) r i ∙ left_adds d b)

  -- Counts that are carried along change nothing else.
  pub carries : {a e c : ℕ} {ms : List M} {r : R} {q : Reply R} → Run S a ms e c r q → (e₀ c₀ : ℕ) → scan_from S a ms (e₀ + e) (c₀ + c) r ≡ carried e₀ c₀ q
  carries (ended {a} {e} {c} {r}) e₀ c₀ = scan_ended S a (e₀ + e) (c₀ + c) r
  carries (halted {m} {ms} {e} {c} {r}) e₀ c₀ = scan_halted S m ms (e₀ + e) (c₀ + c) r
  carries (passed {m} {ms} {a} {e} {c} {r} i d) e₀ c₀ = scan_passed S m ms a (e₀ + e) (c₀ + c) r i ∙ rw (← (add-suc e₀ e)) (carries d e₀ c₀)
  carries (taken {m} {ms} {a} {e} {c} {r} i d) e₀ c₀ = scan_taken S m ms a (e₀ + e) (c₀ + c) r i ∙ rw (← (add-suc e₀ e), ← (add-suc c₀ c)) (carries d e₀ c₀)

  -- ---- nothing is left exactly if it finished

  pub none_left : {a e c : ℕ} {ms : List M} {r : R} {q : Reply R} → Run S a ms e c r q → q.finished ≡ true → left_over S a ms r ≡ []
  none_left (ended {a} {r = r}) f = left_ended a r
  none_left halted f = absurd (true≢false (sym f))
  none_left (passed {m} {ms} {a} {r = r} i d) f = left_passed m ms a r i ∙ none_left d f
  none_left (taken {m} {ms} {a} {r = r} i d) f = left_taken m ms a r i ∙ none_left d f

  pub some_left : {a e c : ℕ} {ms : List M} {r : R} {q : Reply R} → Run S a ms e c r q → q.finished ≡ false → 0 < length (left_over S a ms r)
  some_left ended f = absurd (true≢false f)
  some_left halted f = rw left_halted (omega arith)
  some_left (passed {m} {ms} {a} {r = r} i d) f = rw (left_passed m ms a r i) (some_left d f)
  some_left (taken {m} {ms} {a} {r = r} i d) f = rw (left_taken m ms a r i) (some_left d f)

  -- ---- what is left is the end of the list, and what comes before it was passed

  -- The moves ms are the end of the list; under Q, no move before them improves r.
  pub record Part (Q : Type 0) (ms : List M) (r : R) : Type 0 where
    pub front : List M
    pub whole : S.moves ≡ front ++ ms
    pub idle : Q → (m : M) → Memᴰ m front → improves S r m ≡ false

  all_of_it : (Q : Type 0) (r : R) → Part Q S.moves r
  all_of_it Q r = record { front = []; whole = refl; idle = λ h m j. absurd (Memᴰ.not-nil j) }

  one_on : {Q : Type 0} {m : M} {ms : List M} {r : R} → improves S r m ≡ false → Part Q (m ∷ ms) r → Part Q ms r
  one_on {m = m} {ms} i p =
      record {
        front = p.front ++ (m ∷ []);
        whole = p.whole ∙ sym (append_assoc_one p.front ms);
        idle = λ h x j. ⊎_elim (p.idle h x) (λ o. ⊎_elim (λ e. rw e i) (λ n. absurd (Memᴰ.not-nil n)) (Memᴰ.cases_cons o)) (Memᴰ.append_cases p.front j);
      }
    where
      append_assoc_one : (xs ys : List M) → (xs ++ (m ∷ [])) ++ ys ≡ xs ++ (m ∷ ys)
      append_assoc_one [] ys = refl
      append_assoc_one (x ∷ xs) ys = ap (λ l. x ∷ l) (append_assoc_one xs ys)

  pub part_left : {Q : Type 0} {a e c : ℕ} {ms : List M} {r : R} {q : Reply R} → Run S a ms e c r q → Part Q ms r → Part Q (left_over S a ms r) q.route
  part_left (ended {a} {r = r}) p = rw (left_ended a r) p
  part_left halted p = rw left_halted p
  part_left (passed {m} {ms} {a} {r = r} i d) p = rw (left_passed m ms a r i) (part_left d (one_on i p))
  part_left (taken {m} {ms} {a} {r = r} i d) p = rw (left_taken m ms a r i) (part_left d (all_of_it _ _))

  -- The counts only rise.
  grown : {a e c : ℕ} {ms : List M} {r : R} {q : Reply R} → Run S a ms e c r q → c ≤ q.accepted
  grown ended = omega arith
  grown halted = omega arith
  grown (passed i d) = grown d
  grown (taken i d) = omega (arith, grown d)

  -- Once a move was taken, everything before what is left was passed on the route that it gave or a later one.
  pub part_anew : {Q : Type 0} {a e c : ℕ} {ms : List M} {r : R} {q : Reply R} → Run S a ms e c r q → c < q.accepted → Part Q (left_over S a ms r) q.route
  part_anew ended h = absurd (omega arith)
  part_anew halted h = absurd (omega arith)
  part_anew (passed {m} {ms} {a} {r = r} i d) h = rw (left_passed m ms a r i) (part_anew d h)
  part_anew (taken {m} {ms} {a} {r = r} i d) h = rw (left_taken m ms a r i) (part_left d (all_of_it _ _))

  -- Where none was taken, what is left begins so much later.
  pub further : {a e c : ℕ} {ms : List M} {r : R} {q : Reply R} → Run S a ms e c r q → q.accepted ≡ c → length ms + e ≡ length (left_over S a ms r) + q.examined
  further (ended {a} {r = r}) h = rw (left_ended a r)
  further halted h = rw left_halted
  further (passed {m} {ms} {a} {r = r} i d) h = rw (left_passed m ms a r i) (omega (arith, further d h))
  further (taken i d) h = absurd (omega (arith, grown d))

  -- ---- what a part gives

  pub same_quantity : {X : Type 0} (f : R → X) → ((m : M) → Memᴰ m S.moves → (r : R) → f (S.apply m r) ≡ f r) →
      {Q : Type 0} {a e c : ℕ} {ms : List M} {r : R} {q : Reply R} → Run S a ms e c r q → Part Q ms r → f q.route ≡ f r
  same_quantity f h ended p = refl
  same_quantity f h halted p = refl
  same_quantity f h (passed i d) p = same_quantity f h d (one_on i p)
  same_quantity f h {Q} (taken {m} {r = r} i d) p =
      same_quantity f h {Q = Q} d (all_of_it _ _) ∙ h m (rw p.whole (Memᴰ.append_right p.front (Memᴰ.head refl))) r

  shorter : {r : R} {m : M} → improves S r m ≡ true → S.cost (S.apply m r) < S.cost r
  shorter {r} {m} h = ltb-true _ _ ((and-eq-true_iff (S.feasible (S.apply m r)) _).0 h).1

  feasible_after : {r : R} {m : M} → improves S r m ≡ true → S.feasible (S.apply m r) ≡ true
  feasible_after {r} {m} h = ((and-eq-true_iff (S.feasible (S.apply m r)) (ltb (S.cost (S.apply m r)) (S.cost r))).0 h).0

  -- Nothing accepted and the same route, or something accepted and a kept and shorter one.
  abbrev pub Outcome : ℕ → R → Reply R → Type 0
  Outcome c r q = ((q.accepted ≡ c) × (q.route ≡ r)) ⊎ ((c < q.accepted) × (S.feasible q.route ≡ true) × (S.cost q.route < S.cost r))

  pub outcome : {a e c : ℕ} {ms : List M} {r : R} {q : Reply R} → Run S a ms e c r q → Outcome c r q
  outcome ended = inl (refl, refl)
  outcome halted = inl (refl, refl)
  outcome (passed i d) = outcome d
  outcome (taken {m} {c = c} {r = r} {q = q} i d) = after (outcome d)
    where
      after : Outcome (suc c) (S.apply m r) q → Outcome c r q
      after (inl h) = inr (omega arith, rw h.1 (feasible_after i), rw h.1 (shorter i))
      after (inr h) = inr (omega arith, h.1, omega (arith, shorter i))

  pub within : {a e c : ℕ} {ms : List M} {r : R} {q : Reply R} → Run S a ms e c r q → q.examined ≤ e + a
  within ended = omega arith
  within halted = omega arith
  within (passed i d) = omega (arith, within d)
  within (taken i d) = omega (arith, within d)

  pub spent : {a e c : ℕ} {ms : List M} {r : R} {q : Reply R} → Run S a ms e c r q → q.finished ≡ false → q.examined ≡ e + a
  spent ended h = absurd (true≢false h)
  spent halted h = omega arith
  spent (passed i d) h = omega (arith, spent d h)
  spent (taken i d) h = omega (arith, spent d h)

  -- A pass over the list costs at most its length, and each second saved pays for one more pass.
  paid : {a e c : ℕ} {ms : List M} {r : R} {q : Reply R} → Run S a ms e c r q →
      q.examined + S.cost q.route * length S.moves ≤ e + length ms + S.cost r * length S.moves
  paid ended = omega arith
  paid halted = omega arith
  paid (passed i d) = omega (arith, paid d)
  paid (taken i d) = omega (arith, paid d, mul-le-mul_right (length S.moves) (shorter i))

  pub bound : {a : ℕ} {ms : List M} {r : R} {q : Reply R} → Run S a ms 0 0 r q → length ms ≤ length S.moves → q.examined ≤ (1 + (S.cost r - S.cost q.route)) * length S.moves
  bound {ms = ms} {r} {q} d l = by (S.cost r - S.cost q.route) (omega (arith, no_longer (outcome d)))
    where
      no_longer : Outcome 0 r q → S.cost q.route ≤ S.cost r
      no_longer (inl h) = rw h.1 (omega arith)
      no_longer (inr h) = omega arith

      by : (s : ℕ) → S.cost r ≡ S.cost q.route + s → q.examined ≤ (1 + s) * length S.moves
      by s z = omega (arith, rw z at (paid d))
