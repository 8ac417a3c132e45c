-- The numbers of the open rows: they rise, each is open, and none is left out. Assumes nothing.
use mathlib.Core.Path.{◌≡◌, refl, sym, ◌∙◌}
use mathlib.Core.Bool.{Bool, true, false, cond}
use mathlib.Core.List.{[], ◌∷◌, ◌++◌}
use Prim.Native.Nat.{ℕ, zero, suc, ◌+◌, ◌≤◌, ◌<◌}
use native.Mathlib.Omega.{arith}
use native.Mathlib.Numerals.{add-one}
use native.Mathlib.Decide.{ℕ_discrete, dec_lt}
use lib.ListN.{length, get_or, length-append, get_or-append}
use lib.Seq.{get_or-append_seam}
use Rattle.scan_sifting.specs.Sifting.{opens, OpenAt}

module _ (o : ℕ → Bool) where
  -- ---- one row more

  open_next : (n : ℕ) → o n ≡ true → opens o (suc n) ≡ opens o n ++ (n ∷ [])
  unfolding opens
  open_next n e = rw e

  shut_next : (n : ℕ) → o n ≡ false → opens o (suc n) ≡ opens o n
  unfolding opens
  shut_next n e = rw e

  open_length : (n : ℕ) → o n ≡ true → length (opens o (suc n)) ≡ suc (length (opens o n))
  open_length n e = rw (open_next n e, length-append (opens o n) (n ∷ [])) (omega arith)

  shut_length : (n : ℕ) → o n ≡ false → length (opens o (suc n)) ≡ length (opens o n)
  shut_length n e = rw (shut_next n e)

  pub next_length : (n : ℕ) → length (opens o (n + 1)) ≡ cond (o n) (length (opens o n) + 1) (length (opens o n))
  next_length n = by (o n) refl
    where
      by : (b : Bool) → o n ≡ b → length (opens o (n + 1)) ≡ cond b (length (opens o n) + 1) (length (opens o n))
      by true e = rw (add-one n) (omega (arith, open_length n e))
      by false e = rw (add-one n) (shut_length n e)

  next_more : (n : ℕ) → length (opens o n) ≤ length (opens o (suc n))
  next_more n = by (o n) refl
    where
      by : (b : Bool) → o n ≡ b → length (opens o n) ≤ length (opens o (suc n))
      by true e = omega (arith, open_length n e)
      by false e = omega (arith, shut_length n e)

  kept : (n j : ℕ) → j < length (opens o n) → get_or (opens o (suc n)) j 0 ≡ get_or (opens o n) j 0
  kept n j h = by (o n) refl
    where
      by : (b : Bool) → o n ≡ b → get_or (opens o (suc n)) j 0 ≡ get_or (opens o n) j 0
      by true e = rw (open_next n e) (get_or-append (opens o n) (n ∷ []) 0 j h)
      by false e = rw (shut_next n e)

  last : (n : ℕ) → o n ≡ true → get_or (opens o (suc n)) (length (opens o n)) 0 ≡ n
  last n e = rw (open_next n e) (get_or-append_seam (opens o n) n [] 0)

  -- The j-th of the first n + 1 rows is the j-th of the first n, or it is row n.
  pub data Next (n j : ℕ) : Type 0 where
    old : j < length (opens o n) → get_or (opens o (suc n)) j 0 ≡ get_or (opens o n) j 0 → Next n j
    new : o n ≡ true → j ≡ length (opens o n) → get_or (opens o (suc n)) j 0 ≡ n → Next n j

  pub next : (n j : ℕ) → j < length (opens o (suc n)) → Next n j
  next n j h = by (dec_lt j (length (opens o n))) (o n) refl
    where
      by : Dec (j < length (opens o n)) → (b : Bool) → o n ≡ b → Next n j
      by (yes l) b e = old l (kept n j l)
      by (no l) true e =
          let q : j ≡ length (opens o n) = omega (arith, open_length n e) in
          new e q (rw q (last n e))
      by (no l) false e = absurd (omega (arith, shut_length n e))

  none_open : (j : ℕ) → j < length (opens o 0) → ⊥
  unfolding opens
  none_open j h = omega arith

  -- ---- how many, and which

  pub opens_few : (n : ℕ) → length (opens o n) ≤ n
  unfolding opens
  opens_few zero = omega arith
  opens_few (suc n) = by (opens_few n) (o n) refl
    where
      by : length (opens o n) ≤ n → (b : Bool) → o n ≡ b → length (opens o (suc n)) ≤ suc n
      by h true e = omega (arith, open_length n e)
      by h false e = omega (arith, shut_length n e)

  pub opens_below : (n j : ℕ) → j < length (opens o n) → get_or (opens o n) j 0 < n
  opens_below zero j h = absurd (none_open j h)
  opens_below (suc n) j h = by (opens_below n j) (next n j h)
    where
      by : (j < length (opens o n) → get_or (opens o n) j 0 < n) → Next n j → get_or (opens o (suc n)) j 0 < suc n
      by f (old l e) = omega (arith, f l, e)
      by f (new t q e) = omega (arith, e)

  pub opens_open : (n j : ℕ) → j < length (opens o n) → o (get_or (opens o n) j 0) ≡ true
  opens_open zero j h = absurd (none_open j h)
  opens_open (suc n) j h = by (opens_open n j) (next n j h)
    where
      by : (j < length (opens o n) → o (get_or (opens o n) j 0) ≡ true) → Next n j → o (get_or (opens o (suc n)) j 0) ≡ true
      by f (old l e) = rw e (f l)
      by f (new t q e) = rw e t

  pub opens_more : (m n : ℕ) → m ≤ n → length (opens o m) ≤ length (opens o n)
  opens_more m zero h =
      let e : m ≡ 0 = omega arith in
      rw e (omega arith)
  opens_more m (suc n) h = by (opens_more m n) (ℕ_discrete m (suc n))
    where
      by : (m ≤ n → length (opens o m) ≤ length (opens o n)) → Dec (m ≡ suc n) → length (opens o m) ≤ length (opens o (suc n))
      by f (yes e) = rw e (omega arith)
      by f (no d) = omega (arith, f (omega arith), next_more n)

  pub opens_prefix : (m n j : ℕ) → m ≤ n → j < length (opens o m) → get_or (opens o n) j 0 ≡ get_or (opens o m) j 0
  opens_prefix m zero j h l =
      let e : m ≡ 0 = omega arith in
      rw e
  opens_prefix m (suc n) j h l = by (λ k. opens_prefix m n j k l) (ℕ_discrete m (suc n))
    where
      by : (m ≤ n → get_or (opens o n) j 0 ≡ get_or (opens o m) j 0) → Dec (m ≡ suc n) → get_or (opens o (suc n)) j 0 ≡ get_or (opens o m) j 0
      by f (yes e) = rw e
      by f (no d) =
          let k : m ≤ n = omega arith in
          kept n j (omega (arith, opens_more m n k)) ∙ f k

  -- ---- none is left out

  later : {n bound x : ℕ} → bound ≤ length (opens o n) → OpenAt o n bound x → OpenAt o (suc n) bound x
  later {n} h w = record { number = w.number; before = w.before; is = kept n w.number (omega (arith, w.before)) ∙ w.is }

  wider : {n bound more x : ℕ} → bound ≤ more → OpenAt o n bound x → OpenAt o n more x
  wider h w = record { number = w.number; before = omega (arith, w.before); is = w.is }

  pub opens_all : (n x : ℕ) → x < n → o x ≡ true → OpenAt o n (length (opens o n)) x
  opens_all zero x h t = absurd (omega arith)
  opens_all (suc n) x h t = by (λ l. opens_all n x l t) (ℕ_discrete x n)
    where
      by : (x < n → OpenAt o n (length (opens o n)) x) → Dec (x ≡ n) → OpenAt o (suc n) (length (opens o (suc n))) x
      by f (yes e) =
          let s : o n ≡ true = rw e at t in
          record { number = length (opens o n); before = omega (arith, open_length n s); is = last n s ∙ sym e }
      by f (no d) = wider (next_more n) (later (omega arith) (f (omega arith)))

  -- An open row below the j-th is one before it.
  pub opens_before : (n j x : ℕ) → j < length (opens o n) → x < get_or (opens o n) j 0 → o x ≡ true → OpenAt o n j x
  opens_before zero j x h l t = absurd (none_open j h)
  opens_before (suc n) j x h l t = by (λ k m. opens_before n j x k m t) (next n j h)
    where
      by : (j < length (opens o n) → x < get_or (opens o n) j 0 → OpenAt o n j x) → Next n j → OpenAt o (suc n) j x
      by f (old k e) = later (omega arith) (f k (omega (arith, e)))
      by f (new s q e) = later (omega (arith, q)) (wider (omega (arith, q)) (opens_all n x (omega (arith, e)) t))

  -- ---- where no row is closed

  module _ (all : (i : ℕ) → o i ≡ true) where
    all_length : (n : ℕ) → length (opens o n) ≡ n
    unfolding opens
    all_length zero = refl
    all_length (suc n) = omega (arith, open_length n (all n), all_length n)

    all_at : (n j : ℕ) → j < n → get_or (opens o n) j 0 ≡ j
    all_at zero j h = absurd (omega arith)
    all_at (suc n) j h = by (all_at n j) (next n j (omega (arith, all_length (suc n))))
      where
        by : (j < n → get_or (opens o n) j 0 ≡ j) → Next n j → get_or (opens o (suc n)) j 0 ≡ j
        by f (old l e) = e ∙ f (omega (arith, all_length n))
        by f (new t q e) = omega (arith, e, q, all_length n)

    pub all_opens : (n : ℕ) → (length (opens o n) ≡ n) × ((j : ℕ) → j < n → get_or (opens o n) j 0 ≡ j)
    all_opens n = (all_length n, all_at n)

  -- ---- the n-th, found

  -- Where one row more makes it n + 1 open rows, that row is the n-th.
  pub found_open : (i limit n : ℕ) → i < limit → length (opens o i) ≤ n → n < length (opens o (i + 1)) → i ≡ get_or (opens o limit) n 0
  found_open i limit n h l k = by (next i n m)
    where
      m : n < length (opens o (suc i))
      m = rw add-one at k

      by : Next i n → i ≡ get_or (opens o limit) n 0
      by (old b e) = absurd (omega arith)
      by (new t q e) = sym (opens_prefix (suc i) limit n (omega arith) m ∙ e)
