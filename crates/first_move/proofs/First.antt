-- The first element that passes a test: what is passed over does not move it. Assumes nothing.
use mathlib.Core.Path.{◌≡◌, refl, sym, ap}
use mathlib.Core.Bool.{Bool, true, false, true≢false}
use mathlib.Core.Logic.{⊎_elim}
use mathlib.Core.List.Memᴰ
use mathlib.Core.List.{List, [], ◌∷◌, ◌++◌, Memᴰ}
use mathlib.Core.Option.{Option, none, some}
use Rattle.first_move.specs.FirstMove.{first_that}

some_none : {A : Type 0} (y : A) → ◌≡◌ {A = Option A} (some y) none → ⊥
some_none y q = true≢false (ap (λ o. elim o [ some z ↦ true | none ↦ false ]) q)

module _ {A : Type 0} (t : A → Bool) where
  -- A part of which nothing passes is passed over.
  pub first_skips : (xs ys : List A) → ((x : A) → Memᴰ x xs → t x ≡ false) → first_that t (xs ++ ys) ≡ first_that t ys
  unfolding first_that
  first_skips [] ys h = refl
  first_skips (x ∷ xs) ys h = rw (h x (Memᴰ.head refl), first_that) (first_skips xs ys (λ y i. h y (Memᴰ.tail i)))

  pub first_none : (xs : List A) → ((x : A) → Memᴰ x xs → t x ≡ false) → first_that t xs ≡ none
  unfolding first_that
  first_none [] h = refl
  first_none (x ∷ xs) h = rw (h x (Memᴰ.head refl), first_that) (first_none xs (λ y i. h y (Memᴰ.tail i)))

  -- Where none is found, nothing passes.
  pub none_passes : (xs : List A) → first_that t xs ≡ none → (x : A) → Memᴰ x xs → t x ≡ false
  unfolding first_that
  none_passes [] h x i = absurd (Memᴰ.not-nil i)
  none_passes (y ∷ xs) h x i = by (t y) refl (none_passes xs)
    where
      by : (b : Bool) → t y ≡ b → (first_that t xs ≡ none → (x : A) → Memᴰ x xs → t x ≡ false) → t x ≡ false
      by true e f = absurd (some_none y (rw (e, first_that) at h))
      by false e f = ⊎_elim (λ q. rw q e) (λ j. f (rw (e, first_that) at h) x j) (Memᴰ.cases_cons i)

  -- Found in the first part, it is found; else it is that of the second part.
  pub first_here : (xs ys : List A) (x : A) → first_that t xs ≡ some x → first_that t (xs ++ ys) ≡ some x
  unfolding first_that
  first_here [] ys x h = absurd (some_none x (sym h))
  first_here (y ∷ xs) ys x h = by (t y) refl (first_here xs ys x)
    where
      by : (b : Bool) → t y ≡ b → (first_that t xs ≡ some x → first_that t (xs ++ ys) ≡ some x) → first_that t (y ∷ (xs ++ ys)) ≡ some x
      by true e f = rw (e, first_that) (rw (e, first_that) at h)
      by false e f = rw (e, first_that) (f (rw (e, first_that) at h))

  pub first_later : (xs ys : List A) → first_that t xs ≡ none → first_that t (xs ++ ys) ≡ first_that t ys
  first_later xs ys h = first_skips xs ys (none_passes xs h)

  -- What is found passes, and nothing before it does.
  pub record Found (xs : List A) (x : A) : Type 0 where
    pub passes : t x ≡ true
    pub before : List A
    pub after : List A
    pub listed : xs ≡ before ++ (x ∷ after)
    pub first : (y : A) → Memᴰ y before → t y ≡ false

  pub found : (xs : List A) (x : A) → first_that t xs ≡ some x → Found xs x
  unfolding first_that
  found [] x h = absurd (some_none x (sym h))
  found (y ∷ xs) x h = by (t y) refl (found xs x)
    where
      by : (b : Bool) → t y ≡ b → (first_that t xs ≡ some x → Found xs x) → Found (y ∷ xs) x
      by true e g =
          let z : ◌≡◌ {A = Option A} (some y) (some x) = rw (e, first_that) at h in
          let q : y ≡ x = cc in
          record { passes = rw (← q) e; before = []; after = xs; listed = ap (λ w. w ∷ xs) q; first = λ w i. absurd (Memᴰ.not-nil i) }
      by false e g =
          let f = g (rw (e, first_that) at h) in
          record {
            passes = f.passes;
            before = y ∷ f.before;
            after = f.after;
            listed = ap (λ l. y ∷ l) f.listed;
            first = λ w i. ⊎_elim (λ q. rw q e) (λ j. f.first w j) (Memᴰ.cases_cons i);
          }
