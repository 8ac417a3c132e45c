-- No room: where the bounds of all classes lie above the standing cost, so does every row that holds P once. Assumes nothing.
use mathlib.Core.Path.{◌≡◌, refl}
use mathlib.Core.Logic.{◌⊎◌, inl, inr}
use mathlib.Core.List.{List, [], ◌∷◌}
use Prim.Native.Nat.{ℕ, suc, ◌+◌, ◌≤◌, ◌<◌}
use native.Mathlib.Omega.{arith}
use borrow.Author.Tests.{eq-eqb, ne_eqb}
use Rattle.scan_shared.specs.Bound.{chain_by, next_state, class}

-- The states that are left at a stop which the last cut does not move: what may come before P is another state or the head; what comes to the tail, unless P
-- does as it stands, is another state or P reversed.
abbrev pub Before : ℕ → ℕ → Type 0
Before p a = (a < p) ⊎ (a ≡ 9)

abbrev pub After : ℕ → ℕ → Type 0
After p a = (a < p) ⊎ (a ≡ suc p)

abbrev pub Still : ℕ → ℕ → Type 0
Still p a = (a < p) ⊎ ((a ≡ 9) ⊎ (a ≡ suc p))

pub before_still : {p a : ℕ} → Before p a → Still p a
before_still (inl h) = inl h
before_still (inr h) = inr (inl h)

pub after_still : {p a : ℕ} → After p a → Still p a
after_still (inl h) = inl h
after_still (inr h) = inr (inr h)

-- A row without P.
abbrev pub Without : ℕ → List ℕ → Type 0
Without p [] = Unit {0}
Without p (b ∷ bs) = (b < p) × Without p bs

-- A row that holds P once.
abbrev pub Once : ℕ → List ℕ → Type 0
Once p [] = ⊥
Once p (b ∷ bs) = (((b ≡ p) ⊎ (b ≡ suc p)) × Without p bs) ⊎ ((b < p) × Once p bs)

-- The table J of a cut set beside the table F of its first k - 1 cuts: what the last cut adds. `legs` are the legs inside P, `tail` is below every leg to the
-- tail, `last` is the leg from P to the tail, `out w` what follows P before state w, `back u` what reversed P adds after state u.
pub record Moving (p : ℕ) (F J : ℕ → ℕ → ℕ) (legs tail last : ℕ) (out back : ℕ → ℕ) : Type 0 where
  pub others : (a b : ℕ) → Still p a → b < p → J a b ≡ F a b
  pub into : (a : ℕ) → Before p a → J a p ≡ F a p + legs
  pub turned : (a : ℕ) → Before p a → F a (suc p) + back a ≤ J a (suc p)
  pub onward : (b : ℕ) → b < p → F p b + out b ≤ J p b
  pub ending : (a : ℕ) → After p a → F a 8 + tail ≤ J a 8
  pub at_last : J p 8 ≡ F p 8 + last

-- What is known where the three tests of a last cut fail.
pub record Unpromising (p now legs tail last : ℕ) (low out back : ℕ → ℕ) : Type 0 where
  pub straight : (w : ℕ) → w < p → now + last ≤ low w + out w + tail
  pub ended : now ≤ low 8
  pub reversed : (u : ℕ) → Before p u → now + legs + last ≤ low (10 + u) + back u + tail

module _ {p : ℕ} {F J : ℕ → ℕ → ℕ} {legs tail last : ℕ} {out back : ℕ → ℕ} (m : Moving p F J legs tail last out back) where
  after_P : (a : ℕ) (bs : List ℕ) → After p a → Without p bs → chain_by F a bs + tail ≤ chain_by J a bs
  unfolding chain_by
  after_P a [] s w = m.ending a s
  after_P a (b ∷ bs) s w = omega (arith, m.others a b (after_still s) w.0, after_P b bs (inl w.0) w.1)

  module _ {now : ℕ} {low : ℕ → ℕ} (n : Unpromising p now legs tail last low out back) where
    straight_on : (a : ℕ) (bs : List ℕ) (acc : ℕ) → Before p a → Without p bs → low (next_state bs) ≤ acc + (F a p + chain_by F p bs) → now + legs + last ≤ acc + (J a p + chain_by J p bs)
    unfolding chain_by
    straight_on a [] acc s w h = omega (arith, m.into a s, m.at_last, n.ended)
    straight_on a (b ∷ bs) acc s w h = omega (arith, m.into a s, m.onward b w.0, after_P b bs (inl w.0) w.1, n.straight b w.0)

    no_room : (a : ℕ) (bs : List ℕ) (acc : ℕ) → Before p a → Once p bs → low (class p a bs) ≤ acc + chain_by F a bs → now + legs + last ≤ acc + chain_by J a bs
    unfolding chain_by class
    no_room a [] acc s o h = absurd o
    no_room a (b ∷ bs) acc s (inl (inl e, w)) h =
        let g : low (next_state bs) ≤ acc + (F a p + chain_by F p bs) = rw (e, eq-eqb p p refl) at h in
        rw e (straight_on a bs acc s w g)
    no_room a (b ∷ bs) acc s (inl (inr e, w)) h =
        let g : low (10 + a) ≤ acc + (F a (suc p) + chain_by F (suc p) bs) = rw (e, ne_eqb (suc p) p (λ (q : suc p ≡ p). omega arith), eq-eqb (suc p) (suc p) refl) at h in
        rw e (omega (arith, m.turned a s, after_P (suc p) bs (inr refl) w, n.reversed a s))
    no_room a (b ∷ bs) acc s (inr (l, o)) h =
        let g : low (class p b bs) ≤ acc + F a b + chain_by F b bs = omega (arith, (rw (ne_eqb b p (λ (q : b ≡ p). omega arith), ne_eqb b (suc p) (λ (q : b ≡ suc p). omega arith)) at h)) in
        omega (arith, m.others a b (before_still s) l, no_room b bs (acc + F a b) (inl l) o g)

    -- Every row that holds P once costs at least as much as the standing one.
    pub row_costs : (bs : List ℕ) → Once p bs → low (class p 9 bs) ≤ chain_by F 9 bs → now + legs + last ≤ chain_by J 9 bs
    row_costs bs o h = omega (arith, no_room 9 bs 0 (inr refl) o (omega (arith, h)))
