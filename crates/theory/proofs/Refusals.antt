-- What a refusal number says of the rules: 0 exactly if none applies, else the first number of the order that has a rule which applies. Assumes nothing.
use mathlib.Core.Path.{◌≡◌, refl, sym, ap, ◌∙◌}
use mathlib.Core.Bool.{Bool, true, false, cond, ◌&&◌, ◌||◌, and-eq-true_iff, true≢false}
use mathlib.Core.Logic.{◌⊎◌, inl, inr, ⊎_elim}
use mathlib.Core.List.Memᴰ
use mathlib.Core.List.{List, [], ◌∷◌, ◌++◌, map, Memᴰ}
use Prim.Native.Nat.{ℕ, zero, suc}
use native.Mathlib.Omega.{arith}
use lib.Dec.{eqb}
use borrow.Author.Tests.{eqb-true, eqb-false}
use Rattle.std.specs.List.{list_any}
use Rattle.theory.specs.Refusals.{Rule, order, either, rules_of, first_in, refusal}

-- No rule applies.
abbrev pub Passes : List Rule → Type 0
Passes [] = Unit {0}
Passes (r ∷ rs) = (r.1 ≡ false) × Passes rs

-- Each rule's number stands in the order; 0 does not.
unfoldable pub known : List Rule → Bool
known [] = true
known (r ∷ rs) = list_any (eqb r.0) order && known rs

-- Of the numbers ns, n is given: a rule with that number applies, and none whose number stands earlier does.
pub record Refused (ns : List ℕ) (rs : List Rule) (n : ℕ) : Type 0 where
  pub rule : Rule
  pub asked : Memᴰ rule rs
  pub numbered : rule.0 ≡ n
  pub applies : rule.1 ≡ true
  pub earlier : List ℕ
  pub later : List ℕ
  pub place : ns ≡ earlier ++ (n ∷ later)
  pub first : (r : Rule) → Memᴰ r rs → Memᴰ r.0 earlier → r.1 ≡ false

-- One rule in front of others.
pub passed : (b : Bool) (n m : ℕ) → either (cond b (suc n) 0) m ≡ 0 → (b ≡ false) × (m ≡ 0)
unfolding either
passed true n m h = absurd (omega arith)
passed false n m h = (refl, h)

-- ---- the rules of one number

-- No rule has the number 0, which stands for no refusal.
abbrev Numbered : List Rule → Type 0
Numbered rs = (r : Rule) → Memᴰ r rs → r.0 ≡ 0 → ⊥

module _ (n : ℕ) (s : Rule) (rs : List Rule) (rest : ℕ) where
  other : eqb n s.0 ≡ false → rules_of n (s ∷ rs) rest ≡ rules_of n rs rest
  unfolding rules_of
  other e = rw e

  idle : s.1 ≡ false → rules_of n (s ∷ rs) rest ≡ rules_of n rs rest
  unfolding rules_of
  idle e = rw e (by (eqb n s.0))
    where
      by : (b : Bool) → cond b (rules_of n rs rest) (rules_of n rs rest) ≡ rules_of n rs rest
      by true = refl
      by false = refl

  given : eqb n s.0 ≡ true → s.1 ≡ true → (s.0 ≡ 0 → ⊥) → rules_of n (s ∷ rs) rest ≡ n
  unfolding rules_of
  given e t z = rw (e, t) (by s.0 z ∙ sym (eqb-true n s.0 e))
    where
      by : (x : ℕ) → (x ≡ 0 → ⊥) → either x (rules_of n rs rest) ≡ x
      by zero z = absurd (z refl)
      by (suc x) z = refl

-- One of them applies and its number is given, or none does and the rest decides.
Settled : ℕ → List Rule → ℕ → Type 0
Settled n rs rest =
    ((r : Rule) × Memᴰ r rs × (r.0 ≡ n) × (r.1 ≡ true) × (rules_of n rs rest ≡ n))
    ⊎ (((r : Rule) → Memᴰ r rs → r.0 ≡ n → r.1 ≡ false) × (rules_of n rs rest ≡ rest))

settled : (n : ℕ) (rs : List Rule) (rest : ℕ) → Numbered rs → Settled n rs rest
unfolding Settled rules_of
settled n [] rest z = inr (λ r i e. absurd (Memᴰ.not-nil i), refl)
settled n (s ∷ rs) rest z = by (eqb n s.0) refl s.1 refl (settled n rs rest (λ r i. z r (Memᴰ.tail i)))
  where
    skip : rules_of n (s ∷ rs) rest ≡ rules_of n rs rest → (s.0 ≡ n → s.1 ≡ false) → Settled n rs rest → Settled n (s ∷ rs) rest
    skip e f (inl h) = inl (h.0, Memᴰ.tail h.1, h.2, h.3, e ∙ h.4)
    skip e f (inr h) = inr (λ r i g. ⊎_elim (λ p. rw p (f (rw p at g))) (λ j. h.0 r j g) (Memᴰ.cases_cons i), e ∙ h.1)

    by : (b : Bool) → eqb n s.0 ≡ b → (t : Bool) → s.1 ≡ t → Settled n rs rest → Settled n (s ∷ rs) rest
    by false e t a = skip (other n s rs rest e) (λ g. absurd (eqb-false n s.0 e (sym g)))
    by true e false a = skip (idle n s rs rest a) (λ g. a)
    by true e true a = λ h. inl (s, Memᴰ.head refl, sym (eqb-true n s.0 e), a, given n s rs rest e a (z s (Memᴰ.head refl)))

-- ---- the numbers in their order

Decided : List ℕ → List Rule → Type 0
Decided ns rs = Refused ns rs (first_in ns rs) ⊎ ((first_in ns rs ≡ 0) × ((r : Rule) → Memᴰ r rs → Memᴰ r.0 ns → r.1 ≡ false))

decided : (ns : List ℕ) (rs : List Rule) → Numbered rs → Decided ns rs
unfolding Decided Settled first_in
decided [] rs z = inr (refl, λ r i j. absurd (Memᴰ.not-nil j))
decided (n ∷ ns) rs z = by (settled n rs (first_in ns rs) z) (decided ns rs z)
  where
    by : Settled n rs (first_in ns rs) → Decided ns rs → Decided (n ∷ ns) rs
    by (inl h) d =
        inl (rw h.4 (record { rule = h.0; asked = h.1; numbered = h.2; applies = h.3; earlier = []; later = ns; place = refl; first = λ r i j. absurd (Memᴰ.not-nil j) }))
    by (inr h) (inl d) =
        inl
        (rw h.1
        (record {
          rule = d.rule;
          asked = d.asked;
          numbered = d.numbered;
          applies = d.applies;
          earlier = n ∷ d.earlier;
          later = d.later;
          place = ap (λ l. n ∷ l) d.place;
          first = λ r i j. ⊎_elim (h.0 r i) (d.first r i) (Memᴰ.cases_cons j);
        }))
    by (inr h) (inr d) = inr (h.1 ∙ d.0, λ r i j. ⊎_elim (h.0 r i) (d.1 r i) (Memᴰ.cases_cons j))

-- ---- the laws

stands : (rs : List Rule) → known rs ≡ true → (r : Rule) → Memᴰ r rs → list_any (eqb r.0) order ≡ true
unfolding known
stands [] k r i = absurd (Memᴰ.not-nil i)
stands (s ∷ rs) k r i =
    let b = (and-eq-true_iff (list_any (eqb s.0) order) (known rs)).0 k in
    ⊎_elim (λ e. rw e b.0) (stands rs b.1 r) (Memᴰ.cases_cons i)

not_zero : (rs : List Rule) → known rs ≡ true → Numbered rs
not_zero rs k r i z = true≢false (sym (rw z at (stands rs k r i)))

listed : (x : ℕ) (l : List ℕ) → list_any (eqb x) l ≡ true → Memᴰ x l
listed x [] h = absurd (true≢false (sym h))
listed x (y ∷ l) h = by (eqb x y) refl (listed x l) h
  where
    by : (b : Bool) → eqb x y ≡ b → (list_any (eqb x) l ≡ true → Memᴰ x l) → (b || list_any (eqb x) l) ≡ true → Memᴰ x (y ∷ l)
    by true e f h = Memᴰ.head (eqb-true x y e)
    by false e f h = Memᴰ.tail (f h)

all_pass : (rs : List Rule) → ((r : Rule) → Memᴰ r rs → r.1 ≡ false) → Passes rs
all_pass [] h = tt
all_pass (r ∷ rs) h = (h r (Memᴰ.head refl), all_pass rs (λ s i. h s (Memᴰ.tail i)))

-- Not refused: no rule applies.
pub accepted : (rs : List Rule) → known rs ≡ true → refusal rs ≡ 0 → Passes rs
unfolding refusal Decided
accepted rs k h = by (decided order rs (not_zero rs k))
  where
    by : Decided order rs → Passes rs
    by (inl d) = absurd (not_zero rs k d.rule d.asked (d.numbered ∙ h))
    by (inr d) = all_pass rs (λ r i. d.1 r i (listed r.0 order (stands rs k r i)))

-- Refused: the number is that of the first rule, in the one order, that applies.
pub refused_first : (rs : List Rule) → known rs ≡ true → (n : ℕ) → refusal rs ≡ suc n → Refused order rs (suc n)
unfolding refusal Decided
refused_first rs k n h = by (decided order rs (not_zero rs k))
  where
    by : Decided order rs → Refused order rs (suc n)
    by (inl d) = rw h at d
    by (inr d) = absurd (omega arith)

-- No rule applies: not refused.
pub taken : (rs : List Rule) → Passes rs → refusal rs ≡ 0
unfolding refusal first_in
taken rs p = first order
  where
    of : (n rest : ℕ) (rs : List Rule) → Passes rs → rules_of n rs rest ≡ rest
    of n rest [] p = refl
    of n rest (s ∷ rs) p = idle n s rs rest p.0 ∙ of n rest rs p.1

    first : (ns : List ℕ) → first_in ns rs ≡ 0
    first [] = refl
    first (n ∷ ns) = of n (first_in ns rs) rs p ∙ first ns

-- ---- the order is that of the documents

-- What they say of two numbers that both apply: the first of each pair is given.
abbrev said : List (ℕ × ℕ)
said =
    -- "The lowest number that applies to the call is given, and no other; 10 comes before all."
    (10, 1) ∷ (1, 2) ∷ (2, 3) ∷ (3, 4) ∷ (4, 5) ∷ (5, 6) ∷ (6, 7) ∷ (7, 8) ∷ (8, 9) ∷ (9, 21) ∷ (21, 22)
    -- "23, .. after 3 and before 4"; "24, .. after 4 and before 5"; "25, .. after 9 and before 21".
    ∷ (3, 23) ∷ (23, 4) ∷ (4, 24) ∷ (24, 5) ∷ (9, 25) ∷ (25, 21)
    -- "26, .. 27, .. 28, .. come after 1 and before 2, lowest first"; "29, .. after 24 and before 5".
    ∷ (1, 26) ∷ (26, 27) ∷ (27, 28) ∷ (28, 2) ∷ (24, 29) ∷ (29, 5)
    -- "30, .. before all others"; "31, .. after 9 and before 21".
    ∷ (30, 10) ∷ (9, 31) ∷ (31, 21) ∷ []

pub order_as_said : map (λ (p : ℕ × ℕ). refusal ((p.1, true) ∷ (p.0, true) ∷ [])) said ≡ map (λ p. p.0) said
unfolding refusal first_in rules_of either
order_as_said = refl

-- ---- the checks of a call, one after the other

pub either_zero : (n : ℕ) → either n 0 ≡ n
unfolding either
either_zero zero = refl
either_zero (suc n) = refl

pub either_assoc : (a b c : ℕ) → either (either a b) c ≡ either a (either b c)
unfolding either
either_assoc zero b c = refl
either_assoc (suc a) b c = refl

-- Checks that are judged together, and then the others.
pub three_then : (a b c rest : ℕ) → either (either a (either b c)) rest ≡ either a (either b (either c rest))
unfolding either
three_then a b c rest = simp either_assoc

-- A check that applies is given, and one that does not is passed.
pub applies_first : (a n rest : ℕ) → a ≡ n → (a ≡ 0 → ⊥) → a ≡ either n rest
unfolding either
applies_first a zero rest e h = absurd (h e)
applies_first a (suc n) rest e h = e

pub passed_over : (a n rest : ℕ) → a ≡ n → a ≡ 0 → rest ≡ either n rest
unfolding either
passed_over a zero rest e h = refl
passed_over a (suc n) rest e h = absurd (omega arith)
