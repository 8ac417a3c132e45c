-- A rule that applies only where one does that is judged no later, which leaves every refusal as it is: with the depot as the end harbour the rules of a call
-- to an end are those of the call of before. Assumes nothing.
use mathlib.Core.Path.{◌≡◌, refl, sym, ap, ◌∙◌}
use mathlib.Core.Bool.{Bool, true, false, cond, not, ◌&&◌, ◌||◌, true≢false, false≢true}
use mathlib.Core.List.{List, [], ◌∷◌, ◌++◌}
use Prim.Native.Nat.{ℕ, zero, suc}
use native.Mathlib.Omega.{arith}
use lib.Dec.{leb, ltb, eqb}
use lib.ListN.{length}
use Rattle.std.specs.List.{list_any}
use Rattle.theory.specs.Refusals.{Rule, number, order, either, rules_of, first_in, refusal, known_stops, known_end, pair_list, known_rounds, known_ends, round_lists, end_list}
use Rattle.theory.specs.Pairs.{pairs_of}
use borrow.Author.Tests.{eqb-true, eq-eqb, not-true}
use Rattle.theory.proofs.Judged.{and_true}

-- A rule with the number applies.
abbrev applied : ℕ → List Rule → Bool
applied n rs = list_any (λ (r : Rule). eqb n r.0 && r.1) rs

-- A number stands in the list no later than another.
unfoldable pub no_later : ℕ → ℕ → List ℕ → Bool
no_later a b [] = true
no_later a b (n ∷ ns) = eqb n a || (not (eqb n b) && no_later a b ns)

-- ---- the rules of one number

-- Without a rule that does not apply, or has another number.
without : (n : ℕ) (y : Rule) (front back : List Rule) (rest : ℕ) → (eqb n y.0 && y.1) ≡ false → rules_of n (front ++ (y ∷ back)) rest ≡ rules_of n (front ++ back) rest
unfolding rules_of either
without n y [] back rest h = by (eqb n y.0) y.1 h
  where
    by : (a b : Bool) → (a && b) ≡ false → cond a (either (cond b y.0 0) (rules_of n back rest)) (rules_of n back rest) ≡ rules_of n back rest
    by true true h = absurd (true≢false h)
    by true false h = refl
    by false b h = refl
without n y (r ∷ front) back rest h = ap (λ x. cond (eqb n r.0) (either (number r) x) x) (without n y front back rest h)

nonzero : (n x : ℕ) → (n ≡ 0 → ⊥) → either n x ≡ n
unfolding either
nonzero zero x z = absurd (z refl)
nonzero (suc n) x z = refl

-- Where one of them applies its number is given, whatever stands behind it.
settles : (n : ℕ) (front more : List Rule) (rest : ℕ) → (n ≡ 0 → ⊥) → applied n front ≡ true → rules_of n (front ++ more) rest ≡ n
unfolding rules_of either
settles n [] more rest z h = absurd (false≢true h)
settles n (r ∷ front) more rest z h = by (eqb n r.0) refl r.1 h (settles n front more rest z)
  where
    by : (a : Bool) → eqb n r.0 ≡ a → (b : Bool) → ((a && b) || applied n front) ≡ true → (applied n front ≡ true → rules_of n (front ++ more) rest ≡ n) →
        cond a (either (cond b r.0 0) (rules_of n (front ++ more) rest)) (rules_of n (front ++ more) rest) ≡ n
    by true e true h f = rw (← eqb-true n r.0 e) (nonzero n _ z)
    by true e false h f = f h
    by false e b h f = f h

-- ---- the numbers in their order

idle : (b : ℕ) (front back : List Rule) (ns : List ℕ) → first_in ns (front ++ ((b, false) ∷ back)) ≡ first_in ns (front ++ back)
unfolding first_in
idle b front back [] = refl
idle b front back (n ∷ ns) = without n (b, false) front back _ (none (eqb n b)) ∙ ap (rules_of n (front ++ back)) (idle b front back ns)
  where
    none : (a : Bool) → (a && false) ≡ false
    none true = refl
    none false = refl

module _ (a b : ℕ) (front back : List Rule) (z : a ≡ 0 → ⊥) (h : applied a front ≡ true) where
  settled : (ns : List ℕ) → no_later a b ns ≡ true → first_in ns (front ++ ((b, true) ∷ back)) ≡ first_in ns (front ++ back)
  unfolding first_in no_later
  settled [] o = refl
  settled (n ∷ ns) o = by (eqb n a) refl o (settled ns)
    where
      by : (e : Bool) → eqb n a ≡ e → (e || (not (eqb n b) && no_later a b ns)) ≡ true →
          (no_later a b ns ≡ true → first_in ns (front ++ ((b, true) ∷ back)) ≡ first_in ns (front ++ back)) →
          rules_of n (front ++ ((b, true) ∷ back)) (first_in ns (front ++ ((b, true) ∷ back))) ≡ rules_of n (front ++ back) (first_in ns (front ++ back))
      by true e o f =
          let same = eqb-true n a e in
          let here : applied n front ≡ true = rw same h in
          settles n front _ _ (λ e. z (sym same ∙ e)) here ∙ sym (settles n front back _ (λ e. z (sym same ∙ e)) here)
      by false e o f =
          let p = and_true (not (eqb n b)) (no_later a b ns) o in
          without n (b, true) front back _ (ap (λ x. x && true) (not-true (eqb n b) p.0)) ∙ ap (rules_of n (front ++ back)) (f p.1)

-- The law.
pub implied : (a b : ℕ) (t : Bool) (front back : List Rule) → (a ≡ 0 → ⊥) → no_later a b order ≡ true → (t ≡ true → applied a front ≡ true) →
    refusal (front ++ ((b, t) ∷ back)) ≡ refusal (front ++ back)
unfolding refusal
implied a b true front back z o h = settled a b front back z (h refl) order o
implied a b false front back z o h = idle b front back order

-- ---- no pairs

-- "Entries of before act as with an empty list": of that 29 is given nowhere.
pub without_pairs : (front back : List Rule) (locations : ℕ) → refusal (front ++ (pair_list locations [] ∷ back)) ≡ refusal (front ++ back)
unfolding refusal pairs_of
without_pairs front back locations = idle 29 front back order

-- ---- the end harbour at the depot

or_true : (b : Bool) → (b || true) ≡ true
or_true true = refl
or_true false = refl

last_applies : (n : ℕ) (front : List Rule) → applied n (front ++ ((n, true) ∷ [])) ≡ true
last_applies n [] = rw (eq-eqb n n refl) refl
last_applies n (r ∷ front) = rw (last_applies n front) (or_true (eqb n r.0 && r.1))

-- "The entries of before stay and take the depot": where the depot is no location 4 is given, and 24 nowhere.
pub end_at_depot : (front back : List Rule) (locations depot : ℕ) (route : List ℕ) →
    refusal ((front ++ (known_stops locations depot route ∷ [])) ++ (known_end locations depot ∷ back)) ≡ refusal ((front ++ (known_stops locations depot route ∷ [])) ++ back)
unfolding no_later
end_at_depot front back locations depot route =
    implied 4 24 (leb locations depot) (front ++ (known_stops locations depot route ∷ [])) back (λ e. absurd (omega arith)) refl (λ h. rw h (last_applies 4 front))

pub ends_at_depots : (front back : List Rule) (locations : ℕ) (depots stops : List ℕ) →
    refusal ((front ++ (known_rounds locations depots stops ∷ [])) ++ (known_ends locations depots ∷ back)) ≡ refusal ((front ++ (known_rounds locations depots stops ∷ [])) ++ back)
unfolding no_later
ends_at_depots front back locations depots stops =
    implied 4 24 (list_any (λ e. leb locations e) depots) (front ++ (known_rounds locations depots stops ∷ [])) back (λ e. absurd (omega arith)) refl (λ h. rw h (last_applies 4 front))

-- As many depots as rounds are as many end harbours.
pub ends_of_depots : (front back : List Rule) (lengths depots pins : List ℕ) (n : ℕ) →
    refusal ((front ++ (round_lists lengths depots pins n ∷ [])) ++ (end_list lengths depots ∷ back)) ≡ refusal ((front ++ (round_lists lengths depots pins n ∷ [])) ++ back)
unfolding no_later
ends_of_depots front back lengths depots pins n =
    implied 5 5 (not (eqb (length depots) (length lengths))) (front ++ (round_lists lengths depots pins n ∷ [])) back (λ e. absurd (omega arith)) refl
    (λ h. rw (h, or_true (ltb 64 (length lengths) || list_any (λ n. ltb 512 n) lengths)) (last_applies 5 front))
