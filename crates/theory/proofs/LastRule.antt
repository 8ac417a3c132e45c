-- The rule of the lent result, number 21, is judged after the others: its number stands last but 22. Assumes nothing.
use mathlib.Core.Path.{◌≡◌, refl, sym, ap, ◌∙◌}
use mathlib.Core.Bool.{Bool, true, false, cond, not, ◌&&◌, ◌||◌, false≢true, true≢false}
use mathlib.Core.List.{List, [], ◌∷◌, ◌++◌}
use Prim.Native.Nat.{ℕ}
use lib.Dec.{eqb}
use lib.ListN.{take}
use Rattle.std.specs.List.{list_any}
use Rattle.theory.specs.Refusals.{Rule, number, order, either, rules_of, first_in, refusal, room}
use Rattle.theory.proofs.Refusals.{either_zero, either_assoc}

-- No rule has one of these two numbers.
unfoldable pub early : List Rule → Bool
early [] = true
early (r ∷ rs) = (not (eqb 21 r.0) && not (eqb 22 r.0)) && early rs

parts : (a b c : Bool) → ((not a && not b) && c) ≡ true → (a ≡ false) × (b ≡ false) × (c ≡ true)
parts true b c h = absurd (false≢true h)
parts false true c h = absurd (false≢true h)
parts false false c h = (refl, refl, h)

-- ---- one number

other_number : (n : ℕ) (s : Rule) → eqb n s.0 ≡ false → (rs : List Rule) (rest : ℕ) → rules_of n (rs ++ (s ∷ [])) rest ≡ rules_of n rs rest
unfolding rules_of
other_number n s e [] rest = rw e
other_number n s e (r ∷ rs) rest = ap (λ x. cond (eqb n r.0) (either (number r) x) x) (other_number n s e rs rest)

absent : (n : ℕ) (r : Rule) (rs : List Rule) (rest : ℕ) → eqb n r.0 ≡ false → rules_of n (r ∷ rs) rest ≡ rules_of n rs rest
unfolding rules_of
absent n r rs rest e = rw e

none_of_21 : (rs : List Rule) → early rs ≡ true → (rest : ℕ) → rules_of 21 rs rest ≡ rest
unfolding early
none_of_21 [] h rest = unfold rules_of in refl
none_of_21 (r ∷ rs) h rest = let p = parts (eqb 21 r.0) (eqb 22 r.0) (early rs) h in absent 21 r rs rest p.0 ∙ none_of_21 rs p.2 rest

none_of_22 : (rs : List Rule) → early rs ≡ true → (rest : ℕ) → rules_of 22 rs rest ≡ rest
unfolding early
none_of_22 [] h rest = unfold rules_of in refl
none_of_22 (r ∷ rs) h rest = let p = parts (eqb 21 r.0) (eqb 22 r.0) (early rs) h in absent 22 r rs rest p.1 ∙ none_of_22 rs p.2 rest

own_number : (b : Bool) (rs : List Rule) → early rs ≡ true → (rest : ℕ) → rules_of 21 (rs ++ ((21, b) ∷ [])) rest ≡ either (number (21, b)) rest
unfolding early
own_number b [] h rest = unfold rules_of in refl
own_number b (r ∷ rs) h rest =
    let p = parts (eqb 21 r.0) (eqb 22 r.0) (early rs) h in
    absent 21 r (rs ++ ((21, b) ∷ [])) rest p.0 ∙ own_number b rs p.2 rest

through : (n : ℕ) (rs : List Rule) (a x : ℕ) → rules_of n rs (either a x) ≡ either (rules_of n rs a) x
unfolding rules_of
through n [] a x = refl
through n (r ∷ rs) a x = by (eqb n r.0) (through n rs a x)
  where
    by : (b : Bool) → rules_of n rs (either a x) ≡ either (rules_of n rs a) x →
        cond b (either (number r) (rules_of n rs (either a x))) (rules_of n rs (either a x)) ≡ either (cond b (either (number r) (rules_of n rs a)) (rules_of n rs a)) x
    by true h = ap (either (number r)) h ∙ sym (either_assoc (number r) (rules_of n rs a) x)
    by false h = h

-- ---- the numbers before

before : (b : Bool) (rs : List Rule) (x : ℕ) (later ns : List ℕ) → list_any (λ m. eqb m 21) ns ≡ false →
    first_in later (rs ++ ((21, b) ∷ [])) ≡ either (first_in later rs) x → first_in (ns ++ later) (rs ++ ((21, b) ∷ [])) ≡ either (first_in (ns ++ later) rs) x
unfolding first_in
before b rs x later [] e h = h
before b rs x later (n ∷ ns) e h = by (eqb n 21) refl e (before b rs x later ns)
  where
    by : (t : Bool) → eqb n 21 ≡ t → (t || list_any (λ m. eqb m 21) ns) ≡ false →
        (list_any (λ m. eqb m 21) ns ≡ false → first_in later (rs ++ ((21, b) ∷ [])) ≡ either (first_in later rs) x → first_in (ns ++ later) (rs ++ ((21, b) ∷ [])) ≡ either (first_in (ns ++ later) rs) x) →
        rules_of n (rs ++ ((21, b) ∷ [])) (first_in (ns ++ later) (rs ++ ((21, b) ∷ []))) ≡ either (rules_of n rs (first_in (ns ++ later) rs)) x
    by true q e f = absurd (true≢false e)
    by false q e f =
        other_number n (21, b) q rs (first_in (ns ++ later) (rs ++ ((21, b) ∷ [])))
        ∙ ap (rules_of n rs) (f e h)
        ∙ through n rs (first_in (ns ++ later) rs) x

-- "21: lent result .. too short": given only where no other rule of the call applies.
pub room_last : (rs : List Rule) (needed lent : ℕ) → early rs ≡ true → refusal (rs ++ (room needed lent ∷ [])) ≡ either (refusal rs) (number (room needed lent))
unfolding refusal
room_last rs needed lent h = before _ rs (number (room needed lent)) (21 ∷ 22 ∷ []) (take 19 order) refl last
  where
    last : first_in (21 ∷ 22 ∷ []) (rs ++ (room needed lent ∷ [])) ≡ either (first_in (21 ∷ 22 ∷ []) rs) (number (room needed lent))
    last = unfold first_in in rw (none_of_22 rs h, none_of_21 rs h, other_number 22 (room needed lent) refl rs 0, none_of_22 rs h, own_number _ rs h, either_zero) (unfold either in refl)
