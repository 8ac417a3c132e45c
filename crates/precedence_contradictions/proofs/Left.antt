-- The pairs that are left as words, turn by turn; those that stay are a circle. Assumes nothing.
use mathlib.Core.Path.{◌≡◌, refl, sym, ap, ◌∙◌}
use mathlib.Core.Bool.{Bool, true, false, cond, not, ◌&&◌, ◌||◌, false≢true, true≢false}
use mathlib.Core.List.{List, [], ◌∷◌, ◌++◌}
use Prim.Native.Nat.{ℕ, zero, suc, ◌+◌, ◌*◌, ◌<◌}
use native.Mathlib.Omega.{arith}
use lib.Dec.{eqb}
use lib.Bits.{bit_and, bit_or}
use lib.ListN.{length, get_or}
use lib.Seq.{take-length}
use borrow.Author.Tests.{eqb-true, eq-eqb}
use Rattle.theory.specs.Pairs.{visited, pair_kept, all}
use Rattle.precedence.specs.declared.Marks.{Marks}
use Rattle.precedence.specs.Words.{marks, Members, MarksGrown}
use Rattle.precedence.proofs.Words.{marks_same, marks_or, marks_and, no_marks, disjoint_is}
use Rattle.precedence.proofs.Kept.{visited_append, visited_one}
use Rattle.precedence_contradictions.specs.Contrary.{Contrary, second_of, behind_another, FirstsIf}
use Rattle.precedence_contradictions.proofs.Circle.{circle_broken}

abbrev at : List (ℕ × ℕ) → ℕ → ℕ × ℕ
at ps q = get_or ps q (0, 0)

-- ---- words and their pairs

bits : (a b : Bool) (m n : ℕ) → m * 2 + cond a 1 0 ≡ n * 2 + cond b 1 0 → (a ≡ b) × (m ≡ n)
bits true true m n e = (refl, omega (arith, e))
bits true false m n e = absurd (omega (arith, e))
bits false true m n e = absurd (omega (arith, e))
bits false false m n e = (refl, omega (arith, e))

marked_alike : (t u : ℕ × ℕ → Bool) (ps : List (ℕ × ℕ)) → marks t ps ≡ marks u ps → (q : ℕ) → q < length ps → t (at ps q) ≡ u (at ps q)
unfolding marks
marked_alike t u [] e q h = absurd (omega arith)
marked_alike t u (p ∷ ps) e zero h = (bits (t p) (u p) (marks t ps) (marks u ps) e).0
marked_alike t u (p ∷ ps) e (suc q) h = marked_alike t u ps (bits (t p) (u p) (marks t ps) (marks u ps) e).1 q (omega arith)

one_marked : (t : ℕ × ℕ → Bool) (ps : List (ℕ × ℕ)) → (marks t ps ≡ 0 → ⊥) → (q : ℕ) × (q < length ps) × (t (at ps q) ≡ true)
unfolding marks
one_marked t [] n = absurd (n refl)
one_marked t (p ∷ ps) n = by (t p) refl (one_marked t ps)
  where
    by : (b : Bool) → t p ≡ b → ((marks t ps ≡ 0 → ⊥) → (q : ℕ) × (q < length ps) × (t (at ps q) ≡ true)) → (q : ℕ) × (q < length (p ∷ ps)) × (t (at (p ∷ ps) q) ≡ true)
    by true e rest = (zero, omega arith, e)
    by false e rest = let w = rest (λ z. n (rw (e, z) refl)) in (suc w.0, omega (arith, w.1), w.2)

second_where : (t : ℕ × ℕ → Bool) (ps : List (ℕ × ℕ)) (x : ℕ) → second_of t ps x ≡ true → (p : ℕ) × (p < length ps) × ((at ps p).1 ≡ x) × (t (at ps p) ≡ true)
unfolding second_of all
second_where t [] x e = absurd (false≢true e)
second_where t (p ∷ ps) x e = by (eqb p.1 x) (t p) refl refl e (second_where t ps x)
  where
    by : (a b : Bool) → eqb p.1 x ≡ a → t p ≡ b → not (not (a && b) && all (λ p. not (eqb p.1 x && t p)) ps) ≡ true →
        (second_of t ps x ≡ true → (q : ℕ) × (q < length ps) × ((at ps q).1 ≡ x) × (t (at ps q) ≡ true)) →
        (q : ℕ) × (q < length (p ∷ ps)) × ((at (p ∷ ps) q).1 ≡ x) × (t (at (p ∷ ps) q) ≡ true)
    by true true f g h rest = (zero, omega arith, eqb-true p.1 x f, g)
    by true false f g h rest = let w = rest h in (suc w.0, omega (arith, w.1), w.2, w.3)
    by false b f g h rest = let w = rest h in (suc w.0, omega (arith, w.1), w.2, w.3)

-- ---- those that stay

both : (a b c : Bool) → ((a && b) && c) ≡ true → (a ≡ true) × (b ≡ true)
both true true c e = (refl, refl)
both true false c e = absurd (false≢true e)
both false b c e = absurd (false≢true e)

pub staying : (ps : List (ℕ × ℕ)) (route : List ℕ) (t : ℕ × ℕ → Bool) → marks (behind_another t ps route) ps ≡ marks t ps → (marks t ps ≡ 0 → ⊥) → Contrary ps route
staying ps route t e n =
    let w = one_marked t ps n in
    let each : (q : ℕ) → q < length ps → t (at ps q) ≡ true → (visited (at ps q).0 route ≡ true) × (second_of t ps (at ps q).0 ≡ true) =
    λ q l p. both (visited (at ps q).0 route) (second_of t ps (at ps q).0) (t (at ps q)) (marked_alike (behind_another t ps route) t ps e q l ∙ p) in
    circle_broken ps t route (record {
      one = w.0;
      listed = w.1;
      passes = w.2;
      visits = λ q l p. (each q l p).0;
      behind = λ q l p. second_where t ps (at ps q).0 (each q l p).1;
    })

-- ---- a turn, stop by stop

-- Of the stops so far.
abbrev pub found_among : (ℕ × ℕ → Bool) → List (ℕ × ℕ) → List ℕ → ℕ
found_among t ps part = marks (λ p. visited p.0 part && second_of t ps p.0) ps

pub none_found : (t : ℕ × ℕ → Bool) (ps : List (ℕ × ℕ)) → 0 ≡ found_among t ps []
unfolding visited
none_found t ps = sym (no_marks ps)

module _ (ps : List (ℕ × ℕ)) (members : List ℕ) (own : Members ps members) (t : ℕ × ℕ → Bool) (left : ℕ) (is : left ≡ marks t ps) where
  module _ (part : List ℕ) (x : ℕ) (known : x < 1024) where
    abbrev word : ℕ
    word = bit_and (get_or members (1024 + x) 0) left

    seconds_are : eqb word 0 ≡ all (λ p. not (eqb p.1 x && t p)) ps
    seconds_are = rw (own.seconds x known, is) (disjoint_is (λ p. eqb p.1 x) t ps)

    -- The firsts of x where it is a second.
    taken_is : (found : ℕ) → FirstsIf word (get_or members x 0) found → found ≡ marks (λ p. eqb p.0 x && second_of t ps p.0) ps
    unfolding second_of
    taken_is found f = by (eqb word 0) refl
      where
        at_x : (p : ℕ × ℕ) → (eqb p.0 x && second_of t ps x) ≡ (eqb p.0 x && second_of t ps p.0)
        at_x p = go (eqb p.0 x) refl
          where
            go : (b : Bool) → eqb p.0 x ≡ b → (b && second_of t ps x) ≡ (b && second_of t ps p.0)
            go true e = ap (second_of t ps) (sym (eqb-true p.0 x e))
            go false e = refl

        none : (p : ℕ × ℕ) (b : Bool) → b ≡ false → false ≡ (eqb p.0 x && b)
        none p b e = rw e (and_false (eqb p.0 x))
          where
            and_false : (a : Bool) → false ≡ (a && false)
            and_false true = refl
            and_false false = refl

        some : (p : ℕ × ℕ) (b : Bool) → b ≡ true → eqb p.0 x ≡ (eqb p.0 x && b)
        some p b e = rw e (and_true (eqb p.0 x))
          where
            and_true : (a : Bool) → a ≡ (a && true)
            and_true true = refl
            and_true false = refl

        by : (b : Bool) → eqb word 0 ≡ b → found ≡ marks (λ p. eqb p.0 x && second_of t ps p.0) ps
        by true e =
            f.none (eqb-true word 0 e)
            ∙ sym (no_marks ps)
            ∙ marks_same _ _ ps (λ p. none p (second_of t ps x) (ap not (sym seconds_are ∙ e)) ∙ at_x p)
        by false e =
            f.some (λ z. true≢false (sym (eq-eqb word 0 z) ∙ e))
            ∙ own.firsts x known
            ∙ marks_same _ _ ps (λ p. some p (second_of t ps x) (ap not (sym seconds_are ∙ e)) ∙ at_x p)

    pub one_more : (so_far found : ℕ) → so_far ≡ found_among t ps part → FirstsIf word (get_or members x 0) found → bit_or so_far found ≡ found_among t ps (part ++ (x ∷ []))
    one_more so_far found e f =
        rw (e, taken_is found f)
        (marks_or (λ p. visited p.0 part && second_of t ps p.0) (λ p. eqb p.0 x && second_of t ps p.0) ps
        ∙ marks_same _ _ ps (λ p. joined (visited p.0 part) (eqb p.0 x) (second_of t ps p.0) ∙ ap (λ b. b && second_of t ps p.0) (more p)))
      where
        joined : (a b c : Bool) → ((a && c) || (b && c)) ≡ ((a || b) && c)
        joined true b true = refl
        joined true true false = refl
        joined true false false = refl
        joined false b c = refl

        more : (p : ℕ × ℕ) → (visited p.0 part || eqb p.0 x) ≡ visited p.0 (part ++ (x ∷ []))
        more p = sym (visited_append p.0 part (x ∷ []) ∙ ap (λ b. visited p.0 part || b) (visited_one p.0 x))

  pub turned : (route : List ℕ) (found : ℕ) → found ≡ found_among t ps route → bit_and found left ≡ marks (behind_another t ps route) ps
  turned route found e = rw (e, is) (marks_and (λ p. visited p.0 route && second_of t ps p.0) t ps)

-- ---- the words of the whole route

pub grown_from_none : (ps : List (ℕ × ℕ)) (members route : List ℕ) → Members ps members → {m : Marks} →
    MarksGrown members route 0 (length route) (record { firsts = 0; seconds = 0; broken = 0; turned = 0 }) m → m.firsts ≡ marks (λ p. visited p.0 route) ps
unfolding visited pair_kept
grown_from_none ps members route own g =
    let none = sym (no_marks ps) in
    (g.is ps own 0 (omega arith) (record { first = none; second = none; breaks = none; turns = none })).first
    ∙ ap (λ r. marks (λ p. visited p.0 r) ps) (take-length route)
