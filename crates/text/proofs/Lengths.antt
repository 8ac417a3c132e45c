-- A text has lengths exactly where the program prints an answer, and they are those that it prints. Assumes nothing.
use mathlib.Core.Path.{◌≡◌, refl, sym, ap, ◌∙◌}
use mathlib.Core.Bool.{Bool, true, false}
use mathlib.Core.Logic.{◌↔◌}
use mathlib.Core.List.{List, [], ◌∷◌, ◌++◌, append_assoc}
use mathlib.Core.Option.{some, none-ne-some, some-injective}
use Prim.Native.Nat.{ℕ}
use native.Mathlib.Omega.{arith}
use lib.ListN.{length, get_or, drop}
use lib.Seq.{drop_at}
use Rattle.text_decimal.specs.Decimal.{digits}
use Rattle.text_decimal.specs.Text.{ascii, line}
use Rattle.text_decimal.proofs.Values.{Digits, digits_all, digits_injective}
use Rattle.text_printing.specs.Answer.{outcome, answer_text, refusal_text}
use Rattle.text_putting.proofs.Lists.{line_one}
use Rattle.text_polishing.specs.Outcome.{Answer, Outcome, no, yes, outcome as outcome_to, lengths_of, lengths}
use Rattle.text.specs.Program.{answer_lines, outcome_text, program, Answers}

-- The first byte that is no digit ends a number.
cut_alike : (s t u v : List ℕ) → Digits s → Digits t → s ++ (10 ∷ u) ≡ t ++ (10 ∷ v) → (s ≡ t) × (u ≡ v)
cut_alike [] [] u v a b e = (refl, ap (drop 1) e)
cut_alike [] (y ∷ t) u v a b e = let z : 10 ≡ y = ap (λ l. get_or l 0 0) e in absurd (omega arith)
cut_alike (x ∷ s) [] u v a b e = let z : x ≡ 10 = ap (λ l. get_or l 0 0) e in absurd (omega arith)
cut_alike (x ∷ s) (y ∷ t) u v a b e =
    let z : x ≡ y = ap (λ l. get_or l 0 0) e in
    let r = cut_alike s t u v a.2 b.2 (ap (drop 1) e) in
    (rw (z, r.0), r.1)

parted : (key : List ℕ) (x : ℕ) (u : List ℕ) → line key (x ∷ []) ++ u ≡ key ++ (digits x ++ (10 ∷ u))
parted key x u = rw (line_one key x) (simp append_assoc)

-- Two lines of one number with the same key, and what follows.
lines_alike : (key : List ℕ) (x y : ℕ) (u v : List ℕ) → line key (x ∷ []) ++ u ≡ line key (y ∷ []) ++ v → (x ≡ y) × (u ≡ v)
lines_alike key x y u v e =
    let whole : key ++ (digits x ++ (10 ∷ u)) ≡ key ++ (digits y ++ (10 ∷ v)) = sym (parted key x u) ∙ e ∙ parted key y v in
    let rest = sym (drop_at key (digits x ++ (10 ∷ u)) (length key) refl) ∙ ap (drop (length key)) whole ∙ drop_at key (digits y ++ (10 ∷ v)) (length key) refl in
    let r = cut_alike (digits x) (digits y) u v (digits_all x) (digits_all y) rest in
    (digits_injective x y r.0, r.1)

-- How an answer ended, and what follows.
endings_alike : (f g : Bool) (u v : List ℕ) → outcome f ++ u ≡ outcome g ++ v → u ≡ v
endings_alike true true u v e = ap (drop 16) e
endings_alike true false u v e = let z : ◌≡◌ {A = ℕ} 102 115 = ap (λ l. get_or l 7 0) e in absurd (omega arith)
endings_alike false true u v e = let z : ◌≡◌ {A = ℕ} 115 102 = ap (λ l. get_or l 7 0) e in absurd (omega arith)
endings_alike false false u v e = ap (drop 13) e

answers_alike : (a : Answer) (f : Bool) (examined accepted before after late : ℕ) (route : List ℕ) → answer_lines a ≡ answer_text f examined accepted before after late route →
    (a.before ≡ before) × (a.after ≡ after)
unfolding answer_text
answers_alike a f examined accepted before after late route e =
    let e₁ = endings_alike a.finished f _ _ e in
    let e₂ = (lines_alike (ascii "examined=") a.examined examined _ _ e₁).1 in
    let e₃ = (lines_alike (ascii "accepted=") a.accepted accepted _ _ e₂).1 in
    let e₄ = lines_alike (ascii "before=") a.before before _ _ e₃ in
    (e₄.0, (lines_alike (ascii "after=") a.after after _ _ e₄.1).0)

-- A refusal is no answer.
no_answer : (number : ℕ) (f : Bool) (examined accepted before after late : ℕ) (route : List ℕ) → refusal_text number ≡ answer_text f examined accepted before after late route → ⊥
unfolding answer_text line
no_answer number true examined accepted before after late route e = let z : ◌≡◌ {A = ℕ} 114 97 = ap (λ l. get_or l 0 0) e in omega arith
no_answer number false examined accepted before after late route e = let z : ◌≡◌ {A = ℕ} 114 97 = ap (λ l. get_or l 0 0) e in omega arith

printed : (o : Outcome) (x y : ℕ) → (lengths_of o ≡ some (x, y)) ↔ Answers (outcome_text o) x y
printed (no number) x y =
    (λ e. absurd (none-ne-some (x, y) e), λ p. absurd (no_answer number p.finished p.examined p.accepted x y p.late p.route p.is))
printed (yes a) x y = (there, back)
  where
    there : lengths_of (yes a) ≡ some (x, y) → Answers (answer_lines a) x y
    there e =
        let p = some-injective _ _ e in
        record {
          finished = a.finished;
          examined = a.examined;
          accepted = a.accepted;
          late = a.late;
          route = a.route;
          is = rw (← ap (λ (l : ℕ × ℕ). l.0) p, ← ap (λ (l : ℕ × ℕ). l.1) p);
        }

    back : Answers (answer_lines a) x y → lengths_of (yes a) ≡ some (x, y)
    back p = let q = answers_alike a p.finished p.examined p.accepted x y p.late p.route p.is in rw (q.0, q.1)

-- THE LAW of the season report: a block counts exactly where the text program prints an answer, with those lengths.
pub lengths_printed : (text : List ℕ) (x y : ℕ) → (lengths text ≡ some (x, y)) ↔ Answers (program text) x y
lengths_printed text x y = printed (outcome_to text) x y
