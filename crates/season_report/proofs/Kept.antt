-- What the numbers of texts keep to: as many as the texts, the sums no longer after than before, and far below 64 bits. Assumes nothing.
use mathlib.Core.Path.{◌≡◌, refl, sym, ap, ◌∙◌}
use mathlib.Core.List.{List, [], ◌∷◌, map}
use mathlib.Core.Option.{Option, none, some}
use Prim.Native.Nat.{ℕ, ◌+◌, ◌*◌, ◌≤◌}
use native.Mathlib.Omega.{arith}
use lib.ListN.{length}
use Rattle.text_polishing.specs.Outcome.{outcome_told, lengths_of, lengths, Tells}
use Rattle.text_polishing.specs.declared.TextAnswer.{TextAnswer}
use Rattle.std.specs.Prelude as Rust
use Rattle.theory.specs.declared.Refusal.{Refusal}
use Rattle.text_polishing.proofs.Bounds.{kept_lengths}
use Rattle.theory.specs.Answers.{counts_of}
use Rattle.theory.specs.declared.Polished.{Polished}
use Rattle.theory.specs.declared.Polished.TheVariants.{Finished, Spent}
use Rattle.season_numbers.specs.Season.{accepted, refused_blocks, befores, afters}
use Rattle.std.specs.List.{sum}
use Rattle.std.proofs.lemmas.List.Sums.{sum_by-cons}
use Rattle.season_numbers.specs.Adding.{lengths_told, Small}
use Rattle.season_numbers.specs.declared.BlockLengths.{BlockLengths}

-- ---- one text

module _ {text stops : List ℕ} {answer : Rust.Result TextAnswer Refusal} (t : Tells text stops answer) where
  told_lengths : (a : Rust.Result TextAnswer Refusal) → answer ≡ a → lengths text ≡ lengths_of (outcome_told a stops)
  told_lengths a is = ap lengths_of (t.tells ∙ ap (λ (b : Rust.Result TextAnswer Refusal). outcome_told b stops) is)

  pub none_told : (e : Refusal) → answer ≡ Rust.Err e → none ≡ lengths text
  none_told e is = sym (told_lengths (Rust.Err e) is)

  pub some_told : (a : TextAnswer) → answer ≡ Rust.Ok a → ◌≡◌ {A = Option (ℕ × ℕ)} (some ((counts_of a.polished).before, (counts_of a.polished).after)) (lengths text)
  some_told a is = told_of a.polished a.count (told_lengths (Rust.Ok a) is)
    where
      told_of : (p : Polished) (count : ℕ) → lengths text ≡ lengths_of (outcome_told (Rust.Ok (record { polished = p; count = count })) stops) →
          ◌≡◌ {A = Option (ℕ × ℕ)} (some ((counts_of p).before, (counts_of p).after)) (lengths text)
      told_of (Finished c) count e = sym e
      told_of (Spent c) count e = sym e

pub small_block : (b : Rust.Option BlockLengths) (text : List ℕ) → lengths_told b ≡ lengths text → Small b
small_block Rust.None text e = tt
small_block (Rust.Some l) text e = let k = kept_lengths text l.before l.after (sym e) in (k.no_longer_after, k.small)

-- ---- many texts

pub record Kept (ts : List (List ℕ)) : Type 0 where
  pub all : length (accepted (map lengths ts)) + refused_blocks (map lengths ts) ≡ length ts
  pub no_longer : sum (afters (map lengths ts)) ≤ sum (befores (map lengths ts))
  pub small : sum (befores (map lengths ts)) ≤ 513000000 * length (accepted (map lengths ts))

pub kept : (ts : List (List ℕ)) → Kept ts
unfolding accepted refused_blocks
kept [] = record { all = refl; no_longer = omega arith; small = omega arith }
kept (t ∷ ts) = by (lengths t) refl (kept ts)
  where
    by : (o : Option (ℕ × ℕ)) → lengths t ≡ o → Kept ts → Kept (t ∷ ts)
    by none e k = record { all = rw e (omega (arith, k.all)); no_longer = rw e k.no_longer; small = rw e k.small }
    by (some (x, y)) e k =
        let l = kept_lengths t x y e in
        record { all = rw e (omega (arith, k.all)); no_longer = rw (e, sum_by-cons (λ n. n) x (befores (map lengths ts)), sum_by-cons (λ n. n) y (afters (map lengths ts))) (omega (arith, k.no_longer, l.no_longer_after)); small = rw (e, sum_by-cons (λ n. n) x (befores (map lengths ts))) (omega (arith, k.small, l.small)) }
