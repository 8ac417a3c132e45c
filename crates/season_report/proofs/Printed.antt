-- The numbers of the blocks printed, and the inputs that are refused. Assumes nothing.
use mathlib.Core.Path.{◌≡◌, refl, sym, ap, ◌∙◌}
use mathlib.Core.Bool.{Bool, true, false, ◌||◌, cond}
use mathlib.Core.List.{List, [], ◌∷◌, map}
use Prim.Native.Nat.{ℕ, ◌≤◌, ◌<◌}
use native.Mathlib.Omega.{arith}
use lib.Dec.{leb, ltb}
use lib.ListN.{length, take, drop, length-append}
use lib.Seq.{take_at, length-take-le}
use borrow.Author.Tests.{lt-ltb, le-ltb, leb-true, leb-false}
use Rattle.theory.specs.Refusals.{either, rules_of, first_in, refusal}
use Rattle.text_polishing.specs.Outcome.{lengths}
use Rattle.text_printing.specs.Answer.{refusal_text, Printed}
use Rattle.std.specs.Prelude as Rust
use Rattle.season_blocks.specs.Blocks.{blocks, parts, Ends, Parted}
use Rattle.season_numbers.specs.Season.{middle_of}
use Rattle.season_numbers.specs.Adding.{Middling, Summed}
use Rattle.season_numbers.specs.declared.Sums.{Sums}
use Rattle.season_printing.specs.Lines.{season_text, sums_text, Printable}
use Rattle.season_report.specs.Report.{report, Room, Parts}
use Rattle.season_report.proofs.Kept.{kept}
use Rattle.season_report.proofs.Walk.{parts_length}

-- ---- the numbers printed

module _ (t ends : List ℕ) {s : Sums} {afters : List ℕ} (h : Summed (map lengths (parts t 0 ends)) s afters) where
  pub middling : length ends ≤ 64 → Middling afters s.rounds
  middling few = record { places = h.places; few = omega (arith, h.rounds, (kept (parts t 0 ends)).all, parts_length t 0 ends) }

  pub printable : {out : List ℕ} → 256 ≤ length out → Printable s out
  printable room = record { places = room; no_longer = rw (h.after, h.before) (kept (parts t 0 ends)).no_longer }

  pub text_is : (middle : ℕ) → middle ≡ middle_of (take s.rounds afters) → sums_text s middle ≡ season_text (map lengths (parts t 0 ends))
  text_is middle is = rw (is, h.order, h.rounds, h.refused, h.before, h.after, h.longest)

-- ---- the refusal

rule_30 : (b : Bool) → refusal ((30, b) ∷ []) ≡ cond b 30 0
unfolding refusal first_in rules_of either
rule_30 true = refl
rule_30 false = refl

or_true : (a b : Bool) → b ≡ true → (a || b) ≡ true
or_true true b e = refl
or_true false b e = e

or_false : (a b : Bool) → a ≡ false → b ≡ false → (a || b) ≡ false
or_false a b e f = rw (e, f)

refused_is : (t : List ℕ) → (ltb 60000 (length t) || ltb 64 (length (blocks t))) ≡ true → report t ≡ refusal_text 30
refused_is t e = rw (rule_30 (ltb 60000 (length t) || ltb 64 (length (blocks t))), e)

pub too_long : (t : List ℕ) → 60000 < length t → report t ≡ refusal_text 30
too_long t h = refused_is t (rw (lt-ltb 60000 (length t) h))

pub too_many : (t : List ℕ) → 64 < length (blocks t) → report t ≡ refusal_text 30
too_many t h = refused_is t (or_true (ltb 60000 (length t)) (ltb 64 (length (blocks t))) (lt-ltb 64 (length (blocks t)) h))

pub reported : (t : List ℕ) → length t ≤ 60000 → length (blocks t) ≤ 64 → report t ≡ season_text (map lengths (blocks t))
reported t h k =
    let e = or_false (ltb 60000 (length t)) (ltb 64 (length (blocks t))) (le-ltb 60000 (length t) h) (le-ltb 64 (length (blocks t)) k) in
    rw (rule_30 (ltb 60000 (length t) || ltb 64 (length (blocks t))), e)

module _ {t ends : List ℕ} {told : Rust.Option ℕ} (p : Parted t ends told) where
  abbrev n : ℕ
  n = length (blocks t)

  pub many_told : told ≡ Rust.None → report t ≡ refusal_text 30
  many_told is = too_many t (by (leb n 64) refl (sym p.counted ∙ is))
    where
      by : (b : Bool) → leb n 64 ≡ b → ◌≡◌ {A = Rust.Option ℕ} (cond b (Rust.Some n) Rust.None) Rust.None → 64 < n
      by true i e = absurd (cc)
      by false i e = leb-false n 64 i

  module _ {count : ℕ} (is : told ≡ Rust.Some count) where
    few_told : (n ≡ count) × (n ≤ 64)
    few_told = by (leb n 64) refl (sym p.counted ∙ is)
      where
        by : (b : Bool) → leb n 64 ≡ b → ◌≡◌ {A = Rust.Option ℕ} (cond b (Rust.Some n) Rust.None) (Rust.Some count) → (n ≡ count) × (n ≤ 64)
        by true i e = (cc, leb-true n 64 i)
        by false i e = absurd (cc)

    told_parts : (parts t 0 (take count ends) ≡ blocks t) × Ends t 0 (take count ends)
    told_parts = rw few_told.0 at (p.parted few_told.1)

    pub told_length : length (take count ends) ≡ count
    told_length = length-take-le count ends (omega (arith, p.places, few_told))

    pub parts_told : {out : List ℕ} → Room out → Parts t (take count ends) out
    parts_told room = record { in_text = told_parts.1; few = omega (arith, told_length, few_told); room = room }

    pub report_told : length t ≤ 60000 → report t ≡ season_text (map lengths (parts t 0 (take count ends)))
    report_told short = reported t short few_told.1 ∙ ap (λ (bs : List (List ℕ)). season_text (map lengths bs)) (sym told_parts.0)

-- What was printed stands in the first places.
pub shown : (t : List ℕ) {out out' : List ℕ} {n : ℕ} → Printed (report t) out out' n → (take n out' ≡ report t) × (n ≤ length out')
shown t {out} {out'} {n} p = (rw p.contents (take_at (report t) (drop n out) n (sym p.count)), rw p.contents (simp length-append (omega (arith, p.count))))
