-- Checks in a row: the first refusal is that of the rules. Assumes nothing.
use Rattle.std.proofs.Common.{◌≡◌, ℕ, zero, suc, List, refl, sym, ap, ◌∙◌, arith}
use Rattle.theory.specs.declared.Refusal.{Refusal}
use Rattle.theory.specs.declared.Refusal.TheVariants as R
use Rattle.theory.specs.Tables.{Tables, tables}
use Rattle.theory.specs.Refusals.{either, refusal, number, leg_table, deadline_list, leg_sizes, service_list, table_rules}
use Rattle.theory.proofs.Refusals.{either_assoc, either_zero}
use Rattle.theory.specs.Numbers.{refusal_number}
use Rattle.theory.specs.Answers.{reply, refused}

-- A refusal has a number.
pub some : (e : Refusal) → refusal_number e ≡ 0 → ⊥
some e h = elim e as (λ e. refusal_number e ≡ 0 → ⊥) [
  | R.TextForm ↦ λ h. omega (arith, h)
  | R.CutCount ↦ λ h. omega (arith, h)
  | R.RowCount ↦ λ h. omega (arith, h)
  | R.RowShape ↦ λ h. omega (arith, h)
  | R.RowRepeated ↦ λ h. omega (arith, h)
  | R.TableSize ↦ λ h. omega (arith, h)
  | R.LongLeg ↦ λ h. omega (arith, h)
  | R.ServiceList ↦ λ h. omega (arith, h)
  | R.UnknownStop ↦ λ h. omega (arith, h)
  | R.UnknownEnd ↦ λ h. omega (arith, h)
  | R.Pairs ↦ λ h. omega (arith, h)
  | R.RoundSize ↦ λ h. omega (arith, h)
  | R.PatternIndex ↦ λ h. omega (arith, h)
  | R.Cuts ↦ λ h. omega (arith, h)
  | R.OtherRound ↦ λ h. omega (arith, h)
  | R.NearbyInput ↦ λ h. omega (arith, h)
  | R.MoveRounds ↦ λ h. omega (arith, h)
  | R.TextBounds ↦ λ h. omega (arith, h)
  | R.Room ↦ λ h. omega (arith, h)
  | R.JournalLength ↦ λ h. omega (arith, h)
] h

either_some : (n rest : ℕ) → (n ≡ 0 → ⊥) → n ≡ either n rest
unfolding either
either_some zero rest h = absurd (h refl)
either_some (suc n) rest h = refl

pub stops : (e : Refusal) (n rest : ℕ) → refusal_number e ≡ n → refusal_number e ≡ either n rest
stops e n rest h = either_some (refusal_number e) rest (some e) ∙ ap (λ m. either m rest) h

pub passes : (x n rest : ℕ) → 0 ≡ n → x ≡ rest → x ≡ either n rest
unfolding either
passes x n rest h k = k ∙ ap (λ m. either m rest) h

pub last : (x n : ℕ) → x ≡ n → x ≡ either n 0
unfolding either
last zero n h = h ∙ by n (sym h)
  where
    by : (n : ℕ) → n ≡ 0 → n ≡ either n 0
    by zero e = refl
    by (suc n) e = refl
last (suc x) n h = ap (λ m. either m 0) h

-- The rules of the tables, and then the others.
pub tables_then : (T : Tables) (rest : ℕ) →
    either (refusal (table_rules T)) rest
    ≡ either (number (leg_table T.locations T.legs)) (either (number (deadline_list T.locations T.latest)) (either (number (leg_sizes T.legs)) (either (number (service_list T.locations T.service)) rest)))
unfolding refusal
tables_then T rest = simp (either_assoc, either_zero)

pub stops_tables : (e : Refusal) (locations : ℕ) (legs latest service : List ℕ) (rest : ℕ) → refusal_number e ≡ refusal (table_rules (tables locations legs latest service)) →
    refusal_number e
    ≡ either (number (leg_table locations legs)) (either (number (deadline_list locations latest)) (either (number (leg_sizes legs)) (either (number (service_list locations service)) rest)))
stops_tables e locations legs latest service rest h = stops e _ rest h ∙ tables_then (tables locations legs latest service) rest

pub passes_tables : (x : ℕ) (locations : ℕ) (legs latest service : List ℕ) (rest : ℕ) → 0 ≡ refusal (table_rules (tables locations legs latest service)) → x ≡ rest →
    x
    ≡ either (number (leg_table locations legs)) (either (number (deadline_list locations latest)) (either (number (leg_sizes legs)) (either (number (service_list locations service)) rest)))
passes_tables x locations legs latest service rest h k = passes x _ rest h k ∙ tables_then (tables locations legs latest service) rest

pub ruleset judging = (stops, passes, last, stops_tables, passes_tables)

-- ---- what a call hands back

refused_reply : {A : Type 0} (n : ℕ) (values : List A) → (n ≡ 0 → ⊥) → refused n ≡ reply n values
refused_reply zero values h = absurd (h refl)
refused_reply (suc n) values h = refl

pub err_reply : {A : Type 0} (e : Refusal) (n : ℕ) (values : List A) → refusal_number e ≡ n → refused (refusal_number e) ≡ reply n values
err_reply e n values h = rw (← h) (refused_reply (refusal_number e) values (some e))

pub ok_reply : {A : Type 0} (n : ℕ) (values : List A) → 0 ≡ n → reply 0 values ≡ reply n values
ok_reply n values h = rw (← h)

pub ruleset replying = (err_reply, ok_reply)
