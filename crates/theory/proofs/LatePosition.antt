-- The lowest late position: none before it is late, and it is late or the number of stops; and only it is that. Assumes nothing.
use mathlib.Core.Path.{◌≡◌, refl, sym, ◌∙◌}
use mathlib.Core.Bool.{Bool, true, false, cond, true≢false}
use mathlib.Core.Logic.{◌↔◌}
use mathlib.Core.List.{List}
use Prim.Native.Nat.{ℕ, zero, suc, ◌+◌, ◌≤◌, ◌<◌}
use native.Mathlib.Decide.{dec_lt, ℕ_discrete}
use native.Mathlib.Omega.{arith}
use lib.ListN.{length, get_or}
use borrow.Author.Tests.{ltb-false, le-ltb}
use Rattle.theory.specs.Moves.{Pattern}
use Rattle.theory.specs.Route.{Problem, Timetable, timetable_of, arrival, late, Timely, first_where, late_position}
use Rattle.theory.specs.Answers.{Polishes, reply_of, counts_of}
use Rattle.theory.specs.declared.Polished.{Polished}
use Rattle.theory.specs.declared.Polished.TheVariants as Polishing

pub record FirstWhere (t : ℕ → Bool) (from n p : ℕ) : Type 0 where
  pub least : from ≤ p
  pub most : p ≤ from + n
  pub before : (j : ℕ) → from ≤ j → j < p → t j ≡ false
  pub there : p < from + n → t p ≡ true

first_is : (t : ℕ → Bool) (from n : ℕ) → FirstWhere t from n (first_where t from n)
unfolding first_where
first_is t from zero = record { least = omega arith; most = omega arith; before = λ j h l. absurd (omega arith); there = λ l. absurd (omega arith) }
first_is t from (suc n) = by (t from) refl (first_is t (suc from) n)
  where
    by : (b : Bool) → t from ≡ b → FirstWhere t (suc from) n (first_where t (suc from) n) → FirstWhere t from (suc n) (cond b from (first_where t (suc from) n))
    by true e f = record { least = omega arith; most = omega arith; before = λ j h l. absurd (omega arith); there = λ l. e }
    by false e f =
        record {
          least = omega (arith, f.least);
          most = omega (arith, f.most);
          before = λ j h l. at j h l (ℕ_discrete j from);
          there = λ l. f.there (omega arith);
        }
      where
        at : (j : ℕ) → from ≤ j → j < first_where t (suc from) n → Dec (j ≡ from) → t j ≡ false
        at j h l (yes q) = rw q e
        at j h l (no q) = f.before j (omega arith) l

-- Only one place is the first.
first_only : (t : ℕ → Bool) (from n p q : ℕ) → FirstWhere t from n p → FirstWhere t from n q → p ≡ q
first_only t from n p q f g = by (dec_lt p q) (dec_lt q p)
  where
    by : Dec (p < q) → Dec (q < p) → p ≡ q
    by (yes l) d = absurd (true≢false (sym (f.there (omega (arith, g.most))) ∙ g.before p f.least l))
    by (no m) (yes l) = absurd (true≢false (sym (g.there (omega (arith, f.most))) ∙ f.before q g.least l))
    by (no m) (no n) = omega arith

module _ (B : Timetable) (depot : ℕ) (r : List ℕ) where
  -- None before it is late, and it is late or the number of stops.
  pub late_position_is : FirstWhere (late B depot r) 0 (length r) (late_position B depot r)
  unfolding late_position
  late_position_is = first_is (late B depot r) 0 (length r)

  pub late_position_only : (p : ℕ) → FirstWhere (late B depot r) 0 (length r) p → p ≡ late_position B depot r
  late_position_only p f = first_only (late B depot r) 0 (length r) p (late_position B depot r) f late_position_is

  -- The number of stops exactly where every deadline is kept.
  pub late_position_none : (late_position B depot r ≡ length r) ↔ Timely B depot r
  unfolding late
  late_position_none = (
    λ e i h. ltb-false (B.latest (get_or r i 0)) (arrival B depot r i) (late_position_is.before i (omega arith) (omega arith)),
    λ k. sym (late_position_only (length r) (record {
      least = omega arith;
      most = omega arith;
      before = λ j h l. le-ltb (B.latest (get_or r j 0)) (arrival B depot r j) (k j l);
      there = λ l. absurd (omega arith);
    })),
  )

-- A late position is told only where nothing was accepted.
pub late_unchanged : (P : Problem) (ps : List Pattern) (k A : ℕ) (r : List ℕ) (answer : Polished) (r' : List ℕ) → Polishes P ps k A r answer r' →
    (counts_of answer).late < length r' → (reply_of answer r').accepted ≡ 0
late_unchanged P ps k A r answer r' p l = by (dec_lt 0 (reply_of answer r').accepted)
  where
    kept : 0 < (reply_of answer r').accepted → Timely (timetable_of P) P.depot (reply_of answer r').route
    kept h = (p.demand3.changed h).0.1

    same : (a : Polished) → (reply_of a r').route ≡ r'
    same (Polishing.Finished c) = refl
    same (Polishing.Spent c) = refl

    by : Dec (0 < (reply_of answer r').accepted) → (reply_of answer r').accepted ≡ 0
    by (yes h) = absurd (omega (arith, l, p.late, (late_position_none (timetable_of P) P.depot r').1 (rw (same answer) at (kept h))))
    by (no n) = omega arith
