-- The lateness from the last stop back to the first, and the longest head with it. Assumes nothing.
use mathlib.Core.Path.{◌≡◌, refl, sym, ◌∙◌}
use mathlib.Core.Logic.{◌⊎◌, inl, inr}
use mathlib.Core.List.{List}
use Prim.Native.Nat.{ℕ, suc, min, max, ◌-◌, ◌*◌, ◌≤◌, ◌<◌}
use native.Mathlib.Decide.{dec_lt, ℕ_discrete}
use native.Mathlib.Omega.{arith}
use lib.ListN.{length, get_or, set, length-set}
use lib.Seq.{get_or-set_same, get_or-set_other}
use Rattle.theory.specs.Route.{Clock, left}
use Rattle.deadlines.specs.Lateness.{late_by, lateness, TooLate, LatenessFilled}
use Rattle.deadlines.proofs.Lateness.{lateness_end, lateness_step}

-- The latest second of a stop from position c on.
pub record SoonestAt (C : Clock) (r : List ℕ) (c soonest : ℕ) : Type 0 where
  pub position : ℕ
  pub least : c ≤ position
  pub most : position < length r
  pub is : soonest ≡ C.until (get_or r position 0)

-- Back to position c.
pub record Back (C : Clock) (depot : ℕ) (r table : List ℕ) (c longest soonest most : ℕ) : Type 0 where
  pub places : length table ≡ 513
  pub most_is : most ≡ lateness C depot r c
  pub few : most ≤ 1025 * 1000000
  pub each : (j : ℕ) → c ≤ j → j ≤ length r → get_or table j 0 ≡ lateness C depot r j
  pub soon : (j : ℕ) → c ≤ j → j < length r → soonest ≤ C.until (get_or r j 0)
  pub whose : (soonest ≡ 4295967295) ⊎ SoonestAt C r c soonest
  pub within : longest ≤ length r
  pub from : c ≤ longest
  pub in_time : (i j : ℕ) → c ≤ i → i < longest → i ≤ j → j < length r → left C depot r i ≤ C.until (get_or r j 0)
  pub beyond : longest < length r → TooLate C depot r longest

pub back_at_end : (C : Clock) (depot : ℕ) (r table : List ℕ) → length table ≡ 513 → length r ≤ 512 → Back C depot r (set table (length r) 0) (length r) (length r) 4295967295 0
back_at_end C depot r table h k =
    record {
      places = simp length-set h;
      most_is = sym (lateness_end C depot r (length r) (omega arith));
      few = omega arith;
      each = λ j l m. let e : j ≡ length r = omega arith in rw e (get_or-set_same table (length r) 0 0 (omega arith) ∙ sym (lateness_end C depot r (length r) (omega arith)));
      soon = λ j l m. absurd (omega arith);
      whose = inl refl;
      within = omega arith;
      from = omega arith;
      in_time = λ i j l m. absurd (omega arith);
      beyond = λ l. absurd (omega arith);
    }

-- One stop more.
module _ (C : Clock) (depot : ℕ) (r table : List ℕ) (c c₀ longest soonest most reached deadline : ℕ) (back : Back C depot r table c₀ longest soonest most) (e : c₀ ≡ suc c) (n : c < length r)
    (short : length r ≤ 512) (at : reached ≡ left C depot r c) (early : reached ≤ 1025 * 1000000) (due : deadline ≡ C.until (get_or r c 0)) (small : deadline ≤ 4295967295) where
  abbrev most' : ℕ
  most' = max (reached - deadline) most

  abbrev soonest' : ℕ
  soonest' = min soonest deadline

  most_there : most' ≡ lateness C depot r c
  unfolding late_by
  most_there = rw (lateness_step C depot r c n, at, due, back.most_is, e)

  written : (j : ℕ) → c ≤ j → j ≤ length r → get_or (set table c most') j 0 ≡ lateness C depot r j
  written j l m = by (ℕ_discrete j c)
    where
      by : Dec (j ≡ c) → get_or (set table c most') j 0 ≡ lateness C depot r j
      by (yes q) = rw q (get_or-set_same table c most' 0 (omega (arith, back.places)) ∙ most_there)
      by (no q) = get_or-set_other table c j most' 0 q ∙ back.each j (omega arith) m

  sooner : (j : ℕ) → c ≤ j → j < length r → soonest' ≤ C.until (get_or r j 0)
  sooner j l m = by (ℕ_discrete j c)
    where
      by : Dec (j ≡ c) → soonest' ≤ C.until (get_or r j 0)
      by (yes q) = rw q (omega arith)
      by (no q) = omega (arith, back.soon j (omega arith) m)

  of_whom : (soonest' ≡ 4295967295) ⊎ SoonestAt C r c soonest'
  of_whom = by (dec_lt soonest deadline) back.whose
    where
      by : Dec (soonest < deadline) → (soonest ≡ 4295967295) ⊎ SoonestAt C r c₀ soonest → (soonest' ≡ 4295967295) ⊎ SoonestAt C r c soonest'
      by (yes l) (inl s) = absurd (omega arith)
      by (yes l) (inr s) = inr (record { position = s.position; least = omega (arith, s.least); most = s.most; is = omega (arith, s.is) })
      by (no q) s = inr (record { position = c; least = omega arith; most = n; is = omega arith })

  pub back_in_time : reached ≤ soonest' → Back C depot r (set table c most') c longest soonest' most'
  back_in_time l =
      record {
        places = simp length-set back.places;
        most_is = most_there;
        few = omega (arith, back.few);
        each = written;
        soon = sooner;
        whose = of_whom;
        within = back.within;
        from = omega (arith, back.from);
        in_time = λ i j h k m o. by i j h k m o (ℕ_discrete i c);
        beyond = back.beyond;
      }
    where
      by : (i j : ℕ) → c ≤ i → i < longest → i ≤ j → j < length r → Dec (i ≡ c) → left C depot r i ≤ C.until (get_or r j 0)
      by i j h k m o (yes q) = rw q (omega (arith, sooner j (omega arith) o))
      by i j h k m o (no q) = back.in_time i j (omega arith) k m o

  pub back_too_late : soonest' < reached → Back C depot r (set table c most') c c soonest' most'
  back_too_late l =
      record {
        places = simp length-set back.places;
        most_is = most_there;
        few = omega (arith, back.few);
        each = written;
        soon = sooner;
        whose = of_whom;
        within = omega arith;
        from = omega arith;
        in_time = λ i j h k. absurd (omega arith);
        beyond = λ _. by of_whom;
      }
    where
      by : (soonest' ≡ 4295967295) ⊎ SoonestAt C r c soonest' → TooLate C depot r c
      by (inl s) = absurd (omega arith)
      by (inr s) = record { position = s.position; least = s.least; most = s.most; missed = omega (arith, s.is) }

pub back_at_start : (C : Clock) (depot : ℕ) (r table : List ℕ) (c longest soonest most : ℕ) → c ≡ 0 → Back C depot r table c longest soonest most → LatenessFilled C depot r longest table
back_at_start C depot r table c longest soonest most e back =
    record {
      head = record { within = back.within; in_time = λ i j h. back.in_time i j (omega arith) h; beyond = back.beyond };
      tail = record { places = back.places; each = λ j. back.each j (omega arith) };
    }
