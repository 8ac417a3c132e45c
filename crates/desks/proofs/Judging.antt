-- Two lists judged at once, and what is then known of them. Assumes nothing.
use mathlib.Core.Path.{◌≡◌, refl, sym, ap, ap₂, ◌∙◌}
use mathlib.Core.Bool.{Bool, true, ◌&&◌, and-eq-true_iff}
use mathlib.Core.List.{List}
use Prim.Native.Nat.{ℕ, zero, suc}
use native.Mathlib.Omega.{arith}
use lib.Dec.{eqb}
use lib.ListN.{length}
use borrow.Author.Tests.{eqb-true, ne_eqb}
use Rattle.theory.specs.Tables.{Tables, Trip}
use Rattle.theory.specs.Refusals.{either, number, refusal, table_rules, known_stops, known_end, pair_list, stop_count, paired_rules}
use Rattle.theory.proofs.Refusals.{Passes, known, accepted, either_zero, either_assoc}
use Rattle.polishing.proofs.Judged.{paired_fine, pairs_fine}
use Rattle.desks.specs.Desks.{taken, Paired, Judgeable, BothTaken}

bad : (n : ℕ) (b : Bool) → eqb (suc n) 0 ≡ (eqb (suc n) 0 && b)
bad n b = rw (ne_eqb (suc n) 0 (λ e. omega (arith, e)))

-- What both lists share is judged once.
by_parts : (a b c d e b' e' : ℕ) →
    eqb (either (either a (either b (either c (either d e)))) (either b' e')) 0
    ≡ (eqb (either a (either b (either c (either d e)))) 0 && eqb (either a (either b' (either c (either d e')))) 0)
unfolding either
by_parts (suc a) b c d e b' e' = bad a _
by_parts zero (suc b) c d e b' e' = bad b _
by_parts zero zero (suc c) d e b' e' = bad c _
by_parts zero zero zero (suc d) e b' e' = bad d _
by_parts zero zero zero zero (suc e) b' e' = bad e _
by_parts zero zero zero zero zero b' e' = refl

module _ (T : Trip) (first second : List ℕ) where
  abbrev parts : List ℕ → ℕ
  parts list =
      either (refusal (table_rules T.tables))
      (either (number (known_stops T.tables.locations T.depot list))
      (either (number (known_end T.tables.locations T.end))
      (either (number (pair_list T.tables.locations T.pairs)) (number (stop_count (length list))))))

  in_parts : (list : List ℕ) → parts list ≡ refusal (paired_rules T list)
  unfolding refusal
  in_parts list = simp (either_assoc, either_zero)

  pub both_judged : (bad_first bad_stops bad_n : ℕ) → bad_first ≡ refusal (paired_rules T first) → bad_stops ≡ number (known_stops T.tables.locations T.depot second) →
      bad_n ≡ number (stop_count (length second)) → eqb (either bad_first (either bad_stops bad_n)) 0 ≡ (taken T first && taken T second)
  both_judged bad_first bad_stops bad_n p q r =
      ap (λ n. eqb n 0) (ap₂ either (p ∙ sym (in_parts first)) (ap₂ either q r))
      ∙ by_parts _ _ _ _ _ _ _
      ∙ ap₂ (λ m n. eqb m 0 && eqb n 0) (in_parts first) (in_parts second)

  passes : (list : List ℕ) → taken T list ≡ true → Passes (paired_rules T list)
  unfolding known
  passes list e = accepted (paired_rules T list) refl (eqb-true (refusal (paired_rules T list)) 0 e)

  pub both_fine : (both : Bool) → both ≡ (taken T first && taken T second) → both ≡ true → BothTaken T first second
  both_fine both is e =
      let b = (and-eq-true_iff (taken T first) (taken T second)).0 (sym is ∙ e) in
      let p = passes first b.0 in
      let t = paired_fine T first p in
      record { one = t; other = paired_fine T second (passes second b.1); fillable = pairs_fine T.tables.locations T.pairs t.measurable.table.few p.1.1.1.1.1.1.0 }

-- A stop is a location, and those are at most 1,024.
pub paired : (T : Tables) (depot : ℕ) (pairs list : List ℕ) → Judgeable T depot pairs list → Paired pairs list
paired T depot pairs list j =
    let f = j.clocked.followable in
    record { fillable = j.fillable; short = f.stops.short; known = λ i h. omega (arith, f.stops.known i h, f.table.few) }
