-- What a list is that is not refused for its rows: patterns of document 01, none of them twice. Assumes nothing.
use mathlib.Core.Path.{◌≡◌, refl, sym, ap, ap₂, ◌∙◌}
use mathlib.Core.Bool.{Bool, true, false, not, false≢true}
use mathlib.Core.Logic.{◌↔◌, ⊎_elim}
use mathlib.Core.List.Memᴰ
use mathlib.Core.List.{List, [], ◌∷◌, ◌++◌, Memᴰ}
use Prim.Native.Nat.{ℕ, zero, suc, ◌-◌, ◌*◌, ◌≤◌}
use native.Mathlib.Omega.{arith}
use lib.Dec.{eqb}
use lib.ListN.{length}
use borrow.Author.Tests.{eqb-true, eq-eqb, le-ltb, not-false}
use Rattle.theory.specs.Moves.{Pattern, upfrom, patterns}
use Rattle.std.specs.List.{list_any}
use Rattle.theory.specs.Tables.{ForK, PatternRows, pattern_rows}
use Rattle.theory.proofs.Delta.{upfrom_snoc}
use Rattle.theory.proofs.Orders.{patterns_complete}
use Rattle.theory.proofs.Distinct.{Distinct, patterns_distinct}
use Rattle.theory.proofs.ForK.{pattern_for_k}
use Rattle.theory.proofs.Judged.{and_true, or_false}
use Rattle.pattern_lists.specs.Lists.{fine_row, same_order, same_row, unchanging, repeats, row_count, row_shapes, row_news, Counted}
use Rattle.pattern_lists.proofs.Fine.{none_listed, none_is, fine_for_k, for_k_fine}

-- ---- two rows

order_self : (a : List ℕ) → same_order a a ≡ true
unfolding same_order
order_self [] = refl
order_self (x ∷ a) = rw (eq-eqb x x refl) (order_self a)

row_self : (p : Pattern) → same_row p p ≡ true
unfolding same_row
row_self p = rw (eq-eqb p.mask p.mask refl) (order_self p.order)

order_same : (a b : List ℕ) → same_order a b ≡ true → a ≡ b
unfolding same_order
order_same [] [] e = refl
order_same [] (y ∷ b) e = absurd (false≢true e)
order_same (x ∷ a) [] e = absurd (false≢true e)
order_same (x ∷ a) (y ∷ b) e = let p = and_true (eqb x y) (same_order a b) e in ap₂ (λ z l. z ∷ l) (eqb-true x y p.0) (order_same a b p.1)

row_same : (p q : Pattern) → same_row p q ≡ true → p ≡ q
unfolding same_row
row_same p q e =
    let r = and_true (eqb p.mask q.mask) (same_order p.order q.order) e in
    ap₂ {C = Pattern} (λ o m. record { order = o; mask = m }) (order_same p.order q.order r.1) (eqb-true p.mask q.mask r.0)

other_row : (p q : Pattern) → (p ≡ q → ⊥) → same_row p q ≡ false
other_row p q n = by (same_row p q) refl
  where
    by : (b : Bool) → same_row p q ≡ b → same_row p q ≡ false
    by true e = absurd (n (row_same p q e))
    by false e = e

-- ---- no row twice

distinct_rows : (ps : List Pattern) → repeats ps ≡ false → Distinct ps
unfolding repeats
distinct_rows [] e = tt
distinct_rows (p ∷ ps) e =
    let q = or_false (list_any (same_row p) ps) (repeats ps) e in
    (λ i. false≢true (sym (none_listed (same_row p) ps q.0 p i) ∙ row_self p), distinct_rows ps q.1)

rows_distinct : (ps : List Pattern) → Distinct ps → repeats ps ≡ false
unfolding repeats
rows_distinct [] d = refl
rows_distinct (p ∷ ps) d =
    rw (none_is (same_row p) ps (λ q i. other_row p q (λ e. d.0 (Memᴰ.cast e i)))) (rows_distinct ps d.1)

-- ---- the law

module _ (m : ℕ) (rows : List Pattern) where
  abbrev k : ℕ
  k = suc m

  unchanging_is : unchanging k ≡ record { order = 0 ∷ (upfrom 1 m ++ (suc m ∷ [])); mask = 0 }
  unfolding upfrom
  unchanging_is = ap (λ l. record { order = 0 ∷ l; mask = 0 }) (sym (upfrom_snoc 1 m (suc m) (omega arith)))

  module _ (shapes : (row_shapes k rows).1 ≡ false) (news : (row_news k rows).1 ≡ false) where
    for_k : (p : Pattern) → Memᴰ p rows → ForK k p.order p.mask
    for_k p i = fine_for_k k p (omega arith) (not-false (fine_row k p) (none_listed (λ q. not (fine_row k q)) rows shapes p i))

    both : (list_any (same_row (unchanging k)) rows ≡ false) × (repeats rows ≡ false)
    both = or_false (list_any (same_row (unchanging k)) rows) (repeats rows) news

    changes : (p : Pattern) → Memᴰ p rows → unchanging k ≡ p → ⊥
    changes p i e = false≢true (sym (none_listed (same_row (unchanging k)) rows both.0 p i) ∙ rw (sym e) (row_self (unchanging k)))

    among : (p : Pattern) → Memᴰ p rows → Memᴰ p (patterns k)
    among p i =
        let f = for_k p i in
        let less : k - 1 ≡ m = omega arith in
        let is : p ≡ record { order = 0 ∷ (f.middle ++ (suc m ∷ [])); mask = 2 * f.bits } = ap₂ {C = Pattern} (λ o b. record { order = o; mask = b }) f.order_is f.mask_is in
        ⊎_elim
        (λ e. absurd (changes p i (unchanging_is ∙ sym e ∙ sym is)))
        (λ j. Memᴰ.cast is j)
        (patterns_complete m f.middle f.bits (λ g. rw less at (f.once g)) (rw less at f.few))

  module _ (among : (p : Pattern) → Memᴰ p rows → Memᴰ p (patterns k)) (distinct : Distinct rows) where
    shapes_fine : (row_shapes k rows).1 ≡ false
    shapes_fine = none_is (λ p. not (fine_row k p)) rows (λ p i. ap not (for_k_fine k p (omega arith) (pattern_for_k m p (among p i))))

    news_fine : (row_news k rows).1 ≡ false
    news_fine =
        rw (none_is (same_row (unchanging k)) rows (λ p i. other_row (unchanging k) p (λ e. (patterns_distinct m).1 (Memᴰ.cast (sym unchanging_is ∙ e) (among p i)))))
        (rows_distinct rows distinct)

-- THE LAW: 27 and 28 do not apply exactly where each row is a pattern of document 01 for k and none stands twice.
pub judged_exactly : (k : ℕ) (rows : List Pattern) → 1 ≤ k →
    (((row_shapes k rows).1 ≡ false) × ((row_news k rows).1 ≡ false)) ↔ (((p : Pattern) → Memᴰ p rows → Memᴰ p (patterns k)) × Distinct rows)
judged_exactly zero rows h = absurd (omega arith)
judged_exactly (suc m) rows h =
    (λ e. (among m rows e.0 e.1, distinct_rows rows (both m rows e.0 e.1).1), λ e. (shapes_fine m rows e.0 e.1, news_fine m rows e.0 e.1))

-- So a judged list is rows of patterns as polishing asks for them.
pub judged_rows : (k : ℕ) (orders masks : List ℕ) → Counted k orders masks → (row_shapes k (pattern_rows k orders masks)).1 ≡ false → PatternRows k orders masks
judged_rows k orders masks c e =
    record {
      few = c.few;
      long = c.long;
      each = λ p i. fine_for_k k p (omega (arith, c.least)) (not-false (fine_row k p) (none_listed (λ q. not (fine_row k q)) (pattern_rows k orders masks) e p i));
    }

-- ---- the list of all patterns

few_patterns : (k : ℕ) → 2 ≤ k → k ≤ 5 → (1 ≤ length (patterns k)) × (length (patterns k) ≤ 383)
unfolding patterns
few_patterns zero h l = absurd (omega arith)
few_patterns (suc zero) h l = absurd (omega arith)
few_patterns (suc (suc zero)) h l = (omega arith, omega arith)
few_patterns (suc (suc (suc zero))) h l = (omega arith, omega arith)
few_patterns (suc (suc (suc (suc zero)))) h l = (omega arith, omega arith)
few_patterns (suc (suc (suc (suc (suc zero))))) h l = (omega arith, omega arith)
few_patterns (suc (suc (suc (suc (suc (suc n)))))) h l = absurd (omega arith)

-- Is judged fine.
pub full_list : (k : ℕ) → 2 ≤ k → k ≤ 5 → ((row_count (length (patterns k))).1 ≡ false) × ((row_shapes k (patterns k)).1 ≡ false) × ((row_news k (patterns k)).1 ≡ false)
full_list zero h l = absurd (omega arith)
full_list (suc m) h l =
    let n = few_patterns (suc m) h l in
    let j = (judged_exactly (suc m) (patterns (suc m)) (omega arith)).1 (λ p i. i, (patterns_distinct m).0) in
    (rw (le-ltb (length (patterns (suc m))) 1 n.0, le-ltb 383 (length (patterns (suc m))) n.1), j.0, j.1)
