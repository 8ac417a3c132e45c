-- A row that is fine is a pattern for k cuts, and the other way round. Assumes nothing.
use mathlib.Core.Path.{◌≡◌, refl, sym, ap, ◌∙◌}
use mathlib.Core.Bool.{Bool, true, false, not, ◌&&◌, cond, false≢true}
use mathlib.Core.Logic.{⊎_elim}
use mathlib.Core.List.Memᴰ
use mathlib.Core.List.{List, [], ◌∷◌, ◌++◌, Memᴰ}
use Prim.Native.Nat.{ℕ, zero, suc, ◌-◌, ◌*◌, ◌/◌, ◌%◌, ◌^◌, ◌≤◌, ◌<◌}
use native.Mathlib.Nat.{pow-suc}
use native.Mathlib.Omega.{arith}
use native.Mathlib.Decide.{dec_lt}
use lib.Dec.{ltb, eqb}
use borrow.Author.Tests.{eqb-true, eq-eqb, ltb-true, lt-ltb, le-ltb, not-true}
use Rattle.theory.specs.Moves.{Pattern, upfrom, total}
use Rattle.theory.specs.Route.{count, every}
use Rattle.std.specs.List.{list_any}
use Rattle.theory.specs.Tables.{ForK}
use Rattle.theory.proofs.Moves.{total_append}
use Rattle.theory.proofs.Delta.{upfrom_snoc}
use Rattle.theory.proofs.Orders.{same_counts, mem_count, in_range}
use Rattle.theory.proofs.ForK.{for_k_order}
use Rattle.theory.proofs.Judged.{and_true, or_false}
use Rattle.pattern_lists.specs.Lists.{begins, ends, permutes, fine_order, fine_mask, fine_row}
use Rattle.pattern_lists.proofs.Counts.{count_within, count_beyond}

-- ---- tests over a list

pub none_listed : {A : Type 0} (t : A → Bool) (l : List A) → list_any t l ≡ false → (x : A) → Memᴰ x l → t x ≡ false
none_listed t [] e x i = absurd (Memᴰ.not-nil i)
none_listed t (y ∷ l) e x i = let p = or_false (t y) (list_any t l) e in ⊎_elim (λ h. rw h p.0) (λ j. none_listed t l p.1 x j) (Memᴰ.cases_cons i)

pub none_is : {A : Type 0} (t : A → Bool) (l : List A) → ((x : A) → Memᴰ x l → t x ≡ false) → list_any t l ≡ false
none_is t [] h = refl
none_is t (y ∷ l) h = rw (h y (Memᴰ.head refl)) (none_is t l (λ x i. h x (Memᴰ.tail i)))

every_at : (n : ℕ) (t : ℕ → Bool) → every n t ≡ true → (x : ℕ) → x < n → t x ≡ true
unfolding every
every_at zero t e x h = absurd (omega arith)
every_at (suc n) t e x h = let p = and_true (t n) (every n t) e in by p.0 (dec_lt x n) (λ l. every_at n t p.1 x l)
  where
    by : t n ≡ true → Dec (x < n) → (x < n → t x ≡ true) → t x ≡ true
    by y (yes l) f = f l
    by y (no m) f = let e : x ≡ n = omega arith in rw e y

every_is : (n : ℕ) (t : ℕ → Bool) → ((x : ℕ) → x < n → t x ≡ true) → every n t ≡ true
unfolding every
every_is zero t h = refl
every_is (suc n) t h = rw (h n (omega arith)) (every_is n t (λ x l. h x (omega arith)))

-- ---- a fine row is a pattern for k cuts

-- What ends with k is something, and then k.
before_last : (k x : ℕ) (l : List ℕ) → ends k (x ∷ l) ≡ true → (m : List ℕ) × (x ∷ l ≡ m ++ (k ∷ []))
unfolding ends
before_last k x [] e = ([], ap (λ y. y ∷ []) (eqb-true x k e))
before_last k x (y ∷ l) e = let r = before_last k y l e in (x ∷ r.0, ap (λ z. x ∷ z) r.1)

-- ".. with 0 first and k last."
between : (k : ℕ) (order : List ℕ) → 1 ≤ k → begins 0 order ≡ true → ends k order ≡ true → (m : List ℕ) × (order ≡ 0 ∷ (m ++ (k ∷ [])))
unfolding begins ends
between k [] h b e = absurd (false≢true b)
between k (x ∷ []) h b e = absurd (omega (arith, eqb-true x 0 b, eqb-true x k e))
between k (x ∷ y ∷ l) h b e = let r = before_last k y l e in let z = eqb-true x 0 b in (r.0, rw z (ap (λ n. 0 ∷ n) r.1))

module _ (k : ℕ) (order : List ℕ) (one : 1 ≤ k) (p : permutes k order ≡ true) where
  parts : (every (suc k) (λ x. eqb (count x order) 1) ≡ true) × (not (list_any (λ x. ltb k x) order) ≡ true)
  unfolding permutes
  parts = and_true (every (suc k) (λ x. eqb (count x order) 1)) (not (list_any (λ x. ltb k x) order)) p

  beyond : (x : ℕ) → k < x → count x order ≡ 0
  beyond x h = by (count x order) refl
    where
      by : (n : ℕ) → count x order ≡ n → count x order ≡ 0
      by zero e = e
      by (suc n) e =
          absurd (false≢true (sym (none_listed (λ y. ltb k y) order (not-true (list_any (λ y. ltb k y) order) parts.1) x (mem_count x order (omega (arith, e)))) ∙ lt-ltb k x h))

  counted : (x : ℕ) → count x order ≡ count x (upfrom 0 (suc k))
  counted x = by (dec_lt k x)
    where
      by : Dec (k < x) → count x order ≡ count x (upfrom 0 (suc k))
      by (yes h) = beyond x h ∙ sym (count_beyond x 0 (suc k) (omega arith))
      by (no n) = eqb-true (count x order) 1 (every_at (suc k) (λ y. eqb (count y order) 1) parts.0 x (omega arith)) ∙ sym (count_within x 0 (suc k) (omega arith) (omega arith))

  once : (m : List ℕ) → order ≡ 0 ∷ (m ++ (k ∷ [])) → (g : ℕ → ℕ) → total g m ≡ total g (upfrom 1 (k - 1))
  unfolding total upfrom
  once m is g =
      let e : suc (k - 1) ≡ k = omega arith in
      omega (
        arith,
        same_counts order (upfrom 0 (suc k)) counted g,
        ap (total g) is,
        total_append g m (k ∷ []),
        ap (total g) (upfrom_snoc 1 (k - 1) k (omega arith)),
        total_append g (upfrom 1 (k - 1)) (k ∷ []),
        ap (λ n. total g (upfrom 1 n)) e,
      )

double : (k : ℕ) → 1 ≤ k → 2 ^ k ≡ 2 * 2 ^ (k - 1)
double k h = let e : k ≡ suc (k - 1) = omega arith in ap (λ n. 2 ^ n) e ∙ omega (arith, pow-suc 2 (k - 1))

pub fine_for_k : (k : ℕ) (p : Pattern) → 1 ≤ k → fine_row k p ≡ true → ForK k p.order p.mask
unfolding fine_row fine_order fine_mask
fine_for_k k p h f =
    let r = and_true (fine_order k p.order) (fine_mask k p.mask) f in
    let o = and_true (begins 0 p.order) (ends k p.order && permutes k p.order) r.0 in
    let q = and_true (ends k p.order) (permutes k p.order) o.1 in
    let m = and_true (eqb (p.mask % 2) 0) (ltb p.mask (2 ^ k)) r.1 in
    let b = between k p.order h o.0 q.0 in
    let even = eqb-true (p.mask % 2) 0 m.0 in
    let low = ltb-true p.mask (2 ^ k) m.1 in
    record {
      middle = b.0;
      bits = p.mask / 2;
      order_is = b.1;
      once = once k p.order h q.1 b.0 b.1;
      mask_is = omega (arith, even);
      few = omega (arith, even, low, double k h);
    }

-- ---- and the other way round

ends_behind : (k : ℕ) (x : ℕ) (m : List ℕ) → ends k (x ∷ (m ++ (k ∷ []))) ≡ true
unfolding ends
ends_behind k x [] = eq-eqb k k refl
ends_behind k x (y ∷ m) = ends_behind k y m

pub for_k_fine : (k : ℕ) (p : Pattern) → 1 ≤ k → ForK k p.order p.mask → fine_row k p ≡ true
unfolding fine_row fine_order fine_mask permutes
for_k_fine k p h f =
    let sums = (for_k_order k p.order p.mask h f).once in
    let first : begins 0 p.order ≡ true = unfold begins in rw f.order_is in
    let last : ends k p.order ≡ true = rw f.order_is (ends_behind k 0 f.middle) in
    let each : every (suc k) (λ x. eqb (count x p.order) 1) ≡ true = every_is (suc k) (λ x. eqb (count x p.order) 1) (λ x l. eq-eqb (count x p.order) 1 (counts sums x ∙ count_within x 0 (suc k) (omega arith) (omega arith))) in
    let others : list_any (λ x. ltb k x) p.order ≡ false = none_is (λ x. ltb k x) p.order (λ x i. le-ltb k x (omega (arith, in_range p.order 0 (suc k) sums x i))) in
    rw (first, last, each, others, eq-eqb (p.mask % 2) 0 (omega (arith, f.mask_is)), lt-ltb p.mask (2 ^ k) (omega (arith, f.mask_is, f.few, double k h)))
  where
    counts : ((g : ℕ → ℕ) → total g p.order ≡ total g (upfrom 0 (suc k))) → (x : ℕ) → count x p.order ≡ count x (upfrom 0 (suc k))
    counts sums x = unfold count in sums (λ y. cond (eqb x y) 1 0)
