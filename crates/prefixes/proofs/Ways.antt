-- One segment after the other: what is left of a way once its first segment is laid. Assumes nothing.
use mathlib.Core.Path.{◌≡◌, refl}
use mathlib.Core.Bool.{Bool, true, false, cond}
use mathlib.Core.List.{List, [], ◌∷◌, Memᴰ}
use Prim.Native.Nat.{ℕ, suc, ◌+◌, ◌-◌, ◌≤◌, ◌<◌}
use native.Mathlib.Omega.{arith}
use lib.Dec.{leb}
use lib.ListN.{length, get_or}
use borrow.Author.Tests.{le-leb, lt-leb, eq-eqb}
use Rattle.theory.specs.Moves.{Rising, total}
use Rattle.theory.specs.Route.{count}
use Rattle.theory.proofs.Cuts.{rising_below}
use Rattle.theory.proofs.Delta.{gap}
use Rattle.theory.proofs.Orders.{count_mem}
use Rattle.standing.specs.Places.{Has}
use Rattle.prefixes.specs.Ways.{size_of, known_size, Laid, Way, Marked}

module _ (n k : ℕ) (cs : List ℕ) (many : length cs ≡ k) (rising : Rising 0 cs n) (i : ℕ) (least : 1 ≤ i) (most : i < k) where
  pub middle_filled : get_or cs (i - 1) 0 < get_or cs i 0
  middle_filled = let e : suc (i - 1) ≡ i = omega arith in rw e at (gap n 0 cs (i - 1) rising (omega (arith, many)))

  pub middle_within : get_or cs i 0 ≤ n
  middle_within = rising_below n 0 cs i rising (omega (arith, many))

rest_apart : (i : ℕ) (o : List ℕ) → ((x : ℕ) → count x (i ∷ o) ≤ 1) → (x : ℕ) → count x o ≤ 1
unfolding count total
rest_apart i o h x = omega (arith, h x)

head_apart : (i : ℕ) (o : List ℕ) → ((x : ℕ) → count x (i ∷ o) ≤ 1) → (x : ℕ) → Memᴰ x o → x ≡ i → ⊥
unfolding count total
head_apart i o h x m e =
    let c = count_mem x o m in
    let d : 1 + count x o ≤ 1 = rw (eq-eqb x i e) at (h x) in
    omega arith

strange_less : (j i u : ℕ) (o : List ℕ) → total (λ i. cond (leb j i) 1 0) (i ∷ o) ≤ u → total (λ i. cond (leb j i) 1 0) o ≤ u
unfolding total
strange_less j i u o h = omega arith

strange_one : (j i u : ℕ) (o : List ℕ) → j ≤ i → total (λ i. cond (leb j i) 1 0) (i ∷ o) ≤ u → total (λ i. cond (leb j i) 1 0) o + 1 ≤ u
unfolding total
strange_one j i u o l h = let g = rw (le-leb j i l) at h in omega (arith, g)

-- ---- the known segments of a way

sizes_less : (j : ℕ) (cs : List ℕ) (i : ℕ) → known_size j cs i ≤ size_of cs i
sizes_less j cs i = by (leb j i)
  where
    by : (b : Bool) → cond b 0 (size_of cs i) ≤ size_of cs i
    by true = omega arith
    by false = omega arith

module _ (n : ℕ) (old wanted cs : List ℕ) where
  pub laid_far : (j y : ℕ) (o : List ℕ) (e : ℕ) → Laid n old wanted cs y o e → y + total (known_size j cs) o ≤ e
  unfolding total
  laid_far j y [] e l = omega (arith, l)
  laid_far j y (i ∷ o) e l = omega (arith, laid_far j (y + size_of cs i) o e l.2, sizes_less j cs i)

  pub laid_within : (y : ℕ) (o : List ℕ) (e : ℕ) → y ≤ n → Laid n old wanted cs y o e → e ≤ n
  laid_within y [] e h l = omega (arith, l)
  laid_within y (i ∷ o) e h l = laid_within (y + size_of cs i) o e l.1 l.2

  -- Where all are known, they come to the end.
  pub laid_known : (j y : ℕ) (o : List ℕ) (e : ℕ) → total (λ i. cond (leb j i) 1 0) o ≤ 0 → Laid n old wanted cs y o e → y + total (known_size j cs) o ≡ e
  unfolding total
  laid_known j y [] e h l = omega (arith, l)
  laid_known j y (i ∷ o) e h l = by (leb j i) refl (laid_known j (y + size_of cs i) o e)
    where
      by : (b : Bool) → leb j i ≡ b → (total (λ i. cond (leb j i) 1 0) o ≤ 0 → Laid n old wanted cs (y + size_of cs i) o e → y + size_of cs i + total (known_size j cs) o ≡ e) →
          y + (cond (leb j i) 0 (size_of cs i) + total (known_size j cs) o) ≡ e
      by true q later = absurd (omega (arith, rw q at h))
      by false q later = let r = later (omega (arith, h)) l.2 in rw q (omega (arith, r))

-- A way of known segments begins in the goal.
pub way_near : {n k j : ℕ} {old wanted cs : List ℕ} {used unknown left goal y : ℕ} (o : List ℕ) → Way n k j old wanted cs used unknown left goal y o → unknown ≡ 0 → Has goal y
way_near {n = n} {j = j} {old = old} {wanted = wanted} {cs = cs} {y = y} o w e = w.ends y (laid_known n old wanted cs j y o w.end (omega (arith, w.strange, e)) w.laid)

module _ {n k j : ℕ} {old wanted cs : List ℕ} {used unknown left goal y : ℕ} (i : ℕ) (o : List ℕ) (w : Way n k j old wanted cs used unknown left goal y (i ∷ o)) where
  -- A known segment is laid: it is used now, and the goal is farther on.
  pub way_known : (used' goal' : ℕ) → i < j → y ≤ n → Marked used i used' → ((g : ℕ) → Has goal g → g + size_of cs i ≤ n → Has goal' (g + size_of cs i)) →
      Way n k j old wanted cs used' unknown (left - 1) goal' (y + size_of cs i) o
  unfolding total
  way_known used' goal' known low marked moved =
      record {
        many = omega (arith, w.many);
        within = λ x m. w.within x (Memᴰ.tail m);
        apart = rest_apart i o w.apart;
        free = λ x m l. marked x (head_apart i o w.apart x m) (w.free x (Memᴰ.tail m) l);
        strange = strange_less j i unknown o w.strange;
        end = w.end;
        laid = w.laid.2;
        ends = λ g e.
            let t = total (known_size j cs) o in
            let far = laid_far n old wanted cs j (y + size_of cs i) o w.end w.laid.2 in
            let near = laid_within n old wanted cs (y + size_of cs i) o w.end w.laid.1 w.laid.2 in
            let before = g - size_of cs i in
            let back : before + size_of cs i ≡ g = omega (arith, e, far) in
            let same : known_size j cs i ≡ size_of cs i = rw (lt-leb j i known) refl in
            let all : before + (known_size j cs i + t) ≡ w.end = omega (arith, e, same, back) in
            rw back at (moved before (w.ends before all) (omega (arith, back, e, near)));
      }

  -- An unknown one is: there is one fewer.
  pub way_unknown : j ≤ i → Way n k j old wanted cs used (unknown - 1) (left - 1) goal (y + size_of cs i) o
  unfolding total
  way_unknown l =
      record {
        many = omega (arith, w.many);
        within = λ x m. w.within x (Memᴰ.tail m);
        apart = rest_apart i o w.apart;
        free = λ x m h. w.free x (Memᴰ.tail m) h;
        strange = omega (arith, strange_one j i unknown o l w.strange);
        end = w.end;
        laid = w.laid.2;
        ends = λ g e.
            let t = total (known_size j cs) o in
            let same : known_size j cs i ≡ 0 = rw (le-leb j i l) refl in
            let all : g + (known_size j cs i + t) ≡ w.end = omega (arith, e, same) in
            w.ends g all;
      }

  pub some_unknown : j ≤ i → 0 < unknown
  some_unknown l = omega (arith, strange_one j i unknown o l w.strange)
