-- The open rows, put together row by row, and the patterns they are of. Assumes nothing.
use mathlib.Core.Path.{◌≡◌, refl, sym, ap, ◌∙◌}
use mathlib.Core.Bool.{Bool, true, false, cond, true≢false}
use mathlib.Core.Logic.{◌≢◌}
use mathlib.Core.List.{List, [], ◌∷◌, ◌++◌}
use Prim.Native.Nat.{ℕ, suc, ◌+◌, ◌*◌, ◌/◌, ◌%◌, ◌≤◌, ◌<◌}
use native.Mathlib.Omega.{arith}
use native.Mathlib.Numerals.{add-one}
use lib.Bits.{bit_and, and_zero_r}
use lib.ListN.{length, get_or, set, take, drop, length-append, length-set, length-map}
use lib.Seq.{slice, get_or-drop, get_or-take, take-set-le, length-take-le, sets-eq, take_at, drop_at}
use borrow.Author.Tests.{eq-eqb, ne_eqb}
use Rattle.theory.specs.Moves.{Pattern}
use Rattle.theory.proofs.Index.{get_or_map}
use Rattle.scan_joints.specs.States.{row, no_pattern, Patterned}
use Rattle.scan_joints.proofs.Rows.{row_read}
use Rattle.scan_shared.specs.Filling.{open_by}
use Rattle.scan_sifting.specs.Sifting.{opens, sifted_list, Sifted, OpenAsked, OneAsked, RowSiftable, RowSifted}
use Rattle.scan_sifting.proofs.Opens.{Next, old, new, next, next_length, opens_few, opens_below, opens_more, opens_prefix, all_opens}

-- ---- equal rows

row_at : (l : List ℕ) (j m : ℕ) → m < 4 → get_or (row l j) m 0 ≡ get_or l (4 * j + m) 0
row_at l j m h = get_or-drop (4 * j) _ m 0 ∙ get_or-take (4 * j + 4) l (4 * j + m) 0 (omega arith)

-- What every row holds, if each of them is a row of another list.
rows_small : (rows hand : List ℕ) (count n : ℕ) (f : ℕ → ℕ) → ((c : ℕ) → c < 4 * n → get_or rows c 0 ≤ 8) → ((j : ℕ) → j < count → f j < n) → ((j : ℕ) → j < count → row hand j ≡ row rows (f j)) →
    (c : ℕ) → c < 4 * count → get_or hand c 0 ≤ 8
rows_small rows hand count n f small below each c h =
    let split : c ≡ 4 * (c / 4) + c % 4 = omega arith in
    let l : c / 4 < count = omega arith in
    let k : c % 4 < 4 = omega arith in
    let same : get_or hand (4 * (c / 4) + c % 4) 0 ≡ get_or rows (4 * f (c / 4) + c % 4) 0 =
    sym (row_at hand (c / 4) (c % 4) k) ∙ ap (λ r. get_or r (c % 4) 0) (each (c / 4) l) ∙ row_at rows (f (c / 4)) (c % 4) k in
    let here : get_or hand c 0 ≡ get_or hand (4 * (c / 4) + c % 4) 0 = ap (λ x. get_or hand x 0) split in
    omega (arith, here, same, small (4 * f (c / 4) + c % 4) (omega (arith, below (c / 4) l, k)))

-- ---- one row more, or none

pub counted : (o : ℕ → Bool) (i count r : ℕ) → count ≡ length (opens o i) → r ≡ cond (o i) (count + 1) count → r ≡ length (opens o (i + 1))
counted o i count r e w = w ∙ rw e (sym (next_length o i))

pub none_counted : (o : ℕ → Bool) → 0 ≡ length (opens o 0)
unfolding opens
none_counted o = refl

-- No more rows are open than there are.
pub asked_at : {signs : List ℕ} {limit : ℕ} (o : ℕ → Bool) (i count : ℕ) → OpenAsked signs limit → i < limit → count ≡ length (opens o i) → OneAsked signs i count
asked_at o i count given h e = record { sign_places = given.sign_places; within = omega (arith, given.few); fewer = omega (arith, opens_few o i) }

module _ (signs : List ℕ) (blocked i : ℕ) where
  pub is_closed : (count : ℕ) → bit_and (get_or signs i 0) blocked ≢ 0 → count ≡ cond (open_by signs blocked i) (count + 1) count
  is_closed count n = rw (ne_eqb (bit_and (get_or signs i 0) blocked) 0 n)

  pub is_open : (count : ℕ) → bit_and (get_or signs i 0) blocked ≡ 0 → count + 1 ≡ cond (open_by signs blocked i) (count + 1) count
  is_open count e = rw (eq-eqb (bit_and (get_or signs i 0) blocked) 0 e)

-- ---- four bytes copied

abbrev pub put_four : List ℕ → ℕ → ℕ → ℕ → ℕ → ℕ → List ℕ
put_four l at v₀ v₁ v₂ v₃ = set (set (set (set l at v₀) (at + 1) v₁) (at + 2) v₂) (at + 3) v₃

four_put : (l : List ℕ) (at v₀ v₁ v₂ v₃ : ℕ) → at + 4 ≤ length l → slice at (at + 4) (put_four l at v₀ v₁ v₂ v₃) ≡ v₀ ∷ v₁ ∷ v₂ ∷ v₃ ∷ []
four_put l at v₀ v₁ v₂ v₃ h =
    let two : at + 2 ≡ suc (suc at) = omega arith in
    let three : at + 3 ≡ suc (suc (suc at)) = omega arith in
    let vs : List ℕ = v₀ ∷ v₁ ∷ v₂ ∷ v₃ ∷ [] in
    let front : length (take at l) ≡ at = length-take-le at l (omega arith) in
    let size : length (take at l ++ vs) ≡ at + 4 = simp length-append (omega arith) in
    rw (add-one at, two, three, sets-eq vs l at h, take_at (take at l ++ vs) (drop (at + 4) l) (at + 4) size) (drop_at (take at l) vs at front)

earlier_row : (l : List ℕ) (x j v : ℕ) → 4 * x + 4 ≤ j → row (set l j v) x ≡ row l x
earlier_row l x j v h = ap (drop (4 * x)) (take-set-le (4 * x + 4) l j v h)

module _ {rows : List ℕ} {i : ℕ} {signs : List ℕ} {count : ℕ} {hand : List ℕ} (given : RowSiftable rows i signs count hand) where
  pub row_closed : (blocked : ℕ) → bit_and (get_or signs i 0) blocked ≢ 0 → RowSifted (open_by signs blocked) rows i count hand hand count
  row_closed blocked n =
      record {
        is = is_closed signs blocked i count n;
        places = given.hand_places;
        put = λ t. absurd (true≢false (sym t ∙ ne_eqb (bit_and (get_or signs i 0) blocked) 0 n));
        others = λ j h. refl;
      }

  pub row_put : (blocked : ℕ) → bit_and (get_or signs i 0) blocked ≡ 0 →
      RowSifted (open_by signs blocked) rows i count hand (put_four hand (4 * count) (get_or rows (4 * i) 0) (get_or rows (4 * i + 1) 0) (get_or rows (4 * i + 2) 0) (get_or rows (4 * i + 3) 0)) (count + 1)
  row_put blocked e =
      let h₁ : List ℕ = set hand (4 * count) (get_or rows (4 * i) 0) in
      let h₂ : List ℕ = set h₁ (4 * count + 1) (get_or rows (4 * i + 1) 0) in
      let h₃ : List ℕ = set h₂ (4 * count + 2) (get_or rows (4 * i + 2) 0) in
      let n : length hand ≡ 1532 = given.hand_places in
      let room : 4 * count + 4 ≤ 1532 = omega (arith, given.asked.within, given.asked.fewer) in
      record {
        is = is_open signs blocked i count e;
        places = simp length-set n;
        put = λ t. four_put hand (4 * count) _ _ _ _ (omega arith) ∙ sym (row_read rows (4 * i) (omega (arith, given.places, given.asked.within)));
        others = λ j h.
            earlier_row h₃ j (4 * count + 3) _ (omega arith)
            ∙ earlier_row h₂ j (4 * count + 2) _ (omega arith)
            ∙ earlier_row h₁ j (4 * count + 1) _ (omega arith)
            ∙ earlier_row hand j (4 * count) _ (omega arith);
      }

-- ---- row by row

-- Rows at hand that are the open ones hold what those hold.
sifted : {o : ℕ → Bool} {rows : List ℕ} {count : ℕ} {hand : List ℕ} → length hand ≡ 1532 → ((j : ℕ) → j < length (opens o count) → row hand j ≡ row rows (get_or (opens o count) j 0)) → Sifted o rows count hand
sifted {o} {rows} {count} {hand} n each =
    record {
      places = n;
      small = λ s. rows_small rows hand (length (opens o count)) count (λ j. get_or (opens o count) j 0) s (opens_below o count) each;
      each = each;
    }

pub none_sifted : {o : ℕ → Bool} {rows hand : List ℕ} → length hand ≡ 1532 → Sifted o rows 0 hand
none_sifted {o} n = sifted n (λ j h. absurd (omega (arith, opens_few o 0)))

pub sifted_more : {o : ℕ → Bool} {rows : List ℕ} {i count : ℕ} {hand hand' : List ℕ} {r : ℕ} → count ≡ length (opens o i) → Sifted o rows i hand → RowSifted o rows i count hand hand' r → Sifted o rows (i + 1) hand'
sifted_more {o} {rows} {i} {count} {hand} {hand'} n w p =
    rw add-one (sifted p.places (λ j h. by j (next o i j h)))
  where
    by : (j : ℕ) → Next o i j → row hand' j ≡ row rows (get_or (opens o (suc i)) j 0)
    by j (old l e) = p.others j (omega arith) ∙ w.each j l ∙ ap (row rows) (sym e)
    by j (new t q e) =
        let here : j ≡ count = omega arith in
        rw (e, here) (p.put t)

-- ---- nothing is blocked

pub open_all : (signs : List ℕ) (i : ℕ) → open_by signs 0 i ≡ true
open_all signs i = eq-eqb (bit_and (get_or signs i 0) 0) 0 (and_zero_r (get_or signs i 0))

pub sifted_whole : (signs rows : List ℕ) (count : ℕ) → length rows ≡ 1532 → Sifted (open_by signs 0) rows count rows
sifted_whole signs rows count n =
    let all = all_opens (open_by signs 0) (open_all signs) count in
    sifted n (λ j h. ap (row rows) (sym (all.1 j (omega (arith, all.0)))))

-- ---- the patterns of the open rows

pub sifted_length : (ps : List Pattern) (ns : List ℕ) → length (sifted_list ps ns) ≡ length ns
unfolding sifted_list
sifted_length ps ns = length-map ns _

pub sifted_at : (ps : List Pattern) (ns : List ℕ) (j : ℕ) → j < length ns → get_or (sifted_list ps ns) j no_pattern ≡ get_or ps (get_or ns j 0) no_pattern
unfolding sifted_list
sifted_at ps ns j h = get_or_map (λ i. get_or ps i no_pattern) ns j 0 no_pattern h

pub sifted_patterned : {o : ℕ → Bool} {k : ℕ} {ps : List Pattern} {rows hand : List ℕ} {count limit : ℕ} → Sifted o rows count hand → limit ≤ count → count ≤ 383 → limit ≤ length ps →
    Patterned k ps rows → Patterned k (sifted_list ps (opens o limit)) hand
sifted_patterned {o} {k} {ps} {rows} {hand} {count} {limit} w h c l p =
    record {
      few = omega (arith, size, opens_few o limit);
      places = w.places;
      for_k = λ i b. rw (sifted_at ps (opens o limit) i (within i b)) (p.for_k _ (below i (within i b)));
      each = λ i b. rw (sifted_at ps (opens o limit) i (within i b)) (same i (within i b) ∙ p.each _ (below i (within i b)));
      small = rw size (rows_small rows hand (length (opens o limit)) (length ps) (λ j. get_or (opens o limit) j 0) p.small below same);
    }
  where
    size : length (sifted_list ps (opens o limit)) ≡ length (opens o limit)
    size = sifted_length ps (opens o limit)

    within : (i : ℕ) → i < length (sifted_list ps (opens o limit)) → i < length (opens o limit)
    within i b = omega (arith, size)

    below : (i : ℕ) → i < length (opens o limit) → get_or (opens o limit) i 0 < length ps
    below i b = omega (arith, opens_below o limit i b)

    same : (i : ℕ) → i < length (opens o limit) → row hand i ≡ row rows (get_or (opens o limit) i 0)
    same i b = w.each i (omega (arith, opens_more o limit count h)) ∙ ap (row rows) (opens_prefix o limit count i h b)
