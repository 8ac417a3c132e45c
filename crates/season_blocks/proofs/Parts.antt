-- The places at which the blocks end, found one after the other. Assumes nothing.
use mathlib.Core.Path.{◌≡◌, refl, sym, ap, ◌∙◌}
use mathlib.Core.Bool.{Bool, true, false, cond}
use mathlib.Core.List.{List, [], ◌∷◌, ◌++◌, append-nil, append_assoc}
use Rattle.std.specs.Prelude as Rust
use Prim.Native.Nat.{ℕ, suc, ◌+◌, ◌-◌, ◌≤◌, ◌<◌}
use native.Mathlib.Omega.{arith}
use native.Mathlib.Numerals.{add-one}
use lib.Dec.{ltb}
use lib.ListN.{length, get_or, take, drop, set, length-drop, length-set}
use lib.Seq.{length-take-le, take-suc-set}
use borrow.Author.Tests.{lt-ltb, le-ltb, ltb-true, le-leb, lt-leb}
use Rattle.season_blocks.specs.Blocks.{blocks, block_size, parts, Ends, Parted}
use Rattle.season_blocks.proofs.Blocks.{later, later_from, first}

-- Where blocks that stand from a place on end.
unfoldable pub ends_from : ℕ → List (List ℕ) → List ℕ
ends_from from [] = []
ends_from from (b ∷ bs) = (from + length b) ∷ ends_from (from + length b + 5) bs

-- The block at a place, and the later ones.
pub block_at : (t : List ℕ) (from : ℕ) → from ≤ length t → let n = block_size (drop from t) in
    (from + n ≤ length t) × (from + n < length t → from + n + 5 ≤ length t) × (blocks (drop from t) ≡ take n (drop from t) ∷ later t (from + n))
block_at t from h =
    let f = first (drop from t) in
    let n = block_size (drop from t) in
    let l = length-drop from t in
    (omega (arith, f.within), λ k. omega (arith, f.room (omega arith)), f.is ∙ rw (later_from t from n h))

pub ends_at : (t : List ℕ) (from : ℕ) → from ≤ length t → let end = from + block_size (drop from t) in
    (ends_from from (blocks (drop from t)) ≡ end ∷ ends_from (end + 5) (later t end)) × (length (blocks (drop from t)) ≡ suc (length (later t end)))
unfolding ends_from
ends_at t from h =
    let b = block_at t from h in
    let n = block_size (drop from t) in
    let l : length (take n (drop from t)) ≡ n = length-take-le n (drop from t) (omega (arith, b.0, length-drop from t)) in
    rw b.2 (rw l, refl)

-- The blocks are the parts that end there.
part_of : (t x : List ℕ) (from n : ℕ) (es : List ℕ) (bs : List (List ℕ)) → length x ≡ n → x ≡ take n (drop from t) → from + n ≤ length t →
    (parts t (from + n + 5) es ≡ bs) × Ends t (from + n + 5) es → (parts t from ((from + length x) ∷ es) ≡ x ∷ bs) × Ends t from ((from + length x) ∷ es)
unfolding parts
part_of t x from n es bs l is w rest =
    let d : from + n - from ≡ n = omega arith in
    rw (l, d, ← is, rest.0) (refl, (omega arith, w, rest.1))

ends_part : (t : List ℕ) (bs : List (List ℕ)) (from : ℕ) → from ≤ length t → bs ≡ blocks (drop from t) → (parts t from (ends_from from bs) ≡ bs) × Ends t from (ends_from from bs)
unfolding ends_from parts
ends_part t [] from h e = (refl, tt)
ends_part t (x ∷ bs) from h e =
    let n = block_size (drop from t) in
    let b = block_at t from h in
    let is : x ≡ take n (drop from t) = ap (λ l. get_or l 0 []) (e ∙ b.2) in
    let later_is : bs ≡ later t (from + n) = ap (drop 1) (e ∙ b.2) in
    let l : length x ≡ n = ap length is ∙ length-take-le n (drop from t) (omega (arith, b.0, length-drop from t)) in
    part_of t x from n (ends_from (from + length x + 5) bs) bs l is b.0 (rw (← l) (by (ltb (from + n) (length t)) refl later_is (λ k i. rw l (ends_part t bs (from + n + 5) k i))))
  where
    by : (c : Bool) → ltb (from + block_size (drop from t)) (length t) ≡ c → bs ≡ cond c (blocks (drop (from + block_size (drop from t) + 5) t)) [] →
        ((from + block_size (drop from t) + 5 ≤ length t) → bs ≡ blocks (drop (from + block_size (drop from t) + 5) t) →
        (parts t (from + length x + 5) (ends_from (from + length x + 5) bs) ≡ bs) × Ends t (from + length x + 5) (ends_from (from + length x + 5) bs)) →
        (parts t (from + length x + 5) (ends_from (from + length x + 5) bs) ≡ bs) × Ends t (from + length x + 5) (ends_from (from + length x + 5) bs)
    by true i later_is ih = ih ((block_at t from h).1 (ltb-true (from + block_size (drop from t)) (length t) i)) later_is
    by false i later_is ih = rw later_is (refl, tt)

-- ---- found one after the other

-- So many ends are written, the last of them `end`; the later blocks are still to be found.
pub record Walk (t ends : List ℕ) (count end : ℕ) : Type 0 where
  pub places : length ends ≡ 64
  pub some_found : 1 ≤ count
  pub few_found : count ≤ 64
  pub within : end ≤ length t
  pub room : end < length t → end + 5 ≤ length t
  pub found : take count ends ++ ends_from (end + 5) (later t end) ≡ ends_from 0 (blocks t)
  pub left : count + length (later t end) ≡ length (blocks t)

pub walk_start : (t ends : List ℕ) (end : ℕ) → length ends ≡ 64 → end ≡ block_size t → Walk t (set ends 0 end) 1 end
walk_start t ends end l first_end =
    let is : end ≡ 0 + block_size (drop 0 t) = omega (arith, first_end) in
    let b = block_at t 0 (omega arith) in
    let e = ends_at t 0 (omega arith) in
    rw is (
    record {
      places = simp length-set l;
      some_found = omega arith;
      few_found = omega arith;
      within = b.0;
      room = b.1;
      found = rw (take-suc-set ends 0 (0 + block_size (drop 0 t)) (omega arith)) (sym e.0);
      left = omega (arith, e.1);
    }
    )

pub walk_next : {t ends : List ℕ} {count end : ℕ} (next : ℕ) → Walk t ends count end → end < length t → count < 64 → next ≡ end + 5 + block_size (drop (end + 5) t) →
    Walk t (set ends count next) (count + 1) next
walk_next {t} {ends} {count} {end} next w h k is =
    let from : end + 5 ≤ length t = w.room h in
    let b = block_at t (end + 5) from in
    let e = ends_at t (end + 5) from in
    let more : later t end ≡ blocks (drop (end + 5) t) = rw (lt-ltb end (length t) h) in
    rw is (
    record {
      places = simp length-set w.places;
      some_found = omega arith;
      few_found = omega arith;
      within = b.0;
      room = b.1;
      found = rw (add-one count, take-suc-set ends count (end + 5 + block_size (drop (end + 5) t)) (omega (arith, w.places))) (append_assoc (take count ends) (_ ∷ []) _ ∙ rw (← e.0, ← more) w.found);
      left = omega (arith, e.1, ap length more, w.left);
    }
    )

pub walk_ended : {t ends : List ℕ} {count end : ℕ} → Walk t ends count end → length t ≤ end → Parted t ends (Rust.Some count)
unfolding ends_from
walk_ended {t} {ends} {count} {end} w h =
    let none : later t end ≡ [] = rw (le-ltb end (length t) h) in
    let many : count ≡ length (blocks t) = omega (arith, ap length none, w.left) in
    let found : take count ends ≡ ends_from 0 (blocks t) = sym (append-nil (take count ends)) ∙ rw none at w.found in
    record { places = w.places; counted = rw (le-leb (length (blocks t)) 64 (omega (arith, w.few_found))) (ap Rust.Some many); parted = λ k. rw (← many, found) (ends_part t (blocks t) 0 (omega arith) refl) }

pub walk_full : {t ends : List ℕ} {count end : ℕ} → Walk t ends count end → end < length t → 64 ≤ count → Parted t ends Rust.None
walk_full {t} {ends} {count} {end} w h k =
    let more : later t end ≡ blocks (drop (end + 5) t) = rw (lt-ltb end (length t) h) in
    let many : 64 < length (blocks t) = omega (arith, (ends_at t (end + 5) (w.room h)).1, ap length more, w.left) in
    record { places = w.places; counted = rw (lt-leb (length (blocks t)) 64 many); parted = λ k. absurd (omega arith) }
