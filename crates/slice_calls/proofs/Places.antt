-- A place in lent numbers, read and written. Assumes nothing.
use mathlib.Core.Path.{◌≡◌, refl, sym, ap, ◌∙◌}
use mathlib.Core.List.{List, [], ◌∷◌, ◌++◌}
use Prim.Native.Nat.{ℕ, zero, suc, min, ◌+◌, ◌≤◌, ◌<◌}
use native.Mathlib.Omega.{arith}
use native.Mathlib.Decide.{dec_lt}
use lib.ListN.{length, get_or, set, take, drop}
use lib.Seq.{take_all, take-suc, take-suc-set, drop-cons, set_at, length-take-le, get_or-take}
use Rattle.moves.proofs.Shown.{copied_more}

-- One more number read.
pub read_more : (place cuts : List ℕ) (i : ℕ) → i < length cuts → i < length place → take i cuts ≡ take i place → take (i + 1) (set cuts i (get_or place i 0)) ≡ take (i + 1) place
read_more place cuts i h l e =
    let s : i + 1 ≡ suc i = omega arith in
    rw s (take-suc-set cuts i (get_or place i 0) h ∙ ap (λ c. c ++ (get_or place i 0 ∷ [])) e ∙ sym (take-suc place i 0 l))

pub none_there : (l : List ℕ) (i : ℕ) → length l ≤ i → get_or l i 0 ≡ 0
none_there [] i h = refl
none_there (x ∷ l) zero h = absurd (omega arith)
none_there (x ∷ l) (suc i) h = none_there l i (omega arith)

-- The numbers that are there.
pub all_held : (k : ℕ) (place : List ℕ) → take (min k (length place)) place ≡ take k place
all_held k place = by (dec_lt (length place) k)
  where
    by : Dec (length place < k) → take (min k (length place)) place ≡ take k place
    by (yes h) =
        let e : min k (length place) ≡ length place = omega arith in
        rw e (take_all (length place) place (omega arith) ∙ sym (take_all k place (omega arith)))
    by (no h) =
        let e : min k (length place) ≡ k = omega arith in
        rw e

-- One more number written.
pub written_more : (k : ℕ) (cuts place : List ℕ) (i : ℕ) → i < k → k ≤ length cuts → k ≤ length place →
    set (take i (take k cuts) ++ drop i place) i (get_or cuts i 0) ≡ take (i + 1) (take k cuts) ++ drop (i + 1) place
written_more k cuts place i h l m =
    let t : length (take k cuts) ≡ k = length-take-le k cuts l in
    copied_more (take k cuts) place i (get_or cuts i 0) (omega (arith, t)) (omega (arith, t)) (get_or-take k cuts i 0 h)

pub index_put : (k : ℕ) (cuts place : List ℕ) (index : ℕ) → k ≤ length cuts → suc k ≤ length place →
    set (take k cuts ++ drop k place) k index ≡ take k cuts ++ (index ∷ drop (suc k) place)
index_put k cuts place index l m =
    ap (λ r. set (take k cuts ++ r) k index) (drop-cons place k 0 m) ∙ set_at (take k cuts) (get_or place k 0) (drop (suc k) place) index k (length-take-le k cuts l)
