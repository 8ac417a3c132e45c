-- The rows of patterns, put one after the other. Assumes nothing.
use mathlib.Core.Path.{◌≡◌, ap, ◌∙◌}
use mathlib.Core.Bool.{true, false, cond}
use mathlib.Core.List.{List, [], ◌∷◌, ◌++◌}
use Prim.Native.Nat.{ℕ, zero, suc, ◌+◌, ◌-◌, ◌*◌, ◌≤◌, ◌<◌}
use native.Mathlib.Omega.{arith}
use native.Mathlib.Numerals.{add-one}
use borrow.Author.Count.{below_more}
use lib.Dec.{ltb}
use lib.ListN.{length, get_or, set, take, drop, length-set, length-append}
use lib.Seq.{slice, slice-cons, slice_empty, sets-eq, take_at, drop_at, take-set-le, length-take-le}
use Rattle.theory.specs.Moves.{Pattern}
use Rattle.theory.specs.Route.{reverses}
use Rattle.theory.proofs.Rows.{lent_row, lent_at, listed_for_k}
use Rattle.costs.specs.RouteCosts.{Middle}
use Rattle.costs.proofs.Orders.{pattern_middle}
use Rattle.scan_joints.specs.States.{state_of, states, row, pattern_row, StateRows}
use Rattle.scan_joints.proofs.Rows.{set_small}
use Rattle.scan_rows.specs.Rows.{MiddleOrder, RowPut, RowsFillable}

-- ---- a segment's state

pub reversed_state : (mask i : ℕ) → reverses mask i ≡ true → 1 ≤ i → 2 * i - 1 ≡ state_of mask i
unfolding state_of
reversed_state mask i e h = rw e (omega arith)

pub straight_state : (mask i : ℕ) → reverses mask i ≡ false → 1 ≤ i → 2 * i - 2 ≡ state_of mask i
unfolding state_of
straight_state mask i e h = rw e (omega arith)

-- ---- one row

-- The state at place p of an order's row.
abbrev pub state_at : ℕ → List ℕ → ℕ → ℕ → ℕ
state_at k order mask p = cond (ltb (p + 1) k) (state_of mask (get_or order (p + 1) 0)) 8

pub four_states : (k : ℕ) (order : List ℕ) (mask : ℕ) → 2 ≤ k → k ≤ 5 → k ≤ length order →
    state_at k order mask 0 ∷ state_at k order mask 1 ∷ state_at k order mask 2 ∷ state_at k order mask 3 ∷ [] ≡ states k order mask
unfolding states
four_states zero order mask h l n = absurd (omega arith)
four_states (suc zero) order mask h l n = absurd (omega arith)
four_states (suc (suc zero)) order mask h l n = rw (slice-cons 1 2 order 0 (omega arith) n, slice_empty 2 order)
four_states (suc (suc (suc zero))) order mask h l n = rw (slice-cons 1 3 order 0 (omega arith) n, slice-cons 2 3 order 0 (omega arith) n, slice_empty 3 order)
four_states (suc (suc (suc (suc zero)))) order mask h l n =
    rw (slice-cons 1 4 order 0 (omega arith) n, slice-cons 2 4 order 0 (omega arith) n, slice-cons 3 4 order 0 (omega arith) n, slice_empty 4 order)
four_states (suc (suc (suc (suc (suc zero))))) order mask h l n =
    rw (slice-cons 1 5 order 0 (omega arith) n, slice-cons 2 5 order 0 (omega arith) n, slice-cons 3 5 order 0 (omega arith) n, slice-cons 4 5 order 0 (omega arith) n, slice_empty 5 order)
four_states (suc (suc (suc (suc (suc (suc k)))))) order mask h l n = absurd (omega arith)

-- Four stores one after the other are the row.
abbrev pub put_four : List ℕ → ℕ → ℕ → ℕ → ℕ → ℕ → List ℕ
put_four rows at v₀ v₁ v₂ v₃ = set (set (set (set rows at v₀) (at + 1) v₁) (at + 2) v₂) (at + 3) v₃

slice_four : (rows : List ℕ) (at v₀ v₁ v₂ v₃ : ℕ) → at + 4 ≤ length rows → slice at (at + 4) (put_four rows at v₀ v₁ v₂ v₃) ≡ v₀ ∷ v₁ ∷ v₂ ∷ v₃ ∷ []
slice_four rows at v₀ v₁ v₂ v₃ h =
    let two : at + 2 ≡ suc (suc at) = omega arith in
    let three : at + 3 ≡ suc (suc (suc at)) = omega arith in
    let vs : List ℕ = v₀ ∷ v₁ ∷ v₂ ∷ v₃ ∷ [] in
    let front : length (take at rows) ≡ at = length-take-le at rows (omega arith) in
    let size : length (take at rows ++ vs) ≡ at + 4 = simp length-append (omega arith) in
    rw (add-one at, two, three, sets-eq vs rows at h, take_at (take at rows ++ vs) (drop (at + 4) rows) (at + 4) size) (drop_at (take at rows) vs at front)

earlier_row : (l : List ℕ) (x j v : ℕ) → 4 * x + 4 ≤ j → row (set l j v) x ≡ row l x
earlier_row l x j v h = ap (drop (4 * x)) (take-set-le (4 * x + 4) l j v h)

pub row_put : {k : ℕ} {order : List ℕ} {mask i : ℕ} {rows : List ℕ} {v₀ v₁ v₂ v₃ : ℕ} → MiddleOrder k order → i < 383 → length rows ≡ 1532 →
    (v₀ ≡ state_at k order mask 0) × (v₀ ≤ 8) → (v₁ ≡ state_at k order mask 1) × (v₁ ≤ 8) → (v₂ ≡ state_at k order mask 2) × (v₂ ≤ 8) →
    (v₃ ≡ state_at k order mask 3) × (v₃ ≤ 8) → RowPut k order mask i rows (put_four rows (4 * i) v₀ v₁ v₂ v₃)
row_put {k} {order} {mask} {i} {rows} {v₀} {v₁} {v₂} {v₃} s h n e₀ e₁ e₂ e₃ =
    let r₁ : List ℕ = set rows (4 * i) v₀ in
    let r₂ : List ℕ = set r₁ (4 * i + 1) v₁ in
    let r₃ : List ℕ = set r₂ (4 * i + 2) v₂ in
    record {
      places = simp length-set n;
      put = slice_four rows (4 * i) v₀ v₁ v₂ v₃ (omega arith)
          ∙ rw (e₀.0, e₁.0, e₂.0, e₃.0) (four_states k order mask s.least s.most s.middle.long);
      others = λ x l. earlier_row r₃ x (4 * i + 3) v₃ (omega arith) ∙ earlier_row r₂ x (4 * i + 2) v₂ (omega arith) ∙ earlier_row r₁ x (4 * i + 1) v₁ (omega arith) ∙ earlier_row rows x (4 * i) v₀ (omega arith);
      small = λ c l b.
          set_small r₃ (4 * i + 3) v₃ c 8 e₃.1
          (λ n₃. set_small r₂ (4 * i + 2) v₂ c 8 e₂.1 (λ n₂. set_small r₁ (4 * i + 1) v₁ c 8 e₁.1 (λ n₁. set_small rows (4 * i) v₀ c 8 e₀.1 (λ n₀. b (omega arith)))));
    }

-- ---- the rows of a list of patterns

module _ {k : ℕ} {orders masks rows₀ : List ℕ} (given : RowsFillable k orders masks rows₀) (i : ℕ) (h : i < length masks) where
  abbrev none : Pattern
  none = record { order = []; mask = 0 }

  pub row_segments : MiddleOrder k (lent_row k orders i)
  row_segments =
      let p = pattern_row k orders masks i in
      let m : Middle k p.order = pattern_middle k p.order p.mask given.least (listed_for_k k orders masks given.patterns i none h) in
      record { least = given.least; most = given.most; middle = rw (lent_at k orders masks i none h) at m }

  pub more_rows : {rows rows' : List ℕ} → StateRows k orders masks i rows → RowPut k (lent_row k orders i) (get_or masks i 0) i rows rows' → StateRows k orders masks (i + 1) rows'
  more_rows {rows} {rows'} w p =
      record {
        places = p.places;
        each = below_more (λ x. row rows' x ≡ states k (pattern_row k orders masks x).order (pattern_row k orders masks x).mask) i (λ x l. p.others x l ∙ w.each x l)
            (rw (lent_at k orders masks i none h) p.put);
        small = λ c l. p.small c l (λ b. w.small c b);
      }

pub no_rows : {k : ℕ} {orders masks rows : List ℕ} → RowsFillable k orders masks rows → StateRows k orders masks 0 rows
no_rows given = record { places = given.places; each = λ i h. absurd (omega arith); small = λ c h. absurd (omega arith) }
