-- The places of rows, put one after the other, and the cells there added up. Assumes nothing.
use mathlib.Core.Path.{◌≡◌, ◌∙◌}
use mathlib.Core.List.{List}
use Prim.Native.Nat.{ℕ, zero, suc, ◌+◌, ◌*◌, ◌/◌, ◌%◌, ◌≤◌, ◌<◌}
use native.Mathlib.Omega.{arith}
use native.Mathlib.Nat.{add-zero}
use borrow.Author.Count.{below_more}
use lib.ListN.{length, get_or, set, length-set}
use lib.Seq.{get_or-set_same, get_or-set_other}
use Rattle.scan_joints.specs.States.{row}
use Rattle.scan_joints.specs.JointTable.{chain}
use Rattle.scan_joints.proofs.Rows.{row_read}
use Rattle.scan_chains.specs.Chains.{RowChained, Chained, ChainPuttable, ChainPut, ChainsFillable, cost}

-- ---- one row

-- Five stores one after the other.
abbrev pub put_five : List ℕ → ℕ → ℕ → ℕ → ℕ → ℕ → ℕ → List ℕ
put_five l at v₀ v₁ v₂ v₃ v₄ = set (set (set (set (set l at v₀) (at + 1) v₁) (at + 2) v₂) (at + 3) v₃) (at + 4) v₄

module _ (l : List ℕ) (at v₀ v₁ v₂ v₃ v₄ : ℕ) where
  abbrev l₁ : List ℕ
  l₁ = set l at v₀

  abbrev l₂ : List ℕ
  l₂ = set l₁ (at + 1) v₁

  abbrev l₃ : List ℕ
  l₃ = set l₂ (at + 2) v₂

  abbrev l₄ : List ℕ
  l₄ = set l₃ (at + 3) v₃

  five_long : length (put_five l at v₀ v₁ v₂ v₃ v₄) ≡ length l
  five_long = simp length-set

  five_before : (c : ℕ) → c < at → get_or (put_five l at v₀ v₁ v₂ v₃ v₄) c 0 ≡ get_or l c 0
  five_before c h =
      get_or-set_other l₄ (at + 4) c v₄ 0 (λ q. omega arith)
      ∙ get_or-set_other l₃ (at + 3) c v₃ 0 (λ q. omega arith)
      ∙ get_or-set_other l₂ (at + 2) c v₂ 0 (λ q. omega arith)
      ∙ get_or-set_other l₁ (at + 1) c v₁ 0 (λ q. omega arith)
      ∙ get_or-set_other l at c v₀ 0 (λ q. omega arith)

  module _ (h : at + 4 < length l) where
    five_first : get_or (put_five l at v₀ v₁ v₂ v₃ v₄) at 0 ≡ v₀
    five_first =
        get_or-set_other l₄ (at + 4) at v₄ 0 (λ q. omega arith)
        ∙ get_or-set_other l₃ (at + 3) at v₃ 0 (λ q. omega arith)
        ∙ get_or-set_other l₂ (at + 2) at v₂ 0 (λ q. omega arith)
        ∙ get_or-set_other l₁ (at + 1) at v₁ 0 (λ q. omega arith)
        ∙ get_or-set_same l at v₀ 0 (omega arith)

    five_second : get_or (put_five l at v₀ v₁ v₂ v₃ v₄) (at + 1) 0 ≡ v₁
    five_second =
        get_or-set_other l₄ (at + 4) (at + 1) v₄ 0 (λ q. omega arith)
        ∙ get_or-set_other l₃ (at + 3) (at + 1) v₃ 0 (λ q. omega arith)
        ∙ get_or-set_other l₂ (at + 2) (at + 1) v₂ 0 (λ q. omega arith)
        ∙ get_or-set_same l₁ (at + 1) v₁ 0 (simp length-set (omega arith))

    five_third : get_or (put_five l at v₀ v₁ v₂ v₃ v₄) (at + 2) 0 ≡ v₂
    five_third =
        get_or-set_other l₄ (at + 4) (at + 2) v₄ 0 (λ q. omega arith)
        ∙ get_or-set_other l₃ (at + 3) (at + 2) v₃ 0 (λ q. omega arith)
        ∙ get_or-set_same l₂ (at + 2) v₂ 0 (simp length-set (omega arith))

    five_fourth : get_or (put_five l at v₀ v₁ v₂ v₃ v₄) (at + 3) 0 ≡ v₃
    five_fourth =
        get_or-set_other l₄ (at + 4) (at + 3) v₄ 0 (λ q. omega arith)
        ∙ get_or-set_same l₃ (at + 3) v₃ 0 (simp length-set (omega arith))

    five_fifth : get_or (put_five l at v₀ v₁ v₂ v₃ v₄) (at + 4) 0 ≡ v₄
    five_fifth = get_or-set_same l₄ (at + 4) v₄ 0 (simp length-set (omega arith))

pub row_put : {rows : List ℕ} {i : ℕ} {chains : List ℕ} → ChainPuttable rows i chains →
    ChainPut rows i chains
    (put_five chains (5 * i) (144 + get_or rows (4 * i) 0) (16 * get_or rows (4 * i) 0 + get_or rows (4 * i + 1) 0) (16 * get_or rows (4 * i + 1) 0 + get_or rows (4 * i + 2) 0)
    (16 * get_or rows (4 * i + 2) 0 + get_or rows (4 * i + 3) 0) (16 * get_or rows (4 * i + 3) 0 + 8))
row_put {rows} {i} {chains} given =
    let h : 5 * i + 4 < length chains = omega arith in
    record {
      places = five_long chains (5 * i) _ _ _ _ _ ∙ given.room;
      put = record {
        first = five_first chains (5 * i) _ _ _ _ _ h;
        second = five_second chains (5 * i) _ _ _ _ _ h;
        third = five_third chains (5 * i) _ _ _ _ _ h;
        fourth = five_fourth chains (5 * i) _ _ _ _ _ h;
        fifth = five_fifth chains (5 * i) _ _ _ _ _ h;
      };
      others = five_before chains (5 * i) _ _ _ _ _;
    }

-- ---- row by row

pub no_chains : {rows : List ℕ} {count : ℕ} {chains : List ℕ} → ChainsFillable rows count chains → Chained rows 0 chains
no_chains given = record { places = given.room; each = λ i h. absurd (omega arith) }

-- A row whose places were not written.
row_kept : {rows before after : List ℕ} {x i : ℕ} → x < i → RowChained rows before x → ((c : ℕ) → c < 5 * i → get_or after c 0 ≡ get_or before c 0) → RowChained rows after x
row_kept {x = x} h r k =
    record {
      first = k (5 * x) (omega arith) ∙ r.first;
      second = k (5 * x + 1) (omega arith) ∙ r.second;
      third = k (5 * x + 2) (omega arith) ∙ r.third;
      fourth = k (5 * x + 3) (omega arith) ∙ r.fourth;
      fifth = k (5 * x + 4) (omega arith) ∙ r.fifth;
    }

pub more_chains : {rows : List ℕ} {i : ℕ} {before after : List ℕ} → Chained rows i before → ChainPut rows i before after → Chained rows (i + 1) after
more_chains {rows} {i} {before} {after} w p =
    record { places = p.places; each = below_more (λ x. RowChained rows after x) i (λ x l. row_kept l (w.each x l) p.others) p.put }

-- ---- what the places are

-- A place within row i.
row_known : {rows chains : List ℕ} {i : ℕ} → RowChained rows chains i → ((c : ℕ) → 4 * i ≤ c → c < 4 * i + 4 → get_or rows c 0 ≤ 8) → (x : ℕ) → x < 5 → get_or chains (5 * i + x) 0 < 160
row_known {i = i} r k zero h = rw (add-zero (5 * i)) (omega (arith, r.first, k (4 * i) (omega arith) (omega arith)))
row_known {i = i} r k (suc zero) h = omega (arith, r.second, k (4 * i) (omega arith) (omega arith), k (4 * i + 1) (omega arith) (omega arith))
row_known {i = i} r k (suc (suc zero)) h = omega (arith, r.third, k (4 * i + 1) (omega arith) (omega arith), k (4 * i + 2) (omega arith) (omega arith))
row_known {i = i} r k (suc (suc (suc zero))) h = omega (arith, r.fourth, k (4 * i + 2) (omega arith) (omega arith), k (4 * i + 3) (omega arith) (omega arith))
row_known {i = i} r k (suc (suc (suc (suc zero)))) h = omega (arith, r.fifth, k (4 * i + 3) (omega arith) (omega arith))
row_known r k (suc (suc (suc (suc (suc x))))) h = absurd (omega arith)

pub chained_known : {rows : List ℕ} {count : ℕ} {chains : List ℕ} → Chained rows count chains → ((c : ℕ) → c < 4 * count → get_or rows c 0 ≤ 8) → (c : ℕ) → c < 5 * count → get_or chains c 0 < 160
chained_known {rows} {count} {chains} w k c h =
    let at : 5 * (c / 5) + c % 5 ≡ c = omega arith in
    rw at at (row_known (w.each (c / 5) (omega arith)) (λ d l m. k d (omega arith)) (c % 5) (omega arith))

-- The five cells are the chain of the row's four states.
pub cost_is : (table : List ℕ) {rows chains : List ℕ} {i : ℕ} → RowChained rows chains i → length rows ≡ 1532 → i < 383 → cost table chains i ≡ chain table 9 (row rows i)
unfolding chain
cost_is table {rows} {chains} {i} r n h =
    rw (row_read rows (4 * i) (omega arith), r.first, r.second, r.third, r.fourth, r.fifth) (omega arith)
