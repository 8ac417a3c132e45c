-- What is kept of the first cuts, from the filled table and the least costs. Assumes nothing.
use mathlib.Core.Path.{◌≡◌, refl, sym, ap, ◌∙◌}
use mathlib.Core.Bool.{Bool, true, cond}
use mathlib.Core.Logic.{◌⊎◌, inl, inr}
use mathlib.Core.List.Memᴰ
use mathlib.Core.List.{List, [], ◌∷◌, ◌++◌, map, Memᴰ}
use Prim.Native.Nat.{ℕ, zero, suc, ◌+◌, ◌-◌, ◌*◌, ◌^◌, ◌≤◌, ◌<◌}
use native.Mathlib.Omega.{arith}
use native.Mathlib.Decide.{ℕ_discrete, dec_lt}
use borrow.Author.Tests.{eq-eqb, ne_eqb, lt-ltb}
use lib.Dec.{eqb}
use lib.ListN.{length, get_or, set, replicate, length-set, length-append, length-map, length-replicate}
use lib.Seq.{get_or-set_same, get_or-set_other, get_or-take, take_at, get_or_at}
use Rattle.theory.specs.Moves.{upfrom}
use Rattle.theory.specs.Route.{segments}
use Rattle.theory.specs.Costs.{last_of}
use Rattle.theory.specs.Tables.{legs_only}
use Rattle.theory.proofs.Moves.{length_upfrom, upfrom_range}
use Rattle.costs.specs.RouteCosts.{leg, head_end, first_cuts, last_cut}
use Rattle.costs.proofs.Segments.{cuts_parted, first_many}
use Rattle.scan_joints.specs.States.{state_count, state_of, standing_row, row, placed_in}
use Rattle.scan_joints.specs.JointTable.{cell, chain, Padded, Joinable, StateEnds}
use Rattle.scan_joints.proofs.States.{state_below}
use Rattle.scan_joints.proofs.Rows.{set_small, row_read}
use Rattle.scan_joints.proofs.Ends.{inside_is, inside_small, entry_known, exit_known, head_below}
use Rattle.scan_joints.proofs.Chain as Chain
use Rattle.scan_shared.specs.Bound.{chain_by, class, exit_of, fixed_by, opened, last_state}
use Rattle.scan_shared.specs.Prepared.{shared, RowsFit, Prepared, Opened}
use Rattle.scan_shared.specs.Filling.{fixed_cell, open_by, Blank, Fixable, FixedTable, OpenLow, Relowered, Preparable, PreparedNow, Tabled, Sharing}
use Rattle.scan_shared.proofs.Padding as Padding

-- ---- the first cuts and the last

pub first_at : (cuts : List ℕ) (i : ℕ) → i < length cuts - 1 → get_or (first_cuts cuts) i 0 ≡ get_or cuts i 0
first_at cuts i h = get_or-take (length cuts - 1) cuts i 0 h

pub cuts_opened : (cuts : List ℕ) → 2 ≤ length cuts → Opened cuts → cuts ≡ opened (first_cuts cuts)
cuts_opened cuts h o =
    let n = first_many cuts in
    let e : length (first_cuts cuts) - 1 ≡ length cuts - 2 = omega arith in
    cuts_parted cuts (omega arith) ∙ ap (λ x. first_cuts cuts ++ (x ∷ [])) (o ∙ ap suc (sym (ap (λ i. get_or (first_cuts cuts) i 0) e ∙ first_at cuts (length cuts - 2) (omega arith))))

-- The first cuts with a last one put behind.
pub long : (pre : List ℕ) (c : ℕ) → length (pre ++ (c ∷ [])) ≡ suc (length pre)
long pre c = simp length-append (omega arith)

pub first_of_cuts : (pre : List ℕ) (c : ℕ) → first_cuts (pre ++ (c ∷ [])) ≡ pre
first_of_cuts pre c = take_at pre (c ∷ []) (length (pre ++ (c ∷ [])) - 1) (omega (arith, long pre c))

pub last_of_cuts : (pre : List ℕ) (c : ℕ) → last_cut (pre ++ (c ∷ [])) ≡ c
last_of_cuts pre c = get_or_at pre c [] 0 (length (pre ++ (c ∷ [])) - 1) (omega (arith, long pre c))

-- ---- the empty table

pub zero_at : (n c : ℕ) → ◌≡◌ {A = ℕ} (get_or (replicate n 0) c 0) 0
zero_at zero c = refl
zero_at (suc n) zero = refl
zero_at (suc n) (suc c) = zero_at n c

pub no_cells : Padded (replicate 160 0)
no_cells = record { places = refl; padding = refl; small = λ c. rw (zero_at 160 c) (omega arith) }

pub no_table : (p : ℕ) → Blank p (replicate 160 0)
no_table p = record { padded = no_cells; moved = λ a b l h o. zero_at 160 (16 * a + b); unused = λ a b l m h. zero_at 160 (16 * a + b) }

-- ---- chains

module _ (J : List ℕ) (T : ℕ → ℕ → ℕ) where
  chain_most : (a b c d : ℕ) → ((x y : ℕ) → x < 10 → y < 10 → cell J x y ≤ T x y) → a ≤ 8 → b ≤ 8 → c ≤ 8 → d ≤ 8 → chain J 9 (a ∷ b ∷ c ∷ d ∷ []) ≤ chain_by T 9 (a ∷ b ∷ c ∷ d ∷ [])
  unfolding chain chain_by
  chain_most a b c d h la lb lc ld = omega (arith, h 9 a (omega arith) (omega arith), h a b (omega arith) (omega arith), h b c (omega arith) (omega arith), h c d (omega arith) (omega arith), h d 8 (omega arith) (omega arith))

  chain_same : (n a : ℕ) (bs : List ℕ) → ((x y : ℕ) → (x < n) ⊎ (x ≡ 9) → y < 10 → cell J x y ≡ T x y) → n < 9 → (a < n) ⊎ (a ≡ 9) → ((b : ℕ) → Memᴰ b bs → b < n) → chain J a bs ≡ chain_by T a bs
  unfolding chain chain_by
  chain_same n a [] h l w k = h a 8 w (omega arith)
  chain_same n a (b ∷ bs) h l w k =
      let m = k b (Memᴰ.head refl) in
      omega (arith, h a b w (omega arith), chain_same n b bs h l (inl m) (λ x y. k x (Memᴰ.tail y)))

chain_small : (J : List ℕ) (a : ℕ) (bs : List ℕ) → ((c : ℕ) → get_or J c 0 ≤ 2 ^ 40) → chain J a bs ≤ 2 ^ 40 * suc (length bs)
unfolding chain
chain_small J a [] h = omega (arith, h (16 * a + 8))
chain_small J a (b ∷ bs) h = omega (arith, h (16 * a + b), chain_small J b bs h)

-- ---- what is kept

module _ {locations : ℕ} {legs : List ℕ} {depot : ℕ} {r forwards backwards cuts rows : List ℕ} {count : ℕ} {signs : List ℕ} {blocked : ℕ} {entries₀ exits₀ inside₀ low₀ table₀ : List ℕ}
    (given : Preparable locations legs depot r forwards backwards cuts rows count signs blocked entries₀ exits₀ inside₀ low₀ table₀) where
  pub joinable : Joinable locations legs depot depot r forwards backwards cuts (replicate 160 0)
  joinable =
      record { measurable = given.cut.measurable; forwards = given.cut.forwards; backwards = given.cut.backwards; cut_set = given.cut.cut_set; padded = no_cells }

  pub few : (2 ≤ length cuts) × (length cuts ≤ 5)
  few = (given.cut.cut_set.least, given.cut.cut_set.most)

  abbrev p : ℕ
  p = 2 * (length cuts - 2)

  module _ {entries exits inside : List ℕ} (e : StateEnds r forwards backwards cuts (state_count (length cuts)) entries exits inside) (head : ℕ)
      (head_is : head ≡ last_of depot (get_or (segments 0 cuts r) 0 [])) where
    pub fixable : Fixable locations legs (2 * (length cuts - 2)) entries exits inside table₀ × (head < locations)
    fixable = (
      record {
        last = omega (arith, few.1);
        leg_table = given.cut.measurable.table;
        places = e.places;
        entries_known = λ s h. let l : s < state_count (length cuts) = omega (arith, few.0) in rw (e.entry s l) (entry_known joinable s l);
        exits_known = λ s h. let l : s < state_count (length cuts) = omega (arith, few.0) in rw (e.exit s l) (exit_known joinable s l);
        inside_small = λ s h. let l : s < state_count (length cuts) = omega (arith, few.0) in rw (e.legs s l) (inside_small joinable s l);
        blank = given.blank;
      },
      rw head_is (head_below joinable),
    )

    abbrev T : ℕ → ℕ → ℕ
    T = fixed_by (leg locations legs) (placed_in cuts r) (2 * (length cuts - 2)) (head_end (legs_only locations legs depot depot) r cuts)

    same_exit : (a : ℕ) → (a < suc (suc p)) ⊎ (a ≡ 9) → cond (eqb a 9) head (get_or exits a 0) ≡ exit_of (placed_in cuts r) (head_end (legs_only locations legs depot depot) r cuts) a
    same_exit a (inl l) = rw (ne_eqb a 9 (λ (q : a ≡ 9). omega (arith, few.1))) (e.exit a (omega (arith, few.0)))
    same_exit a (inr q) = rw (eq-eqb a 9 q) head_is

    same_cell : (a b : ℕ) → (a < suc (suc p)) ⊎ (a ≡ 9) → fixed_cell locations legs p head entries exits inside a b ≡ T a b
    same_cell a b w = by (dec_lt p b)
      where
        by : Dec (p < b) → fixed_cell locations legs p head entries exits inside a b ≡ T a b
        by (yes l) = rw (lt-ltb p b l)
        by (no l) =
            let m : b < state_count (length cuts) = omega (arith, few.0) in
            rw (same_exit a w, e.entry b m, e.legs b m, inside_is joinable b m)

    module _ {table low : List ℕ} {some : Bool} (t : FixedTable locations legs head p entries exits inside table) (w : OpenLow signs blocked rows count p table low some) (v : ℕ)
        (v_is : v ≡ chain table 9 (standing_row (length cuts))) where
      cell_is : (a b : ℕ) → (a < suc (suc p)) ⊎ (a ≡ 9) → b < 10 → cell table a b ≡ T a b
      cell_is a b k h = t.filled a b k (omega arith) ∙ same_cell a b k

      cell_most : (a b : ℕ) → a < 10 → b < 10 → cell table a b ≤ T a b
      cell_most a b l h = by (dec_lt a (suc (suc p))) (ℕ_discrete a 9)
        where
          by : Dec (a < suc (suc p)) → Dec (a ≡ 9) → cell table a b ≤ T a b
          by (yes k) y = omega (arith, cell_is a b (inl k) h)
          by (no k) (yes y) = omega (arith, cell_is a b (inr y) h)
          by (no k) (no y) = omega (arith, t.blank.unused a b (omega arith) (omega (arith, y)) (omega arith))

      blank : T 8 8 ≡ 0
      blank = rw (lt-ltb p 8 (omega (arith, few.1)))

      standing_is : get_or (set low 20 v) 20 0 ≡ chain_by T 9 (standing_row (length cuts))
      unfolding standing_row
      standing_is =
          let bs : List ℕ = map (state_of 0) (upfrom 1 (length cuts - 1)) in
          get_or-set_same low 20 v 0 (omega (arith, w.low_of.places))
          ∙ v_is
          ∙ Chain.chain_padded table 9 (5 - length cuts) bs t.blank.padded.padding
          ∙ chain_same table T (suc (suc p)) 9 bs cell_is (omega (arith, few.1)) (inr refl) below
          ∙ sym (Padding.chain_padded T blank 9 (5 - length cuts) bs)
        where
          below : (b : ℕ) → Memᴰ b (map (state_of 0) (upfrom 1 (length cuts - 1))) → b < suc (suc p)
          below b m =
              let u = Memᴰ.of_map (state_of 0) (upfrom 1 (length cuts - 1)) m in
              let k = upfrom_range u.0 1 (length cuts - 1) u.1 in
              rw (← u.2) (omega (arith, few.0, state_below (length cuts) 0 u.0 k.0 (omega (arith, k.1, few.0))))

      row_known : (i x : ℕ) → i < count → x < 4 → get_or rows (4 * i + x) 0 ≤ 8
      row_known i x h l = given.rows_fit.known (4 * i + x) (omega arith)

      row_most : (i : ℕ) → i < count → chain table 9 (row rows i) ≤ chain_by T 9 (row rows i)
      row_most i h =
          let read = row_read rows (4 * i) (omega (arith, given.rows_fit.places, given.rows_fit.few)) in
          rw read (chain_most table T _ _ _ _ cell_most (given.rows_fit.known (4 * i) (omega arith)) (row_known i 1 h (omega arith)) (row_known i 2 h (omega arith)) (row_known i 3 h (omega arith)))

      least_is : (i : ℕ) → i < count → open_by signs blocked i ≡ true → get_or (set low 20 v) (class p 9 (row rows i)) 0 ≤ chain_by T 9 (row rows i)
      least_is i h o =
          let n = w.low_of.known i h o in
          rw (get_or-set_other low 20 (class p 9 (row rows i)) v 0 (λ q. omega (arith, n, q))) (omega (arith, w.low_of.below i h o, row_most i h))

      four : length (standing_row (length cuts)) ≡ 4
      unfolding standing_row
      four = simp (length-append, length-map, length_upfrom, length-replicate) (omega (arith, few.0, few.1))

      v_small : v ≤ 2 ^ 43
      v_small = omega (arith, v_is, chain_small table 9 (standing_row (length cuts)) t.blank.padded.small, four)

      module _ (pre : List ℕ) (o : opened pre ≡ cuts) (n : suc (length pre) ≡ length cuts) where
        same : 2 * (length pre - 1) ≡ 2 * (length cuts - 2)
        same = omega arith

        kept_at : Prepared locations legs depot r pre [] 0 entries exits inside (set low 20 v)
        kept_at =
            record {
              entry = λ s h. rw o (e.entry s (omega arith));
              exit = λ s h. rw o (e.exit s (omega arith));
              within = λ s h. let l : s < state_count (length cuts) = omega arith in rw o (e.legs s l ∙ inside_is joinable s l);
              standing = rw (o, same, n) standing_is;
              least = λ i h. absurd (omega arith);
            }

        least_at : (i : ℕ) → i < count → open_by signs blocked i ≡ true → get_or (set low 20 v) (class (last_state pre) 9 (row rows i)) 0 ≤ chain_by (shared locations legs depot r pre) 9 (row rows i)
        least_at i h q = rw (o, same) (least_is i h q)

        most_at : (i : ℕ) → i < count → chain table 9 (row rows i) ≤ chain_by (shared locations legs depot r pre) 9 (row rows i)
        most_at i h = rw (o, same) (row_most i h)

      pub keeps : Sharing locations legs depot r cuts rows count signs blocked entries exits inside (set low 20 v) table some
      keeps =
          let o = sym (cuts_opened cuts few.0 given.first) in
          let n : suc (length (first_cuts cuts)) ≡ length cuts = omega (arith, first_many cuts, few.0) in
          record {
            prepared = record {
              places = record {
                ends = e.places;
                low_places = length-set low 20 v ∙ w.low_of.places;
                low_small = λ c. set_small low 20 v c (2 ^ 43) v_small (λ n. omega (arith, w.low_of.small c));
              };
              prepared = kept_at (first_cuts cuts) o n;
              least = least_at (first_cuts cuts) o n;
            };
            tabled = record { blank = t.blank; most = most_at (first_cuts cuts) o n };
            none = w.none;
          }

-- ---- the least costs anew

module _ {locations : ℕ} {legs : List ℕ} {depot : ℕ} {r cuts rows : List ℕ} {count : ℕ} {is_open : ℕ → Bool} {entries exits inside low table signs : List ℕ} {blocked : ℕ} {low' : List ℕ} {some : Bool}
    (before : PreparedNow locations legs depot r cuts rows count is_open entries exits inside low) (tabled : Tabled locations legs depot r cuts rows count table) (two : 2 ≤ length cuts)
    (w : Relowered signs blocked rows count (2 * (length cuts - 2)) table low low' some) where
  pub prepared_anew : PreparedNow locations legs depot r cuts rows count (open_by signs blocked) entries exits inside low'
  prepared_anew =
      let k = before.prepared in
      let same : last_state (first_cuts cuts) ≡ 2 * (length cuts - 2) = omega (arith, first_many cuts) in
      record {
        places = record { ends = before.places.ends; low_places = w.places; low_small = w.small };
        prepared = record { entry = k.entry; exit = k.exit; within = k.within; standing = w.standing ∙ k.standing; least = λ i h. absurd (omega arith) };
        least = λ i h o. omega (arith, ap (λ q. get_or low' (class q 9 (row rows i)) 0) same, w.below i h o, tabled.most i h);
      }

-- ---- one open row alone

row_again : (rows : List ℕ) (i : ℕ) → 4 * i + 4 ≤ length rows → row (row rows i) 0 ≡ row rows i
row_again rows i h = rw (row_read rows (4 * i) h)

pub row_prepared : {locations : ℕ} {legs : List ℕ} {depot : ℕ} {r cuts rows : List ℕ} {count : ℕ} {is_open : ℕ → Bool} {entries exits inside low : List ℕ} →
    PreparedNow locations legs depot r cuts rows count is_open entries exits inside low → RowsFit rows count → (i : ℕ) → i < count → is_open i ≡ true →
    Prepared locations legs depot r (first_cuts cuts) (row rows i) 1 entries exits inside low
row_prepared {locations} {legs} {depot} {r} {cuts} {rows} {count} {is_open} {entries} {exits} {inside} {low} w fit i h o =
    let k = w.prepared in
    let again : row (row rows i) 0 ≡ row rows i = row_again rows i (omega (arith, fit.places, fit.few)) in
    record { entry = k.entry; exit = k.exit; within = k.within; standing = k.standing; least = λ x l. one x (omega arith) again }
  where
    one : (x : ℕ) → x ≡ 0 → row (row rows i) 0 ≡ row rows i →
        get_or low (class (last_state (first_cuts cuts)) 9 (row (row rows i) x)) 0 ≤ chain_by (shared locations legs depot r (first_cuts cuts)) 9 (row (row rows i) x)
    one x e again = rw (e, again) (w.least i h o)

pub row_alone : {rows : List ℕ} {count : ℕ} → RowsFit rows count → (i : ℕ) → i < count → row (row rows i) 0 ≡ row rows i
row_alone {rows} fit i h = row_again rows i (omega (arith, fit.places, fit.few))
