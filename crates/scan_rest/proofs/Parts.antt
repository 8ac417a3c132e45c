-- A part of the scan, over plain lists: the rows that it is scanned with, and what its end gives. Assumes nothing.
use mathlib.Core.Path.{◌≡◌, refl, sym, ap, ◌∙◌}
use mathlib.Core.Bool.{Bool, true, false}
use mathlib.Core.Logic.{inl, inr}
use mathlib.Core.List.{List, [], ◌∷◌, ◌++◌}
use Prim.Native.Nat.{ℕ, zero, suc, ◌+◌, ◌-◌, ◌*◌, ◌≤◌, ◌<◌}
use native.Mathlib.Omega.{arith}
use native.Mathlib.Nat.{suc-mul, mul-le-mul_right}
use lib.ListN.{length, get_or, set, take, drop, length-drop}
use borrow.Author.Rules.{part_to_end}
use Rattle.theory.specs.Moves.{Pattern}
use Rattle.theory.specs.Pairs.{pairs_of}
use Rattle.theory.specs.Scan.{improves}
use Rattle.theory.specs.Polish.{search_of}
use Rattle.theory.specs.Tables.{problem, PatternRows, pattern_rows, Trip}
use Rattle.theory.proofs.Rows.{length_rows}
use Rattle.slices.proofs.RestRows.{rows_from, rest_rows, move_from}
use Rattle.costs.specs.RouteCosts.{first_cuts, last_cut}
use Rattle.costs.proofs.Segments.{cut_below, cuts_parted}
use Rattle.scan_joints.specs.States.{StateRows}
use Rattle.scan_rows.specs.Rows.{RowsFillable}
use Rattle.scan_shared.proofs.Preparing.{first_of_cuts}
use Rattle.precedence_closing.specs.Closing.{SignsFillable}
use Rattle.scan_step.specs.declared.Stretch.{Stretch}
use Rattle.scan_step.specs.Stepping.{ClosingKept, Ended, improves_at}
use Rattle.scan_step.proofs.Steps.{last_stored}
use Rattle.scan_chains.specs.Chains.{Chained, ChainsFillable}
use Rattle.scan_stretch.specs.Stretch.{Stretchable, Stretched}
use Rattle.scan_rest.specs.Rest.{RowsFrom, RowsKeepable, RowsKept, SignsFit, SignsKeepable, ChainsKeepable, PartLeft, PartAllowed, RestEnded, PartScannable, PartScanned}
use Rattle.scan_rest.proofs.Listing.{listed_rows}

-- ---- the rows

module _ {k : ℕ} {orders masks : List ℕ} {filled index : ℕ} {rows : List ℕ} (given : RowsKeepable k orders masks filled index rows) where
  pub kept : filled ≡ index → RowsKept k orders masks filled index rows rows
  kept e = record { from = rw (← e) given.held; same = λ _. refl }

  few : index ≤ 383
  few = omega (arith, given.known, given.patterns.few)

  one_more : k + 1 ≡ suc k
  one_more = omega arith

  -- Where the rows of the rest begin.
  pub from_below : index * (k + 1) ≤ length orders
  from_below =
      let l : index ≤ length masks = omega (arith, given.known) in
      rw one_more (omega (arith, given.patterns.long, mul-le-mul_right (suc k) l))

  pub from_small : index * (k + 1) ≤ 383 * 6
  from_small = omega (arith, mul-le-mul_right (k + 1) few, given.most)

  -- The rows of the rest, as they are lent.
  pub record Rest (orders' masks' : List ℕ) : Type 0 where
    pub orders_are : orders' ≡ drop (index * (k + 1)) orders
    pub masks_are : masks' ≡ drop index masks

  pub lent_rest : Rest (take (length orders - index * (k + 1)) (drop (index * (k + 1)) orders)) (take (length masks - index) (drop index masks))
  lent_rest = record { orders_are = part_to_end orders (index * (k + 1)); masks_are = part_to_end masks index }

  own_rows : PatternRows k (drop (index * suc k) orders) (drop index masks)
  own_rows = rest_rows k index orders masks (omega (arith, given.known)) given.patterns

  pub fillable : {orders' masks' : List ℕ} → Rest orders' masks' → RowsFillable k orders' masks' rows
  fillable w = record { least = given.least; most = given.most; patterns = rw (w.orders_are, w.masks_are, one_more) own_rows; places = given.held.places }

  pub filled_so : {orders' masks' rows' : List ℕ} → (filled ≡ index → ⊥) → Rest orders' masks' → StateRows k orders' masks' (length masks') rows' → RowsKept k orders masks filled index rows rows'
  filled_so {rows' = rows'} n w s =
      let t = rw (w.orders_are, w.masks_are, one_more) at s in
      let l = listed_rows k (drop (index * suc k) orders) (drop index masks) rows' own_rows t in
      record { from = record { places = s.places; listed = λ _. rw (rows_from k index orders masks, length-drop index masks) at l }; same = λ e. absurd (n e) }

pub signs_fillable : {rows : List ℕ} {patterns filled index : ℕ} {signs : List ℕ} → SignsKeepable rows patterns filled index signs → 0 < length signs → SignsFillable rows patterns signs
signs_fillable w h = record { row_places = w.places; few = w.few; small = w.small; places = w.sign_places h }

pub chains_fillable : {rows : List ℕ} {patterns filled index : ℕ} {chains : List ℕ} → ChainsKeepable rows patterns filled index chains → ChainsFillable rows patterns chains
chains_fillable w = record { places = w.places; room = w.room; few = w.few; known = w.small }

-- ---- before a part

module _ {T : Trip} {members rows chains signs orders masks : List ℕ} {index : ℕ} {r forwards backwards stayed : List ℕ} {heads : ℕ} {late : List ℕ} {since : ℕ} {cuts table shared hand hand_chains visits : List ℕ} {filled : ℕ}
    (given : PartScannable T members rows chains signs orders masks index r forwards backwards stayed heads late since cuts table shared hand hand_chains visits filled) where
  abbrev ps : List Pattern
  ps = pattern_rows (length cuts) orders masks

  many : length ps ≡ length masks
  many = length_rows (length cuts) orders masks

  pub some_cuts : 2 ≤ length cuts
  some_cuts = given.searchable.cut_set.least

  pub few_cuts : length cuts ≤ 5
  few_cuts = given.searchable.cut_set.most

  pub keepable : RowsKeepable (length cuts) orders masks filled index rows
  keepable = record { least = some_cuts; most = few_cuts; patterns = given.patterns; known = given.known; held = given.held }

  pub small_index : index ≤ 383
  small_index = omega (arith, given.known, given.patterns.few)

  sized : ClosingKept (pairs_of T.pairs) members r signs visits → 0 < length signs → length signs ≡ 383
  sized (inl e) h = absurd (omega (arith, e, h))
  sized (inr m) h = m.0

  module _ {rows' : List ℕ} (f : RowsKept (length cuts) orders masks filled index rows rows') where
    pub signs_keepable : SignsKeepable rows' (length masks - index) filled index signs
    signs_keepable =
        let l = f.from.listed given.known in
        record {
          places = f.from.places;
          few = omega (arith, given.patterns.few);
          small = rw l.many at l.patterned.small;
          sign_places = sized given.closing.kept;
          held = λ e. rw (f.same e, ← e) (given.closing.signed (omega (arith, e, given.known)));
        }

    pub chains_keepable : ChainsKeepable rows' (length masks - index) filled index chains
    chains_keepable =
        let l = f.from.listed given.known in
        record {
          places = f.from.places;
          room = given.closing.room;
          few = omega (arith, given.patterns.few);
          small = rw l.many at l.patterned.small;
          held = λ e. rw (f.same e, ← e) (given.closing.chained (omega (arith, e, given.known)));
        }

    module _ {signs' chains' : List ℕ} (many_signs : length signs' ≡ length signs) (g : SignsFit rows' (length masks - index) signs') (a : Chained rows' (length masks - index) chains') where
      -- The visits are lent as before: they do not read the signs.
      still : ClosingKept (pairs_of T.pairs) members r signs visits → ClosingKept (pairs_of T.pairs) members r signs' visits
      still (inl e) = inl (many_signs ∙ e)
      still (inr m) = inr (many_signs ∙ m.0, m.1, m.2, m.3)

      pub stretchable : Stretchable T members rows' chains' (length masks - index) signs' r forwards backwards stayed heads late since cuts table shared hand hand_chains visits
      stretchable =
          record {
            searchable = given.searchable;
            list = drop index ps;
            listed = f.from.listed given.known;
            padded = given.padded;
            head = given.head;
            latenesses = given.latenesses;
            lent = given.lent;
            back = given.back;
            closing = record { chained = a; blank = given.closing.blank; hand_lent = given.closing.hand_lent; signed = g; kept = still given.closing.kept };
          }

      pub left_so : {allowed : ℕ} {stretch : Stretch} {cuts' table' shared' hand' hand_chains' visits' : List ℕ} → Stretched (problem T) members (length masks - index) rows' signs' r cuts allowed stretch cuts' table' shared' hand' hand_chains' visits' →
          PartLeft (problem T) members orders masks index r (length cuts) rows' chains' signs' shared' hand' hand_chains' visits'
      left_so s = record { rows_from = f.from; lent = record { blank = s.blank; room = a.places; chained = λ _. a; hand_lent = s.hand_lent; signed = λ _. g; kept = s.kept } }

  parted : first_cuts cuts ++ (last_cut cuts ∷ []) ≡ cuts
  parted = sym (cuts_parted cuts (omega (arith, some_cuts)))

  last_below : last_cut cuts ≤ length r
  last_below = cut_below cuts r given.searchable.cut_set (length cuts - 1) (omega (arith, some_cuts))

  -- ---- behind it

  module _ {rows' signs' : List ℕ} (f : RowsFrom (length cuts) orders masks index rows') {allowed left : ℕ} (a : PartAllowed index (length masks - index) left allowed) {stretch : Stretch} {cuts' table' shared' hand' hand_chains' visits' : List ℕ}
      (s : Stretched (problem T) members (length masks - index) rows' signs' r cuts allowed stretch cuts' table' shared' hand' hand_chains' visits') where
    end : Ended (problem T) (drop index ps) r cuts allowed stretch cuts'
    end = s.ended (drop index ps) (f.listed given.known)

    -- A stretch from its cut set's first pattern on.
    pub whole : index ≡ 0 → PartScanned (problem T) ps r cuts index left stretch cuts' table'
    whole z =
        let d : drop index ps ≡ ps = ap (λ i. drop i ps) z in
        let e : Ended (problem T) ps r cuts left stretch cuts' = rw (d, a.whole z) at end in
        let none_before : index + stretch.examined ≡ stretch.examined = omega (arith, z) in
        let n : length r + 1 - last_cut cuts ≡ suc (length r - last_cut cuts) = omega (arith, last_below) in
        record {
          idle = λ t x h l y b m. e.idle t x h l y (omega (arith, m, z));
          allowed = e.allowed;
          gain = λ g. ((e.gain g).0, rw none_before (e.gain g).1);
          over = λ w. rw none_before (record { last = length r; least = last_below; most = omega arith; cuts_are = (e.over w).1; is = (e.over w).0 ∙ ap (λ m. m * length ps) n });
          spent = λ g w. ((e.spent g w).0, omega (arith, z, (e.spent g w).1), (e.spent g w).2);
          padded = s.padded;
        }

    -- ---- the rest of a cut set

    module _ (later : 0 < index) where
      rest_many : length (drop index ps) ≡ length masks - index
      rest_many = length-drop index ps ∙ ap (λ n. n - index) many

      no_more : stretch.examined ≤ length masks - index
      no_more = omega (arith, end.allowed, a.rest later)

      allowed_left : allowed ≤ left
      allowed_left = omega (arith, a.rest later)

      allowed_own : allowed ≤ length masks - index
      allowed_own = omega (arith, a.rest later)

      -- A candidate with a number below that of all patterns stands at this cut set.
      at_hand : (q t x : ℕ) → last_cut cuts ≤ t → (t - last_cut cuts) * q + x < q → t ≡ last_cut cuts
      at_hand q t x h n = by (t - last_cut cuts) refl
        where
          by : (d : ℕ) → t - last_cut cuts ≡ d → t ≡ last_cut cuts
          by zero e = omega arith
          by (suc d) e = absurd (omega (arith, (rw (e, suc-mul d q) at n)))

      zero_before : last_cut cuts - last_cut cuts ≡ 0
      zero_before = omega arith

      same : (t x : ℕ) → improves_at (problem T) (drop index ps) r cuts t x ≡ improves_at (problem T) ps r cuts t (index + x)
      same t x = ap (λ m. improves (search_of (problem T) ps (length cuts) (length r)) r m) (move_from ps (first_cuts cuts ++ (t ∷ [])) index x)

      -- The candidate at which it ended, where it gains.
      module _ (g : stretch.gains ≡ true) where
        gain_at : (end.gain g).1.last ≡ last_cut cuts
        gain_at = at_hand (length (drop index ps)) (end.gain g).1.last stretch.pattern (end.gain g).1.least (omega (arith, (end.gain g).1.is, (end.gain g).0, allowed_own, rest_many))

        gain_is : stretch.examined ≡ stretch.pattern
        gain_is = omega (arith, rw (gain_at, zero_before) at (end.gain g).1.is)

        pub small_pattern : stretch.pattern ≤ 383
        small_pattern = omega (arith, (end.gain g).1.listed, rest_many, given.patterns.few)

        gains_there : improves_at (problem T) ps r cuts (last_cut cuts) (index + stretch.pattern) ≡ true
        gains_there = sym (same (last_cut cuts) stretch.pattern) ∙ (rw gain_at at (end.gain g).1.improves)

      first_same : first_cuts cuts' ≡ first_cuts cuts
      first_same = by stretch.gains refl stretch.through refl
        where
          by : (g : Bool) → stretch.gains ≡ g → (w : Bool) → stretch.through ≡ w → first_cuts cuts' ≡ first_cuts cuts
          by true g w v = ap first_cuts (end.gain g).1.cuts_are ∙ first_of_cuts (first_cuts cuts) (end.gain g).1.last
          by false g true v = ap first_cuts (end.over v).1 ∙ first_of_cuts (first_cuts cuts) (length r)
          by false g false v = (end.spent g v).2

      -- Its cut set is put back.
      pub put_back : length cuts' ≡ length cuts → set cuts' (length cuts - 1) (get_or cuts (length cuts - 1) 0) ≡ cuts
      put_back l =
          let j : length cuts - 1 ≡ length cuts' - 1 = omega (arith, l) in
          ap (λ n. set cuts' n (last_cut cuts)) j
          ∙ last_stored cuts' (last_cut cuts) (omega (arith, l, some_cuts))
          ∙ ap (λ cs. cs ++ (last_cut cuts ∷ [])) first_same
          ∙ parted

      pub rest : {answer : Stretch} → RestEnded index (length masks - index) stretch answer → PartScanned (problem T) ps r cuts index left answer cuts table'
      rest {answer} w =
          let k = given.known in
          record {
            idle = λ t x h l y n m.
                let e = at_hand (length ps) t x h (omega (arith, m, many, w.examined, no_more, k)) in
                let q : index ≤ x = omega (arith, rw (e, zero_before) at n) in
                let u : x < index + answer.examined = omega (arith, rw (e, zero_before) at m) in
                let v : index + (x - index) ≡ x = omega arith in
                let z : (last_cut cuts - last_cut cuts) * length (drop index ps) + (x - index) < stretch.examined = rw zero_before (omega (arith, u, q, w.examined)) in
                rw e (rw v at (sym (same (last_cut cuts) (x - index)) ∙ end.idle (last_cut cuts) (x - index) (omega arith) last_below (omega (arith, rest_many, many, y, q)) z));
            allowed = omega (arith, w.examined, end.allowed, allowed_left);
            gain = λ g.
                let g' : stretch.gains ≡ true = sym w.gains ∙ g in (
                  omega (arith, w.examined, (end.gain g').0, allowed_left),
                  record {
                    last = last_cut cuts;
                    least = omega arith;
                    most = last_below;
                    cuts_are = sym parted;
                    listed = omega (arith, w.pattern g, (end.gain g').1.listed, rest_many, many, k);
                    is = rw zero_before (omega (arith, w.pattern g, w.examined, gain_is g'));
                    improves = rw (w.pattern g) (gains_there g');
                  },
                );
            over = λ g. record { last = last_cut cuts; least = omega arith; most = last_below; cuts_are = sym parted; is = rw zero_before (omega (arith, w.over g, w.examined, many, k)) };
            spent = λ g h. spent_so w.gains g h stretch.through refl;
            padded = s.padded;
          }
        where
          count : length masks - index ≤ (length r + 1 - last_cut cuts) * (length masks - index)
          count = let c : suc 0 ≤ length r + 1 - last_cut cuts = omega (arith, last_below) in omega (arith, mul-le-mul_right (length masks - index) c)

          longer : length ps ≤ (length r + 1 - last_cut cuts) * length ps
          longer = let c : suc 0 ≤ length r + 1 - last_cut cuts = omega (arith, last_below) in omega (arith, mul-le-mul_right (length ps) c)

          spent_so : answer.gains ≡ stretch.gains → answer.gains ≡ false → answer.through ≡ false → (v : Bool) → stretch.through ≡ v →
              (answer.examined ≡ left) × (index + left < (length r + 1 - last_cut cuts) * length ps) × (first_cuts cuts ≡ first_cuts cuts)
          spent_so e g h true v = absurd (w.not_over g h (omega (arith, rw rest_many at (end.over v).0, count, no_more)))
          spent_so e g h false v =
              let x = (end.spent (sym e ∙ g) v).0 in
              let n : stretch.examined < length masks - index = omega (arith, no_more, w.not_over g h) in
              (omega (arith, x, n, w.examined, a.rest later), omega (arith, x, n, a.rest later, longer, many, given.known), refl)
