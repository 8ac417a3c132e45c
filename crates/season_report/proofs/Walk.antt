-- The blocks added one after the other. Assumes nothing.
use mathlib.Core.Path.{◌≡◌, refl, sym, ap, ◌∙◌}
use mathlib.Core.List.{List, [], ◌∷◌, ◌++◌, map, map-append}
use Prim.Native.Nat.{ℕ, zero, suc, ◌+◌, ◌-◌, ◌≤◌, ◌<◌}
use native.Mathlib.Omega.{arith}
use native.Mathlib.Numerals.{add-one}
use lib.ListN.{length, get_or, take, drop, length-take}
use lib.Seq.{drop-cons, take_all}
use Rattle.text_polishing.specs.Outcome.{lengths}
use Rattle.season_blocks.specs.Blocks.{parts, Ends}
use Rattle.season_numbers.specs.Season.{accepted, refused_blocks, greatest, in_order}
use Rattle.season_numbers.specs.Adding.{lengths_told, Small, Addable, Summed, Added}
use Rattle.season_numbers.specs.declared.Sums.{Sums}
use Rattle.std.specs.Prelude as Rust
use Rattle.season_numbers.specs.declared.BlockLengths.{BlockLengths}
use Rattle.season_report.proofs.Kept.{kept}

-- One element more.
one_more : {A : Type 0} (l : List A) (i : ℕ) (x : A) (xs : List A) → drop i l ≡ x ∷ xs → (take (suc i) l ≡ take i l ++ (x ∷ [])) × (drop (suc i) l ≡ xs)
one_more [] zero x xs e = let z : ◌≡◌ {A = ℕ} 0 (suc (length xs)) = ap length e in absurd (omega arith)
one_more [] (suc i) x xs e = let z : ◌≡◌ {A = ℕ} 0 (suc (length xs)) = ap length e in absurd (omega arith)
one_more (y ∷ l) zero x xs e = (ap (take 1) e, ap (drop 1) e)
one_more (y ∷ l) (suc i) x xs e = let h = one_more l i x xs e in (rw h.0, h.1)

pub parts_length : (t : List ℕ) (from : ℕ) (es : List ℕ) → length (parts t from es) ≡ length es
unfolding parts
parts_length t from [] = refl
parts_length t from (e ∷ es) = rw (parts_length t (e + 5) es)

-- The first i blocks are added; the others stand from `from` on.
pub record Goes (t ends : List ℕ) (i from : ℕ) (s : Sums) (afters : List ℕ) : Type 0 where
  pub within : i ≤ length ends
  pub left : parts t from (drop i ends) ≡ drop i (parts t 0 ends)
  pub in_text : Ends t from (drop i ends)
  pub summed : Summed (map lengths (take i (parts t 0 ends))) s afters

pub goes_start : (t ends afters : List ℕ) → Ends t 0 ends → length afters ≡ 64 → Goes t ends 0 0 (record { rounds = 0; refused = 0; before = 0; after = 0; longest = 0 }) afters
unfolding accepted refused_blocks greatest in_order
goes_start t ends afters in_text l =
    record {
      within = omega arith;
      left = refl;
      in_text = in_text;
      summed = record { rounds = refl; refused = refl; before = refl; after = refl; longest = refl; order = refl; places = l };
    }

module _ {t ends : List ℕ} {i from : ℕ} {s : Sums} {afters : List ℕ} (g : Goes t ends i from s afters) (more : i < length ends) where
  abbrev e : ℕ
  e = get_or ends i 0

  abbrev block : List ℕ
  block = take (e - from) (drop from t)

  pub here : (from ≤ e) × (e ≤ length t) × Ends t (e + 5) (drop (suc i) ends)
  here = rw (drop-cons ends i 0 more) at g.in_text

  block_is : drop i (parts t 0 ends) ≡ block ∷ parts t (e + 5) (drop (suc i) ends)
  unfolding parts
  block_is = sym g.left ∙ rw (drop-cons ends i 0 more)

  pub addable : (b : Rust.Option BlockLengths) → length ends ≤ 64 → Small b → Addable s b afters
  addable b few small =
      let k = kept (take i (parts t 0 ends)) in
      let h = g.summed in
      record {
        places = h.places;
        few = omega (arith, k.all, h.rounds, h.refused, length-take i (parts t 0 ends));
        small_before = rw (h.before, h.rounds) k.small;
        small_after = rw (h.after, h.rounds) (omega (arith, k.no_longer, k.small));
        small = small;
      }

  pub goes_next : (b : Rust.Option BlockLengths) (s' : Sums) (afters' : List ℕ) → lengths_told b ≡ lengths block → Added s b afters s' afters' → Goes t ends (i + 1) (e + 5) s' afters'
  goes_next b s' afters' is added =
      let o = one_more (parts t 0 ends) i block _ block_is in
      let bs = map lengths (take i (parts t 0 ends)) in
      let summed = rw (is, ← map-append lengths (take i (parts t 0 ends)) (block ∷ []), ← o.0) at (added bs g.summed) in
      rw (add-one i) (record { within = more; left = sym o.1; in_text = here.2; summed = summed })

pub goes_ended : {t ends : List ℕ} {i from : ℕ} {s : Sums} {afters : List ℕ} → Goes t ends i from s afters → length ends ≤ i → Summed (map lengths (parts t 0 ends)) s afters
goes_ended {t} {ends} {i} g h = rw (take_all i (parts t 0 ends) (omega (arith, parts_length t 0 ends))) at g.summed
