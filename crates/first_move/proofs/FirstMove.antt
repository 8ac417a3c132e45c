-- What the first move is: the scan's own candidates, by index; none exactly if no cuts and no pattern do it; all before it fail. Assumes nothing.
use mathlib.Core.Path.{◌≡◌, refl, sym, ap, ap₂, ◌∙◌}
use mathlib.Core.Bool.{Bool, true, false, true≢false, and-eq-true_iff}
use mathlib.Core.Logic.{◌↔◌}
use mathlib.Core.List.{List, [], ◌∷◌, ◌++◌, map, map-map, map-append, flat_map, Memᴰ}
use mathlib.Core.Option.{Option, none, some}
use Prim.Native.Nat.{ℕ, zero, suc, ◌+◌, ◌<◌}
use native.Mathlib.Omega.{arith}
use native.Mathlib.Nat.{zero-add}
use lib.Dec.{eqb}
use lib.ListN.{length, get_or, drop, drop_of_length-le}
use lib.Seq.{drop-cons, take_at}
use borrow.Author.Tests.{eq-eqb, eqb-true}
use Rattle.theory.specs.Moves.{upfrom, Pattern, Move, patterns, cut_sets, candidates}
use Rattle.theory.specs.Route.{reconnected}
use Rattle.theory.specs.Polish.{move_at}
use Rattle.theory.proofs.Moves.{mem_flat_map, of_flat_map, cuts_listed, listed_cuts, upfrom_range}
use Rattle.theory.proofs.Orders.{listed_number}
use Rattle.theory.proofs.Index.{mem_get_or}
use Rattle.first_move.specs.FirstMove.{same_route, numbered, turns_into, first_move, move_values, in_front, handed_move, NoMove, FoundFirst, Told}
use Rattle.first_move.proofs.First.{first_none, none_passes, found}

-- ---- contents

pub same_is : (a b : List ℕ) → same_route a b ≡ true → a ≡ b
unfolding same_route
same_is [] [] h = refl
same_is [] (y ∷ b) h = absurd (true≢false (sym h))
same_is (x ∷ a) [] h = absurd (true≢false (sym h))
same_is (x ∷ a) (y ∷ b) h = let q = (and-eq-true_iff (eqb x y) (same_route a b)).0 h in ap₂ ◌∷◌ (eqb-true x y q.0) (same_is a b q.1)

pub is_same : (a : List ℕ) → same_route a a ≡ true
unfolding same_route
is_same [] = refl
is_same (x ∷ a) = rw (eq-eqb x x refl, is_same a)

pub other_route : (a b : List ℕ) → ¬ (a ≡ b) → same_route a b ≡ false
other_route a b h = by (same_route a b) refl
  where
    by : (s : Bool) → same_route a b ≡ s → s ≡ false
    by true e = absurd (h (same_is a b e))
    by false e = refl

pub not_same : (a b : List ℕ) → same_route a b ≡ false → ¬ (a ≡ b)
not_same a b h q = true≢false (sym (is_same b) ∙ (rw q at h))

-- ---- the scan's own list

by_index : {A B : Type 0} (g : A → B) (d : A) (ps : List A) (f n : ℕ) → f + n ≡ length ps → map (λ i. g (get_or ps i d)) (upfrom f n) ≡ map g (drop f ps)
unfolding upfrom
by_index g d ps f zero h = sym (ap (map g) (drop_of_length-le ps {i = f} (omega arith)))
by_index g d ps f (suc n) h = ap (λ l. g (get_or ps f d) ∷ l) (by_index g d ps (suc f) n (omega arith)) ∙ sym (ap (map g) (drop-cons ps f d (omega arith)))

-- "All patterns on a cut set, then the next cut set": as moves, the numbered candidates are those of the scan.
pub numbered_are : (ps : List Pattern) (css : List (List ℕ)) → map (λ c. move_at ps c.0 c.1) (numbered (length ps) css) ≡ candidates ps css
unfolding numbered candidates flat_map
numbered_are ps [] = refl
numbered_are ps (cs ∷ css) =
    map-append (λ c. move_at ps c.0 c.1) (map (λ i. (cs, i)) (upfrom 0 (length ps))) (numbered (length ps) css)
    ∙ ap₂ ◌++◌ (map-map (λ c. move_at ps c.0 c.1) (λ i. (cs, i)) (upfrom 0 (length ps)) ∙ by_index (λ p. record { cuts = cs; pattern = p }) (record { order = []; mask = 0 }) ps 0 (length ps) (zero-add (length ps)))
    (numbered_are ps css)

-- A numbered candidate is a cut set and an index.
pub numbered_has : (count : ℕ) (css : List (List ℕ)) (cs : List ℕ) (i : ℕ) → Memᴰ cs css → i < count → Memᴰ (cs, i) (numbered count css)
unfolding numbered
numbered_has count css cs i m h = mem_flat_map _ m (mathlib.Core.List.Memᴰ.map (λ i. (cs, i)) (listed_number i 0 count (omega arith) (omega arith)))

pub numbered_from : (count : ℕ) (css : List (List ℕ)) (c : List ℕ × ℕ) → Memᴰ c (numbered count css) → Memᴰ c.0 css × (c.1 < count)
unfolding numbered
numbered_from count css c m =
    let t = of_flat_map _ css m in
    let u = mathlib.Core.List.Memᴰ.of_map _ (upfrom 0 count) t.2 in
    rw (← u.2) (t.1, omega (arith, upfrom_range u.0 0 count u.1))

-- ---- an index for each pattern

index_of : {A : Type 0} (d : A) (ps : List A) (p : A) → Memᴰ p ps → (i : ℕ) × (i < length ps) × (get_or ps i d ≡ p)
index_of d [] p m = absurd (mathlib.Core.List.Memᴰ.not-nil m)
index_of d (q ∷ ps) p m =
    mathlib.Core.Logic.⊎_elim (λ e. (0, omega arith, sym e)) (λ j. let t = index_of d ps p j in (suc t.0, omega (arith, t.1), t.2)) (mathlib.Core.List.Memᴰ.cases_cons m)

module _ (k : ℕ) (old wanted : List ℕ) where
  -- "None exactly if no cut set and pattern do it."
  pub none_iff : (first_move k old wanted ≡ none) ↔ NoMove k old wanted
  unfolding cut_sets
  none_iff = (
    λ h cs many rising p m.
        let t = index_of (record { order = []; mask = 0 }) (patterns k) p m in
        let c : Memᴰ cs (cut_sets k (length old)) = rw many at (cuts_listed (length old) (suc (length old)) 0 cs (omega arith) rising) in
        let f = none_passes (turns_into k old wanted) (numbered (length (patterns k)) (cut_sets k (length old))) h (cs, t.0) (numbered_has (length (patterns k)) (cut_sets k (length old)) cs t.0 c t.1) in
        not_same (reconnected (record { cuts = cs; pattern = p }) old) wanted (rw t.2 at f),
    λ h. first_none (turns_into k old wanted) (numbered (length (patterns k)) (cut_sets k (length old)))
        (λ c m.
        let q = numbered_from (length (patterns k)) (cut_sets k (length old)) c m in
        let l = listed_cuts (length old) (suc (length old)) 0 k c.0 (omega arith) q.0 in
        other_route (reconnected (move_at (patterns k) c.0 c.1) old) wanted
        (h c.0 l.0 l.1 (get_or (patterns k) c.1 (record { order = []; mask = 0 })) (mem_get_or (patterns k) c.1 (record { order = []; mask = 0 }) q.1))),
  )

  abbrev at : List ℕ × ℕ → Move
  at c = move_at (patterns k) c.0 c.1

  -- A move that is found is one of document 01's, turns one into the other, and nothing before it does.
  pub found_first : (c : List ℕ × ℕ) → first_move k old wanted ≡ some c → FoundFirst k old wanted c
  unfolding cut_sets
  found_first c h =
      let f = found (turns_into k old wanted) (numbered (length (patterns k)) (cut_sets k (length old))) c h in
      let m : Memᴰ c (numbered (length (patterns k)) (cut_sets k (length old))) = rw f.listed (mathlib.Core.List.Memᴰ.append_right f.before (mathlib.Core.List.Memᴰ.head refl)) in
      let q = numbered_from (length (patterns k)) (cut_sets k (length old)) c m in
      let l = listed_cuts (length old) (suc (length old)) 0 k c.0 (omega arith) q.0 in
      record {
        many = l.0;
        rising = l.1;
        known = q.1;
        turns = same_is (reconnected (move_at (patterns k) c.0 c.1) old) wanted f.passes;
        before = map at f.before;
        after = map at f.after;
        listed = sym (numbered_are (patterns k) (cut_sets k (length old))) ∙ ap (map at) f.listed ∙ map-append at f.before (c ∷ f.after);
        first = λ d i.
            let u = mathlib.Core.List.Memᴰ.of_map at f.before i in
            rw (← u.2) (not_same (reconnected (at u.0) old) wanted (f.first u.0 u.1));
      }

  pub told : Told k old wanted (first_move k old wanted)
  told = record { none_exactly = none_iff; found_first = found_first }

  -- The result that is handed back says what was found.
  pub told_back : (result : List ℕ) → handed_move k (in_front (move_values (first_move k old wanted)) result) ≡ first_move k old wanted
  told_back result = by (first_move k old wanted) refl
    where
      by : (o : Option (List ℕ × ℕ)) → first_move k old wanted ≡ o → handed_move k (in_front (move_values o) result) ≡ o
      by none e = refl
      by (some c) e = ap (λ (l : List ℕ). some (l, c.1)) (take_at c.0 (drop (length (1 ∷ c.1 ∷ c.0)) result) k (found_first c e).many)
