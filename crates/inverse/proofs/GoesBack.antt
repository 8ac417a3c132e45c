-- The index and the cuts of the way back are one: all that is promised of them, for every number of cuts. Assumes nothing.
use mathlib.Core.Path.{◌≡◌, ap, ◌∙◌}
use mathlib.Core.List.{List, [], ◌∷◌, ◌++◌, Memᴰ}
use Prim.Native.Nat.{ℕ, zero, suc, ◌-◌, ◌≤◌, ◌<◌}
use native.Mathlib.Omega.{arith}
use native.Mathlib.Nat.{pow-suc}
use lib.ListN.{length, get_or}
use Rattle.theory.specs.Moves.{Pattern, Move, Rising, arrangements, patterns}
use Rattle.theory.specs.Route.{reverses, reconnected}
use Rattle.theory.specs.Polish.{move_at}
use Rattle.theory.proofs.Moves.{pattern_shape, rearranges}
use Rattle.theory.proofs.Index.{mem_get_or, length_pattern, pattern_mask}
use Rattle.inverse.specs.WayBack.{EachOnce, inverse_cuts, way_back}
use Rattle.inverse.specs.PatternIndex.{index_of}
use Rattle.inverse.specs.GoesBack.{move_back, GoesBack}
use Rattle.inverse.proofs.Bits.{turned_back}
use Rattle.inverse.proofs.Restoring.{restores}
use Rattle.inverse.proofs.Returning.{back_and_forth}
use Rattle.inverse.proofs.Listed.{length_of, inverse_listed}
use Rattle.inverse.proofs.Ends.{back_many, back_rises, same_first, same_last}
use Rattle.inverse.proofs.PatternIndex.{indexed, index_there}

-- The cuts alone, of any pattern for m + 1 cuts.
record CutsBack (m n : ℕ) (cuts cuts' : List ℕ) : Type 0 where
  pub many : length cuts' ≡ suc m
  pub rising : Rising 0 cuts' n
  pub same_first : get_or cuts' 0 0 ≡ get_or cuts 0 0
  pub same_last : get_or cuts' m 0 ≡ get_or cuts m 0

cuts_of_back : (m n : ℕ) (cuts : List ℕ) (p : Pattern) → length cuts ≡ suc m → Rising 0 cuts n → Memᴰ p (patterns (suc m)) →
    CutsBack m n cuts (inverse_cuts n (record { cuts = cuts; pattern = p }))
unfolding inverse_cuts
cuts_of_back m n cuts p many rising i =
    let s = pattern_shape m p i in
    let once : EachOnce (suc m) (0 ∷ (s.middle ++ (suc m ∷ []))) = rw s.is at (rearranges m p i) in
    let long = length_of m s.middle s.once in
    rw s.is
    (record {
      many = back_many m n cuts s.middle many rising s.once long once;
      rising = back_rises m n cuts s.middle many rising s.once long once;
      same_first = same_first m n cuts s.middle many rising s.once long once;
      same_last = same_last m n cuts s.middle many rising s.once long once;
    })

module _ (m pattern n : ℕ) (cuts : List ℕ) (many : length cuts ≡ suc m) (rising : Rising 0 cuts n) (known : pattern < length (patterns (suc m))) where
  abbrev first : Move
  first = move_at (patterns (suc m)) cuts pattern

  abbrev back : Move
  back = move_back (suc m) pattern n cuts

  abbrev index : ℕ
  index = index_of (suc m) back.pattern

  listed : Memᴰ first.pattern (patterns (suc m))
  listed = mem_get_or (patterns (suc m)) pattern (record { order = []; mask = 0 }) known

  once : EachOnce (suc m) first.pattern.order
  once = rearranges m first.pattern listed

  back_listed : Memᴰ back.pattern (patterns (suc m))
  unfolding way_back
  back_listed = inverse_listed m first.pattern listed

  same_move : move_at (patterns (suc m)) back.cuts index ≡ back
  same_move = ap (λ (p : Pattern). record { cuts = back.cuts; pattern = p }) ((indexed m back.pattern back_listed).there (record { order = []; mask = 0 }))

  back_cuts : CutsBack m n cuts back.cuts
  unfolding way_back
  back_cuts = cuts_of_back m n cuts first.pattern many rising listed

  forth : way_back n back ≡ first
  forth =
      back_and_forth (suc m) n first many rising once
      (let h = pattern_mask (suc m) first.pattern listed in omega (arith, h, pow-suc 2 (suc m)))

  arrived : (j : ℕ) → j ≤ suc m → reverses back.pattern.mask j ≡ reverses first.pattern.mask (get_or first.pattern.order j 0)
  unfolding way_back
  arrived j h = turned_back first.pattern.order first.pattern.mask j (omega (arith, length_pattern (suc m) first.pattern listed))

  whole : GoesBack (suc m) pattern n cuts index back.cuts
  whole =
      let less : suc m - 1 ≡ m = omega arith in
      record {
        known = (indexed m back.pattern back_listed).known;
        move_is = same_move;
        many = back_cuts.many;
        rising = back_cuts.rising;
        same_first = back_cuts.same_first;
        same_last = rw less back_cuts.same_last;
        restores = λ r h. ap (λ (b : Move). reconnected b (reconnected first r)) same_move ∙ restores (suc m) n first r many h rising once;
        turned = λ j h. ap (λ (b : Move). reverses b.pattern.mask j) same_move ∙ arrived j h;
        returns =
            ap (λ (b : Move). index_of (suc m) (way_back n b).pattern ∷ (way_back n b).cuts) same_move
            ∙ ap (λ (b : Move). index_of (suc m) b.pattern ∷ b.cuts) forth
            ∙ ap (λ i. i ∷ cuts) (index_there m pattern (record { order = []; mask = 0 }) known);
      }

none_listed : {i : ℕ} → i < length (patterns 0) → ⊥
unfolding patterns arrangements
none_listed h = omega arith

-- For every k: without a cut there is no pattern.
pub goes_back : (k pattern n : ℕ) (cuts : List ℕ) → length cuts ≡ k → Rising 0 cuts n → pattern < length (patterns k) →
    GoesBack k pattern n cuts (index_of k (move_back k pattern n cuts).pattern) (move_back k pattern n cuts).cuts
goes_back zero pattern n cuts many rising known = absurd (none_listed known)
goes_back (suc m) pattern n cuts many rising known = whole m pattern n cuts many rising known
