-- Rising cuts as the code meets them: each is a position of the route, and the step from one set to the next keeps them so. Assumes nothing.
use mathlib.Core.Path.{◌≡◌, refl, ap, ◌∙◌}
use mathlib.Core.Bool.{Bool, true, false}
use mathlib.Core.Option.{Option, none, some}
use mathlib.Core.List.{List, [], ◌∷◌}
use Prim.Native.Nat.{ℕ, zero, suc, ◌+◌, ◌≤◌, ◌<◌}
use native.Mathlib.Omega.{arith}
use lib.Dec.{leb}
use lib.ListN.{length, get_or}
use borrow.Author.Tests.{leb-true}
use Rattle.theory.specs.Moves.{Rising, upfrom, next_cuts}
use Rattle.theory.specs.Tables.{CutSet}
use Rattle.theory.proofs.Moves.{length_upfrom}

-- A cut is a position of the route.
pub rising_below : (n low : ℕ) (cs : List ℕ) (i : ℕ) → Rising low cs n → i < length cs → get_or cs i 0 ≤ n
rising_below n low [] i r h = absurd (omega arith)
rising_below n low (c ∷ cs) zero r h = r.1
rising_below n low (c ∷ cs) (suc i) r h = rising_below n (suc c) cs i r.2 (omega arith)

rising_upfrom : (low k n : ℕ) → low + k ≤ suc n → Rising low (upfrom low k) n
unfolding upfrom
rising_upfrom low zero n h = tt
rising_upfrom low (suc k) n h = (omega arith, omega arith, rising_upfrom (suc low) k n (omega arith))

-- The first cut set.
pub first_set : (k n : ℕ) → 2 ≤ k → k ≤ 5 → n ≤ 512 → k ≤ n + 1 → CutSet k n (upfrom 0 k)
first_set k n a b c d = record { least = a; most = b; short = c; many = length_upfrom 0 k; rising = rising_upfrom 0 k n (omega arith) }

-- What the step gives is again as many rising cuts.
abbrev Again : ℕ → ℕ → List ℕ → Option (List ℕ) → Type 0
Again low n cs none = Unit {0}
Again low n cs (some cs') = (length cs' ≡ length cs) × Rising low cs' n

again : (low n : ℕ) (cs : List ℕ) → Rising low cs n → Again low n cs (next_cuts n cs)
unfolding next_cuts
again low n [] r = tt
again low n (c ∷ cs) r = step (next_cuts n cs) (again (suc c) n cs r.2)
  where
    tip : (b : Bool) → leb (c + suc (length cs)) n ≡ b → Again low n (c ∷ cs) (elim b [ true ↦ some (upfrom (suc c) (suc (length cs))) | false ↦ none ])
    tip true t =
        let h = leb-true (c + suc (length cs)) n t in
        (length_upfrom (suc c) (suc (length cs)), weaker (rising_upfrom (suc c) (suc (length cs)) n (omega arith)))
      where
        weaker : Rising (suc c) (upfrom (suc c) (suc (length cs))) n → Rising low (upfrom (suc c) (suc (length cs))) n
        weaker = unfold upfrom in λ q. (omega (arith, r.0), q.1, q.2)
    tip false t = tt

    step : (o : Option (List ℕ)) → Again (suc c) n cs o →
        Again low n (c ∷ cs) (elim o [ some cs' ↦ some (c ∷ cs') | none ↦ elim (leb (c + suc (length cs)) n) [ true ↦ some (upfrom (suc c) (suc (length cs))) | false ↦ none ] ])
    step none a = tip (leb (c + suc (length cs)) n) refl
    step (some cs') a = (ap suc a.0, (r.0, r.1, a.1))

pub next_set : (k n : ℕ) (cs cs' : List ℕ) → CutSet k n cs → next_cuts n cs ≡ some cs' → CutSet k n cs'
next_set k n cs cs' c e =
    let a : Again 0 n cs (some cs') = rw e at (again 0 n cs c.rising) in
    record { least = c.least; most = c.most; short = c.short; many = a.0 ∙ c.many; rising = a.1 }

-- k rising cuts need k positions.
pub enough : (k n : ℕ) (cs : List ℕ) → CutSet k n cs → k ≤ n + 1
enough k n cs c = omega (arith, room 0 cs c.rising (omega (arith, c.many, c.least)), c.many)
  where
    room : (low : ℕ) (cs : List ℕ) → Rising low cs n → 0 < length cs → low + length cs ≤ n + 1
    room low [] r h = absurd (omega arith)
    room low (c ∷ []) r h = omega (arith, r.0, r.1)
    room low (c ∷ d ∷ cs) r h = omega (arith, r.0, room (suc c) (d ∷ cs) r.2 (omega arith))
