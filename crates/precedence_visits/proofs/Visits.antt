-- The words of the visits, position by position. Assumes nothing.
use mathlib.Core.Path.{◌≡◌, sym, ◌∙◌}
use mathlib.Core.List.{List, [], ◌∷◌, ◌++◌}
use Prim.Native.Nat.{ℕ, zero, suc, ◌+◌, ◌*◌, ◌≤◌, ◌<◌}
use native.Mathlib.Decide.{ℕ_discrete}
use native.Mathlib.Numerals.{add-one}
use native.Mathlib.Omega.{arith}
use lib.Bits.{bit_or}
use lib.ListN.{length, get_or, set, take, length-set}
use lib.Seq.{take-suc, get_or-set_same, get_or-set_other}
use Rattle.theory.specs.Pairs.{visited}
use Rattle.precedence.specs.Words.{marks, Members}
use Rattle.precedence.proofs.Words.{no_marks}
use Rattle.precedence.proofs.Growth.{firsts_more, seconds_more}
use Rattle.precedence_visits.specs.Visits.{Visits}

-- The words of the positions up to i; those of i itself at hand too.
pub record VisitsTo (ps : List (ℕ × ℕ)) (route : List ℕ) (i firsts seconds : ℕ) (visits : List ℕ) : Type 0 where
  pub first : firsts ≡ marks (λ p. visited p.0 (take i route)) ps
  pub second : seconds ≡ marks (λ p. visited p.1 (take i route)) ps
  pub firsts_to : (j : ℕ) → j ≤ i → get_or visits (2 * j) 0 ≡ marks (λ p. visited p.0 (take j route)) ps
  pub seconds_to : (j : ℕ) → j ≤ i → get_or visits (2 * j + 1) 0 ≡ marks (λ p. visited p.1 (take j route)) ps

-- A position more.
module _ (ps : List (ℕ × ℕ)) (M r D : List ℕ) (i f s : ℕ) (members : Members ps M) (places : length D ≡ 1027) (h : i < length r) (short : length r ≤ 512) (known : get_or r i 0 < 1024) where
  abbrev f' : ℕ
  f' = bit_or f (get_or M (get_or r i 0) 0)

  abbrev s' : ℕ
  s' = bit_or s (get_or M (1024 + get_or r i 0) 0)

  abbrev once : List ℕ
  once = set D (2 * (i + 1)) f'

  further : take (i + 1) r ≡ take i r ++ (get_or r i 0 ∷ [])
  further = rw (add-one i) (take-suc r i 0 h)

  pub visits_step : VisitsTo ps r i f s D → VisitsTo ps r (i + 1) f' s' (set once (2 * (i + 1) + 1) s')
  visits_step w = record { first = first; second = second; firsts_to = λ j l. one j l (ℕ_discrete j (i + 1)); seconds_to = λ j l. two j l (ℕ_discrete j (i + 1)) }
    where
      first : f' ≡ marks (λ p. visited p.0 (take (i + 1) r)) ps
      first = rw further (firsts_more ps M (take i r) (get_or r i 0) known members w.first)

      second : s' ≡ marks (λ p. visited p.1 (take (i + 1) r)) ps
      second = rw further (seconds_more ps M (take i r) (get_or r i 0) known members w.second)

      one : (j : ℕ) → j ≤ i + 1 → Dec (j ≡ i + 1) → get_or (set once (2 * (i + 1) + 1) s') (2 * j) 0 ≡ marks (λ p. visited p.0 (take j r)) ps
      one j l (yes e) = rw e (get_or-set_other once (2 * (i + 1) + 1) (2 * (i + 1)) s' 0 (λ q. omega arith) ∙ get_or-set_same D (2 * (i + 1)) f' 0 (omega arith) ∙ first)
      one j l (no n) = get_or-set_other once (2 * (i + 1) + 1) (2 * j) s' 0 (λ q. omega arith) ∙ get_or-set_other D (2 * (i + 1)) (2 * j) f' 0 (λ q. n (omega arith)) ∙ w.firsts_to j (omega arith)

      two : (j : ℕ) → j ≤ i + 1 → Dec (j ≡ i + 1) → get_or (set once (2 * (i + 1) + 1) s') (2 * j + 1) 0 ≡ marks (λ p. visited p.1 (take j r)) ps
      two j l (yes e) = rw e (get_or-set_same once (2 * (i + 1) + 1) s' 0 (simp length-set (omega arith)) ∙ second)
      two j l (no n) = get_or-set_other once (2 * (i + 1) + 1) (2 * j + 1) s' 0 (λ q. n (omega arith)) ∙ get_or-set_other D (2 * (i + 1)) (2 * j + 1) f' 0 (λ q. omega arith) ∙ w.seconds_to j (omega arith)

-- ---- before any position

-- Nothing is visited before the first.
pub no_visits : (ps : List (ℕ × ℕ)) (r D : List ℕ) → length D ≡ 1027 → get_or D 0 0 ≡ 0 → get_or D 1 0 ≡ 0 → get_or D 1026 0 ≡ 0 → Visits ps r D
unfolding visited
no_visits ps r D places f s e = record { places = places; reach = omega arith; firsts = first; seconds = second }
  where
    first : (i : ℕ) → i ≤ get_or D 1026 0 → get_or D (2 * i) 0 ≡ marks (λ p. visited p.0 (take i r)) ps
    first zero l = f ∙ sym (no_marks ps)
    first (suc i) l = absurd (omega arith)

    second : (i : ℕ) → i ≤ get_or D 1026 0 → get_or D (2 * i + 1) 0 ≡ marks (λ p. visited p.1 (take i r)) ps
    second zero l = s ∙ sym (no_marks ps)
    second (suc i) l = absurd (omega arith)

module _ {ps : List (ℕ × ℕ)} {r D : List ℕ} (w : Visits ps r D) where
  pub none_first : get_or D 0 0 ≡ 0
  unfolding visited
  none_first = w.firsts 0 (omega arith) ∙ no_marks ps

  pub none_second : get_or D 1 0 ≡ 0
  unfolding visited
  none_second = w.seconds 0 (omega arith) ∙ no_marks ps
