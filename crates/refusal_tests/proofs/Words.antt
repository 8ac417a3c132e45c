-- What the library's words say in the words of the rules. Assumes nothing.
use Rattle.std.proofs.Common.{◌≡◌, ℕ, ◌+◌, ◌<◌, ◌≤◌, ◌^◌, List, [], ◌∷◌, refl, sym, ap, ◌∙◌, arith}
use Rattle.std.specs.Prelude.{sum}
use Rattle.std.proofs.lemmas.List.Elements.{All-from_get_or}
use Rattle.std.proofs.lemmas.List.Sums.{sum_by-le, sum_by-cons}
use Rattle.theory.specs.Moves.{total}
use Rattle.refusal_tests.specs.Rounds.{ShortRounds}

-- The sum of the lengths fits.
pub short_sum : (lengths : List ℕ) → ShortRounds lengths → sum lengths < 2 ^ 64
short_sum lengths s = omega (arith, s.few, sum_by-le (λ x. x) 512 lengths (All-from_get_or (λ x. x ≤ 512) lengths 0 s.short))

pub total_sum : (xs : List ℕ) → total (λ n. n) xs ≡ sum xs
unfolding total
total_sum [] = refl
total_sum (x ∷ xs) = ap (λ n. x + n) (total_sum xs) ∙ sym (sum_by-cons (λ n. n) x xs)
