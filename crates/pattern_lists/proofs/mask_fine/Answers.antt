use Rattle.std.proofs.Common.{◌≡◌, ℕ, zero, suc, ◌*◌, ◌%◌, ◌^◌, ◌≤◌, refl, arith}
use borrow.Author.Tests.{eq-eqb, ne_eqb}
use Rattle.pattern_lists.specs.Lists.{fine_mask}
use Rattle.pattern_lists.proofs.mask_fine.Goals as goal

-- The bit of a k of at most 5 lies in a byte.
bit_of : (k : ℕ) → k ≤ 5 → 1 * 2 ^ k % 256 ≡ 2 ^ k
bit_of zero h = refl
bit_of (suc zero) h = refl
bit_of (suc (suc zero)) h = refl
bit_of (suc (suc (suc zero))) h = refl
bit_of (suc (suc (suc (suc zero)))) h = refl
bit_of (suc (suc (suc (suc (suc zero))))) h = refl
bit_of (suc (suc (suc (suc (suc (suc k)))))) h = absurd (omega arith)

pub returns-then-mask-eq0 : goal.returns-then-mask-eq0
unfolding fine_mask
returns-then-mask-eq0 c = rw (bit_of c.args.k c.requires.1, eq-eqb _ _ c.if-mask-eq0.true)

pub returns-else-mask-eq0 : goal.returns-else-mask-eq0
unfolding fine_mask
returns-else-mask-eq0 c = rw (ne_eqb _ _ c.if-mask-eq0.false)
