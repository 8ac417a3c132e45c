-- The replies of doable, over plain values. Assumes nothing.
use Rattle.std.proofs.Common.{◌≡◌, ◌∙◌, ap, Bool, cond, List, [], ◌∷◌, ℕ, Ok, Err}
use Rattle.theory.specs.Numbers.{refusal_number}
use Rattle.theory.specs.declared.Refusal.{Refusal}
use Rattle.theory.specs.Refusals.{refusal}
use Rattle.theory.specs.Answers.{reply}
use Rattle.theory.proofs.Checks.{err_reply, ok_reply}
use Rattle.move_applying.specs.Applying.{doable}
use Rattle.move_calls.specs.Entries.{doable_rules, DoableReply}

pub doable_err : (k pattern round n : ℕ) (rounds positions : List ℕ) (e : Refusal) → refusal_number e ≡ refusal (doable_rules k pattern n) → DoableReply k pattern round n rounds positions (Err e)
doable_err k pattern round n rounds positions e known = record { reply_is = err_reply e _ _ known }

pub doable_ok : (k pattern round n : ℕ) (rounds positions : List ℕ) (can : Bool) → 0 ≡ refusal (doable_rules k pattern n) → can ≡ doable k round n rounds positions → DoableReply k pattern round n rounds positions (Ok can)
doable_ok k pattern round n rounds positions can known told = record { reply_is = ap (λ b. reply 0 (cond b 1 0 ∷ [])) told ∙ ok_reply _ _ known }

pub ruleset deciding = (doable_err, doable_ok)
