-- Digits and values put into lent places. Assumes nothing.
use mathlib.Core.Path.{◌≡◌, sym, ap, ◌∙◌}
use mathlib.Core.List.{List, [], ◌∷◌, map-append}
use Prim.Native.Nat.{ℕ, ◌+◌, ◌-◌, ◌≤◌, ◌<◌}
use native.Mathlib.Numerals.{add-one}
use native.Mathlib.Omega.{arith}
use lib.ListN.{length, get_or, take, set}
use lib.Seq.{take-suc, take-suc-set, take_all}
use Rattle.pattern_list_text.specs.Told.{values}

pub one_put : (digits out : List ℕ) (i : ℕ) → i < length digits → length out ≡ length digits → take i out ≡ values (take i digits) →
    take (i + 1) (set out i (get_or digits i 0 - 48)) ≡ values (take (i + 1) digits)
one_put digits out i h l e =
    rw (add-one i, take-suc-set out i (get_or digits i 0 - 48) (omega arith), take-suc digits i 0 h, e) (sym (map-append (λ b. b - 48) (take i digits) (get_or digits i 0 ∷ [])))

pub all_put : (digits out : List ℕ) (i : ℕ) → length digits ≤ i → length out ≡ length digits → take i out ≡ values (take i digits) → out ≡ values digits
all_put digits out i h l e = sym (take_all i out (omega arith)) ∙ e ∙ ap values (take_all i digits h)
