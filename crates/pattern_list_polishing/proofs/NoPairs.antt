-- An empty list of pairs is answered by the call without pairs. Assumes nothing.
use mathlib.Core.Path.{◌≡◌, refl, sym}
use mathlib.Core.List.{List, [], ◌∷◌}
use Prim.Native.Nat.{ℕ}
use native.Mathlib.Omega.{arith}
use lib.ListN.{length}
use Rattle.theory.specs.Tables.{Tables}
use Rattle.theory.specs.Question.{question, question_with_pairs}
use Rattle.pattern_list_polishing.specs.Polishing.{PolishWithPatternsReply, PolishWithPatternsAndPairsReply}
use Rattle.pattern_list_polishing.proofs.Replies.{alike}
use Rattle.pattern_list_polishing.proofs.Judging.{list_unpaired}

pub none_listed : (k A : ℕ) (T : Tables) (depot end : ℕ) (pairs route orders masks result : List ℕ) → length pairs ≡ 0 → {answer : ℕ} {route' result' : List ℕ} →
    PolishWithPatternsReply (question k A T.locations T.legs T.latest T.service depot end route) orders masks result answer route' result' →
    PolishWithPatternsAndPairsReply (question_with_pairs k A T.locations T.legs T.latest T.service depot end pairs route) orders masks result answer route' result'
none_listed k A T depot end [] route orders masks result none =
    let q = question k A T.locations T.legs T.latest T.service depot end route in
    alike q result (sym (list_unpaired q orders masks (length result) refl)) refl
none_listed k A T depot end (a ∷ l) route orders masks result none = absurd (omega (arith, none))
