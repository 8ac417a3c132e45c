-- Document 01's example, rounds that are late at their first and at their last stop, and a refusal, by computation.
use mathlib.Core.Path.{◌≡◌, refl}
use mathlib.Core.Bool.{true, false}
use mathlib.Core.List.{[], ◌∷◌}
use Rattle.text_decimal.specs.Text.{ascii, line}
use Rattle.text_printing.specs.Answer.{late_line, answer_text, refusal_text}

pub polished : answer_text true 11 1 15 3 2 (2 ∷ 1 ∷ []) ≡ ascii "answer=finished\nexamined=11\naccepted=1\nbefore=15\nafter=3\nround=2,1\nlate=none\n"
unfolding answer_text late_line line
polished = refl

pub first_late : answer_text true 7 0 15 15 0 (1 ∷ 2 ∷ []) ≡ ascii "answer=finished\nexamined=7\naccepted=0\nbefore=15\nafter=15\nround=1,2\nlate=0\n"
unfolding answer_text late_line line
first_late = refl

pub last_late : answer_text true 7 0 15 15 1 (1 ∷ 2 ∷ []) ≡ ascii "answer=finished\nexamined=7\naccepted=0\nbefore=15\nafter=15\nround=1,2\nlate=1\n"
unfolding answer_text late_line line
last_late = refl

pub empty_round : answer_text false 0 0 7 7 0 [] ≡ ascii "answer=spent\nexamined=0\naccepted=0\nbefore=7\nafter=7\nround=\nlate=none\n"
unfolding answer_text late_line line
empty_round = refl

pub refused : refusal_text 10 ≡ ascii "refused=10\n"
unfolding line
refused = refl
