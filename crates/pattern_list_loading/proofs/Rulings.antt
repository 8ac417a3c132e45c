-- Which number a text is refused with: a case for each ruling, by computation.
use mathlib.Core.Path.{◌≡◌, refl}
use mathlib.Core.List.{List, [], ◌∷◌, map}
use Prim.Native.Nat.{ℕ}
use Prim.Native.String.{String}
use Rattle.theory.specs.Moves.{upfrom}
use Rattle.theory.specs.Route.{count, every}
use Rattle.theory.specs.Refusals.{refusal}
use Rattle.pattern_lists.specs.Lists.{fine_row, same_row, repeats}
use Rattle.text_decimal.specs.Text.{ascii}
use Rattle.pattern_list_text.specs.Reading.{read}
use Rattle.pattern_list_loading.specs.Loading.{load_rules}

abbrev given : String → ℕ
given text = refusal (load_rules (read (ascii text)) 2298 383 2)

pub cases : List (String × ℕ)
cases =
    -- taken, whatever the order of the rows
    ("k=3\npatterns=2\npattern=0213,0\npattern=0123,6\n", 0)
    ∷ ("k=5\npatterns=1\npattern=043215,30\n", 0)
    -- not of the form
    ∷ ("k=3\npatterns=1\npattern=0213\n", 10)
    ∷ ("k=3\npatterns=1\npattern=0213,06\n", 10)
    ∷ ("k=3\npatterns=1\npattern=0x13,2\n", 10)
    ∷ ("k=3\npatterns=4294967296\n", 10)
    -- k before the rows
    ∷ ("k=9\npatterns=1\npattern=11,1\n", 1)
    -- no row, fewer than announced, more; with a row that is no pattern
    ∷ ("k=3\npatterns=0\n", 26)
    ∷ ("k=3\npatterns=2\npattern=0213,2\n", 26)
    ∷ ("k=3\npatterns=1\npattern=0213,2\npattern=0213,4\n", 26)
    ∷ ("k=3\npatterns=2\npattern=0312,0\n", 26)
    -- an order that is empty, too short, too long, with another end, with a segment twice
    ∷ ("k=3\npatterns=1\npattern=,2\n", 27)
    ∷ ("k=3\npatterns=1\npattern=013,2\n", 27)
    ∷ ("k=3\npatterns=1\npattern=01233,2\n", 27)
    ∷ ("k=3\npatterns=1\npattern=0312,0\n", 27)
    ∷ ("k=3\npatterns=1\npattern=0113,2\n", 27)
    -- a mask with bit 0, with bit k, above a byte
    ∷ ("k=3\npatterns=1\npattern=0213,1\n", 27)
    ∷ ("k=3\npatterns=1\npattern=0213,8\n", 27)
    ∷ ("k=3\npatterns=1\npattern=0213,258\n", 27)
    -- a row that changes nothing, and one that stands twice
    ∷ ("k=3\npatterns=1\npattern=0123,0\n", 28)
    ∷ ("k=3\npatterns=3\npattern=0213,2\npattern=0213,4\npattern=0213,2\n", 28)
    -- 27 wherever its row stands
    ∷ ("k=3\npatterns=3\npattern=0213,2\npattern=0213,2\npattern=0312,0\n", 27)
    ∷ []

pub rulings : map (λ c. given c.0) cases ≡ map (λ c. c.1) cases
unfolding cases read refusal count every upfrom fine_row same_row repeats
rulings = refl
