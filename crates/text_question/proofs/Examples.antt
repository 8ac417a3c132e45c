-- Document 01's example written and read, and texts that are not of its form, by computation.
use mathlib.Core.Path.{◌≡◌, refl}
use mathlib.Core.List.{List, [], ◌∷◌, map}
use mathlib.Core.Option.{none, some}
use Prim.Native.Nat.{ℕ}
use Prim.Native.String.{String, ◌++◌}
use Rattle.theory.specs.Question.{Question, question}
use Rattle.text_decimal.specs.Text.{ascii, line}
use Rattle.text_question.specs.Question.{legs_lines, text_of}
use Rattle.text_question.specs.Reading.{read}

abbrev far : ℕ
far = 4294967295

abbrev pub T : Question
T = question 3 100 3 (0 ∷ 5 ∷ 1 ∷ 1 ∷ 0 ∷ 5 ∷ 5 ∷ 1 ∷ 0 ∷ []) (far ∷ far ∷ far ∷ []) (0 ∷ 0 ∷ 0 ∷ []) 0 0 (1 ∷ 2 ∷ [])

abbrev pub TText : List ℕ
TText = ascii "k=3\nallowance=100\nlocations=3\ndepot=0\nend=0\nlegs=0,5,1\nlegs=1,0,5\nlegs=5,1,0\nlatest=4294967295,4294967295,4294967295\nservice=0,0,0\nround=1,2\n"

pub TWritten : text_of T ≡ TText
unfolding text_of legs_lines line
TWritten = refl

pub TRead : read TText ≡ some T
unfolding read
TRead = refl

-- One location, up to the value of the last line; and from the value of `k=` on.
abbrev until_round : String
until_round = "k=2\nallowance=0\nlocations=1\ndepot=0\nend=0\nlegs=7\nlatest=9\nservice=4\nround="

abbrev from_k : String
from_k = "\nallowance=0\nlocations=1\ndepot=0\nend=0\nlegs=7\nlatest=9\nservice=4\nround=\n"

abbrev one_location : ℕ → List ℕ → Question
one_location k route = question k 0 1 (7 ∷ []) (9 ∷ []) (4 ∷ []) 0 0 route

-- An empty round, and two stops; the largest number; a service time that is 23 and well formed, and an end harbour that is 24.
pub read_well : map (λ s. read (ascii s)) (
    (until_round ++ "\n")
    ∷ (until_round ++ "0,0\n")
    ∷ ("k=4294967295" ++ from_k)
    ∷ "k=2\nallowance=0\nlocations=1\ndepot=0\nend=0\nlegs=7\nlatest=9\nservice=1000001\nround=\n"
    ∷ "k=2\nallowance=0\nlocations=1\ndepot=0\nend=1\nlegs=7\nlatest=9\nservice=4\nround=\n"
    ∷ [])
    ≡ map (λ s. some s) (
    one_location 2 []
    ∷ one_location 2 (0 ∷ 0 ∷ [])
    ∷ one_location 4294967295 []
    ∷ question 2 0 1 (7 ∷ []) (9 ∷ []) (1000001 ∷ []) 0 0 []
    ∷ question 2 0 1 (7 ∷ []) (9 ∷ []) (4 ∷ []) 0 1 []
    ∷ [])
unfolding read
read_well = refl

-- A missing last line end, spaces, signs, commas that part nothing, numbers too large or with leading zeros, lines missing, doubled, out of order or of another
-- length, locations outside 1 to 96.
pub malformed : List String
malformed =
    ""
    ∷ until_round
    ∷ (until_round ++ "0")
    ∷ (until_round ++ "0\r\n")
    ∷ (until_round ++ "0 \n")
    ∷ (until_round ++ "0,\n")
    ∷ (until_round ++ ",\n")
    ∷ (until_round ++ "0,,0\n")
    ∷ (until_round ++ "+0\n")
    ∷ (until_round ++ "00\n")
    ∷ (until_round ++ "01\n")
    ∷ (until_round ++ "0\n\n")
    ∷ (until_round ++ "0\nround=\n")
    ∷ ("k=" ++ from_k)
    ∷ ("k=3,4" ++ from_k)
    ∷ ("k=4294967296" ++ from_k)
    ∷ ("k=10000000000" ++ from_k)
    ∷ ("K=3" ++ from_k)
    ∷ ("\nk=3" ++ from_k)
    ∷ "allowance=0\nk=2\nlocations=1\ndepot=0\nend=0\nlegs=7\nlatest=9\nservice=4\nround=\n"
    ∷ "k=2\nallowance=0\nlocations=1\ndepot=0\nlegs=7\nlatest=9\nservice=4\nround=\n"
    ∷ "k=2\nallowance=0\nlocations=1\nend=0\ndepot=0\nlegs=7\nlatest=9\nservice=4\nround=\n"
    ∷ "k=2\nallowance=0\nlocations=0\ndepot=0\nend=0\nlatest=\nservice=\nround=\n"
    ∷ "k=2\nallowance=0\nlocations=97\ndepot=0\nend=0\nlegs=7\nlatest=9\nservice=4\nround=\n"
    ∷ "k=2\nallowance=0\nlocations=1\ndepot=0\nend=0\nlegs=7,7\nlatest=9\nservice=4\nround=\n"
    ∷ "k=2\nallowance=0\nlocations=1\ndepot=0\nend=0\nlegs=\nlatest=9\nservice=4\nround=\n"
    ∷ "k=2\nallowance=0\nlocations=1\ndepot=0\nend=0\nlegs=7\nlegs=7\nlatest=9\nservice=4\nround=\n"
    ∷ "k=2\nallowance=0\nlocations=1\ndepot=0\nend=0\nlegs=7\nlatest=9,9\nservice=4\nround=\n"
    ∷ "k=2\nallowance=0\nlocations=1\ndepot=0\nend=0\nlegs=7\nlatest=9\nround=\n"
    ∷ "k=2\nallowance=0\nlocations=1\ndepot=0\nend=0\nlegs=7\nservice=4\nlatest=9\nround=\n"
    ∷ "k=2\nallowance=0\nlocations=1\ndepot=0\nend=0\nlegs=7\nlatest=9\nservice=4,4\nround=\n"
    ∷ "k=2\nallowance=0\nlocations=1\ndepot=0\nend=0\nlegs=7\nlatest=9\nservice=\nround=\n"
    ∷ []

pub none_read : map (λ s. read (ascii s)) malformed ≡ map (λ _. none) malformed
unfolding read malformed
none_read = refl
