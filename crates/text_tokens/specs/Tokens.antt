-- The running form of reading a number or a key: each reader takes what it wants off the front of a text and hands on the rest.
use Rattle.std.specs.Prelude.{Bool, true, false, ◌&&◌, cond, List, [], ◌∷◌, ℕ, ◌+◌, ◌-◌, ◌*◌, ltb, leb, eqb, drop}
use Rattle.std.proofs.Math.Option.{Option, none, some}

-- The first of two tests that holds, or else the last.
abbrev pub choose : {A : Type 0} → Bool → A → Bool → A → A → A
choose true a second b c = a
choose false a true b c = b
choose false a false b c = c

-- The byte in front; 0, which no line has, where the text has ended.
abbrev pub front : List ℕ → ℕ
front [] = 0
front (b ∷ t) = b

-- The value of the digit in front; 10 where none stands there.
unfoldable pub digit : List ℕ → ℕ
digit t = cond (leb 48 (front t) && leb (front t) 57) (front t - 48) 10

-- What follows a number above 0: its further digits, as long as there are any.
unfoldable pub digits_after : ℕ → List ℕ → Option (ℕ × List ℕ)
unfolding digit
digits_after v [] = some (v, [])
digits_after v (b ∷ t) =
    let value = v * 10 + digit (b ∷ t) in
    let longer = digits_after value t in
    choose (leb 10 (digit (b ∷ t))) (some (v, b ∷ t)) (ltb 4294967295 value) none longer

unfoldable pub numeral : List ℕ → Option (ℕ × List ℕ)
unfolding digit digits_after
numeral t =
    let longer = digits_after (digit t) (drop 1 t) in
    choose (eqb (digit t) 0) (some (0, drop 1 t)) (ltb (digit t) 10) longer none

-- The text after a key.
unfoldable pub after : List ℕ → List ℕ → Option (List ℕ)
after [] t = some t
after (k ∷ key) [] = none
after (k ∷ key) (b ∷ t) = let longer = after key t in cond (eqb b k) longer none
