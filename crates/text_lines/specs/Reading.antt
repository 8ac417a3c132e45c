-- The running form of reading a line: each reader takes what it wants off the front of a text and hands on the rest.
use Rattle.std.specs.Prelude.{cond, List, [], ◌∷◌, ◌++◌, ℕ, zero, suc, eqb, length, get_or, drop}
use Rattle.std.proofs.Math.Option.{Option, none, some, bind}
use Rattle.text_tokens.specs.Tokens.{choose, front, numeral, after}

-- Entries read before others.
unfoldable pub before : List ℕ → Option (List ℕ × List ℕ) → Option (List ℕ × List ℕ)
before xs none = none
before xs (some r) = some (xs ++ r.0, r.1)

-- One number or more with commas between, up to the line's end; at most `room`.
unfoldable pub entries : ℕ → List ℕ → Option (List ℕ × List ℕ)
unfolding numeral bind before
entries zero t = none
entries (suc room) t =
    bind (numeral t) (λ r.
    let later = before (r.0 ∷ []) (entries room (drop 1 r.1)) in
    choose (eqb (front r.1) 10) (some (r.0 ∷ [], drop 1 r.1)) (eqb (front r.1) 44) later none)

-- The same or none.
unfoldable pub entries_or_none : ℕ → List ℕ → Option (List ℕ × List ℕ)
unfolding entries
entries_or_none room t = let some_entries = entries room t in cond (eqb (front t) 10) (some ([], drop 1 t)) some_entries

-- A line of at most `room` numbers.
unfoldable pub line_of : List ℕ → ℕ → List ℕ → Option (List ℕ × List ℕ)
unfolding after bind entries_or_none
line_of key room t = bind (after key t) (entries_or_none room)

-- A line of `count` numbers.
unfoldable pub row : List ℕ → ℕ → List ℕ → Option (List ℕ × List ℕ)
unfolding line_of bind
row key count t = bind (line_of key count t) (λ r. cond (eqb (length r.0) count) (some r) none)

-- A line of one number.
unfoldable pub value : List ℕ → List ℕ → Option (ℕ × List ℕ)
unfolding row bind
value key t = bind (row key 1 t) (λ r. some (get_or r.0 0 0, r.1))
