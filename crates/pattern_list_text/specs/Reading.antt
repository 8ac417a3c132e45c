-- The running form of reading a list.
use Rattle.std.specs.Prelude.{cond, List, [], ◌∷◌, ℕ, zero, suc, leb, ltb, length}
use Rattle.std.proofs.Math.Option.{Option, none, some, bind}
use Rattle.theory.specs.Moves.{Pattern}
use Rattle.text_decimal.specs.Text.{ascii}
use Rattle.text_tokens.specs.Tokens.{digit, numeral, after}
use Rattle.text_lines.specs.Reading.{value}
use Rattle.pattern_list_text.specs.List.{PatternList}

-- Digits off the front, as long as there are any.
unfoldable pub order_of : List ℕ → List ℕ × List ℕ
unfolding digit
order_of [] = ([], [])
order_of (b ∷ t) = let later = order_of t in cond (ltb (digit (b ∷ t)) 10) (digit (b ∷ t) ∷ later.0, later.1) ([], b ∷ t)

-- A row's line.
unfoldable pub row_of : List ℕ → Option (Pattern × List ℕ)
unfolding after order_of numeral bind
row_of t =
    bind (after (ascii "pattern=") t) (λ o.
    bind (after (ascii ",") (order_of o).1) (λ m.
    bind (numeral m) (λ mask.
    bind (after (ascii "\n") mask.1) (λ r. some (record { order = (order_of o).0; mask = mask.0 }, r)))))

-- A row before others.
unfoldable pub row_before : Pattern → Option (List Pattern) → Option (List Pattern)
row_before p none = none
row_before p (some ps) = some (p ∷ ps)

-- Lines up to the end of the text, at most so many.
unfoldable pub rows_of : ℕ → List ℕ → Option (List Pattern)
unfolding row_of row_before bind
rows_of zero [] = some []
rows_of zero (b ∷ t) = none
rows_of (suc most) [] = some []
rows_of (suc most) (b ∷ t) = bind (row_of (b ∷ t)) (λ r. row_before r.0 (rows_of most r.1))

-- The whole text. One of 60,000 bytes holds fewer lines.
unfoldable pub list_of : List ℕ → Option PatternList
unfolding value rows_of bind
list_of t =
    bind (value (ascii "k=") t) (λ k.
    bind (value (ascii "patterns=") k.1) (λ n.
    bind (rows_of 60000 n.1) (λ rows. some (record { k = k.0; announced = n.0; rows = rows }))))

unfoldable pub read : List ℕ → Option PatternList
unfolding list_of
read t = let l = list_of t in cond (leb (length t) 60000) l none
