-- The running form of reading a question.
use Rattle.std.specs.Prelude.{◌&&◌, cond, List, [], ◌∷◌, ℕ, leb, length}
use Rattle.std.proofs.Math.Option.{Option, none, some, bind}
use Rattle.theory.specs.Question.{Question}
use Rattle.text_decimal.specs.Text.{ascii}
use Rattle.text_lines.specs.Reading.{line_of, value}
use Rattle.text_tables.specs.Tables.{tables_of}

pub record Heading : Type 0 where
  pub k : ℕ
  pub allowance : ℕ
  pub locations : ℕ
  pub depot : ℕ
  pub end : ℕ

-- The lines before the legs. "Locations outside 1 to 96 .. are 10."
unfoldable pub header : List ℕ → Option (Heading × List ℕ)
unfolding value bind
header t =
    bind (value (ascii "k=") t) (λ k.
    bind (value (ascii "allowance=") k.1) (λ allowance.
    bind (value (ascii "locations=") allowance.1) (λ locations.
    bind (value (ascii "depot=") locations.1) (λ depot.
    bind (value (ascii "end=") depot.1) (λ end.
    cond
    (leb 1 locations.0 && leb locations.0 96)
    (some (record { k = k.0; allowance = allowance.0; locations = locations.0; depot = depot.0; end = end.0 }, end.1))
    none)))))

-- The rest must be nothing.
abbrev pub ended : {A : Type 0} → A → List ℕ → Option A
ended a [] = some a
ended a (b ∷ t) = none

-- The whole text. One of 60,000 bytes holds fewer than 30,000 stops.
unfoldable pub question_of : List ℕ → Option Question
unfolding header tables_of line_of bind
question_of t =
    bind (header t) (λ h.
    bind (tables_of h.0.locations h.1) (λ g.
    bind (line_of (ascii "round=") 30000 g.1) (λ route.
    ended (record { k = h.0.k; allowance = h.0.allowance; trip = record { tables = g.0; depot = h.0.depot; end = h.0.end; pairs = [] }; route = route.0 }) route.1)))

unfoldable pub read : List ℕ → Option Question
unfolding question_of
read t = let q = question_of t in cond (leb (length t) 60000) q none
