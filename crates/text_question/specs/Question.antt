-- The text of a question of document 01's text program, and which questions a text can hold.
use Rattle.std.specs.Prelude.{◌≡◌, List, [], ◌∷◌, ◌++◌, ℕ, zero, suc, ◌≤◌, length, take, drop}
use Rattle.theory.specs.Tables.{Tables}
use Rattle.theory.specs.Question.{Question}
use Rattle.text_decimal.specs.Text.{ascii, line, Small}
use Rattle.text_tables.specs.Tables.{Sized}

-- The legs row by row: so many lines, so many entries in each.
unfoldable pub legs_lines : ℕ → ℕ → List ℕ → List ℕ
legs_lines zero width legs = []
legs_lines (suc rows) width legs = line (ascii "legs=") (take width legs) ++ legs_lines rows width (drop width legs)

-- The tables, and then the rest.
abbrev pub tabled : Tables → List ℕ → List ℕ
tabled T r = legs_lines T.locations T.locations T.legs ++ (line (ascii "latest=") T.latest ++ (line (ascii "service=") T.service ++ r))

-- The lines in the order of document 01's example, `end=` after `depot=`, `service=` after `latest=`. "An empty round is `round=`."
unfoldable pub text_of : Question → List ℕ
text_of q =
    line (ascii "k=") (q.k ∷ [])
    ++ (line (ascii "allowance=") (q.allowance ∷ [])
    ++ (line (ascii "locations=") (q.trip.tables.locations ∷ [])
    ++ (line (ascii "depot=") (q.trip.depot ∷ [])
    ++ (line (ascii "end=") (q.trip.end ∷ [])
    ++ tabled q.trip.tables (line (ascii "round=") q.route)))))

-- As many lines and entries "as `locations=` says".
pub record HeldTables (T : Tables) : Type 0 where
  pub sized : Sized T
  pub small_legs : Small T.legs
  pub small_latest : Small T.latest
  pub small_service : Small T.service

-- What a text can hold: "at most 60,000 bytes, 96 locations", and no pairs.
pub record Held (q : Question) : Type 0 where
  pub some_location : 1 ≤ q.trip.tables.locations
  pub few_locations : q.trip.tables.locations ≤ 96
  pub tables : HeldTables q.trip.tables
  pub small_header : Small (q.k ∷ q.allowance ∷ q.trip.depot ∷ q.trip.end ∷ [])
  pub small_route : Small q.route
  pub no_pairs : q.trip.pairs ≡ []
  pub short : length (text_of q) ≤ 60000
