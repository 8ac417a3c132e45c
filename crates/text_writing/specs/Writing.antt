-- What is asked where a problem's text is written.
use Rattle.std.specs.Prelude.{ℕ, List}
use Rattle.theory.specs.Tables.{Tables}
use Rattle.theory.specs.Question.{Question}
use Rattle.text_decimal.specs.Text.{Room}
use Rattle.text_tables.specs.Tables.{Square}
use Rattle.text_question.specs.Question.{legs_lines, text_of}
use Rattle.text_sizes.specs.Parts.{tables_text}

-- A square table, and room for its lines.
pub record RowsFit (locations : ℕ) (legs out : List ℕ) (at : ℕ) : Type 0 where
  pub square : Square locations legs
  pub room : Room (legs_lines locations locations legs) out at

pub record TablesFit (T : Tables) (out : List ℕ) (at : ℕ) : Type 0 where
  pub square : Square T.locations T.legs
  pub room : Room (tables_text T) out at

pub record TextFits (q : Question) (out : List ℕ) : Type 0 where
  pub square : Square q.trip.tables.locations q.trip.tables.legs
  pub room : Room (text_of q) out 0
