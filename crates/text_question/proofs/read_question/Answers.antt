-- `text_question::read_question` meets its contract, part by part. Assumes nothing.
use Prim.Native.Nat.{ℕ, ◌*◌, ◌≤◌, ◌<◌}
use mathlib.Core.Path.{◌≡◌, sym, ap, ◌∙◌}
use mathlib.Core.List.{List}
use borrow.Author.Tests.{eqb-true, eqb-false}
use mathlib.Core.Option.{some}
use lib.ListN.{length}
use lib.Seq.{length-take-le}
use Rattle.theory.specs.Tables.{tables}
use Rattle.text_decimal.specs.Text.{ascii}
use Rattle.text_lines.specs.Reading.{line_of}
use Rattle.text_round.proofs.Counting.{Counted, was_counted, not_counted}
use Rattle.text_tables.specs.Tables.{tables_of}
use Rattle.text_question.specs.Reading.{header}
use Rattle.text_question.proofs.Heading.{header_sound}
use Rattle.text_question.proofs.Answers.{empty, too_long, header_missing, tables_missing, round_missing, more_left, question_read, front_part, cells_few}
use native.Mathlib.Omega.{arith}
use Rattle.text_question.proofs.read_question.Goals as goal
use Rattle.text_question.proofs.read_question.Goals.{In_ok-header, In_ok-round, In_ok-stops}

header_is : (c : In_ok-header) →
    let h = c.in_ok-header.header in
    header c.args.text.now ≡ some (record { k = h.k; allowance = h.allowance; locations = h.locations; depot = h.depot; end = h.end }, c.in_ok-header.rest.now)
header_is c = rw c.in_ok-header.was at c.read_header.ensures

few : (c : In_ok-header) → c.in_ok-header.header.locations ≤ 96
few c = (header_sound _ _ _ (header_is c)).few_locations

cells : (c : In_ok-header) → c.in_ok-header.header.locations * c.in_ok-header.header.locations ≤ length c.args.legs.now
cells c = omega (arith, cells_few c.in_ok-header.header.locations (few c))

tables_are : (c : In_ok-round) →
    let n = c.in_ok-header.header.locations in
    tables_of n c.in_ok-header.rest.now ≡ some (tables n c.read_tables.new.legs c.read_tables.new.latest c.read_tables.new.service, c.in_ok-round.round.now)
tables_are c = rw c.in_ok-round.was at c.read_tables.ensures

round_is : (c : In_ok-stops) →
    Counted (line_of (ascii "round=") 30000 c.in_ok-round.round.now) c.in_ok-stops.stops.count c.in_ok-stops.stops.highest c.in_ok-stops.end.now
round_is c = was_counted _ _ _ _ (rw c.in_ok-stops.was at c.scan_round.ensures)

pub returns-then-text-gt60000 : goal.returns-then-text-gt60000
returns-then-text-gt60000 c = too_long c.args.text.now c.if-text-gt60000.true

pub returns-in_err-header : goal.returns-in_err-header
returns-in_err-header c = rw c.from_residual.ensures (header_missing c.args.text.now c.if-text-gt60000.false (rw c.in_err-header.was at c.read_header.ensures))

pub overflow_mul-cells : goal.overflow_mul-cells
overflow_mul-cells c = omega (arith, cells_few c.in_ok-header.header.locations (few (goal.at.overflow_mul-cells c).In_ok-header))

pub slice_bounds-read_tables-end : goal.slice_bounds-read_tables-end
slice_bounds-read_tables-end c = cells (goal.at.slice_bounds-read_tables-end c).In_ok-header

pub slice_bounds-read_tables-end-2 : goal.slice_bounds-read_tables-end-2
slice_bounds-read_tables-end-2 c = sym (length-take-le _ _ (cells (goal.at.slice_bounds-read_tables-end-2 c).In_ok-header))

pub slice_bounds-read_tables-end-3 : goal.slice_bounds-read_tables-end-3
slice_bounds-read_tables-end-3 c = omega (arith, few (goal.at.slice_bounds-read_tables-end-3 c).In_ok-header)

pub slice_bounds-read_tables-end-4 : goal.slice_bounds-read_tables-end-4
slice_bounds-read_tables-end-4 c = sym (length-take-le _ _ (omega (arith, few (goal.at.slice_bounds-read_tables-end-4 c).In_ok-header)))

pub slice_bounds-read_tables-end-5 : goal.slice_bounds-read_tables-end-5
slice_bounds-read_tables-end-5 c = omega (arith, few (goal.at.slice_bounds-read_tables-end-5 c).In_ok-header)

pub slice_bounds-read_tables-end-6 : goal.slice_bounds-read_tables-end-6
slice_bounds-read_tables-end-6 c = sym (length-take-le _ _ (omega (arith, few (goal.at.slice_bounds-read_tables-end-6 c).In_ok-header)))

pub read_tables-requires : goal.read_tables-requires
read_tables-requires c =
    let n = c.in_ok-header.header.locations in
    let h = (goal.at.read_tables-requires c).In_ok-header in
    record {
      square = record { square = length-take-le (n * n) c.args.legs.now (cells h) };
      deadlines = length-take-le n c.args.latest.now (omega (arith, few h));
      services = length-take-le n c.args.service.now (omega (arith, few h));
    }

pub returns-in_err-round : goal.returns-in_err-round
returns-in_err-round c =
    rw c.from_residual-in_err-round.ensures
    (tables_missing c.args.text.now c.if-text-gt60000.false (header_is (goal.at.returns-in_err-round c).In_ok-header) (rw c.in_err-round.was at c.read_tables.ensures))

pub returns-in_err-stops : goal.returns-in_err-stops
returns-in_err-stops c =
    let at = goal.at.returns-in_err-stops c in
    rw c.from_residual-in_err-stops.ensures
    (round_missing c.args.text.now c.if-text-gt60000.false (header_is at.In_ok-header) (tables_are at.In_ok-round) (not_counted _ (rw c.in_err-stops.was at c.scan_round.ensures)))

pub returns-then-not-is_empty : goal.returns-then-not-is_empty
returns-then-not-is_empty c =
    let at = goal.at.returns-then-not-is_empty c in
    let left : 0 < length c.in_ok-stops.end.now = omega (arith, eqb-false _ _ (sym c.is_empty.ensures ∙ c.if-not-is_empty.true)) in
    more_left c.args.text.now c.if-text-gt60000.false (header_is at.In_ok-header) (tables_are at.In_ok-round) (round_is at.In_ok-stops).found_is left

pub returns : goal.returns
returns c =
    let at = goal.at.returns c in
    let n = c.in_ok-header.header.locations in
    let read = c.read_tables in
    let k = round_is at.In_ok-stops in
    let none : length c.in_ok-stops.end.now ≡ 0 = eqb-true _ _ (sym c.is_empty.ensures ∙ c.if-not-is_empty.false) in
    record {
      stops = k.stops;
      reads =
          rw (
            front_part (n * n) c.args.legs.now read.new.legs (cells at.In_ok-header) read.auto.legs,
            front_part n c.args.latest.now read.new.latest (omega (arith, few at.In_ok-header)) read.auto.latest,
            front_part n c.args.service.now read.new.service (omega (arith, few at.In_ok-header)) read.auto.service,
          )
          (question_read c.args.text.now c.if-text-gt60000.false (header_is at.In_ok-header) (tables_are at.In_ok-round) k.found_is none);
      count_is = k.count_is;
      top_is = k.top_is;
      line_is = k.found_is ∙ ap (λ (r : List ℕ). some (k.stops, r)) (empty c.in_ok-stops.end.now none);
    }
