-- `text_question::read_header` meets its contract, line by line. Assumes nothing.
use mathlib.Core.Path.{◌≡◌}
use mathlib.Core.Option.{some}
use Rattle.text_decimal.specs.Text.{ascii}
use Rattle.text_lines.specs.Reading.{value}
use Rattle.text_question.proofs.Heading.{k_missing, allowance_missing, locations_missing, depot_missing, end_missing, no_location, many_locations, header_read}
use Rattle.text_question.proofs.read_header.Goals as goal
use Rattle.text_question.proofs.read_header.Goals.{In_ok-k, In_ok-allowance, In_ok-locations, In_ok-depot, In_ok-end, then-locations-lt1-via-then-locations-lt1, then-locations-lt1-via-else-locations-lt1+then-locations-gt96}

k_read : (c : In_ok-k) → value (ascii "k=") c.args.text.now ≡ some (c.in_ok-k.k, c.in_ok-k.after_k.now)
k_read c = rw c.in_ok-k.was at c.read_value.ensures

allowance_read : (c : In_ok-allowance) → value (ascii "allowance=") c.in_ok-k.after_k.now ≡ some (c.in_ok-allowance.allowance, c.in_ok-allowance.after_allowance.now)
allowance_read c = rw c.in_ok-allowance.was at c.read_value-2.ensures

locations_read : (c : In_ok-locations) → value (ascii "locations=") c.in_ok-allowance.after_allowance.now ≡ some (c.in_ok-locations.locations, c.in_ok-locations.after_locations.now)
locations_read c = rw c.in_ok-locations.was at c.read_value-3.ensures

depot_read : (c : In_ok-depot) → value (ascii "depot=") c.in_ok-locations.after_locations.now ≡ some (c.in_ok-depot.depot, c.in_ok-depot.after_depot.now)
depot_read c = rw c.in_ok-depot.was at c.read_value-4.ensures

end_read : (c : In_ok-end) → value (ascii "end=") c.in_ok-depot.after_depot.now ≡ some (c.in_ok-end.end, c.in_ok-end.rest.now)
end_read c = rw c.in_ok-end.was at c.read_value-5.ensures

pub returns-in_err-k : goal.returns-in_err-k
returns-in_err-k c = rw c.from_residual.ensures (k_missing c.args.text.now (rw c.in_err-k.was at c.read_value.ensures))

pub returns-in_err-allowance : goal.returns-in_err-allowance
returns-in_err-allowance c =
    let at = goal.at.returns-in_err-allowance c in
    rw c.from_residual-in_err-allowance.ensures (allowance_missing c.args.text.now (k_read at.In_ok-k) (rw c.in_err-allowance.was at c.read_value-2.ensures))

pub returns-in_err-locations : goal.returns-in_err-locations
returns-in_err-locations c =
    let at = goal.at.returns-in_err-locations c in
    rw c.from_residual-in_err-locations.ensures (locations_missing c.args.text.now (k_read at.In_ok-k) (allowance_read at.In_ok-allowance) (rw c.in_err-locations.was at c.read_value-3.ensures))

pub returns-in_err-depot : goal.returns-in_err-depot
returns-in_err-depot c =
    let at = goal.at.returns-in_err-depot c in
    rw c.from_residual-in_err-depot.ensures (depot_missing c.args.text.now (k_read at.In_ok-k) (allowance_read at.In_ok-allowance) (locations_read at.In_ok-locations) (rw c.in_err-depot.was at c.read_value-4.ensures))

pub returns-in_err-end : goal.returns-in_err-end
returns-in_err-end c =
    let at = goal.at.returns-in_err-end c in
    rw c.from_residual-in_err-end.ensures (end_missing c.args.text.now (k_read at.In_ok-k) (allowance_read at.In_ok-allowance) (locations_read at.In_ok-locations) (depot_read at.In_ok-depot) (rw c.in_err-end.was at c.read_value-5.ensures))

pub returns-then-locations-lt1 : goal.returns-then-locations-lt1
returns-then-locations-lt1 c =
    let at = goal.at.returns-then-locations-lt1 c in
    elim c.then-locations-lt1.branch [
      | then-locations-lt1-via-then-locations-lt1 w ↦ no_location c.args.text.now (k_read at.In_ok-k) (allowance_read at.In_ok-allowance) (locations_read at.In_ok-locations) (depot_read at.In_ok-depot) (end_read at.In_ok-end) w.if-locations-lt1.true
      | then-locations-lt1-via-else-locations-lt1+then-locations-gt96 w ↦ many_locations c.args.text.now (k_read at.In_ok-k) (allowance_read at.In_ok-allowance) (locations_read at.In_ok-locations) (depot_read at.In_ok-depot) (end_read at.In_ok-end) w.if-locations-gt96.true
    ]

pub returns : goal.returns
returns c =
    let at = goal.at.returns c in
    header_read c.args.text.now (k_read at.In_ok-k) (allowance_read at.In_ok-allowance) (locations_read at.In_ok-locations) (depot_read at.In_ok-depot) (end_read at.In_ok-end) c.if-locations-lt1.false c.if-locations-gt96.false
