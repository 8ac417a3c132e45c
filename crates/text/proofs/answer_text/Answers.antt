-- `text::answer_text` meets its contract. Assumes nothing.
use mathlib.Core.Path.{sym}
use native.Mathlib.Omega.{arith}
use lib.Seq.{length-take-le}
use Rattle.text_printing.proofs.Lengths.{refusal_length}
use Rattle.text.proofs.Answering.{refused, polished, stops_in}
use Rattle.text.proofs.answer_text.Goals as goal

pub print_refusal-requires : goal.print_refusal-requires
print_refusal-requires c = record { room = omega (arith, refusal_length c.number.result (omega arith), c.requires.room.places) }

pub slice_bounds-print_polished-end : goal.slice_bounds-print_polished-end
slice_bounds-print_polished-end c = (stops_in c.polish_in_places.ensures _ c.in-Ok.is).1

pub slice_bounds-print_polished-end-in-Ok : goal.slice_bounds-print_polished-end-in-Ok
slice_bounds-print_polished-end-in-Ok c = sym (length-take-le _ _ (stops_in c.polish_in_places.ensures _ c.in-Ok.is).1)

pub print_polished-requires : goal.print_polished-requires
print_polished-requires c =
    let in_places = stops_in c.polish_in_places.ensures _ c.in-Ok.is in
    record { few = omega (arith, length-take-le c.in-Ok.answer.count c.polish_in_places.new.stops in_places.1, in_places.0); room = c.requires.room }

pub returns-in-Err : goal.returns-in-Err
returns-in-Err c = refused c.polish_in_places.ensures _ _ _ _ c.in-Err.is (rw c.number.ensures at c.print_refusal.ensures)

pub returns-in-Ok : goal.returns-in-Ok
returns-in-Ok c = polished c.polish_in_places.ensures _ _ _ _ c.in-Ok.is c.print_polished.ensures
