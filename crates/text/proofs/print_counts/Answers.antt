-- `text::print_counts` meets its contract: any answer has room. Assumes nothing.
use native.Mathlib.Omega.{arith}
use Rattle.text_printing.proofs.Lengths.{answer_length}
use Rattle.text.proofs.print_counts.Goals as goal

pub print_answer-requires : goal.print_answer-requires
print_answer-requires c =
    let long = answer_length c.args.finished c.args.counts.examined c.args.counts.accepted c.args.counts.before c.args.counts.after c.args.counts.late c.args.route.now
    (omega arith) (omega arith) (omega arith) (omega arith) (omega arith) (λ i. omega (arith, c.shared_slice_known-1.given i)) c.requires.few in
    record { room = omega (arith, long, c.requires.room.places) }
