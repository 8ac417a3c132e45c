use Rattle.std.proofs.Common.{Some, None}
use Rattle.find_move.proofs.Patterns.{lent_rows, first_found}
use Rattle.find_move.proofs.first_pattern.Goals as goal

pub returns-in_err-index : goal.returns-in_err-index
returns-in_err-index c =
    rw c.from_residual.ensures (first_found c.requires (lent_rows c.part_of-part.ensures c.orders-orders.ensures c.masks-masks.ensures) None (rw c.in_err-index.was at c.first_row.ensures))

pub returns : goal.returns
returns c =
    first_found c.requires (lent_rows c.part_of-part.ensures c.orders-orders.ensures c.masks-masks.ensures) (Some c.in_ok-index.index) (rw c.in_ok-index.was at c.first_row.ensures)
