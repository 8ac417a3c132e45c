-- `pattern_table::part_of` meets its contract, case by case. Assumes nothing.
use mathlib.Core.Path.{◌≡◌}
use native.Mathlib.Omega.{arith}
use Rattle.pattern_table.proofs.Table.{table_right}
use borrow.Author.Rules.{rules}
use Rattle.pattern_table.proofs.part_of.Goals as goal

pub returns-in-2 : goal.returns-in-2
returns-in-2 c = rw c.in-2.is (search (rules, table_right.0))

pub returns-in-3 : goal.returns-in-3
returns-in-3 c = rw c.in-3.is (search (rules, table_right.1))

pub returns-in-4 : goal.returns-in-4
returns-in-4 c = rw c.in-4.is (search (rules, table_right.2))

pub returns-in_default : goal.returns-in_default
returns-in_default c =
    let e : c.args.k ≡ 5 = omega (arith, c.requires) in
    rw e (search (rules, table_right.3))
