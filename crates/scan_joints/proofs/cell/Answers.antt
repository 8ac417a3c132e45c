-- `scan_joints::cell` meets its contract. Assumes nothing.
use borrow.Author.Rules.{rules}
use Rattle.scan_joints.proofs.cell.Goals as goal

pub returns : goal.returns
returns c = record { is = search rules; small = c.requires.padded.small _ }
