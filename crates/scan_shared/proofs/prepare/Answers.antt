-- `scan_shared::prepare` meets its contract. Assumes nothing.
use Rattle.scan_joints.proofs.Ends.{ends_fillable}
use Rattle.scan_shared.proofs.Preparing.{joinable, few, fixable, keeps}
use native.Mathlib.Omega.{arith}
use Rattle.scan_shared.proofs.prepare.Goals as goal

pub fill_ends-requires : goal.fill_ends-requires
fill_ends-requires c = ends_fillable (joinable c.requires) c.requires.places.ends

pub fill_fixed-requires : goal.fill_fixed-requires
fill_fixed-requires c =
    fixable c.requires c.fill_ends.ensures _ c.head_end-head.ensures

pub fill_classes-some-requires : goal.fill_classes-some-requires
fill_classes-some-requires c =
    let l = c.clear_low.ensures in
    record { last = omega (arith, (few c.requires).1); rows_fit = c.requires.rows_fit; padded = c.fill_fixed.ensures.blank.padded; signed = c.requires.signed; low_places = l.0; low_small = l.1 }

pub standing_cost-requires : goal.standing_cost-requires
standing_cost-requires c =
    record { padded = c.fill_fixed.ensures.blank.padded; least = (few c.requires).0; most = (few c.requires).1 }

pub returns : goal.returns
returns c =
    keeps c.requires c.fill_ends.ensures _ c.head_end-head.ensures c.fill_fixed.ensures c.fill_classes-some.ensures _ c.standing_cost.ensures
