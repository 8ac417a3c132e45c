-- `reconnection::copy_in` meets its contract. The invariant: the part is copied up to the present place, and what lies beyond it stands.
use mathlib.Core.Path.{◌≡◌, refl, ◌∙◌}
use lib.ListN.{length, length-set}
use lib.Seq.{paste-suc, paste-zero, take-length}
use native.Mathlib.Numerals.{add-one}
use native.Mathlib.Omega.{arith}
use Rattle.reconnection.proofs.copy_in.Goals as goal

pub loop-i-init : goal.loop-i-init
loop-i-init c =
    (omega arith, refl, paste-zero c.args.dst.now c.args.at c.args.src.now)

pub loop-i-preserved : goal.loop-i-preserved
loop-i-preserved c =
    let l = c.loop-i in (
      omega arith,
      simp length-set l.invariant.1,
      rw (add-one, l.invariant.2) (paste-suc c.args.dst.now c.args.at c.args.src.now l.i 0 (omega arith) (omega arith)),
    )

pub returns : goal.returns
returns c =
    let l = c.loop-i in
    let e : l.i ≡ length c.args.src.now = omega arith in
    l.invariant.2 ∙ rw (e, take-length)
