-- `precedence_contradictions::behind_another` meets its contract. The invariant: found are those of the stops so far. Assumes nothing.
use mathlib.Core.Path.{◌≡◌, ap, ◌∙◌}
use Prim.Native.Nat.{suc, ◌+◌}
use native.Mathlib.Omega.{arith}
use lib.ListN.{length, get_or, take}
use lib.Seq.{take-length, take-suc}
use Rattle.precedence_contradictions.proofs.Left.{found_among, none_found, one_more, turned}
use Rattle.precedence_contradictions.proofs.behind_another.Goals as goal

pub loop-stop-init : goal.loop-stop-init
loop-stop-init c = (omega arith, λ ps m t e. none_found t ps)

pub firsts_at-firsts-requires : goal.firsts_at-firsts-requires
firsts_at-firsts-requires c =
    record { places = c.requires.places; known = c.requires.known _ (omega (arith, c.loop-stop-test.true)) }

pub seconds_at-seconds-requires : goal.seconds_at-seconds-requires
seconds_at-seconds-requires c =
    record { places = c.requires.places; known = c.requires.known _ (omega (arith, c.loop-stop-test.true)) }

pub loop-stop-preserved : goal.loop-stop-preserved
loop-stop-preserved c =
    let l = c.loop-stop in
    let h = c.loop-stop-test.true in
    let z : l.stop-index + 1 ≡ suc l.stop-index = omega arith in (
      omega (arith, h),
      λ ps m t e.
          rw (z, take-suc c.args.route.now l.stop-index 0 h)
          (one_more ps c.args.members.now m t c.args.left e (take l.stop-index c.args.route.now) (get_or c.args.route.now l.stop-index 0) (c.requires.known l.stop-index h) l.found _ (l.invariant.1 ps m t e)
          (rw (c.firsts_at-firsts.ensures, c.seconds_at-seconds.ensures) at c.firsts_if-found.ensures)),
    )

pub returns : goal.returns
returns c =
    let l = c.loop-stop in
    let z : l.stop-index ≡ length c.args.route.now = omega (arith, l.invariant.0, c.loop-stop-test.false) in
    record {
      is = λ ps m t e.
          turned ps c.args.members.now m t c.args.left e c.args.route.now l.found
          (l.invariant.1 ps m t e ∙ ap (λ n. found_among t ps (take n c.args.route.now)) z ∙ ap (found_among t ps) (take-length c.args.route.now));
    }
