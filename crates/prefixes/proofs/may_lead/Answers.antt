-- `may_lead` meets its contract. Assumes nothing.
use mathlib.Core.Path.{refl}
use Prim.Native.Nat.{◌-◌, ◌*◌, ◌/◌, ◌^◌}
use lib.Bits.{bit_and}
use lib.ListN.{get_or}
use Rattle.standing.proofs.Places.{has_both, has_lower}
use Rattle.prefixes.proofs.Prefix.{not_by_ends, not_by_parts}
use Rattle.prefixes.proofs.may_lead.Goals as goal

pub returns-then-unknown-eq1 : goal.returns-then-unknown-eq1
returns-then-unknown-eq1 c =
    let a = c.args in
    let one = c.one_place in
    let known_stops = get_or a.cuts.now a.known 0 - get_or a.cuts.now 0 0 in
    λ e.
    not_by_ends a.k a.known a.cuts.now a.stands.now a.ends.now a.parts.now a.head a.tail (get_or a.cuts.now a.known 0 * 49) (a.tail / 2 ^ known_stops) (a.k - a.known - 1) (a.k - 1)
    (bit_and a.head one.result) c.requires refl refl refl (λ x q h. has_both a.head one.result x h (rw q one.ensures.here)) (λ g h. has_lower a.tail known_stops g h) c.if-unknown-eq1.true (c.leads.ensures e)

pub returns : goal.returns
returns c =
    let a = c.args in
    let one = c.one_place in
    let known_stops = get_or a.cuts.now a.known 0 - get_or a.cuts.now 0 0 in
    λ e.
    not_by_parts a.k a.known a.cuts.now a.stands.now a.ends.now a.parts.now a.head a.tail (get_or a.cuts.now a.known 0 * 49) (a.tail / 2 ^ known_stops) (a.k - a.known - 1) (a.k - 1)
    (bit_and a.head one.result) c.requires refl refl refl (λ x q h. has_both a.head one.result x h (rw q one.ensures.here)) (λ g h. has_lower a.tail known_stops g h) (c.leads-2.ensures e)
