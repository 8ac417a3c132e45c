use Rattle.std.proofs.Common.{rules, ◌≡◌, length}
use Rattle.theory.specs.Refusals.{refusal}
use Rattle.refusal_rules.specs.Rules.{nearby_rules, with_room}
use Rattle.nearby.specs.Walk.{nearby_sets}
use Rattle.listing_calls.proofs.ListingReply.{written_ok}
use Rattle.listing_calls.proofs.write_nearby_cuts.Goals as goal

pub returns : goal.returns
returns c =
    let s = c.args in
    let listed = c.nearby_cuts-answer in
    let free : 0 ≡ refusal (with_room (nearby_rules s.n s.distances.now s.k s.min_segment_len s.max_nearby (length s.sets.now)) 2 (length s.res.now)) = search rules in
    written_ok s.n s.distances.now s.k s.min_segment_len s.max_nearby s.sets.now s.res.now (nearby_sets s.distances.now s.n s.k s.min_segment_len s.max_nearby) listed.result _ _ _ _ free listed.ensures c.listing_numbers.ensures c.put.ensures
