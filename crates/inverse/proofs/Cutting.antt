-- What a move hands back, cut where its segments arrived. Assumes nothing.
use mathlib.Core.Path.{◌≡◌, refl, ap, ap₂, ◌∙◌}
use mathlib.Core.List.{List, [], ◌∷◌, ◌++◌, map, flatten, append_assoc, append-nil}
use Prim.Native.Nat.{ℕ, ◌+◌, ◌<◌}
use native.Mathlib.Omega.{arith}
use lib.ListN.{length, get_or, drop, length-map, length-append}
use lib.Seq.{slice, take_at, drop_at}
use Rattle.theory.specs.Moves.{Move, Rising}
use Rattle.theory.specs.Route.{segments, reverses, placed, joined, reconnected}
use Rattle.theory.proofs.Route.{length_segment}
use Rattle.theory.proofs.Delta.{length_reverse_if}
use Rattle.inverse.specs.WayBack.{EachOnce, segment_size, ends, inverse_cuts}
use Rattle.inverse.proofs.Places.{long_order}

-- ---- cutting what was joined

cut_joined : (pre : List ℕ) (from : ℕ) (q : List ℕ) (qs : List (List ℕ)) → length pre ≡ from →
    segments from (ends from (map length (q ∷ qs))) (pre ++ flatten (q ∷ qs)) ≡ q ∷ qs
unfolding segments ends flatten
cut_joined pre from q [] h = ap (λ l. l ∷ []) (drop_at pre (q ++ []) from h ∙ append-nil q)
cut_joined pre from q (q' ∷ qs) h =
    ap₂ ◌∷◌ (part ∙ drop_at pre q from h) (rw (← append_assoc pre q (flatten (q' ∷ qs))) (cut_joined (pre ++ q) (from + length q) q' qs long))
  where
    long : length (pre ++ q) ≡ from + length q
    long = length-append pre q ∙ ap (λ n. n + length q) h

    part : slice from (from + length q) (pre ++ (q ++ flatten (q' ∷ qs))) ≡ drop from (pre ++ q)
    part = ap (drop from) (rw (← append_assoc pre q (flatten (q' ∷ qs))) (take_at (pre ++ q) (flatten (q' ∷ qs)) (from + length q) long))

cut_whole : (qs : List (List ℕ)) → 0 < length qs → segments 0 (ends 0 (map length qs)) (flatten qs) ≡ qs
cut_whole [] h = absurd (omega arith)
cut_whole (q ∷ qs) h = cut_joined [] 0 q qs refl

-- ---- the sizes of placed segments

sizes_placed : (mask : ℕ) (cs r : List ℕ) (n : ℕ) → length r ≡ n → Rising 0 cs n → (o : List ℕ) →
    map length (placed mask (segments 0 cs r) o) ≡ map (segment_size cs n) o
unfolding placed segment_size
sizes_placed mask cs r n h t [] = refl
sizes_placed mask cs r n h t (i ∷ o) =
    ap₂ ◌∷◌ (length_reverse_if (reverses mask i) (get_or (segments 0 cs r) i []) ∙ length_segment n 0 0 cs r i h t) (sizes_placed mask cs r n h t o)

-- What a move hands back, cut where its segments arrived, is the placed segments.
pub cut_where_placed : (k n : ℕ) (m : Move) (r : List ℕ) → length r ≡ n → Rising 0 m.cuts n →
    EachOnce k m.pattern.order →
    segments 0 (inverse_cuts n m) (reconnected m r) ≡ placed m.pattern.mask (segments 0 m.cuts r) m.pattern.order
unfolding inverse_cuts reconnected joined
cut_where_placed k n m r long rising once =
    let o = m.pattern.order in
    let some_there : 0 < length o = omega (arith, long_order k o once) in
    rw (← sizes_placed m.pattern.mask m.cuts r n long rising o)
    (cut_whole (placed m.pattern.mask (segments 0 m.cuts r) o) (unfold placed in rw (length-map o _) some_there))
