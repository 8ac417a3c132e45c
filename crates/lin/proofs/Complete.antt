-- Cut sets and patterns miss no exchange, and have none too many. Assumes nothing.
use mathlib.Core.List.{List, [], ◌∷◌, ◌++◌, reverse, reverse_aux, reverse_aux-append, reverse_aux-eq}
use Prim.Native.Nat.{ℕ, suc, ◌≤◌}
use mathlib.Core.Path.{◌≡◌, ap, ◌∙◌}
use native.Mathlib.Omega.{arith}
use lib.ListN.{length, length-append}
use Rattle.theory.specs.Moves.{Move}
use Rattle.theory.specs.Route.{Problem, reconnected, count}
use Rattle.theory.specs.Links.{links, tour_links, link_count, cut_links, new_links}
use Rattle.theory.proofs.Moves.{pattern_shape, rearranges}
use Rattle.theory.proofs.Route.{total_reconnected}
use Rattle.theory.proofs.Links.{exchanged}
use Rattle.lin.specs.Lin.{SameStops, Differs, OpenComplete, ClosedComplete, Sound}
use Rattle.lin.proofs.Counts.{same_length, inside, inside_reverse_aux}
use Rattle.lin.proofs.Gone.{gone, as_many_links, link_append, differs_gone}
use Rattle.lin.proofs.Open.{open_reached}
use Rattle.lin.proofs.Parted.{length_links}
use Rattle.lin.proofs.Closed.{closed_reached}

pub open_complete : (m : ℕ) (P : Problem) (r : List ℕ) → OpenComplete (suc m) P r
open_complete m P r d room s same x =
    let g : gone (links P.depot (s ++ (P.end ∷ []))) (links P.depot (r ++ (P.end ∷ []))) ≤ suc m = unfold tour_links in differs_gone (suc m) P r s x in
    open_reached m P.depot P.end r s d (omega arith) same g

pub closed_complete : (m : ℕ) (P : Problem) (r : List ℕ) → ClosedComplete (suc m) P r
closed_complete m P r back d room s same x =
    let g : gone (links P.depot (s ++ (P.end ∷ []))) (links P.depot (r ++ (P.end ∷ []))) ≤ suc m = unfold tour_links in differs_gone (suc m) P r s x in
    closed_reached m P.depot r s d (omega arith) same (rw back at g)

pub sound : (m : ℕ) (P : Problem) (r : List ℕ) → Sound (suc m) P r
sound m P r s c =
    let v : Move = record { cuts = c.cuts; pattern = c.pattern } in
    let x = exchanged P c.cuts r m c.many c.rising c.pattern (pattern_shape m c.pattern c.known) in
    let same : SameStops r (reconnected v r) =
    λ y. unfold count in total_reconnected _ (length r) v r c.rising (λ h. rw c.many (rearranges m c.pattern c.known h)) in
    let differs : Differs (suc m) P r (reconnected v r) =
    record { out = cut_links P r c.cuts; put = new_links P r v; few = omega (arith, x.dropped); stood = x.stood; exchange = x.exchange } in
    rw c.made (same, differs)

-- As many links come as go: a tour of n stops has n + 1.
pub as_many_come : (k : ℕ) (P : Problem) (r s : List ℕ) → SameStops r s → (d : Differs k P r s) → length d.put ≡ length d.out
unfolding tour_links
as_many_come k P r s same d =
    omega (
      arith,
      as_many_links (tour_links P s ++ d.out) (tour_links P r ++ d.put) (λ x y. omega (arith, d.exchange x y, link_append x y (tour_links P s) d.out, link_append x y (tour_links P r) d.put)),
      length-append (tour_links P s) d.out,
      length-append (tour_links P r) d.put,
      length_links P.depot (s ++ (P.end ∷ [])),
      length_links P.depot (r ++ (P.end ∷ [])),
      length-append s (P.end ∷ []),
      length-append r (P.end ∷ []),
      same_length r s same,
    )

-- The two directions of a closed tour have the same links.
pub same_tour : (P : Problem) → P.end ≡ P.depot → (s : List ℕ) (x y : ℕ) → link_count x y (tour_links P (reverse s)) ≡ link_count x y (tour_links P s)
unfolding tour_links
same_tour P back s x y = rw back (turned P.depot)
  where
    turned : (a : ℕ) → link_count x y (links a (reverse s ++ (a ∷ []))) ≡ link_count x y (links a (s ++ (a ∷ [])))
    turned a =
        unfold inside links link_count in
        let e : reverse_aux (s ++ (a ∷ [])) (a ∷ []) ≡ a ∷ (reverse s ++ (a ∷ [])) = reverse_aux-append s (a ∷ []) (a ∷ []) ∙ ap (λ l. a ∷ l) (reverse_aux-eq s (a ∷ [])) in
        omega (arith, ap (λ l. link_count x y (inside l)) e, inside_reverse_aux x y (s ++ (a ∷ [])) a [])
