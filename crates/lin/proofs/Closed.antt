-- Back to the depot: the same, in one of the two directions. The tour is read towards a new end harbour, in the direction in which the first and the last stop of
-- the old route stay at the end at which they are. Assumes nothing.
use mathlib.Core.Path.{◌≡◌, refl, sym, ap, ◌∙◌, subst}
use mathlib.Core.Logic.{◌⊎◌, inl, inr, ⊎_elim}
use mathlib.Core.List.{List, [], ◌∷◌, ◌++◌, reverse, reverse_aux}
use Prim.Native.Nat.{ℕ, zero, suc, ◌+◌, ◌≤◌, ◌<◌}
use native.Mathlib.Omega.{arith}
use native.Mathlib.Decide.{ℕ_discrete}
use lib.ListN.{length}
use Rattle.theory.specs.Moves.{total}
use Rattle.theory.specs.Route.{count}
use Rattle.theory.specs.Costs.{last_of}
use Rattle.theory.specs.Links.{links, link_count}
use Rattle.theory.proofs.Orders.{count_other, mem_count}
use Rattle.lin.specs.Lin.{SameStops, AllDifferent, Reached}
use Rattle.lin.proofs.Counts.{count_nil, count_append, count_reverse, count_head, count_more, not_first, same_length, no_link, first_or_later, link_either, link_self, inside, ends, inside_reverse, past_first, before}
use Rattle.lin.proofs.Follows.{first_link}
use Rattle.lin.proofs.Laid.{at_most}
use Rattle.lin.proofs.Gone.{lost, lost_none, lost_one, gone, gone_append}
use Rattle.lin.proofs.Open.{open_reached}

-- ---- the first and the last stop

last_in : (a : ℕ) (l : List ℕ) → 0 < count (last_of a l) (a ∷ l)
unfolding last_of
last_in a [] = omega (arith, count_head a [])
last_in a (x ∷ l) = omega (arith, last_in x l, count_more (last_of x l) a (x ∷ l))

links_snoc : (a e : ℕ) (l : List ℕ) → links a (l ++ (e ∷ [])) ≡ links a l ++ ((last_of a l, e) ∷ [])
unfolding links last_of
links_snoc a e [] = refl
links_snoc a e (x ∷ l) = ap (λ t. (a, x) ∷ t) (links_snoc x e l)

last_link : (a e : ℕ) (l : List ℕ) → 0 < link_count (last_of a l) e (links a (l ++ (e ∷ [])))
unfolding links last_of link_count
last_link a e [] = omega (arith, link_self a e)
last_link a e (x ∷ l) = omega (arith, last_link x e l)

longer : (x y a : ℕ) (l m : List ℕ) → link_count x y (links a l) ≤ link_count x y (links a (l ++ m))
unfolding links link_count
longer x y a [] m = omega arith
longer x y a (b ∷ l) m = omega (arith, longer x y b l m)

inside_longer : (x y a : ℕ) (l m : List ℕ) → link_count x y (inside l) ≤ link_count x y (links a (l ++ m))
unfolding inside links link_count
inside_longer x y a [] m = omega arith
inside_longer x y a (b ∷ l) m = omega (arith, longer x y b l m)

reverse_ends : (c : ℕ) (s t : List ℕ) → (g : ℕ) × (l : List ℕ) × (reverse_aux s (c ∷ t) ≡ g ∷ l) × (g ≡ last_of c s) × (last_of g l ≡ last_of c t)
unfolding last_of
reverse_ends c [] t = (c, t, refl, refl, refl)
reverse_ends c (x ∷ s) t = reverse_ends x s (c ∷ t)

-- Next to the depot stand the first and the last stop.
at_last : (a z c : ℕ) (s : List ℕ) → count a (c ∷ s) ≡ 0 → (z ≡ a → ⊥) → 0 < link_count a z (links c (s ++ (a ∷ []))) → z ≡ last_of c s
unfolding links last_of
at_last a z c [] h d g = ⊎_elim (⊎_elim (λ e. absurd (d e.1)) (λ e. e.1)) (λ k. absurd (no_link a z k)) (first_or_later a z c a [] g)
at_last a z c (x ∷ s) h d g =
    let k : count a (x ∷ s) ≡ 0 = omega (arith, count_more a c (x ∷ s)) in
    ⊎_elim (⊎_elim (λ e. absurd (not_first a c (x ∷ s) h e.0)) (λ e. absurd (not_first a x s k e.0))) (λ j. at_last a z x s k d j) (first_or_later a z c x (links x (s ++ (a ∷ []))) g)

next_to : (a z c : ℕ) (s : List ℕ) → count a (c ∷ s) ≡ 0 → (z ≡ a → ⊥) → 0 < link_count a z (links a (c ∷ s ++ (a ∷ []))) → (z ≡ c) ⊎ (z ≡ last_of c s)
unfolding links
next_to a z c s h d g = ⊎_elim (⊎_elim (λ e. inl e.1) (λ e. absurd (d e.1))) (λ k. inr (at_last a z c s h d k)) (first_or_later a z a c (links c (s ++ (a ∷ []))) g)

-- ---- as many links are gone, or fewer

lost_less : (ms ns : List (ℕ × ℕ)) (x y u v : ℕ) → (0 < link_count x y ms → 0 < link_count u v ns) → lost ns u v ≤ lost ms x y
lost_less ms ns x y u v h = by (link_count x y ms) refl (link_count u v ns) refl
  where
    by : (i : ℕ) → link_count x y ms ≡ i → (j : ℕ) → link_count u v ns ≡ j → lost ns u v ≤ lost ms x y
    by zero e zero k = omega (arith, lost_one ms x y e, lost_one ns u v k)
    by (suc i) e zero k = absurd (omega (arith, h (omega arith)))
    by i e (suc j) k = omega (arith, lost_none ns u v (omega arith))

gone_less : (ms ns ls : List (ℕ × ℕ)) → ((x y : ℕ) → 0 < link_count x y ls → 0 < link_count x y ms → 0 < link_count x y ns) → gone ns ls ≤ gone ms ls
unfolding gone link_count
gone_less ms ns [] h = omega arith
gone_less ms ns (l ∷ ls) h =
    omega (arith, lost_less ms ns l.0 l.1 l.0 l.1 (h l.0 l.1 (omega (arith, link_self l.0 l.1))), gone_less ms ns ls (λ x y g. h x y (omega arith)))

-- ---- an end harbour that is no stop

fresh : (l : List ℕ) → count (suc (total (λ x. x) l)) l ≡ 0
fresh l = by (count (suc (total (λ x. x) l)) l) refl
  where
    by : (n : ℕ) → count (suc (total (λ x. x) l)) l ≡ n → n ≡ 0
    by zero e = refl
    by (suc n) e = absurd (omega (arith, at_most (λ x. x) l (suc (total (λ x. x) l)) (mem_count (suc (total (λ x. x) l)) l (omega arith))))

with_fresh : (e : ℕ) (l : List ℕ) → AllDifferent l → count e l ≡ 0 → AllDifferent (l ++ (e ∷ []))
with_fresh e l d h x = by (ℕ_discrete x e)
  where
    by : Dec (x ≡ e) → count x (l ++ (e ∷ [])) ≤ 1
    by (yes i) = rw i (omega (arith, count_append e l (e ∷ []), count_head e [], count_nil e, h))
    by (no n) = omega (arith, count_append x l (e ∷ []), count_other x e [] n, count_nil x, d x)

-- ---- the closed tour, towards the new end

-- A route of one stop has its first for its last.
alone : (y : ℕ) (r : List ℕ) (c : ℕ) (s : List ℕ) → AllDifferent (y ∷ r) → SameStops (y ∷ r) (c ∷ s) → y ≡ last_of y r → c ≡ last_of c s
unfolding last_of
alone y [] c [] d same e = refl
alone y [] c (x ∷ s) d same e = absurd (omega (arith, same_length (y ∷ []) (c ∷ x ∷ s) same))
alone y (x ∷ r) c s d same e = absurd (omega (arith, d y, count_head y (x ∷ r), subst (λ z. 0 < count z (x ∷ r)) (sym e) (last_in x r)))

module _ (a y : ℕ) (r : List ℕ) (c : ℕ) (s : List ℕ) (d : AllDifferent (a ∷ y ∷ r)) (same : SameStops (y ∷ r) (c ∷ s)) where
  abbrev b : ℕ
  b = last_of y r

  abbrev old : List (ℕ × ℕ)
  old = links a (c ∷ s ++ (a ∷ []))

  off_depot : (z : ℕ) → 0 < count z (y ∷ r) → z ≡ a → ⊥
  off_depot z h e = omega (arith, d a, count_head a (y ∷ r), rw e at h)

  no_depot : count a (c ∷ s) ≡ 0
  no_depot = omega (arith, d a, count_head a (y ∷ r), same a)

  module _ (e : ℕ) (t : List ℕ) (starts : 0 < link_count a y old → 0 < link_count a y (links a (t ++ (e ∷ [])))) (stops : 0 < link_count b a old → 0 < link_count b e (links a (t ++ (e ∷ []))))
      (inner : (x y : ℕ) → 0 < link_count x y (inside (c ∷ s)) → 0 < link_count x y (inside t)) where
    as_few : gone (links a (t ++ (e ∷ []))) (links a (y ∷ r ++ (e ∷ []))) ≤ gone old (links a (y ∷ r ++ (a ∷ [])))
    unfolding gone links
    as_few =
        let ns = links a (t ++ (e ∷ [])) in
        omega (arith, lost_less old ns a y a y starts, lost_less old ns b a b e stops, gone_less old ns (links y r) middle, split ns e, split old a)
      where
        split : (ks : List (ℕ × ℕ)) (f : ℕ) → gone ks (links y (r ++ (f ∷ []))) ≡ gone ks (links y r) + (lost ks b f + 0)
        split ks f = ap (gone ks) (links_snoc y f r) ∙ gone_append ks (links y r) ((b, f) ∷ [])

        at_depot : (z : ℕ) → 0 < count z (y ∷ r) → count z (a ∷ []) ≡ 0
        at_depot z h = count_other z a [] (off_depot z h) ∙ count_nil z

        middle : (u v : ℕ) → 0 < link_count u v (links y r) → 0 < link_count u v old → 0 < link_count u v (links a (t ++ (e ∷ [])))
        middle u v g h =
            let i = ends u v y r g in
            let k = past_first u v a (c ∷ s ++ (a ∷ [])) (off_depot u i.0) (off_depot v i.1) h in
            let j = inner u v (before u v (c ∷ s) (a ∷ []) (at_depot u i.0) (at_depot v i.1) k) in
            omega (arith, inside_longer u v a t (e ∷ []))

  first_next : 0 < link_count a y old → (y ≡ c) ⊎ (y ≡ last_of c s)
  first_next g = next_to a y c s no_depot (off_depot y (omega (arith, count_head y r))) g

  last_next : 0 < link_count b a old → (b ≡ c) ⊎ (b ≡ last_of c s)
  last_next g = next_to a b c s no_depot (off_depot b (last_in y r)) (rw link_either at g)

  one_stop : y ≡ b → c ≡ last_of c s
  one_stop = alone y r c s (λ x. omega (arith, d x, count_more x a (y ∷ r))) same

  begins_with : (e z g : ℕ) (l : List ℕ) → z ≡ g → 0 < link_count a z (links a (g ∷ l ++ (e ∷ [])))
  begins_with e z g l i = rw i (first_link a g (l ++ (e ∷ [])))

  closes_with : (e z g : ℕ) (l : List ℕ) → z ≡ last_of g l → 0 < link_count z e (links a (g ∷ l ++ (e ∷ [])))
  closes_with e z g l i = rw i (unfold last_of in last_link a e (g ∷ l))

  -- It is read as it stands where its first stop is the old first one, or its last the old last one; otherwise backwards.
  forwards : (e : ℕ) → (y ≡ c) ⊎ (b ≡ last_of c s) → gone (links a (c ∷ s ++ (e ∷ []))) (links a (y ∷ r ++ (e ∷ []))) ≤ gone old (links a (y ∷ r ++ (a ∷ [])))
  forwards e h =
      as_few e (c ∷ s)
      (λ g. begins_with e y c s (⊎_elim (λ i. i) (λ i. ⊎_elim (λ j. j) (λ j. i ∙ sym (one_stop (i ∙ sym j))) h) (first_next g)))
      (λ g. closes_with e b c s (⊎_elim (λ i. ⊎_elim (λ j. i ∙ one_stop (j ∙ sym i)) (λ j. j) h) (λ i. i) (last_next g)))
      (λ x y g. g)

  backwards : (e : ℕ) → (y ≡ c → ⊥) → (b ≡ last_of c s → ⊥) → gone (links a (reverse (c ∷ s) ++ (e ∷ []))) (links a (y ∷ r ++ (e ∷ []))) ≤ gone old (links a (y ∷ r ++ (a ∷ [])))
  backwards e h k =
      let v = reverse_ends c s [] in
      let w : last_of v.0 v.1 ≡ c = unfold last_of in v.4 in
      as_few e (reverse (c ∷ s))
      (λ g. rw v.2 (begins_with e y v.0 v.1 (⊎_elim (λ i. absurd (h i)) (λ i. i ∙ sym v.3) (first_next g))))
      (λ g. rw v.2 (closes_with e b v.0 v.1 (⊎_elim (λ i. i ∙ sym w) (λ i. absurd (k i)) (last_next g))))
      (λ x y g. rw inside_reverse g)

pub closed_reached : (m a : ℕ) (r s : List ℕ) → AllDifferent (a ∷ r) → suc m ≤ suc (length r) → SameStops r s →
    gone (links a (s ++ (a ∷ []))) (links a (r ++ (a ∷ []))) ≤ suc m → Reached (suc m) r s ⊎ Reached (suc m) r (reverse s)
closed_reached m a [] [] d room same g = inl (inl refl)
closed_reached m a [] (c ∷ s) d room same g = absurd (omega (arith, same c, count_head c s, count_nil c))
closed_reached m a (y ∷ r) [] d room same g = absurd (omega (arith, same y, count_head y r, count_nil y))
closed_reached m a (y ∷ r) (c ∷ s) d room same g = by (ℕ_discrete y c) (ℕ_discrete (last_of y r) (last_of c s))
  where
    e : ℕ
    e = suc (total (λ x. x) (a ∷ y ∷ r))

    different : AllDifferent (a ∷ (y ∷ r ++ (e ∷ [])))
    different = with_fresh e (a ∷ y ∷ r) d (fresh (a ∷ y ∷ r))

    as_it_stands : (y ≡ c) ⊎ (last_of y r ≡ last_of c s) → Reached (suc m) (y ∷ r) (c ∷ s)
    as_it_stands h = open_reached m a e (y ∷ r) (c ∷ s) different room same (omega (arith, forwards a y r c s d same e h))

    by : Dec (y ≡ c) → Dec (last_of y r ≡ last_of c s) → Reached (suc m) (y ∷ r) (c ∷ s) ⊎ Reached (suc m) (y ∷ r) (reverse (c ∷ s))
    by (yes h) k = inl (as_it_stands (inl h))
    by (no h) (yes k) = inl (as_it_stands (inr k))
    by (no h) (no k) =
        inr (open_reached m a e (y ∷ r) (reverse (c ∷ s)) different room (λ x. count_reverse x (c ∷ s) ∙ same x) (omega (arith, backwards a y r c s d same e h k)))
