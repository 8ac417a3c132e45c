-- From a depot to another end: every route on the same stops of whose links at most k are gone is the route itself or a candidate. Assumes nothing.
use mathlib.Core.Path.{◌≡◌, refl, sym, ap, ◌∙◌, subst}
use mathlib.Core.Logic.{inl, inr, ⊎_elim}
use mathlib.Core.List.{List, [], ◌∷◌, ◌++◌, flatten, append_assoc, Memᴰ}
use Prim.Native.Nat.{ℕ, zero, suc, ◌+◌, ◌*◌, ◌≤◌, ◌<◌}
use native.Mathlib.Omega.{arith}
use native.Mathlib.Nat.{pow-suc}
use native.Mathlib.Decide.{ℕ_discrete}
use lib.ListN.{length, get_or}
use Rattle.theory.specs.Moves.{upfrom, total, Pattern, patterns}
use Rattle.theory.specs.Route.{count, segments, reverse_if, placed, joined, reconnected}
use Rattle.theory.specs.Links.{links, link_count}
use Rattle.theory.proofs.Moves.{length_upfrom, upfrom_range}
use Rattle.theory.proofs.Orders.{count_other, in_range, patterns_complete}
use Rattle.theory.proofs.Route.{total_placed}
use Rattle.theory.proofs.Delta.{joined_split, changes_nothing, straight, even_head, small_tail}
use Rattle.lin.specs.Lin.{SameStops, AllDifferent, Reached}
use Rattle.lin.proofs.Counts.{count_append, count_cons, count_head, inside, Among, in_front, in_back}
use Rattle.lin.proofs.Follows.{follows, ends_with, behind_first}
use Rattle.lin.proofs.Laid.{map_same, at_most, Laid, lays}
use Rattle.lin.proofs.Masks.{bits, bits_few, mask_read}
use Rattle.lin.proofs.Gone.{gone}
use Rattle.lin.proofs.Parted.{Whole, parted, cuts_of, length_cuts, cut_parts, cuts_rise, middle_whole, last_whole}

below_range : (x f n : ℕ) → x < f → count x (upfrom f n) ≡ 0
unfolding upfrom
below_range x f zero h = unfold count total in refl
below_range x f (suc n) h = count_other x f (upfrom (suc f) n) (λ e. omega arith) ∙ below_range x (suc f) n (omega arith)

range_different : (f n : ℕ) → AllDifferent (upfrom f n)
unfolding upfrom
range_different f zero x = unfold count total in omega arith
range_different f (suc n) x = by (ℕ_discrete x f) (range_different (suc f) n x)
  where
    by : Dec (x ≡ f) → count x (upfrom (suc f) n) ≤ 1 → count x (f ∷ upfrom (suc f) n) ≤ 1
    by (yes e) i = rw e (omega (arith, count_head f (upfrom (suc f) n), below_range f (suc f) n (omega arith)))
    by (no d) i = omega (arith, count_other x f (upfrom (suc f) n) d)

module _ (m a e : ℕ) (r s : List ℕ) (d : AllDifferent (a ∷ (r ++ (e ∷ [])))) (same : SameStops r s) (f : List ℕ) (ps : List (List ℕ)) (many : length ps ≡ suc m)
    (all : flatten (f ∷ ps) ≡ r) (w : Whole e (links a (s ++ (e ∷ []))) (a ∷ f) ps) where
  abbrev q : ℕ → List ℕ
  q i = get_or (f ∷ ps) i []

  abbrev z : List ℕ
  z = q (suc m)

  abbrev mids : ℕ → ℕ
  mids x = total (λ i. count x (q i)) (upfrom 1 m)

  -- The stops of the first part, the middle parts and the last one.
  counts : (x : ℕ) → count x r ≡ count x f + (mids x + count x z)
  counts x =
      ap (count x) (sym all ∙ sym (changes_nothing m (f ∷ ps) (ap suc many)) ∙ joined_split (upfrom 1 m) (suc m) 0 (f ∷ ps) (straight 0) (straight (suc m)))
      ∙ count_append x f (flatten (placed 0 (f ∷ ps) (upfrom 1 m)) ++ z)
      ∙ ap (λ n. count x f + n) (count_append x (flatten (placed 0 (f ∷ ps) (upfrom 1 m))) z ∙ ap (λ n. n + count x z) (unfold count in total_placed _ 0 (f ∷ ps) (upfrom 1 m)))

  old_tour : (x : ℕ) → count x (a ∷ []) + (count x f + mids x + count x z) + count x (e ∷ []) ≤ 1
  old_tour x = omega (arith, d x, count_cons x a (r ++ (e ∷ [])), count_append x r (e ∷ []), counts x)

  new_different : AllDifferent (a ∷ (s ++ (e ∷ [])))
  new_different x = omega (arith, old_tour x, counts x, same x, count_cons x a (s ++ (e ∷ [])), count_append x s (e ∷ []))

  -- The last part ends the new route.
  at_end : (u : List ℕ) × (s ≡ u ++ z)
  at_end =
      let t = ends_with e z (a ∷ s) (λ x. omega (arith, old_tour x, count_append x z (e ∷ []))) new_different last in
      behind_first a s t.0 z t.1 (omega (arith, old_tour a, count_head a []))
    where
      last : Among (inside (z ++ (e ∷ []))) (inside ((a ∷ s) ++ (e ∷ [])))
      last = unfold inside in subst (λ n. Among (inside (get_or ((a ∷ f) ∷ ps) n [] ++ (e ∷ []))) (links a (s ++ (e ∷ [])))) many (last_whole e (links a (s ++ (e ∷ []))) (a ∷ f) ps w)

  module _ (u : List ℕ) (parts : s ≡ u ++ z) where
    counted : (x : ℕ) → count x u ≡ count x f + mids x
    counted x = omega (arith, counts x, same x, ap (count x) parts, count_append x u z)

    up_to_the_end : a ∷ (s ++ (e ∷ [])) ≡ (a ∷ u) ++ (z ++ (e ∷ []))
    up_to_the_end = ap (λ l. a ∷ l) (ap (λ l. l ++ (e ∷ [])) parts ∙ append_assoc u z (e ∷ []))

    -- Kept links whose ends are not in the last part are links of what stands before it.
    before_the_end : (p : List ℕ) → Among (inside p) (links a (s ++ (e ∷ []))) → ((x : ℕ) → 0 < count x p → 0 < count x (a ∷ u)) → Among (inside p) (inside (a ∷ u))
    unfolding inside
    before_the_end p h =
        in_front p (a ∷ u) (z ++ (e ∷ [])) (λ x. rw (← up_to_the_end) (new_different x)) (λ x y g. subst (λ l. 0 < link_count x y (inside l)) up_to_the_end (h x y g))

    -- The first part begins it.
    at_start : (t : List ℕ) × (u ≡ f ++ t)
    unfolding inside
    at_start =
        follows a f u (λ x. omega (arith, old_tour x, count_cons x a f)) (λ x. omega (arith, old_tour x, counted x, count_cons x a u))
        (before_the_end (a ∷ f) (middle_whole e (links a (s ++ (e ∷ []))) (a ∷ f) ps 0 (omega arith) w).1 (λ x h. omega (arith, counted x, count_cons x a f, count_cons x a u)))

    -- The middle parts are laid between.
    module _ (t : List ℕ) (start : u ≡ f ++ t) where
      between : (x : ℕ) → count x t ≡ mids x
      between x = omega (arith, counted x, ap (count x) start, count_append x f t)

      middle : (i : ℕ) → Memᴰ i (upfrom 1 m) → (0 < length (q i)) × Among (inside (q i)) (inside t)
      middle i k = let b = upfrom_range i 1 m k in at i b.0 b.1 k
        where
          at : (i : ℕ) → 1 ≤ i → i < 1 + m → Memᴰ i (upfrom 1 m) → (0 < length (q i)) × Among (inside (q i)) (inside t)
          at zero h l k = absurd (omega arith)
          at (suc j) h l k =
              let v = middle_whole e (links a (s ++ (e ∷ []))) (a ∷ f) ps (suc j) (omega arith) w in (
                v.0,
                in_back (q (suc j)) (a ∷ f) t (λ x. omega (arith, old_tour x, between x, count_append x (a ∷ f) t, count_cons x a f))
                    (λ x y g. rw (← start) (before_the_end (q (suc j)) v.1 (λ x c. omega (arith, counted x, count_cons x a u, at_most (λ i. count x (q i)) (upfrom 1 m) (suc j) k)) x y g))
                    (λ x c. omega (arith, between x, at_most (λ i. count x (q i)) (upfrom 1 m) (suc j) k)),
              )

      laid_between : Laid q (upfrom 1 m) t
      laid_between =
          lays q m (upfrom 1 m) t (length_upfrom 1 m)
          (record { numbers = range_different 1 m; stops = λ x. omega (arith, old_tour x, between x); all = between; full = λ i k. (middle i k).0; kept = λ i k. (middle i k).1 })

      module _ (l : Laid q (upfrom 1 m) t) where
        abbrev mask : ℕ
        mask = 2 * bits l.turned 1 m

        placed_between : t ≡ flatten (placed mask (f ∷ ps) l.order)
        unfolding placed
        placed_between =
            l.laid
            ∙ ap flatten (map_same _ _ l.order (λ i k. let b = in_range l.order 1 m l.once i k in ap (λ c. reverse_if c (q i)) (sym (mask_read l.turned m i b.0 b.1))))

        joined_up : s ≡ joined (record { order = 0 ∷ (l.order ++ (suc m ∷ [])); mask = mask }) (f ∷ ps)
        joined_up =
            parts ∙ ap (λ v. v ++ z) (start ∙ ap (λ v. f ++ v) placed_between) ∙ append_assoc f (flatten (placed mask (f ∷ ps) l.order)) z
            ∙ sym (joined_split l.order (suc m) mask (f ∷ ps) (even_head (bits l.turned 1 m)) (small_tail mask (suc m) (omega (arith, bits_few l.turned 1 m, pow-suc 2 m))))

        segments_are : segments 0 (cuts_of 0 f ps) r ≡ f ∷ ps
        segments_are = ap (segments 0 (cuts_of 0 f ps)) (sym all) ∙ cut_parts [] 0 refl f ps

        reached : Reached (suc m) r s
        reached = ⊎_elim itself candidate (patterns_complete m l.order (bits l.turned 1 m) l.once (bits_few l.turned 1 m))
          where
            itself : ◌≡◌ {A = Pattern} (record { order = 0 ∷ (l.order ++ (suc m ∷ [])); mask = mask }) (record { order = 0 ∷ (upfrom 1 m ++ (suc m ∷ [])); mask = 0 }) → Reached (suc m) r s
            itself i = inl (joined_up ∙ ap (λ p. joined p (f ∷ ps)) i ∙ changes_nothing m (f ∷ ps) (ap suc many) ∙ all)

            candidate : Memᴰ (record { order = 0 ∷ (l.order ++ (suc m ∷ [])); mask = mask }) (patterns (suc m)) → Reached (suc m) r s
            candidate i =
                inr (record {
                  cuts = cuts_of 0 f ps;
                  many = length_cuts 0 f ps ∙ many;
                  rising = cuts_rise e (links a (s ++ (e ∷ []))) (length r) a f ps (rw all (omega arith)) w;
                  pattern = record { order = 0 ∷ (l.order ++ (suc m ∷ [])); mask = mask };
                  known = i;
                  made = unfold reconnected in joined_up ∙ ap (joined (record { order = 0 ∷ (l.order ++ (suc m ∷ [])); mask = mask })) (sym segments_are);
                })

pub open_reached : (m a e : ℕ) (r s : List ℕ) → AllDifferent (a ∷ (r ++ (e ∷ []))) → suc m ≤ suc (length r) → SameStops r s →
    gone (links a (s ++ (e ∷ []))) (links a (r ++ (e ∷ []))) ≤ suc m → Reached (suc m) r s
open_reached m a e r s d room same g =
    let p = parted e (links a (s ++ (e ∷ []))) a r (suc m) g room in
    let u = at_end m a e r s d same p.first p.others p.many p.all p.whole in
    let t = at_start m a e r s d same p.first p.others p.many p.all p.whole u.0 u.1 in
    reached m a e r s d same p.first p.others p.many p.all p.whole u.0 u.1 t.0 t.1
    (laid_between m a e r s d same p.first p.others p.many p.all p.whole u.0 u.1 t.0 t.1)
