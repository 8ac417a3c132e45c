-- A pattern whose row costs at least as much as the standing row does not shorten the route. Assumes nothing.
use mathlib.Core.Path.{◌≡◌, refl, ap, ◌∙◌}
use mathlib.Core.Bool.{false}
use mathlib.Core.List.Memᴰ
use mathlib.Core.List.{List, [], ◌∷◌, map, Memᴰ}
use Prim.Native.Nat.{ℕ, suc, ◌+◌, ◌-◌, ◌≤◌, ◌<◌}
use native.Mathlib.Omega.{arith}
use borrow.Author.Tests.{ne_eqb, le-ltb}
use lib.Dec.{ltb}
use lib.ListN.{length}
use Rattle.theory.specs.Moves.{upfrom, total}
use Rattle.theory.specs.Route.{Problem, segments, placed, reconnected, tour_length}
use Rattle.theory.specs.Costs.{last_of, through}
use Rattle.theory.specs.Tables.{CutSet, ForK}
use Rattle.theory.proofs.ForK.{for_k_shape}
use Rattle.theory.proofs.Orders.{in_range}
use Rattle.costs.specs.RouteCosts.{head_end, tail_start}
use Rattle.scan_joints.specs.States.{state_count, state_of, placed_in}
use Rattle.scan_joints.proofs.States.{state_below, placed_states}
use Rattle.scan_joints.proofs.Chain.{first_any, last_any, full_part, shorter_through}
use Rattle.scan_shared.specs.Bound.{chain_by, exit_of, joint_by}

-- A row's cost is the way through its parts.
module _ (d : ℕ → ℕ → ℕ) (part : ℕ → List ℕ) (count head tail : ℕ) (few : count ≤ 8) (full : (s : ℕ) → s < count → 0 < length (part s)) where
  chain_through : (a : ℕ) (bs : List ℕ) → ((b : ℕ) → Memᴰ b bs → b < count) → chain_by (joint_by d part head tail) a bs ≡ through d (exit_of part head a) (map part bs) tail
  unfolding chain_by through
  chain_through a [] h = omega arith
  chain_through a (b ∷ bs) h =
      let l : b < count = h b (Memᴰ.head refl) in
      let e = exit_of part head a in
      let next : exit_of part head b ≡ last_of 0 (part b) = rw (ne_eqb b 9 (λ (q : b ≡ 9). omega arith)) in
      rw (ne_eqb b 8 (λ (q : b ≡ 8). omega arith), first_any (part b) e 0 (full b l), last_any e 0 (part b) (full b l), ← next)
      (omega (arith, chain_through b bs (λ c m. h c (Memᴰ.tail m))))

module _ (P : Problem) (cs r : List ℕ) (cut_set : CutSet (length cs) (length r) cs) where
  -- The cost of a row of states on the cut set.
  abbrev pub cost_by : List ℕ → ℕ
  cost_by bs = chain_by (joint_by P.leg (placed_in cs r) (head_end P r cs) (tail_start P r cs)) 9 bs

  order_through : (mask : ℕ) (o : List ℕ) → ((g : ℕ → ℕ) → total g o ≡ total g (upfrom 1 (length cs - 1))) →
      cost_by (map (state_of mask) o) ≡ through P.leg (head_end P r cs) (placed mask (segments 0 cs r) o) (tail_start P r cs)
  order_through mask o once =
      chain_through P.leg (placed_in cs r) (state_count (length cs)) (head_end P r cs) (tail_start P r cs) (omega (arith, cut_set.most)) (full_part cs r cut_set) 9 (map (state_of mask) o) below
      ∙ ap (λ ps. through P.leg (head_end P r cs) ps (tail_start P r cs)) (placed_states cs r mask o (λ i m. (within i m).0))
    where
      within : (i : ℕ) → Memᴰ i o → (1 ≤ i) × (i < 1 + (length cs - 1))
      within i m = in_range o 1 (length cs - 1) once i m

      below : (b : ℕ) → Memᴰ b (map (state_of mask) o) → b < state_count (length cs)
      below b m =
          let u = Memᴰ.of_map (state_of mask) o m in
          rw (← u.2) (state_below (length cs) mask u.0 (within u.0 u.1).0 (omega (arith, (within u.0 u.1).1)))

  pub no_shorter : (k : ℕ) (many : length cs ≡ k) (order : List ℕ) (mask : ℕ) (f : ForK k order mask) → cost_by (map (state_of 0) (upfrom 1 (k - 1))) ≤ cost_by (map (state_of mask) f.middle) →
      ltb (tour_length P (reconnected (record { cuts = cs; pattern = record { order = order; mask = mask } }) r)) (tour_length P r) ≡ false
  no_shorter k many order mask f h =
      let e : k ≡ suc (k - 1) = omega (arith, many, cut_set.least) in
      let same : k - 1 ≡ length cs - 1 = omega (arith, many) in
      let once : (g : ℕ → ℕ) → total g f.middle ≡ total g (upfrom 1 (length cs - 1)) = λ g. f.once g ∙ ap (λ n. total g (upfrom 1 n)) same in
      let h' : cost_by (map (state_of 0) (upfrom 1 (length cs - 1))) ≤ cost_by (map (state_of mask) f.middle) = rw same at h in
      shorter_through P cs r (length cs) (k - 1) (record { order = order; mask = mask }) (for_k_shape k (k - 1) order mask e f) (many ∙ e) cut_set.rising (many ∙ e)
      ∙ le-ltb _ _ (rw (order_through 0 (upfrom 1 (length cs - 1)) (λ g. refl), order_through mask f.middle once) at h')
