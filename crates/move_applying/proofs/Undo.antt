-- Undo after apply restores the route, and apply keeps the stops. Assumes nothing.
use mathlib.Core.Path.{◌≡◌, ap, sym, ◌∙◌}
use mathlib.Core.Bool.{cond}
use mathlib.Core.List.{List, Memᴰ}
use Prim.Native.Nat.{ℕ, zero, suc, ◌≤◌}
use native.Mathlib.Omega.{arith}
use lib.Dec.{eqb}
use lib.ListN.{length, take}
use Rattle.theory.specs.Moves.{Pattern, patterns, total, upfrom}
use Rattle.theory.specs.Route.{count}
use Rattle.theory.specs.Polish.{move_at}
use Rattle.theory.proofs.Moves.{rearranges}
use Rattle.theory.proofs.Index.{mem_get_or}
use Rattle.theory.proofs.Route.{total_reconnected}
use Rattle.theory.proofs.Stops.{as_many}
use Rattle.move_applying.specs.Applying.{Appliable, Applied, Undoable, Undone}
use Rattle.move_applying.proofs.Copies.{first_places}

once : (k : ℕ) (p : Pattern) → Memᴰ p (patterns k) → 2 ≤ k → (g : ℕ → ℕ) → total g p.order ≡ total g (upfrom 0 (suc k))
once zero p i h = absurd (omega arith)
once (suc m) p i h = rearranges m p i

module _ (k pattern : ℕ) (positions route journal route' journal' : List ℕ) (ok : Appliable k pattern positions route journal) (done : Applied k pattern positions route journal route' journal') where
  rearranged : (g : ℕ → ℕ) → total g route' ≡ total g route
  rearranged g =
      let m = move_at (patterns k) positions pattern in
      let s = ok.cut_set in
      ap (total g) done.route_after
      ∙ total_reconnected g (length route) m route s.rising (λ f. rw s.many (once k m.pattern (mem_get_or (patterns k) pattern _ ok.listed) s.least f))

  -- Each stop stands in the route as often as before.
  pub apply_keeps_stops : (x : ℕ) → count x route' ≡ count x route
  unfolding count
  apply_keeps_stops x = rearranged (λ y. cond (eqb x y) 1 0)

  pub apply_keeps_length : length route' ≡ length route
  apply_keeps_length = as_many route route' rearranged

  -- Undo takes the first n journal places of apply, and puts the old stops back.
  pub undo_after_apply : Undoable route' (take (length route) journal') × ((route'' : List ℕ) → Undone (take (length route) journal') route'' → route'' ≡ route)
  undo_after_apply =
      let same = first_places route journal journal' done.journal_after in
      (record { as_long = ap length same ∙ sym apply_keeps_length }, λ route'' undone. undone.route_after ∙ same)
