-- A row of a text that does not fit its places. Assumes nothing.
use mathlib.Core.Path.{◌≡◌, sym, ap, ◌∙◌}
use mathlib.Core.List.{List}
use mathlib.Core.Option.{none, some, none-ne-some, some-injective}
use Prim.Native.Nat.{ℕ, ◌-◌, ◌<◌}
use native.Mathlib.Omega.{arith}
use lib.ListN.{length, length-map}
use Rattle.theory.specs.Moves.{Pattern}
use Rattle.pattern_list_text.specs.Reading.{row_of}
use Rattle.pattern_list_text.specs.Told.{values}
use Rattle.pattern_list_loading.specs.Loading.{Fits}

same_row : (t : List ℕ) {r s : List ℕ} {p q : Pattern} → row_of t ≡ some (p, r) → row_of t ≡ some (q, s) → p ≡ q
same_row t {r} {s} {p} {q} a b = ap (λ (x : Pattern × List ℕ). x.0) (some-injective (p, r) (q, s) (sym a ∙ b))

module _ (t : List ℕ) (width : ℕ) where
  pub no_row_there : row_of t ≡ none → (p : Pattern) (r : List ℕ) → row_of t ≡ some (p, r) → Fits width p → ⊥
  no_row_there e p r f h = none-ne-some (p, r) (sym e ∙ f)

  pub other_length : (digits : List ℕ) {rest : List ℕ} {mask : ℕ} → row_of t ≡ some (record { order = values digits; mask = mask }, rest) → (length digits ≡ width → ⊥) → (p : Pattern) (r : List ℕ) → row_of t ≡ some (p, r) → Fits width p → ⊥
  other_length digits reads n p r f h = n (sym (length-map digits (λ b. b - 48)) ∙ ap (λ (q : Pattern). length q.order) (same_row t reads f) ∙ h.0)

  pub large_mask : {q : Pattern} {rest : List ℕ} → row_of t ≡ some (q, rest) → 255 < q.mask → (p : Pattern) (r : List ℕ) → row_of t ≡ some (p, r) → Fits width p → ⊥
  large_mask {q} reads n p r f h = let e : q.mask ≡ p.mask = ap (λ (q : Pattern). q.mask) (same_row t reads f) in omega (arith, h.1)
