-- Text put after text. Assumes nothing.
use mathlib.Core.Path.{◌≡◌, refl, sym, ap, ◌∙◌}
use mathlib.Core.List.{List, [], ◌++◌, append-nil, append_assoc}
use Prim.Native.Nat.{ℕ, ◌+◌, ◌≤◌}
use native.Mathlib.Omega.{arith}
use lib.ListN.{length, take, drop, length-append, length-take, length-drop, take-append-drop}
use lib.Seq.{take_at, drop_at, drop-drop}
use Rattle.text_decimal.specs.Text.{Room, Put}

module _ {s out out₁ : List ℕ} {at m : ℕ} (r : Room s out at) (p : Put s out at out₁ m) where
  long : length (take at out ++ s) ≡ m
  long = simp (length-append, length-take) (omega arith)

  put_take : take m out₁ ≡ take at out ++ s
  put_take = rw (p.contents, ← append_assoc) (take_at (take at out ++ s) (drop m out) m long)

  put_drop : drop m out₁ ≡ drop m out
  put_drop = rw (p.contents, ← append_assoc) (drop_at (take at out ++ s) (drop m out) m long)

  put_length : length out₁ ≡ length out
  put_length = rw p.contents (simp (length-append, length-take, length-drop) (omega arith))

-- Of a whole text that is put into `out₀` from `at₀` on, the rest is still to come, at `at`.
pub record Partway (whole out₀ : List ℕ) (at₀ : ℕ) (rest out : List ℕ) (at : ℕ) : Type 0 where
  pub room : at + length rest ≤ length out
  pub front : take at out ++ rest ≡ take at₀ out₀ ++ whole
  pub back : drop at out ≡ drop at out₀
  pub ends : at + length rest ≡ at₀ + length whole

module _ {whole out₀ : List ℕ} {at₀ : ℕ} where
  pub put_none : Room whole out₀ at₀ → Partway whole out₀ at₀ whole out₀ at₀
  put_none r = record { room = r.room; front = refl; back = refl; ends = refl }

  pub put_room : {s rest out : List ℕ} {at : ℕ} (later : List ℕ) → rest ≡ s ++ later → Partway whole out₀ at₀ rest out at → Room s out at
  put_room {s} later e p = record { room = omega (arith, ap length e ∙ length-append s later, p.room) }

  pub put_more : {s later rest out out₁ : List ℕ} {at n : ℕ} → rest ≡ s ++ later → Partway whole out₀ at₀ rest out at → Put s out at out₁ n → Partway whole out₀ at₀ later out₁ n
  put_more {s} {later} {rest} {out} {out₁} {at} {n} e p q =
      let r : Room s out at = put_room later e p in
      let l = ap length e ∙ length-append s later in
      let d : drop n out ≡ drop n out₀ = rw (q.ends, ← drop-drop (length s) at out, p.back, drop-drop) refl in
      record {
        room = omega (arith, l, put_length r q, p.room, q.ends);
        front = rw (put_take r q, append_assoc, ← e) p.front;
        back = put_drop r q ∙ d;
        ends = omega (arith, l, p.ends, q.ends);
      }

  pub put_all : {out : List ℕ} {at : ℕ} → Partway whole out₀ at₀ [] out at → Put whole out₀ at₀ out at
  put_all {out} {at} p =
      let f : take at out ≡ take at₀ out₀ ++ whole = sym (append-nil (take at out)) ∙ p.front in
      let e : at + 0 ≡ at₀ + length whole = p.ends in
      record { ends = omega arith; contents = sym (take-append-drop at out) ∙ rw (f, p.back) (append_assoc (take at₀ out₀) whole (drop at out₀)) }

  pub put_rest : {rest out out₁ : List ℕ} {at n : ℕ} → Partway whole out₀ at₀ rest out at → Put rest out at out₁ n → Put whole out₀ at₀ out₁ n
  put_rest {rest} {out} {out₁} {at} {n} p q = put_all (put_more (sym (append-nil rest)) p q)

  pub put_empty : whole ≡ [] → Room whole out₀ at₀ → Put whole out₀ at₀ out₀ at₀
  put_empty e r = put_rest (put_none r) (rw e (record { ends = omega arith; contents = sym (take-append-drop at₀ out₀) }))
