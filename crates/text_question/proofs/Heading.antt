-- The lines before the legs are read exactly where they are written. Assumes nothing.
use mathlib.Core.Path.{◌≡◌, refl, ap, ◌∙◌, subst}
use mathlib.Core.Bool.{Bool, true, false, ◌&&◌, cond}
use mathlib.Core.List.{List, [], ◌∷◌, ◌++◌}
use mathlib.Core.Option.{none, some, bind, none-ne-some, some-injective}
use Prim.Native.Nat.{ℕ, ◌≤◌, ◌<◌}
use native.Mathlib.Omega.{arith}
use lib.Dec.{leb}
use borrow.Author.Tests.{leb-true, le-leb, lt-leb}
use Rattle.text_decimal.specs.Text.{ascii, line, Small}
use Rattle.text_lines.specs.Reading.{value}
use Rattle.text_lines.proofs.Lines.{first_read, value_sound, value_complete}
use Rattle.text_question.specs.Reading.{Heading, header}

-- The lines before the legs, and then the rest.
abbrev pub headed : Heading → List ℕ → List ℕ
headed h r =
    line (ascii "k=") (h.k ∷ [])
    ++ (line (ascii "allowance=") (h.allowance ∷ [])
    ++ (line (ascii "locations=") (h.locations ∷ []) ++ (line (ascii "depot=") (h.depot ∷ []) ++ (line (ascii "end=") (h.end ∷ []) ++ r))))

pub record Headed (h : Heading) (t r : List ℕ) : Type 0 where
  pub text : t ≡ headed h r
  pub some_location : 1 ≤ h.locations
  pub few_locations : h.locations ≤ 96
  pub small : Small (h.k ∷ h.allowance ∷ h.depot ∷ h.end ∷ [])

in_range : (n : ℕ) {A : Type 0} (a b : A) → cond (leb 1 n && leb n 96) (some a) none ≡ some b → (1 ≤ n) × (n ≤ 96) × (a ≡ b)
in_range n {A} a b e = go (leb 1 n) (leb n 96) refl refl
  where
    go : (x y : Bool) → leb 1 n ≡ x → leb n 96 ≡ y → (1 ≤ n) × (n ≤ 96) × (a ≡ b)
    go true true i j = (leb-true 1 n i, leb-true n 96 j, some-injective a b (rw (i, j) at e))
    go true false i j = absurd (none-ne-some b (rw (i, j) at e))
    go false y i j = absurd (none-ne-some b (rw i at e))

pub header_sound : (t : List ℕ) (h : Heading) (r : List ℕ) → header t ≡ some (h, r) → Headed h t r
unfolding header
header_sound t h r e =
    first_read (value (ascii "k=") t) _ (h, r) e λ k k_read e₁.
    first_read (value (ascii "allowance=") k.1) _ (h, r) e₁ λ a a_read e₂.
    first_read (value (ascii "locations=") a.1) _ (h, r) e₂ λ l l_read e₃.
    first_read (value (ascii "depot=") l.1) _ (h, r) e₃ λ d d_read e₄.
    first_read (value (ascii "end=") d.1) _ (h, r) e₄ λ n n_read e₅.
    let i = in_range l.0 (record { k = k.0; allowance = a.0; locations = l.0; depot = d.0; end = n.0 }, n.1) (h, r) e₅ in
    let k_is = value_sound (ascii "k=") t k.0 k.1 k_read in
    let a_is = value_sound (ascii "allowance=") k.1 a.0 a.1 a_read in
    let l_is = value_sound (ascii "locations=") a.1 l.0 l.1 l_read in
    let d_is = value_sound (ascii "depot=") l.1 d.0 d.1 d_read in
    let n_is = value_sound (ascii "end=") d.1 n.0 n.1 n_read in
    let y : l.1 ≡ line (ascii "depot=") (d.0 ∷ []) ++ (line (ascii "end=") (n.0 ∷ []) ++ n.1) = d_is.0 ∙ ap (λ (z : List ℕ). line (ascii "depot=") (d.0 ∷ []) ++ z) n_is.0 in
    let x : k.1 ≡ line (ascii "allowance=") (a.0 ∷ []) ++ (line (ascii "locations=") (l.0 ∷ []) ++ (line (ascii "depot=") (d.0 ∷ []) ++ (line (ascii "end=") (n.0 ∷ []) ++ n.1))) =
    a_is.0 ∙ ap (λ (z : List ℕ). line (ascii "allowance=") (a.0 ∷ []) ++ z) (l_is.0 ∙ ap (λ (z : List ℕ). line (ascii "locations=") (l.0 ∷ []) ++ z) y) in
    subst (λ (p : Heading × List ℕ). Headed p.0 t p.1) i.2 (record {
      text = k_is.0 ∙ ap (λ (z : List ℕ). line (ascii "k=") (k.0 ∷ []) ++ z) x;
      some_location = i.0;
      few_locations = i.1;
      small = (k_is.1, (a_is.1, (d_is.1, (n_is.1, tt))));
    })

pub header_complete : (h : Heading) (r : List ℕ) → 1 ≤ h.locations → h.locations ≤ 96 → Small (h.k ∷ h.allowance ∷ h.depot ∷ h.end ∷ []) → header (headed h r) ≡ some (h, r)
unfolding header bind
header_complete h r p q s =
    let end_rest = line (ascii "end=") (h.end ∷ []) ++ r in
    let depot_rest = line (ascii "depot=") (h.depot ∷ []) ++ end_rest in
    let locations_rest = line (ascii "locations=") (h.locations ∷ []) ++ depot_rest in
    rw (
      value_complete (ascii "k=") h.k (line (ascii "allowance=") (h.allowance ∷ []) ++ locations_rest) s.0,
      value_complete (ascii "allowance=") h.allowance locations_rest s.1.0,
      value_complete (ascii "locations=") h.locations depot_rest (omega arith),
      value_complete (ascii "depot=") h.depot end_rest s.1.1.0,
      value_complete (ascii "end=") h.end r s.1.1.1.0,
      le-leb 1 h.locations p,
      le-leb h.locations 96 q,
    )

-- The lines one after the other, as far as they are read.
pub k_missing : (t : List ℕ) → value (ascii "k=") t ≡ none → header t ≡ none
unfolding header bind
k_missing t e = rw e

module _ (t : List ℕ) {r : List ℕ} {k : ℕ} (k_read : value (ascii "k=") t ≡ some (k, r)) where
  pub allowance_missing : value (ascii "allowance=") r ≡ none → header t ≡ none
  unfolding header bind
  allowance_missing e = rw (k_read, e)

  module _ {s : List ℕ} {allowance : ℕ} (allowance_read : value (ascii "allowance=") r ≡ some (allowance, s)) where
    pub locations_missing : value (ascii "locations=") s ≡ none → header t ≡ none
    unfolding header bind
    locations_missing e = rw (k_read, allowance_read, e)

    module _ {u : List ℕ} {locations : ℕ} (locations_read : value (ascii "locations=") s ≡ some (locations, u)) where
      pub depot_missing : value (ascii "depot=") u ≡ none → header t ≡ none
      unfolding header bind
      depot_missing e = rw (k_read, allowance_read, locations_read, e)

      module _ {v : List ℕ} {depot : ℕ} (depot_read : value (ascii "depot=") u ≡ some (depot, v)) where
        pub end_missing : value (ascii "end=") v ≡ none → header t ≡ none
        unfolding header bind
        end_missing e = rw (k_read, allowance_read, locations_read, depot_read, e)

        module _ {w : List ℕ} {end : ℕ} (end_read : value (ascii "end=") v ≡ some (end, w)) where
          pub no_location : locations < 1 → header t ≡ none
          unfolding header bind
          no_location h = rw (k_read, allowance_read, locations_read, depot_read, end_read, lt-leb 1 locations h)

          pub many_locations : 96 < locations → header t ≡ none
          unfolding header bind
          many_locations h = rw (k_read, allowance_read, locations_read, depot_read, end_read, le-leb 1 locations (omega arith), lt-leb locations 96 h)

          pub header_read : 1 ≤ locations → locations ≤ 96 → header t ≡ some (record { k = k; allowance = allowance; locations = locations; depot = depot; end = end }, w)
          unfolding header bind
          header_read h m = rw (k_read, allowance_read, locations_read, depot_read, end_read, le-leb 1 locations h, le-leb locations 96 m)
