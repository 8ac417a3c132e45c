-- The delta is the length after minus the length before, and the running sums give the parts' inner legs. Assumes nothing.
use mathlib.Core.Path.{◌≡◌, refl, sym, ap, ap₂, ◌∙◌}
use mathlib.Core.List.{List, [], ◌∷◌, ◌++◌, flatten, reverse, append_assoc, reverse-cons, reverse-append}
use Prim.Native.Nat.{ℕ, suc, ◌+◌, ◌≤◌, ◌<◌}
use native.Mathlib.Omega.{arith}
use lib.ListN.{length, get_or, take, take-append-drop}
use lib.Seq.{slice, slice-cons, take-suc, take-take}
use Rattle.theory.specs.Route.{Problem, path, tour_length}
use Rattle.theory.specs.Costs.{last_of, first_of, inner, forward, backward, through}

pub path_append : (d : ℕ → ℕ → ℕ) (a : ℕ) (xs ys : List ℕ) → path d a (xs ++ ys) ≡ path d a xs + path d (last_of a xs) ys
unfolding path last_of
path_append d a [] ys = omega arith
path_append d a (x ∷ xs) ys = omega (arith, path_append d x xs ys)

last_append : (a : ℕ) (xs : List ℕ) (y : ℕ) (ys : List ℕ) → last_of a (xs ++ (y ∷ ys)) ≡ last_of y ys
unfolding last_of
last_append a [] y ys = refl
last_append a (x ∷ xs) y ys = last_append x xs y ys

-- Parts joined after a: each part that is not empty pays the leg to its first stop and its inner legs.
pub data Full : List (List ℕ) → Type 0 where
  none : Full []
  more : {x : ℕ} {xs : List ℕ} {ps : List (List ℕ)} → Full ps → Full ((x ∷ xs) ∷ ps)

pub through_path : (d : ℕ → ℕ → ℕ) (a : ℕ) (ps : List (List ℕ)) (e : ℕ) → Full ps → through d a ps e ≡ path d a (flatten ps ++ (e ∷ []))
unfolding through path inner last_of first_of flatten
through_path d a [] e none = omega arith
through_path d a ([] ∷ ps) e x3 = elim x3 [ ]
through_path d a ((x ∷ xs) ∷ ps) e (more f) =
    rw (append_assoc xs (flatten ps) (e ∷ [])) (omega (arith, through_path d (last_of x xs) ps e f, path_append d x xs (flatten ps ++ (e ∷ []))))

-- Two routes that share head and tail differ in length as the ways from the head's end through the middles to the tail's start differ.
pub middle_path : (d : ℕ → ℕ → ℕ) (a : ℕ) (h m t : List ℕ) (e : ℕ) →
    path d a (h ++ (m ++ (t ++ (e ∷ [])))) ≡ path d a h + path d (last_of a h) (m ++ (first_of t e ∷ [])) + inner d (t ++ (e ∷ []))
unfolding first_of inner path
middle_path d a h m [] e = omega (arith, path_append d a h (m ++ (e ∷ [])))
middle_path d a h m (x ∷ t) e =
    omega (arith, path_append d a h (m ++ (x ∷ (t ++ (e ∷ [])))), path_append d (last_of a h) m (x ∷ (t ++ (e ∷ []))), path_append d (last_of a h) m (x ∷ []))

pub delta : (P : Problem) (h m m' t : List ℕ) →
    tour_length P (h ++ (m' ++ t)) + path P.leg (last_of P.depot h) (m ++ (first_of t P.end ∷ []))
    ≡ tour_length P (h ++ (m ++ t)) + path P.leg (last_of P.depot h) (m' ++ (first_of t P.end ∷ []))
unfolding tour_length
delta P h m m' t =
    simp append_assoc (omega (arith, middle_path P.leg P.depot h m t P.end, middle_path P.leg P.depot h m' t P.end))

-- The legs inside a part that starts in the middle: a difference of running sums.
inner_split : (d : ℕ → ℕ → ℕ) (xs : List ℕ) (y : ℕ) (ys : List ℕ) → inner d (xs ++ (y ∷ ys)) ≡ inner d (xs ++ (y ∷ [])) + path d y ys
unfolding inner path
inner_split d [] y ys = omega arith
inner_split d (x ∷ xs) y ys = omega (arith, path_append d x xs (y ∷ ys), path_append d x xs (y ∷ []))

whole : (r : List ℕ) (s t : ℕ) → s ≤ t → t < length r → take (suc t) r ≡ take s r ++ (get_or r s 0 ∷ slice (suc s) (suc t) r)
whole r s t h k =
    sym (take-append-drop s (take (suc t) r))
    ∙ ap₂ ◌++◌ (take-take s (suc t) r (omega arith)) (slice-cons s (suc t) r 0 (omega arith) k)

inner_back : (d : ℕ → ℕ → ℕ) (xs : List ℕ) (y : ℕ) (ys : List ℕ) →
    inner d (reverse (xs ++ (y ∷ []))) + inner d (reverse (y ∷ ys)) ≡ inner d (reverse (xs ++ (y ∷ ys)))
unfolding inner
inner_back d xs y ys =
    rw (reverse-append xs (y ∷ []), reverse-append xs (y ∷ ys), reverse-cons y ys, append_assoc (reverse ys) (y ∷ []) (reverse xs))
    (omega (arith, inner_split d (reverse ys) y (reverse xs)))

module _ (d : ℕ → ℕ → ℕ) (r : List ℕ) (s t : ℕ) (h : s ≤ t) (k : t < length r) where
  xs : List ℕ
  xs = take s r

  y : ℕ
  y = get_or r s 0

  ys : List ℕ
  ys = slice (suc s) (suc t) r

  head_is : take (suc s) r ≡ xs ++ (y ∷ [])
  unfolding xs y
  head_is = take-suc r s 0 (omega arith)

  part_is : slice s (suc t) r ≡ y ∷ ys
  unfolding y ys
  part_is = slice-cons s (suc t) r 0 (omega arith) k

  pub forward_inner : forward d r s + inner d (slice s (suc t) r) ≡ forward d r t
  unfolding forward inner xs y ys
  forward_inner = ap₂ ◌+◌ (ap (inner d) head_is) (ap (inner d) part_is) ∙ sym (inner_split d xs y ys) ∙ ap (inner d) (sym (whole r s t h k))

  pub backward_inner : backward d r s + inner d (reverse (slice s (suc t) r)) ≡ backward d r t
  unfolding backward xs y ys
  backward_inner = ap₂ ◌+◌ (ap (λ l. inner d (reverse l)) head_is) (ap (λ l. inner d (reverse l)) part_is) ∙ inner_back d xs y ys ∙ ap (λ l. inner d (reverse l)) (sym (whole r s t h k))
