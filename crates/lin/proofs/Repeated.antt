-- Where a stop stands twice an exchange can be missed, whatever the depot and the end: five stops, k = 2. Assumes nothing.
use mathlib.Core.Path.{◌≡◌, refl, sym, ap, ◌∙◌}
use mathlib.Core.Bool.{Bool, true, false, ◌&&◌, ◌||◌, true≢false}
use mathlib.Core.Logic.{◌⊎◌, ⊎_elim}
use mathlib.Core.List.Memᴰ
use mathlib.Core.List.{List, [], ◌∷◌, reverse, flatten, flat_map, Memᴰ}
use Prim.Native.Nat.{ℕ}
use native.Mathlib.Omega.{arith}
use lib.Dec.{eqb}
use borrow.Author.Tests.{eq-eqb}
use Rattle.theory.specs.Moves.{Move, upfrom, total, picks, orders, arrangements, patterns, combinations, cut_sets, candidates}
use Rattle.theory.specs.Route.{Problem, segments, reverses, reverse_if, placed, joined, reconnected, count}
use Rattle.theory.specs.Links.{links, tour_links, link_count}
use Rattle.theory.proofs.Polish.{listed}
use Rattle.lin.specs.Lin.{SameStops, Differs, Reached}

same : List ℕ → List ℕ → Bool
same [] [] = true
same [] (y ∷ m) = false
same (x ∷ l) [] = false
same (x ∷ l) (y ∷ m) = eqb x y && same l m

same_self : (l : List ℕ) → same l l ≡ true
unfolding same
same_self [] = refl
same_self (x ∷ l) = rw (eq-eqb x x refl) (same_self l)

passes : (Move → Bool) → List Move → Bool
passes t [] = false
passes t (m ∷ ms) = t m || passes t ms

none_passes : (t : Move → Bool) (m : Move) (ms : List Move) → passes t ms ≡ false → Memᴰ m ms → t m ≡ true → ⊥
unfolding passes
none_passes t m [] h i e = Memᴰ.not-nil i
none_passes t m (n ∷ ms) h i e = by (t n) refl h (λ g j. none_passes t m ms g j e)
  where
    by : (b : Bool) → t n ≡ b → (b || passes t ms) ≡ false → (passes t ms ≡ false → Memᴰ m ms → ⊥) → ⊥
    by true k g f = true≢false g
    by false k g f = ⊎_elim (λ p. true≢false (sym e ∙ ap t p ∙ k)) (f g) (Memᴰ.cases_cons i)

-- 1, 1, 2, 3, 4 and 1, 2, 3, 1, 4: the links 1 to 1 and 3 to 4 go, 3 to 1 and 1 to 4 come.
abbrev old : List ℕ
old = 1 ∷ 1 ∷ 2 ∷ 3 ∷ 4 ∷ []

abbrev new : List ℕ
new = 1 ∷ 2 ∷ 3 ∷ 1 ∷ 4 ∷ []

not_reached : (s : List ℕ) → same s old ≡ false → passes (λ m. same s (reconnected m old)) (candidates (patterns 2) (cut_sets 2 5)) ≡ false → Reached 2 old s → ⊥
not_reached s n h =
    ⊎_elim
    (λ e. true≢false (sym (same_self s) ∙ ap (same s) e ∙ n))
    (λ c.
    none_passes (λ m. same s (reconnected m old)) (record { cuts = c.cuts; pattern = c.pattern }) (candidates (patterns 2) (cut_sets 2 5)) h
    (listed (patterns 2) 2 5 c.cuts c.pattern c.many c.rising c.known)
    (ap (same s) (sym c.made) ∙ same_self s))

pub record Missed (P : Problem) : Type 0 where
  pub same_stops : SameStops old new
  pub differs : Differs 2 P old new
  pub missed : Reached 2 old new ⊎ Reached 2 old (reverse new) → ⊥

pub repeated_missed : (P : Problem) → Missed P
unfolding same passes candidates patterns arrangements orders picks flat_map upfrom cut_sets combinations reconnected joined placed segments reverses reverse_if flatten
repeated_missed P =
    record {
      same_stops = λ x. unfold count total in omega arith;
      differs =
          record {
            out = (1, 1) ∷ (3, 4) ∷ [];
            put = (3, 1) ∷ (1, 4) ∷ [];
            few = omega arith;
            stood = λ x y. unfold tour_links links link_count in omega arith;
            exchange = λ x y. unfold tour_links links link_count in omega arith;
          };
      missed = ⊎_elim (not_reached new refl refl) (not_reached (reverse new) refl refl);
    }
