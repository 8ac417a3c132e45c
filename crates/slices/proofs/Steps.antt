-- A slice step by step, as a loop makes it: what holds at each turn, and one law for each way that a turn ends. And the walk along the cut sets with the same
-- first cuts. Assumes nothing.
use mathlib.Core.Path.{◌≡◌, refl, sym, ap, ap₂, ◌∙◌}
use mathlib.Core.Bool.{true, false}
use mathlib.Core.Option.{none, some}
use mathlib.Core.List.{List, [], ◌∷◌, ◌++◌, map, append_assoc, Memᴰ}
use Prim.Native.Nat.{ℕ, zero, suc, ◌+◌, ◌-◌, ◌*◌, ◌/◌, ◌%◌, ◌≤◌, ◌<◌}
use native.Mathlib.Omega.{arith}
use native.Mathlib.Nat.{add-zero, suc-mul, div-add-mod', div-lt_iff_lt-mul, mod-lt, mul-le-mul_right}
use native.Mathlib.Numerals.{add-one}
use lib.ListN.{length, get_or, take, drop, length-append, length-map, length-drop, get_or-append}
use lib.Seq.{drop-append-le, get_or_at, take-length, length-take-le}
use Rattle.theory.specs.Scan.{Search, scan_from, improves}
use Rattle.theory.specs.Moves.{Pattern, Move, Rising, upfrom, next_cuts, cut_sets, candidates}
use Rattle.theory.specs.Route.{Problem, reconnected}
use Rattle.theory.specs.Polish.{search_of, move_at}
use Rattle.theory.proofs.Scan.{scan_ended, scan_halted, scan_passed, scan_taken}
use Rattle.theory.proofs.Walk.{rest, rest_first, rest_split, rest_cons, rest_next, rest_last, next_moves, next_under}
use Rattle.slices.specs.Places.{Place, first_place, IsPlace, number_of, place_of, from_place, next_place}
use Rattle.slices.specs.Slices.{left_over, slice, in_slices, Reached}
use Rattle.slices.proofs.LeftOver.{left_halted, left_passed, left_taken}
use Rattle.slices.proofs.Places.{in_list, number_below, place_number, fits, patterns_on, from_is_rest, from_next, walk}
use Rattle.slices.proofs.Slices.{slice_of, slice_is}

module _ (P : Problem) (ps : List Pattern) (k A : ℕ) (p₀ : Place) (r₀ : List ℕ) where
  abbrev n : ℕ
  n = length r₀

  abbrev S : Search (List ℕ) Move
  S = search_of P ps k (length r₀)

  -- With e examined and c accepted the moves ms come next on the route r: what is left of the slice is the whole of it, in reply and place.
  pub record Left (ms : List Move) (e c : ℕ) (r : List ℕ) : Type 0 where
    pub left : ℕ
    pub allowance : e + left ≡ A
    pub same : scan_from (search_of P ps k (length r₀)) left ms e c r ≡ scan_from (search_of P ps k (length r₀)) A (from_place ps k (length r₀) p₀) 0 0 r₀
    pub over : left_over (search_of P ps k (length r₀)) left ms r ≡ left_over (search_of P ps k (length r₀)) A (from_place ps k (length r₀) p₀) r₀

  pub begins : Left (from_place ps k (length r₀) p₀) 0 0 r₀
  begins = record { left = A; allowance = omega arith; same = refl; over = refl }

  -- One more of the allowance.
  more : (ms : List Move) (e c : ℕ) (r : List ℕ) (l : Left ms e c r) → e < A → (a : ℕ) × (l.left ≡ suc a) × (e + 1 + a ≡ A)
  more ms e c r l h = by l.left refl l.allowance
    where
      by : (a : ℕ) → l.left ≡ a → e + a ≡ A → (b : ℕ) × (l.left ≡ suc b) × (e + 1 + b ≡ A)
      by zero z s = absurd (omega arith)
      by (suc a) z s = (a, z, omega arith)

  module _ (m : Move) (ms : List Move) (e c : ℕ) (r : List ℕ) (l : Left (m ∷ ms) e c r) (h : e < A) where
    pub passes : improves (search_of P ps k (length r₀)) r m ≡ false → Left ms (e + 1) c r
    passes i =
        let t = more (m ∷ ms) e c r l h in
        record {
          left = t.0;
          allowance = t.2;
          same = rw (add-one e) (sym (scan_passed S m ms t.0 e c r i) ∙ rw t.1 at l.same);
          over = sym (left_passed S m ms t.0 r i) ∙ rw t.1 at l.over;
        }

    -- An improving move is accepted, and the scan begins again.
    pub takes : improves (search_of P ps k (length r₀)) r m ≡ true → Left (candidates ps (cut_sets k (length r₀))) (e + 1) (c + 1) (reconnected m r)
    takes i =
        let t = more (m ∷ ms) e c r l h in
        record {
          left = t.0;
          allowance = t.2;
          same = rw (add-one e, add-one c) (sym (scan_taken S m ms t.0 e c r i) ∙ rw t.1 at l.same);
          over = sym (left_taken S m ms t.0 r i) ∙ rw t.1 at l.over;
        }

  -- A part of the list of which no move improves is passed.
  pub pass_over : (xs ms : List Move) (e c : ℕ) (r : List ℕ) → Left (xs ++ ms) e c r → ((m : Move) → Memᴰ m xs → improves (search_of P ps k (length r₀)) r m ≡ false) →
      e + length xs ≤ A → Left ms (e + length xs) c r
  pass_over [] ms e c r l h b = rw (add-zero e) l
  pass_over (x ∷ xs) ms e c r l h b =
      let z : e + 1 + length xs ≡ e + suc (length xs) = omega arith in
      rw (← z) (pass_over xs ms (e + 1) c r (passes x (xs ++ ms) e c r l (omega arith) (h x (Memᴰ.head refl))) (λ m i. h m (Memᴰ.tail i)) (omega arith))

  -- No move is left.
  pub finished : (e c : ℕ) (r : List ℕ) → Left [] e c r → slice P ps k A p₀ r₀ ≡ record { reply = record { finished = true; examined = e; accepted = c; route = r }; place = first_place k }
  finished e c r l =
      slice_is P ps k n A p₀ r₀ ∙ ap (λ q. slice_of P ps k n q (left_over S A (from_place ps k n p₀) r₀)) (sym l.same ∙ scan_ended S l.left e c r)

  -- At a place with nothing of the allowance left.
  pub spent_at : (p : Place) → IsPlace ps k (length r₀) p → (e c : ℕ) (r : List ℕ) → Left (from_place ps k (length r₀) p) e c r → e ≡ A →
      slice P ps k A p₀ r₀ ≡ record { reply = record { finished = false; examined = e; accepted = c; route = r }; place = p }
  spent_at p is e c r l z =
      let y : l.left ≡ 0 = omega (arith, l.allowance) in
      let w = walk ps k n p is in
      let reply : scan_from S A (from_place ps k n p₀) 0 0 r₀ ≡ record { finished = false; examined = e; accepted = c; route = r } =
      sym l.same ∙ ap₂ (λ a ms. scan_from S a ms e c r) y w ∙ scan_halted S (move_at ps p.cuts p.index) (from_next ps k n (next_place ps n p)) e c r in
      let left : left_over S A (from_place ps k n p₀) r₀ ≡ from_place ps k n p = sym l.over ∙ ap (λ a. left_over S a (from_place ps k n p) r) y ∙ left_halted S (from_place ps k n p) r in
      let x : length (candidates ps (cut_sets k n)) - length (from_place ps k n p) ≡ number_of ps k n p =
      omega (arith, length-drop (number_of ps k n p) (candidates ps (cut_sets k n)), number_below ps k n p is) in
      slice_is P ps k n A p₀ r₀
      ∙ ap₂ (slice_of P ps k n) reply left
      ∙ ap (λ p. record { reply = record { finished = false; examined = e; accepted = c; route = r }; place = p }) (ap (place_of ps k n) x ∙ place_number ps k n p is)

-- ---- along the cut sets with the same first cuts

-- A last cut that can move up moves.
pub next_last : (n : ℕ) (pre : List ℕ) (c : ℕ) → suc c ≤ n → next_cuts n (pre ++ (c ∷ [])) ≡ some (pre ++ (suc c ∷ []))
unfolding next_cuts upfrom
next_last n pre c h = next_under n pre (c ∷ []) (suc c ∷ []) (next_moves n c [] refl (omega arith))

last_on : (n low : ℕ) (pre : List ℕ) (c t : ℕ) → Rising low (pre ++ (c ∷ [])) n → c ≤ t → t ≤ n → Rising low (pre ++ (t ∷ [])) n
last_on n low [] c t r h l = (omega (arith, r.0), l, tt)
last_on n low (a ∷ pre) c t r h l = (r.0, r.1, last_on n (suc a) pre c t r.2 h l)

module _ (ps : List Pattern) (k n : ℕ) (pre : List ℕ) where
  abbrev L : ℕ
  L = length ps

  abbrev set_at : ℕ → List ℕ
  set_at t = pre ++ (t ∷ [])

  -- The candidates from pattern i at the last cut c up to pattern x at the last cut t: d of them.
  pub record Between (c i t x d : ℕ) : Type 0 where
    pub front : List Move
    pub whole : rest ps n (pre ++ (c ∷ [])) i ≡ front ++ rest ps n (pre ++ (t ∷ [])) x
    pub many : length front ≡ d

  sets_between : (h c : ℕ) → c + h ≤ n → Between c 0 (c + h) 0 (h * length ps)
  sets_between zero c l =
      let y : c + 0 ≡ c = omega arith in
      record { front = []; whole = rw y; many = omega arith }
  sets_between (suc h) c l =
      let g : Pattern → Move = λ p. record { cuts = set_at c; pattern = p } in
      let y : c + suc h ≡ suc c + h = omega arith in
      let s : rest ps n (set_at c) 0 ≡ map g ps ++ rest ps n (set_at (suc c)) 0 =
      rest_split ps n (set_at c) (length ps) ∙ ap₂ (λ x y. map g x ++ y) (take-length ps) (rest_next ps n (set_at c) (set_at (suc c)) (next_last n pre c (omega arith))) in
      let b = sets_between h (suc c) (omega arith) in
      record {
        front = map g ps ++ b.front;
        whole = rw y (s ∙ ap (λ l. map g ps ++ l) b.whole ∙ sym (append_assoc (map g ps) b.front (rest ps n (set_at (suc c + h)) 0)));
        many = length-append (map g ps) b.front ∙ omega (arith, length-map ps g, b.many, suc-mul h (length ps));
      }

  pub between : (c i d h x : ℕ) → i ≤ length ps → x ≤ length ps → i + d ≡ h * length ps + x → c + h ≤ n → Between c i (c + h) x d
  between c i d h x hi hx e l =
      let b = sets_between h c l in
      let g : Pattern → Move = λ p. record { cuts = set_at (c + h); pattern = p } in
      let F = b.front ++ map g (take x ps) in
      let long : length F ≡ i + d = length-append b.front (map g (take x ps)) ∙ omega (arith, b.many, length-map (take x ps) g, length-take-le x ps hx) in
      let w : rest ps n (set_at c) 0 ≡ F ++ rest ps n (set_at (c + h)) x =
      b.whole ∙ ap (λ l. b.front ++ l) (rest_split ps n (set_at (c + h)) x) ∙ sym (append_assoc b.front (map g (take x ps)) (rest ps n (set_at (c + h)) x)) in
      record {
        front = drop i F;
        whole = sym (patterns_on ps k n (set_at c) i hi) ∙ ap (drop i) w ∙ drop-append-le i F (rest ps n (set_at (c + h)) x) (omega (arith, long));
        many = length-drop i F ∙ omega (arith, long);
      }

  pub stretch_place : (c i t x : ℕ) → IsPlace ps k n (record { cuts = pre ++ (c ∷ []); index = i }) → c ≤ t → t ≤ n → x < length ps → IsPlace ps k n (record { cuts = pre ++ (t ∷ []); index = x })
  stretch_place c i t x is h l b = record { many = simp length-append (omega (arith, simp length-append at is.many)); rising = last_on n 0 pre c t is.rising h l; known = b }

  -- The candidate with y before it.
  stretch_move : (c i y h x : ℕ) (z : Move) → i ≤ length ps → x < length ps → i + y ≡ h * length ps + x → c + h ≤ n →
      get_or (rest ps n (pre ++ (c ∷ [])) i) y z ≡ move_at ps (pre ++ ((c + h) ∷ [])) x
  stretch_move c i y h x z hi hx e l =
      let b = between c i y h x hi (omega arith) e l in
      ap (λ l. get_or l y z) (b.whole ∙ ap (λ l. b.front ++ l) (rest_cons ps n (set_at (c + h)) x (record { order = []; mask = 0 }) hx))
      ∙ get_or_at b.front (move_at ps (set_at (c + h)) x) (rest ps n (set_at (c + h)) (suc x)) z y b.many

  -- What is said of a pattern at each last cut, by the number of the candidate, is said of the moves between.
  pub said_between : (good : Move → Type 0) (c i t x d : ℕ) → i ≤ length ps → i + d ≤ (suc n - c) * length ps → (b : Between c i t x d) →
      ((u y : ℕ) → c ≤ u → u ≤ n → y < length ps → i ≤ (u - c) * length ps + y → (u - c) * length ps + y < i + d → good (move_at ps (pre ++ (u ∷ [])) y)) →
      (m : Move) → Memᴰ m b.front → good m
  said_between good c i t x d hi room b say m j =
      let z = move_at ps [] 0 in
      let v = in_list b.front z m j in
      let y = v.0 in
      let short : y < d = omega (arith, v.1, b.many) in
      let some : 0 < length ps = positive (length ps) refl (omega arith) in
      let h = (i + y) / length ps in
      let w = (i + y) % length ps in
      let e : i + y ≡ h * length ps + w = sym (div-add-mod' (i + y) (length ps)) in
      let few : h < suc n - c = (div-lt_iff_lt-mul some).1 (omega arith) in
      let same : get_or (rest ps n (set_at c) i) y z ≡ get_or b.front y z = ap (λ l. get_or l y z) b.whole ∙ get_or-append b.front (rest ps n (set_at t) x) z y v.1 in
      let back : c + h - c ≡ h = omega arith in
      rw (← v.2, ← same, stretch_move c i y h w z hi (mod-lt (i + y) some) e (omega arith))
      (say (c + h) w (omega arith) (omega arith) (mod-lt (i + y) some) (rw (back, ← e) (omega arith)) (rw (back, ← e) (omega arith)))
    where
      positive : (l : ℕ) → length ps ≡ l → 0 < (suc n - c) * l → 0 < l
      positive zero q r = absurd (omega arith)
      positive (suc l) q r = omega arith

-- ---- a turn of the loop, from pattern i at the last cut c

-- The first d candidates do not improve the route r.
abbrev pub Idle : Problem → List Pattern → (k n : ℕ) → (pre : List ℕ) (c i : ℕ) → List ℕ → ℕ → Type 0
Idle P ps k n pre c i r d =
    (t y : ℕ) → c ≤ t → t ≤ n → y < length ps → i ≤ (t - c) * length ps + y → (t - c) * length ps + y < i + d →
    improves (search_of P ps k n) r (move_at ps (pre ++ (t ∷ [])) y) ≡ false

module _ (P : Problem) (ps : List Pattern) (k A : ℕ) (p₀ : Place) (r₀ : List ℕ) (pre : List ℕ) (c i : ℕ) (is : IsPlace ps k (length r₀) (record { cuts = pre ++ (c ∷ []); index = i }))
    (e a : ℕ) (r : List ℕ) (now : Left P ps k A p₀ r₀ (rest ps (length r₀) (pre ++ (c ∷ [])) i) e a r) where
  pub along : (d h x : ℕ) → x ≤ length ps → i + d ≡ h * length ps + x → c + h ≤ length r₀ → Idle P ps k (length r₀) pre c i r d → e + d ≤ A → Left P ps k A p₀ r₀ (rest ps (length r₀) (pre ++ ((c + h) ∷ [])) x) (e + d) a r
  along d h x hx z l idle room =
      let known : i ≤ length ps = omega (arith, is.known) in
      let fits : suc h ≤ suc (length r₀) - c = omega arith in
      let b = between ps k (length r₀) pre c i d h x known hx z l in
      rw b.many at
      (pass_over P ps k A p₀ r₀ b.front (rest ps (length r₀) (pre ++ ((c + h) ∷ [])) x) e a r (rw b.whole at now)
      (said_between ps k (length r₀) pre (λ m. improves (search_of P ps k (length r₀)) r m ≡ false) c i (c + h) x d known (omega (arith, mul-le-mul_right (length ps) fits)) b idle)
      (omega (arith, b.many)))

  -- Spent among them: the place is the division of what was still allowed.
  pub spent_along : (left : ℕ) → e + left ≡ A → i + left < (suc (length r₀) - c) * length ps → Idle P ps k (length r₀) pre c i r left →
      slice P ps k A p₀ r₀
      ≡ record { reply = record { finished = false; examined = e + left; accepted = a; route = r }; place = record { cuts = pre ++ ((c + (i + left) / length ps) ∷ []); index = (i + left) % length ps } }
  spent_along left z few idle =
      let some : 0 < length ps = omega (arith, is.known) in
      let h = (i + left) / length ps in
      let x = (i + left) % length ps in
      let low : x < length ps = mod-lt (i + left) some in
      let high : h < suc (length r₀) - c = (div-lt_iff_lt-mul some).1 few in
      let q : IsPlace ps k (length r₀) (record { cuts = pre ++ ((c + h) ∷ []); index = x }) = stretch_place ps k (length r₀) pre c i (c + h) x is (omega arith) (omega arith) low in
      spent_at P ps k A p₀ r₀ (record { cuts = pre ++ ((c + h) ∷ []); index = x }) q (e + left) a r
      (rw (from_is_rest ps k (length r₀) (record { cuts = pre ++ ((c + h) ∷ []); index = x }) q) (along left h x (omega arith) (sym (div-add-mod' (i + left) (length ps))) (omega arith) idle (omega arith))) z

  -- The improving one behind d that do not is accepted, and the slice goes on at the first place.
  pub taken_along : (d h x : ℕ) → x < length ps → i + d ≡ h * length ps + x → c + h ≤ length r₀ → Idle P ps k (length r₀) pre c i r d → e + d < A →
      improves (search_of P ps k (length r₀)) r (move_at ps (pre ++ ((c + h) ∷ [])) x) ≡ true →
      Left P ps k A p₀ r₀ (rest ps (length r₀) (upfrom 0 k) 0) (e + d + 1) (a + 1) (reconnected (move_at ps (pre ++ ((c + h) ∷ [])) x) r)
  taken_along d h x hx z l idle room gain =
      let s = along d h x (omega arith) z l idle (omega arith) in
      let t : Left P ps k A p₀ r₀ (move_at ps (pre ++ ((c + h) ∷ [])) x ∷ rest ps (length r₀) (pre ++ ((c + h) ∷ [])) (suc x)) (e + d) a r =
      rw (rest_cons ps (length r₀) (pre ++ ((c + h) ∷ [])) x (record { order = []; mask = 0 }) hx) at s in
      rw (rest_first ps k (length r₀) (fits ps k (length r₀) (record { cuts = pre ++ (c ∷ []); index = i }) is)) at
      (takes P ps k A p₀ r₀ (move_at ps (pre ++ ((c + h) ∷ [])) x) (rest ps (length r₀) (pre ++ ((c + h) ∷ [])) (suc x)) (e + d) a r t room gain)

  -- Through all patterns up to a last cut: the next cut set, or none.
  module _ (d h : ℕ) (all : i + d ≡ suc h * length ps) (l : c + h ≤ length r₀) (idle : Idle P ps k (length r₀) pre c i r d) (room : e + d ≤ A) where
    through : Left P ps k A p₀ r₀ (rest ps (length r₀) (pre ++ ((c + h) ∷ [])) (length ps)) (e + d) a r
    through = along d h (length ps) (omega arith) (omega (arith, all, suc-mul h (length ps))) l idle room

    pub through_next : (cs : List ℕ) → next_cuts (length r₀) (pre ++ ((c + h) ∷ [])) ≡ some cs → Left P ps k A p₀ r₀ (rest ps (length r₀) cs 0) (e + d) a r
    through_next cs q = rw (rest_next ps (length r₀) (pre ++ ((c + h) ∷ [])) cs q) at through

    pub through_last : next_cuts (length r₀) (pre ++ ((c + h) ∷ [])) ≡ none →
        slice P ps k A p₀ r₀ ≡ record { reply = record { finished = true; examined = e + d; accepted = a; route = r }; place = first_place k }
    through_last q = finished P ps k A p₀ r₀ (e + d) a r (rw (rest_last ps (length r₀) (pre ++ ((c + h) ∷ [])) q) at through)

-- ---- slices of nothing, and where the first one leads

-- With nothing allowed a slice stays where it is.
pub nothing_allowed : (P : Problem) (ps : List Pattern) (k : ℕ) (p : Place) (r : List ℕ) → IsPlace ps k (length r) p →
    slice P ps k 0 p r ≡ record { reply = record { finished = false; examined = 0; accepted = 0; route = r }; place = p }
nothing_allowed P ps k p r is = spent_at P ps k 0 p r p is 0 0 r (begins P ps k 0 p r) refl

pub reached_start : (P : Problem) (ps : List Pattern) (k : ℕ) (r : List ℕ) → IsPlace ps k (length r) (first_place k) → Reached P ps k r 0 0 (first_place k) r
unfolding in_slices
reached_start P ps k r is = record { a = 0; more = []; led = nothing_allowed P ps k (first_place k) r is }
