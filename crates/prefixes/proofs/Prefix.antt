-- Where nothing can be laid, no candidate that begins with the first cuts does it. Assumes nothing.
use mathlib.Core.Path.{◌≡◌, ◌∙◌}
use mathlib.Core.Bool.{false}
use mathlib.Core.List.{List, [], ◌++◌}
use Prim.Native.Nat.{ℕ, zero, suc, ◌+◌, ◌-◌, ◌*◌, ◌≤◌, ◌<◌}
use native.Mathlib.Omega.{arith}
use native.Mathlib.Nat.{add-zero, add-suc}
use lib.ListN.{length, get_or, take, length-take, get_or-append}
use lib.Seq.{get_or-take}
use Rattle.theory.specs.Moves.{patterns, Rising}
use Rattle.theory.specs.Route.{reconnected}
use Rattle.theory.specs.Polish.{move_at}
use Rattle.theory.proofs.Moves.{pattern_shape}
use Rattle.theory.proofs.Index.{mem_get_or}
use Rattle.theory.proofs.Cuts.{rising_below}
use Rattle.theory.proofs.Delta.{gap}
use Rattle.first_move.specs.FirstMove.{turns_into}
use Rattle.first_move.proofs.FirstMove.{other_route}
use Rattle.standing.specs.Places.{Has}
use Rattle.prefixes.specs.Ways.{start_of, size_of, Setting, Nowhere, FirstCuts}
use Rattle.prefixes.specs.Prefix.{Tables, NothingThere, Prefix}
use Rattle.prefixes.proofs.Ways.{middle_filled, middle_within}
use Rattle.prefixes.proofs.Candidates.{head_same, way_of}

-- Cuts rise from each to each later one.
rises : (n k : ℕ) (cs : List ℕ) → length cs ≡ k → Rising 0 cs n → (a d : ℕ) → a + d < k → get_or cs a 0 ≤ get_or cs (a + d) 0
rises n k cs many rising a zero h = rw (add-zero a) (omega arith)
rises n k cs many rising a (suc d) h =
    let g = gap n 0 cs (a + d) rising (omega (arith, many)) in
    rw (add-suc a d) (omega (arith, rises n k cs many rising a d (omega arith), g))

pub first_least : (known : ℕ) (cuts : List ℕ) → FirstCuts known cuts → (p : ℕ) → p ≤ known → get_or cuts 0 0 ≤ get_or cuts p 0
first_least known cuts f zero h = omega arith
first_least known cuts f (suc p) h = omega (arith, first_least known cuts f p (omega arith), f.rise p h)

module _ (m known n : ℕ) (old wanted cuts stands ends parts : List ℕ) (head tail : ℕ) (prefix : Prefix (suc m) known cuts) (tables : Tables n old wanted stands ends parts head tail)
    (s : List ℕ) (many : length (take (suc known) cuts ++ s) ≡ suc m) (rising : Rising 0 (take (suc known) cuts ++ s) (length old)) where
  abbrev cs : List ℕ
  cs = take (suc known) cuts ++ s

  rising_n : Rising 0 cs n
  rising_n = rw tables.pair.olds at rising

  begins : (p : ℕ) → p < suc known → get_or cs p 0 ≡ get_or cuts p 0
  begins p h =
      let l : p < length (take (suc known) cuts) = simp length-take (omega (arith, prefix.places, prefix.most, prefix.begun)) in
      get_or-append (take (suc known) cuts) s 0 p l ∙ get_or-take (suc known) cuts p 0 h

  -- Where the one unknown segment ends.
  pub by_ends : known + 2 ≡ suc m → Setting n (suc m) (suc known) old wanted cs cuts stands ends (get_or cuts known 0 * 49)
  by_ends e =
      record {
        few = tables.pair.few;
        many = many;
        rising = rising_n;
        same = begins;
        stood = tables.stood;
        further = λ i y l h b t.
            let i_is : i ≡ suc known = omega arith in
            let filled = middle_filled n (suc m) cs many rising_n i (omega arith) h in
            let below = middle_within n (suc m) cs many rising_n i (omega arith) h in
            let c : start_of cs i ≡ get_or cuts known 0 = let z : i - 1 ≡ known = omega arith in rw z (begins known (omega arith)) in
            rw (← c) (tables.ended.marked (start_of cs i) (size_of cs i) y (omega (arith, filled)) (omega (arith, filled, below)) b t);
      }

  -- Where unknown segments may end, each a part behind the last known cut.
  pub by_parts : Setting n (suc m) (suc known) old wanted cs cuts stands parts (get_or cuts known 0 * 49)
  by_parts =
      record {
        few = tables.pair.few;
        many = many;
        rising = rising_n;
        same = begins;
        stood = tables.stood;
        further = λ i y l h b t.
            let filled = middle_filled n (suc m) cs many rising_n i (omega arith) h in
            let below = middle_within n (suc m) cs many rising_n i (omega arith) h in
            let d = i - 1 - known in
            let z : known + d ≡ i - 1 = omega arith in
            let r : get_or cs known 0 ≤ get_or cs (i - 1) 0 = rw z at (rises n (suc m) cs many rising_n known d (omega arith)) in
            tables.parted.marked (get_or cuts known 0) (start_of cs i) (size_of cs i) y (omega (arith, begins known (omega arith), r)) (omega (arith, filled)) (omega (arith, filled, below)) b t;
      }

  -- No way: another route.
  pub nothing_there : (ahead : List ℕ) (row goal places : ℕ) → Setting n (suc m) (suc known) old wanted cs cuts stands ahead row →
      ((c : ℕ) → c ≡ get_or cuts 0 0 → Has head c → Has places c) → ((g : ℕ) → Has tail (get_or cuts known 0 - get_or cuts 0 0 + g) → Has goal g) → Nowhere known cuts stands ahead row goal 0 (suc m - suc known) m places →
      (i : ℕ) → i < length (patterns (suc m)) → turns_into (suc m) old wanted (cs, i) ≡ false
  nothing_there ahead row goal places setting starts lower nowhere i h =
      let p = get_or (patterns (suc m)) i (record { order = []; mask = 0 }) in
      let shape = pattern_shape m p (mem_get_or (patterns (suc m)) i (record { order = []; mask = 0 }) h) in
      let c = get_or cs 0 0 in
      let low : c ≤ n = rising_below n 0 cs 0 rising_n (omega (arith, setting.many)) in
      other_route (reconnected (move_at (patterns (suc m)) cs i) old) wanted
      (λ does.
      nowhere n (suc m) old wanted cs setting shape.middle c
      (starts c (begins 0 (omega arith)) (tables.heads.marked c low (head_same m n (suc known) tail old wanted cs p shape tables.pair.olds tables.pair.wanteds setting.many rising_n does tables.tails)))
      low
      (way_of m n (suc known) tail old wanted cs p shape tables.pair.olds tables.pair.wanteds setting.many rising_n does tables.tails goal (omega arith) (omega (arith, prefix.begun))
      (λ g b.
      let first = begins 0 (omega arith) in
      let last : get_or cs (suc known - 1) 0 ≡ get_or cuts known 0 = let z : suc known - 1 ≡ known = omega arith in rw z (begins known (omega arith)) in
      lower g (rw (last, first) at b))))

one_less : (m : ℕ) → suc m - 1 ≡ m
one_less m = omega arith

less_one : (m known : ℕ) → suc m - known - 1 ≡ suc m - suc known
less_one m known = omega arith

two_more : (m known u : ℕ) → u ≡ 1 → u ≡ suc m - known - 1 → known + 2 ≡ suc m
two_more m known u a b = omega arith

-- The same for k as the code has it.
module _ (k known : ℕ) (cuts stands ends parts : List ℕ) (head tail row goal unknown left places : ℕ) (prefix : Prefix k known cuts) (row_is : row ≡ get_or cuts known 0 * 49)
    (unknown_is : unknown ≡ k - known - 1) (left_is : left ≡ k - 1) (starts : (c : ℕ) → c ≡ get_or cuts 0 0 → Has head c → Has places c)
    (lower : (g : ℕ) → Has tail (get_or cuts known 0 - get_or cuts 0 0 + g) → Has goal g) where
  pub not_by_ends : unknown ≡ 1 → Nowhere known cuts stands ends row goal 0 unknown left places → (n : ℕ) (old wanted : List ℕ) → Tables n old wanted stands ends parts head tail →
      NothingThere k (suc known) old wanted cuts
  not_by_ends one nowhere n old wanted tables s many rising i h = by k prefix unknown_is left_is many h
    where
      by : (k : ℕ) → Prefix k known cuts → unknown ≡ k - known - 1 → left ≡ k - 1 → length (take (suc known) cuts ++ s) ≡ k → i < length (patterns k) →
          turns_into k old wanted (take (suc known) cuts ++ s, i) ≡ false
      by zero f u l m b = absurd (omega (arith, f.begun))
      by (suc m) f u l q b =
          let u' : unknown ≡ suc m - suc known = u ∙ less_one m known in
          let l' : left ≡ m = l ∙ one_less m in
          let z : Nowhere known cuts stands ends (get_or cuts known 0 * 49) goal 0 (suc m - suc known) m places = rw (row_is, u', l') at nowhere in
          nothing_there m known n old wanted cuts stands ends parts head tail f tables s q rising ends (get_or cuts known 0 * 49) goal places
          (by_ends m known n old wanted cuts stands ends parts head tail f tables s q rising (two_more m known unknown one u)) starts lower z i b

  pub not_by_parts : Nowhere known cuts stands parts row goal 0 unknown left places → (n : ℕ) (old wanted : List ℕ) → Tables n old wanted stands ends parts head tail →
      NothingThere k (suc known) old wanted cuts
  not_by_parts nowhere n old wanted tables s many rising i h = by k prefix unknown_is left_is many h
    where
      by : (k : ℕ) → Prefix k known cuts → unknown ≡ k - known - 1 → left ≡ k - 1 → length (take (suc known) cuts ++ s) ≡ k → i < length (patterns k) →
          turns_into k old wanted (take (suc known) cuts ++ s, i) ≡ false
      by zero f u l m b = absurd (omega (arith, f.begun))
      by (suc m) f u l q b =
          let u' : unknown ≡ suc m - suc known = u ∙ less_one m known in
          let l' : left ≡ m = l ∙ one_less m in
          let z : Nowhere known cuts stands parts (get_or cuts known 0 * 49) goal 0 (suc m - suc known) m places = rw (row_is, u', l') at nowhere in
          nothing_there m known n old wanted cuts stands ends parts head tail f tables s q rising parts (get_or cuts known 0 * 49) goal places
          (by_parts m known n old wanted cuts stands ends parts head tail f tables s q rising) starts lower z i b
