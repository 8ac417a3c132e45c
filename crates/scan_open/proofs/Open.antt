-- The rows at hand, and the first of them that improves as the first of all. Assumes nothing.
use mathlib.Core.Path.{◌≡◌, refl, sym, ap, ◌∙◌}
use mathlib.Core.Bool.{Bool, true, false, cond}
use mathlib.Core.Logic.{◌⊎◌, inl, inr, ◌≢◌}
use mathlib.Core.List.{List}
use Prim.Native.Nat.{ℕ, zero, suc, ◌≤◌, ◌<◌}
use native.Mathlib.Omega.{arith}
use lib.Dec.{eqb}
use borrow.Author.Tests.{ne_eqb}
use lib.ListN.{length, get_or, set, length-set}
use lib.Seq.{get_or-set_same, get_or-set_other}
use Rattle.theory.specs.Moves.{Pattern}
use Rattle.theory.specs.Route.{Problem}
use Rattle.theory.specs.Scan.{improves}
use Rattle.theory.specs.Polish.{search_of, move_at}
use Rattle.theory.specs.Tables.{problem, Trip}
use Rattle.scan_joints.specs.States.{Patterned}
use Rattle.scan_chains.specs.Chains.{Chained, ChainsFillable}
use Rattle.scan_shared.specs.Filling.{open_by}
use Rattle.scan_sifting.specs.Sifting.{opens, sifted_list, Sifted, Siftable, OpenAt}
use Rattle.scan_sifting.proofs.Opens.{opens_few, opens_below, opens_more, opens_all, opens_before, all_opens}
use Rattle.scan_sifting.proofs.Sifting.{open_all, sifted_whole, sifted_patterned, sifted_at, sifted_length}
use Rattle.scan_cut_set.specs.Gain.{FirstGain, Findable, Found}
use Rattle.scan_open.specs.Open.{AtHand, SiftAsked, SiftReady, LimitAsked, PatternAsked, OpenFindable}

-- ---- what is at hand

-- Fewer rows add up the same places.
pub chained_less : {rows chains : List ℕ} {count n : ℕ} → n ≤ count → Chained rows count chains → Chained rows n chains
chained_less h w = record { places = w.places; each = λ i l. w.each i (omega arith) }

-- How many are open where nothing is blocked, and which.
pub whole_count : (signs : List ℕ) (blocked n : ℕ) → blocked ≡ 0 → length (opens (open_by signs blocked) n) ≡ n
whole_count signs blocked n e = rw e (all_opens (open_by signs 0) (open_all signs) n).0

pub whole_at : (signs : List ℕ) (blocked n j : ℕ) → blocked ≡ 0 → j < n → get_or (opens (open_by signs blocked) n) j 0 ≡ j
whole_at signs blocked n j e h = rw e ((all_opens (open_by signs 0) (open_all signs) n).1 j h)

-- ---- the open rows put together

module _ {rows : List ℕ} {patterns : ℕ} {signs : List ℕ} {blocked : ℕ} {hand hand_chains kept : List ℕ} (given : SiftAsked rows patterns signs blocked hand hand_chains kept) where
  pub none_blocked : blocked ≡ 0 → SiftReady rows patterns signs blocked hand hand_chains kept
  none_blocked e = record { held = given.held; ready = λ h. absurd (omega (arith, e, h)) }

  pub still_ready : blocked ≢ 0 → get_or kept 0 0 ≡ blocked → SiftReady rows patterns signs blocked hand hand_chains kept
  still_ready n e = record { held = given.held; ready = λ h. by given.held.is }
    where
      by : (get_or kept 0 0 ≡ 0) ⊎ AtHand (open_by signs (get_or kept 0 0)) rows patterns hand hand_chains (get_or kept 1 0) → AtHand (open_by signs blocked) rows patterns hand hand_chains (get_or kept 1 0)
      by (inl z) = absurd (n (sym e ∙ z))
      by (inr w) = rw e at w

  pub siftable : blocked ≢ 0 → Siftable rows patterns signs hand
  siftable n = record { places = given.places; few = given.few; sign_places = given.signed (omega (arith, n)); hand_places = given.held.hand_places }

  module _ {number : ℕ} {hand' : List ℕ} (w : (number ≡ length (opens (open_by signs blocked) patterns)) × Sifted (open_by signs blocked) rows patterns hand') where
    pub chains_fillable : ChainsFillable hand' number hand_chains
    chains_fillable =
        record {
          places = w.1.places;
          room = given.held.chain_places;
          few = omega (arith, w.0, opens_few (open_by signs blocked) patterns, given.few);
          known = rw w.0 (w.1.small given.known);
        }

    pub now_ready : {hand_chains' : List ℕ} {now : ℕ} → Chained hand' number hand_chains' → now ≡ blocked → SiftReady rows patterns signs blocked hand' hand_chains' (set (set kept 0 now) 1 number)
    now_ready {hand_chains'} {now} c e =
        let two = given.held.kept_places in
        let k : get_or (set (set kept 0 now) 1 number) 0 0 ≡ blocked = get_or-set_other (set kept 0 now) 1 0 number 0 (λ q. omega arith) ∙ get_or-set_same kept 0 now 0 (omega (arith, two)) ∙ e in
        let m : get_or (set (set kept 0 now) 1 number) 1 0 ≡ number = get_or-set_same (set kept 0 now) 1 number 0 (simp length-set (omega (arith, two))) in
        let there : AtHand (open_by signs blocked) rows patterns hand' hand_chains' (get_or (set (set kept 0 now) 1 number) 1 0) = record { sifted = w.1; chained = rw w.0 at c; counted = m ∙ w.0 } in
        record {
          held = record { hand_places = w.1.places; chain_places = c.places; kept_places = simp length-set two; is = inr (rw k there) };
          ready = λ h. there;
        }

-- All rows where nothing is blocked, and those put together otherwise.
pub at_hand : {rows chains : List ℕ} {patterns : ℕ} {signs : List ℕ} (blocked : ℕ) {hand hand_chains kept : List ℕ} → SiftReady rows patterns signs blocked hand hand_chains kept → length rows ≡ 1532 → Chained rows patterns chains →
    AtHand (open_by signs blocked) rows patterns (cond (eqb blocked 0) rows hand) (cond (eqb blocked 0) chains hand_chains) (length (opens (open_by signs blocked) patterns))
at_hand {rows} {chains} {patterns} {signs} zero w places chained =
    record { sifted = sifted_whole signs rows patterns places; chained = chained_less (opens_few (open_by signs 0) patterns) chained; counted = refl }
at_hand (suc b) w places chained =
    let r = w.ready (omega arith) in
    rw (ne_eqb (suc b) 0 (λ (q : suc b ≡ 0). omega arith)) (record { sifted = r.sifted; chained = r.chained; counted = refl })

-- ---- the first of them that improves

module _ (P : Problem) (ps : List Pattern) (k : ℕ) (route cuts : List ℕ) (limit : ℕ) (o : ℕ → Bool)
    (idle : (x : ℕ) → x < limit → o x ≡ false → improves (search_of P ps k (length route)) route (move_at ps cuts x) ≡ false)
    {i : ℕ} (g : FirstGain P (sifted_list ps (opens o limit)) k route cuts (length (opens o limit)) i) where
  abbrev gain : ℕ → Bool
  gain x = improves (search_of P ps k (length route)) route (move_at ps cuts x)

  same : (j : ℕ) → j < length (opens o limit) → improves (search_of P (sifted_list ps (opens o limit)) k (length route)) route (move_at (sifted_list ps (opens o limit)) cuts j) ≡ gain (get_or (opens o limit) j 0)
  same j h = ap (λ p. improves (search_of P ps k (length route)) route (record { cuts = cuts; pattern = p })) (sifted_at ps (opens o limit) j h)

  -- Those before it, by their numbers.
  at_number : {n x : ℕ} → n ≤ i → OpenAt o limit n x → gain x ≡ false
  at_number h w = ap gain (sym w.is) ∙ sym (same w.number (omega (arith, w.before, g.within))) ∙ g.passed w.number (omega (arith, w.before))

  by_test : (x : ℕ) → x < limit → (o x ≡ true → gain x ≡ false) → gain x ≡ false
  by_test x h t = by (o x) refl
    where
      by : (b : Bool) → o x ≡ b → gain x ≡ false
      by true e = t e
      by false e = idle x h e

  pub none_open : length (opens o limit) ≤ i → FirstGain P ps k route cuts limit limit
  none_open h = record { within = omega arith; passed = λ x l. by_test x l (λ e. at_number h (opens_all o limit x l e)); gains = λ l. absurd (omega arith) }

  pub first_open : i < length (opens o limit) → FirstGain P ps k route cuts limit (get_or (opens o limit) i 0)
  first_open h =
      let b = opens_below o limit i h in
      record {
        within = omega (arith, b);
        passed = λ x l. by_test x (omega (arith, b)) (λ e. at_number (omega arith) (opens_before o limit i x h l e));
        gains = λ _. sym (same i h) ∙ g.gains h;
      }

-- ---- the search

module _ {T : Trip} {members r forwards backwards stayed cuts rows chains : List ℕ} {patterns : ℕ} {signs : List ℕ} {blocked : ℕ} {late : List ℕ} {since : ℕ} {entries exits inside table dues words hand hand_chains kept : List ℕ} {limit : ℕ}
    (given : OpenFindable T members r forwards backwards stayed cuts rows chains patterns signs blocked late since entries exits inside table dues words hand hand_chains kept limit) where
  abbrev o : ℕ → Bool
  o = open_by signs blocked

  pub limit_asked : {hand' hand_chains' kept' : List ℕ} → SiftReady rows patterns signs blocked hand' hand_chains' kept' → LimitAsked signs blocked patterns kept' limit
  limit_asked w = record { kept_places = w.held.kept_places; within = given.within; few = given.sifting.few; signed = given.sifting.signed; counted = λ h. (w.ready h).counted }

  pub pattern_asked : {i : ℕ} → i < length (opens o limit) → PatternAsked signs blocked i limit
  pattern_asked h = record { few = omega (arith, given.within, given.sifting.few); signed = given.sifting.signed; within = h }

  module _ {now now_chains : List ℕ} {many : ℕ} (h : AtHand o rows patterns now now_chains many) where
    patterned_now : (ps : List Pattern) → Patterned (length cuts) ps rows → limit ≤ length ps → Patterned (length cuts) (sifted_list ps (opens o limit)) now
    patterned_now ps w l = sifted_patterned h.sifted given.within given.sifting.few l w

    listed_now : (ps : List Pattern) → length (opens o limit) ≤ length (sifted_list ps (opens o limit))
    listed_now ps = omega (arith, sifted_length ps (opens o limit))

    pub findable_now : {number : ℕ} → number ≡ length (opens o limit) → Findable T members r forwards backwards stayed cuts now now_chains late since entries exits inside table dues words number
    findable_now e =
        let f = given.findable in
        rw e
        (record {
          searchable = f.searchable;
          patterns = sifted_list f.patterns (opens o limit);
          patterned = patterned_now f.patterns f.patterned f.allowed;
          allowed = listed_now f.patterns;
          chained = chained_less (opens_more o limit patterns given.within) h.chained;
          early = f.early;
          latenesses = f.latenesses;
          held = f.held;
          behind = f.behind;
          lent = f.lent;
          front = f.front;
          back = f.back;
          marks = f.marks;
          marks_behind = f.marks_behind;
          ends = f.ends;
          padded = f.padded;
          joint_held = f.joint_held;
        })

    module _ {number i : ℕ} {table' dues' words' : List ℕ} (open_is : number ≡ length (opens o limit)) (found : Found T members r cuts now number i table' dues' words') where
      gain_now : (ps : List Pattern) → Patterned (length cuts) ps rows → limit ≤ length ps → FirstGain (problem T) (sifted_list ps (opens o limit)) (length cuts) r cuts (length (opens o limit)) i
      gain_now ps w l = rw open_is at (found.first (sifted_list ps (opens o limit)) (patterned_now ps w l) (omega (arith, open_is, listed_now ps)))

      idle_of : (ps : List Pattern) → Patterned (length cuts) ps rows → limit ≤ length ps → (x : ℕ) → x < limit → o x ≡ false → improves (search_of (problem T) ps (length cuts) (length r)) r (move_at ps cuts x) ≡ false
      idle_of ps w l x h e = given.idle ps w x h (omega arith) e

      found_as : {j : ℕ} → j ≤ limit → ((ps : List Pattern) → Patterned (length cuts) ps rows → limit ≤ length ps → FirstGain (problem T) ps (length cuts) r cuts limit j) → Found T members r cuts rows limit j table' dues' words'
      found_as within first =
          record {
            within = within;
            first = first;
            padded = found.padded;
            joint_held = found.joint_held;
            held = found.held;
            behind = found.behind;
            marks = found.marks;
            marks_behind = found.marks_behind;
          }

      pub found_none : i ≡ number → Found T members r cuts rows limit limit table' dues' words'
      found_none e = found_as (omega arith) (λ ps w l. none_open (problem T) ps (length cuts) r cuts limit o (idle_of ps w l) (gain_now ps w l) (omega (arith, e, open_is)))

      pub found_first : i < length (opens o limit) → Found T members r cuts rows limit (get_or (opens o limit) i 0) table' dues' words'
      found_first h = found_as (omega (arith, opens_below o limit i h)) (λ ps w l. first_open (problem T) ps (length cuts) r cuts limit o (idle_of ps w l) (gain_now ps w l) h)
