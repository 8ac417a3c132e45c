-- What the lemmas read, from what the search asks and from what the round's type says; and the rows at hand as they are listed. Assumes nothing.
use mathlib.Core.Path.{◌≡◌}
use mathlib.Core.List.{List}
use Prim.Native.Nat.{ℕ}
use lib.ListN.{length}
use Rattle.theory.specs.Tables.{Trip}
use Rattle.scan_joints.specs.declared.EndStops.{EndStops}
use Rattle.scan_chains.specs.declared.ListedRows.{ListedRows}
use Rattle.scan_round.specs.declared.Round.{Round}
use Rattle.scan_round.specs.Lending.{trip_of}
use Rattle.scan_shared.specs.declared.Closing.{Closing}
use Rattle.scan_cut_set.specs.declared.Held.{Held}
use Rattle.scan_cut_set.specs.Gain.{Findable}
use Rattle.scan_cut_set.specs.Asked.{ListedFor}
use Rattle.scan_cut_set.proofs.Given.{given}
use Rattle.scan_open.specs.declared.Hand.{Hand}
use Rattle.scan_open.specs.Open.{OpenFindable}
use Rattle.scan_open.specs.Asked.{OpenAsked}

pub given_open : {r : Round} {cuts : List ℕ} {w : ListedRows} {b : Closing} {e : EndStops} {h : Held} {hand : Hand} {limit : ℕ} → OpenAsked r cuts w b e h hand limit →
    OpenFindable (trip_of r.lent) r.lent.members.now r.route.now r.sums.now.forward r.sums.now.backward r.sums.now.stayed cuts w.states.now w.chains.now w.count b.signs.now b.blocked r.sums.now.lateness r.since e.entries e.exits e.inside h.joint h.dues h.marks hand.rows hand.chains hand.kept limit
given_open {w = w} {limit = limit} p =
    record {
      findable = given {w = record w { count = limit }} (record { at_cuts = p.at_cuts; listed = p.listed; ends = p.ends; held = p.held });
      within = p.within;
      chained = p.chained;
      sifting = p.sifting;
      idle = p.idle;
    }

-- The rows at hand are listed.
pub listed_as : {T : Trip} {members route forwards backwards stayed cuts rows chains late : List ℕ} {since : ℕ} {entries exits inside table dues words : List ℕ} {n : ℕ} (w : ListedRows) → w.states.now ≡ rows → w.chains.now ≡ chains → w.count ≡ n →
    Findable T members route forwards backwards stayed cuts rows chains late since entries exits inside table dues words n → ListedFor (length cuts) w
listed_as w a b d f = record { patterns = f.patterns; patterned = rw a f.patterned; allowed = rw d f.allowed; chained = rw (a, b, d) f.chained }
