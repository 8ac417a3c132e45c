-- `scan_open::Hand::keep_open` meets its contract. Assumes nothing.
use mathlib.Core.Path.{◌∙◌}
use Rattle.scan_open.proofs.Open.{none_blocked, still_ready, siftable, chains_fillable, now_ready}
use Rattle.scan_open.proofs.Hand.keep_open.Goals as goal

pub returns-then-closing-eq0 : goal.returns-then-closing-eq0
returns-then-closing-eq0 c = none_blocked c.requires c.if-closing-eq0.true

pub returns-then-self-now : goal.returns-then-self-now
returns-then-self-now c = still_ready c.requires c.if-closing-eq0.false (c.if-self-now.true ∙ c.wide-now.ensures)

pub sift_rows-open-requires : goal.sift_rows-open-requires
sift_rows-open-requires c = siftable c.requires c.if-closing-eq0.false

pub fill_chains-requires : goal.fill_chains-requires
fill_chains-requires c = chains_fillable c.requires c.sift_rows-open.ensures

pub returns : goal.returns
returns c = now_ready c.requires c.sift_rows-open.ensures c.fill_chains.ensures c.wide-now.ensures
