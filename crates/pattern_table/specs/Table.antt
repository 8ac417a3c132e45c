-- "All 438 patterns for k from 2 to 5 stand as constants, in index order": what the table holds, and which part of it belongs to a k.
use Rattle.std.specs.Prelude.{◌≡◌, ℕ, ◌-◌, ◌≤◌, ◌<◌, length, take, drop}
use mathlib.Core.List.{List, ◌++◌, map, flatten}
use Rattle.theory.specs.Moves.{Pattern, patterns}
use Rattle.theory.specs.Tables.{pattern_rows, PatternRows}
use Rattle.pattern_table.specs.declared.Part.{Part}

abbrev pub all_patterns : List Pattern
all_patterns = patterns 2 ++ (patterns 3 ++ (patterns 4 ++ patterns 5))

abbrev pub all_orders : List ℕ
all_orders = flatten (map (λ p. p.order) all_patterns)

abbrev pub all_masks : List ℕ
all_masks = map (λ p. p.mask) all_patterns

-- As code lends it, `&l[from..end]`.
abbrev pub part : ℕ → ℕ → List ℕ → List ℕ
part from end l = take (end - from) (drop from l)

-- Rows that are document 01's patterns for k, as polishing asks for them.
pub record RowsFor (k : ℕ) (orders masks : List ℕ) : Type 0 where
  pub are : pattern_rows k orders masks ≡ patterns k
  pub rows : PatternRows k orders masks
  pub not_empty : 0 < length masks

-- A part of the table that has them.
pub record PartFor (k : ℕ) (r : Part) : Type 0 where
  pub orders_rise : r.orders ≤ r.orders_end
  pub orders_within : r.orders_end ≤ 2564
  pub masks_rise : r.masks ≤ r.masks_end
  pub masks_within : r.masks_end ≤ 438
  pub holds : RowsFor k (part r.orders r.orders_end all_orders) (part r.masks r.masks_end all_masks)
