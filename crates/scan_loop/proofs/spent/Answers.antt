-- `scan_loop::spent` meets its contract. Assumes nothing.
use native.Mathlib.Omega.{arith}
use native.Mathlib.Nat.{div-lt_iff_lt-mul}
use Rattle.scan_loop.proofs.spent.Goals as goal

pub overflow_add-cuts : goal.overflow_add-cuts
overflow_add-cuts c = record { fits = omega (arith, c.requires.below, (div-lt_iff_lt-mul c.requires.some).1 c.requires.fewer) }
