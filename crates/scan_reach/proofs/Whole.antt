-- The joint table put together from the rows fixed and moved. Assumes nothing.
use mathlib.Core.Path.{◌≡◌, ◌∙◌}
use mathlib.Core.Logic.{◌≢◌}
use mathlib.Core.List.{List}
use Prim.Native.Nat.{ℕ, ◌+◌, ◌<◌}
use native.Mathlib.Omega.{arith}
use Rattle.scan_joints.specs.JointTable.{cell, RowFilled}
use Rattle.scan_reach.specs.Moving.{RowMoved, RowsMoved, RowsFixed, JointFixed, Movable, JointMoved}
use Rattle.scan_reach.proofs.Moving.{moved_kept, rows_kept}

-- The rows of the states before P, of P reversed and of the head, filled one after the other.
pub joint_fixed : {locations : ℕ} {legs : List ℕ} {head front : ℕ} {entries exits inside : List ℕ} {p : ℕ} {first second third : List ℕ} → p + 1 < 8 → RowsFixed locations legs entries exits inside p first →
    RowFilled locations legs front p entries inside (p + 1) first second → RowFilled locations legs head p entries inside 9 second third → JointFixed locations legs head front entries exits inside p third
joint_fixed {p = p} room f g h =
    record {
      padded = h.padded;
      fixed = record {
        each = λ a l b k. rows_kept h (omega arith) a b (omega arith) (λ q. omega arith) ∙ rows_kept g (omega arith) a b (omega arith) (λ q. omega arith) ∙ f.each a l b k;
        reversed = λ b k. rows_kept h (omega arith) (p + 1) b (omega arith) (λ q. omega arith) ∙ g.next b k;
        from_head = h.next;
      };
    }

module _ {locations : ℕ} {legs : List ℕ} {head front back tail on turned : ℕ} {entries exits inside : List ℕ} {p : ℕ} {t0 t1 t2 t3 t4 t5 : List ℕ}
    (given : Movable locations legs head front back tail on turned entries exits inside p t0)
    (all : RowsMoved locations legs exits front back tail on turned p t0 t1) (filled : RowFilled locations legs back p entries inside p t1 t2)
    (stands : RowMoved locations legs back front back tail on turned p p t2 t3) (reversed : RowMoved locations legs front front back tail on turned p (p + 1) t3 t4)
    (from_head : RowMoved locations legs head front back tail on turned p 9 t4 t5) where
  room : p + 1 < 8
  room = given.placeable.room

  -- The cells of a row but P's that the last cut does not move.
  through : (x : ℕ) → x ≢ p → (y : ℕ) → y < p → cell t5 x y ≡ cell t0 x y
  through x n y h =
      from_head.cells x y h ∙ reversed.cells x y h ∙ stands.cells x y h ∙ rows_kept filled (omega (arith, room)) x y (omega (arith, room)) n ∙ all.cells x y h

  pub joint_moved : JointMoved locations legs head front back tail on turned entries exits inside p t5
  joint_moved =
      record {
        padded = from_head.padded;
        each = λ a l. record {
          next = λ b k. through a (λ q. omega arith) b k ∙ given.fixed.each a l b k;
          moved = moved_kept (all.each a l) room (λ y k.
              from_head.rows a y k (λ q. omega (arith, room))
              ∙ reversed.rows a y k (λ q. omega arith)
              ∙ stands.rows a y k (λ q. omega arith)
              ∙ rows_kept filled (omega (arith, room)) a y k (λ q. omega arith));
        };
        stands = record {
          next = λ b k. from_head.cells p b k ∙ reversed.cells p b k ∙ stands.cells p b k ∙ filled.next b k;
          moved = moved_kept stands.moved room (λ y k. from_head.rows p y k (λ q. omega (arith, room)) ∙ reversed.rows p y k (λ q. omega arith));
        };
        reversed = record {
          next = λ b k. through (p + 1) (λ q. omega arith) b k ∙ given.fixed.reversed b k;
          moved = moved_kept reversed.moved room (λ y k. from_head.rows (p + 1) y k (λ q. omega (arith, room)));
        };
        from_head = record {
          next = λ b k. through 9 (λ q. omega (arith, room)) b k ∙ given.fixed.from_head b k;
          moved = from_head.moved;
        };
      }
