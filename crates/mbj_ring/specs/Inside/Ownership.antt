-- What the owner of a block of cells owns, at values of the row R.
use Rattle.std.specs.Prelude.{ℕ, ◌+◌, ◌*◌, ◌^◌, List, [], ◌∷◌, length, Option, Some, None}
use Rattle.std.specs.Mem.{type_size}
use Rattle.std.specs.Allocator.{array_of}
use Rattle.std.specs.contracts.impls.GlobalAllocator.TheImpl.{ghosts}
use mir.Syntax.{Ty}
use mir.Raw.{raw}
use base.Fraction.{full_share}
use base.Fml.{Fml, ftrue, ffalse, fsep, flt, froom}
use denote.RattleType.{RattleType}
use denote.Memory.{lone, part_at}
use denote.RawPtr.{Ptr, block_ptr, null_ptr}

-- the right to give the block at the pointer back to the heap, whose handle has one value
abbrev pub may_free : Ty → Ptr → Fml
may_free = ghosts.dealloc_token (record { memory = record { seal = tt } })

module _ (R : RattleType) where
  -- one cell, o bytes into the block b: a value, or room for one as raw bytes
  abbrev pub cell : ℕ → ℕ → Option R.Denot → Fml
  cell b o (Some x) = part_at R full_share x b o
  cell b o None = froom (raw (lone R.mir)) b o

  -- cells side by side
  abbrev pub cells : ℕ → ℕ → List (Option R.Denot) → Fml
  cells b o [] = ftrue
  cells b o (c ∷ cs) = fsep (cell b o c) (cells b (o + type_size R) cs)

  -- the cells take fewer than 2 ^ 63 bytes
  abbrev pub small : List (Option R.Denot) → Fml
  small cs = flt (length cs * type_size R) (2 ^ 63)

  -- the cells at the pointer, and the right to give their block back to the heap
  abbrev pub cells_own : Ptr → List (Option R.Denot) → Fml
  cells_own (block_ptr b o) cs =
      fsep (small cs) (fsep (cells b o cs) (may_free (array_of R (length cs)) (block_ptr b o)))
  cells_own null_ptr cs = ffalse
