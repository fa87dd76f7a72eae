-- The owner of the cells may cross threads if its values may.
use Rattle.std.specs.Prelude.{ℕ, ◌+◌, List, [], ◌∷◌, length, Option, Some, None}
use Rattle.std.specs.Allocator.{array_of}
use Rattle.std.specs.Mem.{type_size}
use base.Fraction.{full_share}
use base.Shift.{Keyless}
use denote.RattleType.{RattleType}
use denote.RawPtr.{Ptr, block_ptr, null_ptr}
use denote.Struct.Struct.{exits_of}
use denote.Struct.Owning.{shape, fields, to}
use denote.Exit.{Exit, unchanged, leaves, hidden, under}
use denote.Param.Send.{IsSend, AllSend, part_keyless, owning_send, struct_send, sendable, Quiet}
use Rattle.std.proofs.Crossing as heap
use Rattle.mbj_ring.specs.Inside.Ownership.{cells, cells_own}
use Rattle.mbj_ring.specs.contracts.cells.Cells as C

module _ (R : RattleType) (s : IsSend R) where
  cells-Keyless : (b o : ℕ) (cs : List (Option R.Denot)) → Keyless (cells R b o cs)
  cells-Keyless b o [] = tt
  cells-Keyless b o (Some x ∷ cs) = (part_keyless R s full_share x b o, cells-Keyless b (o + type_size R) cs)
  cells-Keyless b o (None ∷ cs) = (tt, cells-Keyless b (o + type_size R) cs)

  owned-Keyless : (p : Ptr) (cs : List (Option R.Denot)) → Keyless (cells_own R p cs)
  owned-Keyless (block_ptr b o) cs = (tt, (cells-Keyless b o cs, heap.frees.frees (record { memory = record { seal = tt } }) (array_of R (length cs)) (block_ptr b o)))
  owned-Keyless null_ptr cs = tt

  quiet : {D X : Type 0} (to : D → X) (e : Exit X) → Quiet e → Quiet (hidden (under to e))
  quiet to unchanged q = λ x w. tt
  quiet to (leaves L l S s r₀) q = λ d. q (to d)

  pub Cells-send : IsSend (C.the_row R)
  Cells-send =
      let O = C.the_type R in let all : AllSend (fields O) = (search sendable, tt) in
      owning_send O all (λ d. owned-Keyless d.base d.held) (λ k. quiet (to O) (exits_of k (fields O)) ((struct_send (shape O) all).leaving k))
