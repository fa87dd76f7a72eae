-- What a handle owns.
use Rattle.std.specs.Prelude.{◌≡◌, Option, None, Some}
use Rattle.std.specs.Box.Ownership.{box_owns}
use denote.RattleType.{RattleType}
use denote.RawPtr.{Ptr, null_ptr}
use base.Fml.{Fml, ftrue, fex}
use Rattle.std_heap.specs.declared.Global.{Global}
use Rattle.std_heap.specs.contracts.GlobalAllocator.TheImpl.{ghosts}

-- R is the row of what stands at the pointer
module _ (R : RattleType) where
  -- the value at the pointer, and the right to free its block
  abbrev pub boxed_at : Global → Ptr → R.Denot → Fml
  boxed_at alloc = box_owns (ghosts.dealloc_token alloc) R

  -- the pointer is null exactly where there is no value
  abbrev pub owned_at : Global → Ptr → Option R.Denot → Fml
  owned_at alloc p None = fex (p ≡ null_ptr) (λ e. ftrue)
  owned_at alloc p (Some m) = boxed_at alloc p m
