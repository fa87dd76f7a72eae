-- A handle crosses threads, since what stands behind it does.
use mir.Raw.{raw}
use base.Shift.{Keyless}
use denote.Builtin.{RawPtr}
use denote.Memory.{lone}
use denote.RattleType.{RattleType}
use denote.Param.Send.{AllSend, IsSend, owning_send, sendable, struct_send}
use denote.RawPtr.{Ptr}
use denote.Struct.Owning.{fields, shape, to}
use denote.Struct.Struct.{exits_of}
use Rattle.std.proofs.Crossing.{frees}
use Rattle.std.specs.Prelude.{Option, None, Some}
use Rattle.std_alloc.proofs.SendSync.{lies, quiet}
use Rattle.std_heap.proofs.Global.TheSendSync as heap
use Rattle.mbj_c.proofs.Handles.{Z}
use Rattle.mbj_c.proofs.ManagerHandles as managers
use Rattle.mbj_c.proofs.KeyHandles as sets
use Rattle.mbj_c.proofs.SeatHandles as seats
use Rattle.mbj_c.proofs.ranged.RangedManager.TheSendSync as ranged
use Rattle.mbj_c.proofs.key_set.KeySet.TheSendSync as key_set
use Rattle.mbj_c.proofs.seated.Seated.TheSendSync as seated
use Rattle.mbj_c.specs.Inside.Held.{owned_at}
use Rattle.mbj_c.specs.contracts.handle.Handle as handle
use Rattle.mbj_c.specs.contracts.key_handle.KeysHandle as key_handle
use Rattle.mbj_c.specs.contracts.seat_handle.SeatHandle as seat_handle

-- no key of a thread's is in what a handle owns
owned-Keyless : (R : RattleType) → IsSend R → (alloc : Z.Denot) (p : Ptr) (m : Option R.Denot) → Keyless (owned_at R alloc p m)
owned-Keyless R send alloc p None = λ _. tt
owned-Keyless R send alloc p (Some m) = (lies R send p m, frees.frees alloc (raw (lone R.mir)) p)

pub Handle-send : IsSend handle.the_row
Handle-send =
    let O = handle.the_type in
    let pointer : IsSend RawPtr = search sendable in
    let all : AllSend (fields O) = (pointer, (heap.the_field_send, tt)) in
    owning_send O all (λ d. owned-Keyless managers.R ranged.the_send d.alloc d.at d.manager)
    (λ k. quiet (to O) (exits_of k (fields O)) ((struct_send (shape O) all).leaving k))

pub KeysHandle-send : IsSend key_handle.the_row
KeysHandle-send =
    let O = key_handle.the_type in
    let pointer : IsSend RawPtr = search sendable in
    let all : AllSend (fields O) = (pointer, (heap.the_field_send, tt)) in
    owning_send O all (λ d. owned-Keyless sets.R key_set.the_send d.alloc d.at d.keys)
    (λ k. quiet (to O) (exits_of k (fields O)) ((struct_send (shape O) all).leaving k))

pub SeatHandle-send : IsSend seat_handle.the_row
SeatHandle-send =
    let O = seat_handle.the_type in
    let pointer : IsSend RawPtr = search sendable in
    let all : AllSend (fields O) = (pointer, (heap.the_field_send, tt)) in
    owning_send O all (λ d. owned-Keyless seats.R seated.the_send d.alloc d.at d.seat)
    (λ k. quiet (to O) (exits_of k (fields O)) ((struct_send (shape O) all).leaving k))
