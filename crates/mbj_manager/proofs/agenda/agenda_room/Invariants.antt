use Rattle.std.proofs.Common.{◌≡◌, ◌+◌, ◌-◌, drop, sum_by}
use Rattle.mbj_types.specs.Kinds.{all_kinds, lanes_of}
use Rattle.mbj_manager.specs.Inside.Held.{agenda_room}
use Rattle.mbj_manager.proofs.agenda.agenda_room.Given as goal

-- the room so far, and that of the kinds that are left
abbrev pub invariant-kinds : goal.invariant-kinds
invariant-kinds l = record {
  items : l.kind-items ≡ all_kinds;
  left : l.room + sum_by (λ k. lanes_of k - 1) (drop l.kind-index all_kinds) ≡ agenda_room;
}
