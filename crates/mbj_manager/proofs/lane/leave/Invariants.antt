-- Those that leave, from here on, are the ones that leave the lane queue as it was, and nothing else is different.
use Rattle.std.proofs.Common.{◌≡◌, ◌+◌, ◌≤◌, length, vec_capacity}
use Rattle.mbj_manager.specs.Inside.Courses.{IsSameRing, courses, ring_number}
use Rattle.mbj_manager.specs.Inside.PlacedQueue.{numbered}
use Rattle.mbj_manager.specs.Inside.QueueView.{Listed, queue_view_at, left_now}
use Rattle.mbj_manager.proofs.lane.leave.Given as goal

abbrev pub invariant-leaving : goal.invariant-leaving
invariant-leaving g l = record {
  ring : IsSameRing l.ring l.initial.ring;
  listed : Listed g.K.JobKernel.kind (courses l.ring) (numbered (ring_number l.initial.ring) l.queue.queued);
  room : length l.agenda.places.items + length l.queue.queued ≤ vec_capacity l.agenda.places;
  capacity : vec_capacity l.agenda.places ≡ vec_capacity l.initial.agenda.places;
  left : left_now (queue_view_at (ring_number l.initial.ring) (courses l.ring) l.agenda.places.items l.queue 0)
      ≡ left_now (queue_view_at (ring_number l.initial.ring) (courses l.initial.ring) l.initial.agenda.places.items l.initial.queue 0);
}

abbrev pub decreases-leaving : goal.decreases-leaving
decreases-leaving g l = length l.queue.queued
