use Rattle.std.proofs.Common.{arith}
use Rattle.mbj_job_tests.proofs.Gathering.{room-left, put-gathered, put-written}
use Rattle.mbj_job_tests.proofs.gathered.GatheredSlots.put.Goals as goal

pub push_reserved-requires : goal.push_reserved-requires
push_reserved-requires g c =
    let s = c.self.inside in
    let idle = rw (← c.self.view_is) at c.requires.idle in
    let room = room-left g.K.Kernel.LANES s.places.items s.entries.items c.self.invariant.0 c.args.i c.requires.lane idle in
    omega (arith, room, s.places.ok.0, c.self.invariant.1)

pub push_reserved-requires-2 : goal.push_reserved-requires-2
push_reserved-requires-2 g c =
    let s = c.self.inside in
    let idle = rw (← c.self.view_is) at c.requires.idle in
    let room = room-left g.K.Kernel.LANES s.places.items s.entries.items c.self.invariant.0 c.args.i c.requires.lane idle in
    omega (arith, room, c.self.invariant.0.same, s.entries.ok.0, c.self.invariant.2)

pub invariant_of-self : goal.invariant_of-self
invariant_of-self g c =
    let s = c.self.inside in
    let idle = rw (← c.self.view_is) at c.requires.idle in
    rw (c.push_reserved.ensures.items, c.push_reserved-2.ensures.items) (
      put-gathered g.K.Kernel.LANES s.places.items s.entries.items c.self.invariant.0 c.args.i c.args.entry c.requires.lane idle,
      omega arith,
      omega arith,
    )

pub returns : goal.returns
returns g c =
    let s = c.self.inside in
    let idle = rw (← c.self.view_is) at c.requires.idle in
    rw (c.push_reserved.ensures.items, c.push_reserved-2.ensures.items, ← c.self.view_is)
    (put-written g.K.Kernel.LANES s.places.items s.entries.items c.self.invariant.0 c.args.i c.args.entry idle)
