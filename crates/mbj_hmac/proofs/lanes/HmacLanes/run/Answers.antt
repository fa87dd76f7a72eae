use Rattle.std.proofs.Common.{◌≡◌, ℕ, ◌-◌, ◌<◌, ◌≤◌, ◌∙◌, length, refl, sym, ap, ap₂, arith}
use Rattle.mbj_types.specs.Lanes.{lane_at}
use Rattle.mbj_lane.specs.Rounds.{after}
use Rattle.mbj_hmac.specs.declared.lanes.Rests.{Rests}
use Rattle.mbj_hmac.specs.Rounds.{HmacState, round, turned}
use Rattle.mbj_hmac.specs.Inside.InLanes.{entry_in, idle, lowered, most_lanes, reach_at, seen_at, with_chains}
use Rattle.mbj_hmac.proofs.InLanes.{all_left, has_entry, lane_turned, advanced_on, lowered_next, lowered_none, reach_le, still_busy, tied_le, tied_reach}
use Rattle.mbj_hmac.proofs.lanes.HmacLanes.run.Goals as goal

pub loop-left-init : goal.loop-left-init
loop-left-init g c =
    let none : c.args.m - c.args.m ≡ 0 = omega arith in
    record {
      within = omega arith;
      tied = c.requires.tied;
      ready = c.requires.ready;
      rests = λ i h. rw none (sym (lowered_none (lane_at 32 c.args.self.now.rests.left i)));
      advanced = λ i h busy. rw none refl;
    }

pub stretch-requires-clause-tied : goal.stretch-requires-clause-tied
stretch-requires-clause-tied g c = rw c.turn_due.ensures.rests c.loop-left.invariant.tied

pub stretch-requires-clause-ready : goal.stretch-requires-clause-ready
stretch-requires-clause-ready g c = rw (c.turn_due.ensures.rests, c.turn_due.ensures.starts) c.loop-left.invariant.ready

pub stretch-requires-clause-rests : goal.stretch-requires-clause-rests
stretch-requires-clause-rests g c i h busy =
    let rests = c.turn_due.new.self.rests in
    omega (arith, c.reach-len.ensures.reach i h, reach_le (lane_at 32 rests.left i) (lane_at 32 rests.turns i))

pub stretch-requires-clause-some : goal.stretch-requires-clause-some
stretch-requires-clause-some g c =
    let inv = c.loop-left.invariant in
    let first = c.args.self.now.rests in
    c.reach-len.ensures.some (omega arith)
    (rw c.turn_due.ensures.rests (all_left c.args.m c.loop-left.left first.left c.loop-left.self.rests.left first.turns c.args.entries.now c.requires.tied inv.within inv.rests c.requires.rests (omega arith)))

pub loop-left-smaller : goal.loop-left-smaller
loop-left-smaller g c =
    let inv = c.loop-left.invariant in
    let first = c.args.self.now.rests in
    let some = c.reach-len.ensures.some c.loop-left-test.true
    (rw c.turn_due.ensures.rests (all_left c.args.m c.loop-left.left first.left c.loop-left.self.rests.left first.turns c.args.entries.now c.requires.tied inv.within inv.rests c.requires.rests c.loop-left-test.true)) in
    omega (arith, some, c.reach-len.ensures.within)

pub loop-left-preserved : goal.loop-left-preserved
loop-left-preserved g c =
    let h = g.H.LaneHash.hashing in
    let lane = g.H.LaneHash.lane in
    let m = c.args.m in
    let left = c.loop-left.left in
    let len = c.reach-len.result in
    let first = c.args.self.now in
    let now = c.loop-left.self in
    let turns = c.turn_due.new.self in
    let es = c.loop-left.entries in
    let inv = c.loop-left.invariant in
    let within = c.reach-len.ensures.within in
    let smaller = loop-left-smaller g c in
    let some : 0 < len = omega (arith, smaller) in
    let same : (i : ℕ) → lane_at 32 turns.rests.left i ≡ lane_at 32 now.rests.left i = λ i. ap (λ (r : Rests). lane_at 32 r.left i) c.turn_due.ensures.rests in
    let le : (i : ℕ) → i < most_lanes → lane_at 32 first.rests.left i ≤ idle =
    λ i l. tied_le (lane_at 32 first.rests.left i) (lane_at 32 first.rests.turns i) (entry_in c.args.entries.now i) (c.requires.tied.tied i l) in
    record {
      within = omega (arith, inv.within);
      tied = c.stretch.ensures.tied;
      ready = c.stretch.ensures.ready;
      rests = λ i l.
          c.stretch.ensures.rests i l ∙ ap (lowered len) (same i)
          ∙ lowered_next m left (lane_at 32 first.rests.left i) (lane_at 32 now.rests.left i) (le i l) inv.within (inv.rests i l) (c.requires.rests i l) len within;
      advanced = λ i l busy.
          let r : ℕ = lane_at 32 now.rests.left i in
          let t : ℕ = lane_at 32 now.rests.turns i in
          let e : HmacState = entry_in es i in
          let busy' : r < idle = still_busy m left (lane_at 32 first.rests.left i) r (le i l) inv.within (inv.rests i l) (c.requires.rests i l) busy in
          let turn : lane_at 32 turns.rests.left i < idle = rw (same i) busy' in
          let reach' = rw c.turn_due.ensures.rests at c.reach-len.ensures.reach i l in
          let reach : len ≤ reach_at r t = reach' in
          let far = tied_reach r t e (inv.tied.tied i l) busy' in
          let inside : i < length es = has_entry now.rests.left now.rests.turns es inv.tied i l busy' in
          let lt : i < g.H.LaneHash.LANES = omega (arith, inside, c.loop-left.auto.entries, c.requires.few) in
          let start = (inv.ready i l busy').0 in
          let turned_is : seen_at (lane turns.states) (lane turns.inner) es i ≡ turned h (seen_at (lane now.states) (lane now.inner) es i) =
          ap₂ (λ s n. with_chains s n e) (c.turn_due.ensures.states i lt) (c.turn_due.ensures.inner i lt)
          ∙ lane_turned h r t (lane now.states i) (lane now.inner i) (lane now.starts i) e (inv.tied.tied i l) busy' start in
          advanced_on h m left len (seen_at (lane first.states) (lane first.inner) c.args.entries.now i) (seen_at (lane now.states) (lane now.inner) es i)
          (seen_at (lane turns.states) (lane turns.inner) es i) (seen_at (lane c.stretch.new.self.states) (lane c.stretch.new.self.inner) c.stretch.new.entries i)
          inv.within some within (inv.advanced i l busy) turned_is (c.stretch.ensures.advanced i l turn) (omega (arith, reach, far));
    }

pub returns-clause-advanced : goal.returns-clause-advanced
returns-clause-advanced g c i h busy =
    let lane = g.H.LaneHash.lane in
    let self = c.args.self.now in
    let all : c.args.m - c.loop-left.left ≡ c.args.m = omega arith in
    c.loop-left.invariant.advanced i h busy
    ∙ ap (λ n. after (round g.H.LaneHash.hashing) n (seen_at (lane self.states) (lane self.inner) c.args.entries.now i)) all

pub returns-clause-rests : goal.returns-clause-rests
returns-clause-rests g c i h =
    let all : c.args.m - c.loop-left.left ≡ c.args.m = omega arith in
    c.loop-left.invariant.rests i h ∙ ap (λ n. lowered n (lane_at 32 c.args.self.now.rests.left i)) all
