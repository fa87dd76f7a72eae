-- The results that were flushed are those of the first cells, and each of them is a settle.
use Rattle.std.proofs.Common.{◌≡◌, ◌++◌, ℕ, List, length, ap, sym, subst, ◌∙◌, arith, replicate}
use Rattle.std.proofs.lemmas.List.{length-map}
use Rattle.mbj_types.specs.declared.done.Done.{Done}
use Rattle.mbj_core.specs.declared.party.View.{View}
use Rattle.mbj_front.specs.Seats.{view_of}
use Rattle.mbj_manager.specs.Calls as calls
use Rattle.mbj_manager.specs.Calls.{FlushesEach}
use Rattle.mbj_work.specs.Claims.{SettlesInTurn}
use Rattle.mbj_work.specs.Inside.Holding.{results_in}
use Rattle.mbj_work.proofs.Keeping.{keeps_finishing}
use Rattle.mbj_work.proofs.Settling.{each-order, each-part, each-settles, same-left}
use Rattle.mbj_work.proofs.party.Party.settle_burst.Goals as goal

pub flush_burst-count-requires : goal.flush_burst-count-requires
flush_burst-count-requires c =
    let x = c.args.self.now in
    record { room = omega (arith, ap length x.room.none, x.room.room, c.min-wanted.ensures, c.hand.ensures.within) }

pub finish_each-requires-clause-first : goal.finish_each-requires-clause-first
finish_each-requires-clause-first c =
    let x = c.args.self.now in
    (c.flush_burst-count.new.self.owed, c.flush_burst-count.ensures.order ∙ ap (λ (ds : List Done). ds ++ x.manager.owed) x.room.none ∙ x.holds.owed_is)

pub invariant_of-self-clause-holds : goal.invariant_of-self-clause-holds
invariant_of-self-clause-holds c =
    let x = c.args.self.now in
    let v = view_of c.args.self.now.seat in
    let w = view_of c.finish_each.new.seat in
    let ds = c.flush_burst-count.new.out.items in
    let part = each-part c.args.front.now ds v w c.finish_each.ensures.part in
    record {
      rest = ap (λ (u : View Done). u.phase) part ∙ c.args.self.now.holds.rest;
      cells_are = c.finish_each.ensures.cells;
      owed_is = same-left ds c.flush_burst-count.new.self.owed (results_in w.hand)
          (c.flush_burst-count.ensures.order ∙ ap (λ (ds : List Done). ds ++ x.manager.owed) x.room.none ∙ x.holds.owed_is ∙ sym (each-order c.args.front.now ds v w c.finish_each.ensures.part));
    }

pub invariant_of-self-clause-room : goal.invariant_of-self-clause-room
invariant_of-self-clause-room c =
    let x = c.args.self.now in
    record { none = c.finish_each.ensures.none; room = omega (arith, x.room.room, c.flush_burst-count.ensures.room, c.finish_each.ensures.room) }

pub returns-clause-count : goal.returns-clause-count
returns-clause-count c =
    let x = c.args.self.now in
    omega (arith, c.flush_burst-count.ensures.until, c.min-wanted.ensures, c.hand.ensures.hand, ap length x.holds.owed_is, length-map (view_of x.seat).hand (λ (e : ℕ × Done). e.1))

pub returns-clause-part : goal.returns-clause-part
returns-clause-part c =
    let x = c.args.self.now in
    let v = view_of x.seat in
    let w = view_of c.finish_each.new.seat in
    let ds = c.flush_burst-count.new.out.items in
    let m' = c.flush_burst-count.new.self in
    let given : ds ≡ calls.given_back (replicate c.min-wanted.result calls.flush) x.manager = c.flush_burst-count.ensures.results ∙ ap (λ (ds : List Done). ds ++ calls.given_back (replicate c.min-wanted.result calls.flush) x.manager) x.room.none in
    let each : FlushesEach ds x.manager m' = subst (λ (es : List Done). FlushesEach es x.manager m') (sym given) c.flush_burst-count.ensures.each in
    let count : length ds ≡ c.flush_burst-count.result = ap length given ∙ sym c.flush_burst-count.ensures.count in
    subst (λ (n : ℕ). SettlesInTurn c.args.front.now n v x.manager w m') count (each-settles c.args.front.now ds v w x.manager m' each c.finish_each.ensures.part)

pub returns-clause-due : goal.returns-clause-due
returns-clause-due c =
    let v = view_of c.args.self.now.seat in
    let w = view_of c.finish_each.new.seat in
    keeps_finishing v w w.hand c.args.self.now.holds.rest (each-part c.args.front.now c.flush_burst-count.new.out.items v w c.finish_each.ensures.part)

pub returns-clause-looks : goal.returns-clause-looks
returns-clause-looks c =
    let v = view_of c.args.self.now.seat in
    let w = view_of c.finish_each.new.seat in
    ap (λ (u : View Done). u.looks) (each-part c.args.front.now c.flush_burst-count.new.out.items v w c.finish_each.ensures.part)
