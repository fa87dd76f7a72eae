-- Each turn is a flush that gave a result; after one that gave none each further one would give none.
use Rattle.std.proofs.Common.{◌≡◌, ◌+◌, ◌-◌, ◌++◌, List, [], ◌∷◌, Option, length, replicate, refl, ap, sym, ◌∙◌, arith, append_assoc, length-append}
use Rattle.std.specs.Prelude.{option_to_list}
use Rattle.mbj_types.specs.declared.done.Done.{Done}
use Rattle.mbj_manager.specs.Calls as calls
use Rattle.mbj_manager.proofs.Turns.{flushed-end, flushed-more, flushed-start, turns-end, turns-idle, turns-start, turns-step}
use Rattle.mbj_manager.proofs.manager.Manager.flush_burst.Goals as goal

pub flushing-preserved : goal.flushing-preserved
flushing-preserved c =
    let i = c.flushing.invariant in
    let n = c.args.n in
    let k = c.flushing.count in
    let out = c.flushing.out.items in
    let d = c.in-Some.done in
    let owed = c.flush.new.self.owed in
    let was : d ∷ owed ≡ c.flushing.self.owed = ap (λ (o : Option Done). option_to_list o ++ owed) (sym c.in-Some.is) ∙ c.flush.ensures.order in
    record {
      turns = turns-step calls.flush (n - k) (n - (k + 1)) n c.flushing.self c.flush.new.self c.args.self.now c.flush.result out c.push_reserved.new.self.items c.args.out.now.items
          (omega (arith, c.flushing-test.true)) c.flush.ensures.result c.flush.ensures.state
          (c.push_reserved.ensures.items ∙ ap (λ (o : Option Done). out ++ option_to_list o) (sym c.in-Some.is)) i.turns;
      so = flushed-more c.flushing.self c.flush.new.self c.args.self.now d out c.push_reserved.new.self.items c.args.out.now.items i.so
          (sym c.flush.ensures.result ∙ c.in-Some.is) c.flush.ensures.state c.push_reserved.ensures.items;
      order = ap (λ (ds : List Done). ds ++ owed) c.push_reserved.ensures.items ∙ append_assoc out (d ∷ []) owed ∙ ap (λ (ds : List Done). out ++ ds) was ∙ i.order;
      owes = omega (arith, i.owes, ap length was);
      counted = omega (arith, i.counted, ap length c.push_reserved.ensures.items, length-append out (d ∷ []));
      few = omega (arith, c.flushing-test.true);
      opened = c.flush.ensures.open_stays ∙ i.opened;
      room = c.push_reserved.ensures.capacity ∙ i.room;
    }

pub returns-clause-state : goal.returns-clause-state
returns-clause-state c =
    (turns-end calls.flush (c.args.n - c.flushing.count) c.args.n c.flushing.self c.args.self.now c.flushing.out.items c.args.out.now.items
    (omega (arith, c.flushing-test.false)) c.flushing.invariant.turns).0

pub returns-clause-results : goal.returns-clause-results
returns-clause-results c =
    (turns-end calls.flush (c.args.n - c.flushing.count) c.args.n c.flushing.self c.args.self.now c.flushing.out.items c.args.out.now.items
    (omega (arith, c.flushing-test.false)) c.flushing.invariant.turns).1

pub returns-in-None-clause-state : goal.returns-in-None-clause-state
returns-in-None-clause-state c =
    let stays = c.flush.ensures.none_stays c.in-None.is in
    stays ∙ (turns-idle calls.flush (c.args.n - c.flushing.count) c.args.n c.flushing.self c.args.self.now c.flushing.out.items c.args.out.now.items
    (sym c.flush.ensures.result ∙ c.in-None.is) (sym c.flush.ensures.state ∙ stays) c.flushing.invariant.turns).0

pub returns-in-None-clause-results : goal.returns-in-None-clause-results
returns-in-None-clause-results c =
    let stays = c.flush.ensures.none_stays c.in-None.is in
    (turns-idle calls.flush (c.args.n - c.flushing.count) c.args.n c.flushing.self c.args.self.now c.flushing.out.items c.args.out.now.items
    (sym c.flush.ensures.result ∙ c.in-None.is) (sym c.flush.ensures.state ∙ stays) c.flushing.invariant.turns).1

pub returns-clause-each : goal.returns-clause-each
returns-clause-each c =
    flushed-end c.flushing.self c.flushing.self c.args.self.now (calls.given_back (replicate c.args.n calls.flush) c.args.self.now) c.flushing.out.items c.args.out.now.items
    c.flushing.invariant.so (returns-clause-results c) refl

pub returns-in-None-clause-each : goal.returns-in-None-clause-each
returns-in-None-clause-each c =
    flushed-end c.flushing.self c.flush.new.self c.args.self.now (calls.given_back (replicate c.args.n calls.flush) c.args.self.now) c.flushing.out.items c.args.out.now.items
    c.flushing.invariant.so (returns-in-None-clause-results c) (c.flush.ensures.none_stays c.in-None.is)

pub flushing-init : goal.flushing-init
flushing-init c = record {
  turns = turns-start calls.flush (c.args.n - 0) c.args.n c.args.self.now c.args.out.now.items (omega arith);
  so = flushed-start c.args.self.now c.args.out.now.items;
  order = refl;
  owes = omega arith;
  counted = omega arith;
  few = omega arith;
  opened = refl;
  room = refl;
}

pub returns-clause-count : goal.returns-clause-count
returns-clause-count c =
    omega (arith, c.flushing.invariant.counted, ap length (returns-clause-results c), length-append c.args.out.now.items (calls.given_back (replicate c.args.n calls.flush) c.args.self.now))

pub returns-in-None-clause-count : goal.returns-in-None-clause-count
returns-in-None-clause-count c =
    omega (arith, c.flushing.invariant.counted, ap length (returns-in-None-clause-results c), length-append c.args.out.now.items (calls.given_back (replicate c.args.n calls.flush) c.args.self.now))
