use Rattle.std.proofs.Common.{◌≡◌, ◌∙◌, ◌≤◌, All, subst, vec_capacity, ◌+◌, ◌%◌, ◌<◌, ℕ, rules, arith, ap, sym, length, map}
use Rattle.std.specs.Int.{div_ceil}
use Rattle.std.specs.Vec.Iter.{into_iter_items}
use Rattle.mbj_work.proofs.Deals.{IsDealing, dealing_start, dealing_more, dealing_done, renumbered, room_more, turn_inside, turn_room}
use Rattle.mbj_work.proofs.dealing.deal.Goals as goal

pub loop-i-init : goal.loop-i-init
loop-i-init c = record {
  next = search rules;
  finite = search rules;
  dealing = renumbered c.into_iter-i-iterator.result.count (sym (ap (λ s. s.count) c.into_iter-i-iterator.ensures.into_iter_gives ∙ c.enumerate-i-items.ensures.count))
      (dealing_start c.args.jobs.items (into_iter_items c.into_iter-i-iterator.result.iter) c.args.submitters c.in_ok-lists.lists.items
      (ap (λ s. into_iter_items s.iter) c.into_iter-i-iterator.ensures.into_iter_gives ∙ ap into_iter_items c.enumerate-i-items.ensures.source ∙ c.into_iter.ensures.rest)
      c.in_ok-lists.ensures.count c.in_ok-lists.ensures.empty);
  room = (
      let P : ℕ → Type 0 = λ n. All (λ l. n ≤ vec_capacity l) c.in_ok-lists.lists.items in
      subst P (c.div_ceil.ensures ∙ ap (λ n. div_ceil n c.args.submitters) (c.len.ensures ∙ c.args.jobs.ok.0)) c.in_ok-lists.ensures.room
      );
}

pub index_mut-requires : goal.index_mut-requires
index_mut-requires c =
    let dealing : IsDealing c.args.jobs.items (into_iter_items c.loop-i.i-iterator.iter) c.in-Some.i c.args.submitters (map (λ l. l.items) c.loop-i.lists.items)
    = renumbered c.in-Some.i (sym c.in-Some.ensures.steps.1) c.loop-i.invariant.dealing in
    let inside : c.in-Some.i % c.args.submitters < length c.loop-i.lists.items = turn_inside c.loop-i.lists.items c.requires dealing in
    omega (arith, inside, c.loop-i.lists.ok.0)

pub push_reserved-requires : goal.push_reserved-requires
push_reserved-requires c =
    let dealing : IsDealing c.args.jobs.items (into_iter_items c.loop-i.i-iterator.iter) c.in-Some.i c.args.submitters (map (λ l. l.items) c.loop-i.lists.items)
    = renumbered c.in-Some.i (sym c.in-Some.ensures.steps.1) c.loop-i.invariant.dealing in
    let room = turn_room c.loop-i.lists.items c.index_mut.result.now c.requires dealing c.in-Some.ensures.steps.0.0 c.index_mut.ensures.value c.loop-i.invariant.room in
    omega (arith, room, c.index_mut.result.now.ok.0)

pub loop-i-preserved : goal.loop-i-preserved
loop-i-preserved c =
    let dealing : IsDealing c.args.jobs.items (into_iter_items c.loop-i.i-iterator.iter) c.in-Some.i c.args.submitters (map (λ l. l.items) c.loop-i.lists.items)
    = renumbered c.in-Some.i (sym c.in-Some.ensures.steps.1) c.loop-i.invariant.dealing in
    record {
      next = search rules;
      finite = search rules;
      dealing = renumbered c.next.new.self.count (ap (λ k. k + 1) c.in-Some.ensures.steps.1 ∙ sym c.in-Some.ensures.steps.2)
          (dealing_more c.loop-i.lists.items c.index_mut.result.now c.push_reserved.new.self c.in-Some.job c.requires dealing
          c.in-Some.ensures.steps.0.0 c.index_mut.ensures.value c.push_reserved.ensures.items);
      room = room_more c.loop-i.lists.items (c.in-Some.i % c.args.submitters) _ c.index_mut.result.now c.push_reserved.new.self
          (turn_inside c.loop-i.lists.items c.requires dealing) c.index_mut.ensures.value c.push_reserved.ensures.capacity c.loop-i.invariant.room;
    }

pub returns : goal.returns
returns c =
    let none : length (into_iter_items c.loop-i.i-iterator.iter) ≡ 0 = sym c.loop-i.i-iterator.iter.rest.ok.0 ∙ c.in-None.ensures.steps.0.0 in
    dealing_done none c.loop-i.invariant.dealing
