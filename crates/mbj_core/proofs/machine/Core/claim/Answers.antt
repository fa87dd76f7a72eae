use Rattle.std.proofs.Common.{◌≡◌, ◌∙◌, sym, subst, ap, refl}
use Rattle.mbj_core.specs.Inside.Fields.{state_of}
use Rattle.mbj_core.specs.Stands.{IsBacked}
use Rattle.mbj_core.specs.declared.cells.Slot.TheVariants as slot
use Rattle.mbj_core.proofs.Calls.{vain_claims_lead}
use Rattle.mbj_core.proofs.Fields.{after_claim, unchanged, unready, ready_read, hand_room, read_back, lent, sizes_of}
use Rattle.mbj_core.proofs.machine.Core.claim.Goals as goal

pub invariant_of-self : goal.invariant_of-self
invariant_of-self c =
    let is = c.self.invariant in record {
      some_submitter = is.some_submitter;
      submitters = is.submitters;
      workers = is.workers;
      cells = is.cells;
      hands = is.hands;
      outs = is.outs;
      each_first = is.each_first;
      each_out = is.each_out;
      backed = subst IsBacked (sym (unchanged c.self.inside is c.args.cell c.index_mut.result.now c.hold.new.self c.index_mut.ensures.value (c.if-not-hold.ensures {u = tt}).1)) is.backed;
    }

pub returns-then-not-hold : goal.returns-then-not-hold
returns-then-not-hold c =
    let a = c.self.inside in let is = c.self.invariant in let i = c.args.cell in
    let lp = rw (← c.self.view_is) at c.requires.party in let li = rw (← c.self.view_is) at c.requires.cell in
    let none = unready a is i c.index_mut.result.now li c.index_mut.ensures.value (c.if-not-hold.ensures {u = tt}).0 in
    let same = unchanged a is i c.index_mut.result.now c.hold.new.self c.index_mut.ensures.value (c.if-not-hold.ensures {u = tt}).1 in
    rw (← c.self.view_is) (
      (
        refl,
        (λ _. tt),
        record {
          claimed = same;
          leads = rw same (vain_claims_lead (state_of a) (sizes_of a is) is.backed c.args.p i lp li none);
        },
      ),
      record { claims = tt; ready = tt; unready = none },
    )

pub push-requires : goal.push-requires
push-requires c =
    let lp = rw (← c.self.view_is) at c.requires.party in let li = rw (← c.self.view_is) at c.requires.cell in let h = c.if-not-hold.ensures {u = tt} in
    record { room = hand_room c.self.inside c.self.invariant c.args.p c.args.cell h.0 c.index_mut.result.now c.index_mut-2.result.now lp li c.index_mut.ensures.value h.1 c.index_mut-2.ensures.value }

pub invariant_of-self-2 : goal.invariant_of-self-2
invariant_of-self-2 c =
    let is = c.self.invariant in
    let lp = rw (← c.self.view_is) at c.requires.party in let li = rw (← c.self.view_is) at c.requires.cell in let h = c.if-not-hold.ensures {u = tt} in record {
      some_submitter = is.some_submitter;
      submitters = is.submitters;
      workers = is.workers;
      cells = is.cells;
      hands = is.hands;
      outs = is.outs;
      each_first = is.each_first;
      each_out = is.each_out;
      backed = (after_claim c.self.inside is c.args.p c.args.cell h.0 c.index_mut.result.now c.hold.new.self c.index_mut-2.result.now c.push.new.self lp li
          c.index_mut.ensures.value h.1 h.2 c.index_mut-2.ensures.value c.push.ensures).1;
    }

pub returns : goal.returns
returns c =
    let a = c.self.inside in let is = c.self.invariant in let i = c.args.cell in
    let lp = rw (← c.self.view_is) at c.requires.party in let li = rw (← c.self.view_is) at c.requires.cell in let h = c.if-not-hold.ensures {u = tt} in
    let back = read_back a is i c.hold.new.self c.index.result.now li c.index.ensures in
    let b = lent c.held_by.result c.index.result.now c.args.p h.0 c.held_by.ensures (back ∙ h.2) in
    let job = b.0.now in
    let was : c.index_mut.result.now ≡ slot.Ready job = h.1 ∙ ap slot.Ready b.2 in
    let after = after_claim a is c.args.p i job c.index_mut.result.now c.hold.new.self c.index_mut-2.result.now c.push.new.self lp li
    c.index_mut.ensures.value was (h.2 ∙ ap (slot.Held c.args.p) b.2) c.index_mut-2.ensures.value c.push.ensures in
    rw (b.1, ← c.self.view_is) (
      (refl, (λ _. tt), record { claimed = after.0; leads = after.2 }),
      record { claims = tt; ready = ready_read a is i job c.index_mut.result.now li c.index_mut.ensures.value was; unready = tt },
    )
