use Rattle.std.proofs.Common.{length, ◌∙◌, arith}
use Rattle.std.proofs.lemmas.Nat.{mod_below}
use Rattle.mbj_work.proofs.Deals.{some_list, place_below, item_is}
use Rattle.mbj_work.proofs.results.Results.at.Goals as goal

pub nonzero_rem-number : goal.nonzero_rem-number
nonzero_rem-number c =
    let some = some_list c.args.self.now c.args.number c.self.inside.lists.items (rw c.self.view_is at c.self.invariant.1) c.requires in
    omega (arith, some, c.len-submitters.ensures, c.self.inside.lists.ok.0)

pub index-requires : goal.index-requires
index-requires c =
    let some = some_list c.args.self.now c.args.number c.self.inside.lists.items (rw c.self.view_is at c.self.invariant.1) c.requires in
    let size = c.len-submitters.ensures ∙ c.self.inside.lists.ok.0 in
    let below = mod_below c.args.number (length c.self.inside.lists.items) some in
    rw (size, c.self.inside.lists.ok.0) below

pub nonzero_div-number : goal.nonzero_div-number
nonzero_div-number c =
    let some = some_list c.args.self.now c.args.number c.self.inside.lists.items (rw c.self.view_is at c.self.invariant.1) c.requires in
    omega (arith, some, c.len-submitters.ensures, c.self.inside.lists.ok.0)

pub index-requires-2 : goal.index-requires-2
index-requires-2 c =
    let size = c.len-submitters.ensures ∙ c.self.inside.lists.ok.0 in
    let below = place_below c.args.self.now c.args.number c.self.inside.lists.items c.index.result.now (rw c.self.view_is at c.self.invariant.1) c.requires
    (rw size at c.index.ensures) in
    rw (size, c.index.result.now.ok.0) below

pub returns : goal.returns
returns c =
    let size = c.len-submitters.ensures ∙ c.self.inside.lists.ok.0 in
    item_is c.args.self.now c.args.number c.self.inside.lists.items c.index.result.now c.index-2.result.now (rw c.self.view_is at c.self.invariant.1) c.requires
    (rw size at c.index.ensures) (rw size at c.index-2.ensures)
