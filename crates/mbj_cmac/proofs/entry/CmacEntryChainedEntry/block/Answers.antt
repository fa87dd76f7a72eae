-- A block is the last one, or stands in the packet.
use Rattle.std.proofs.Common.{◌≡◌, ℕ, ◌-◌, ◌≤◌, List, sym, ap, ◌∙◌, arith}
use Rattle.mbj_types.specs.Aes.{encipher, key_schedule}
use Rattle.mbj_types.specs.Rounds.{cmac_rounds}
use Rattle.mbj_types.specs.Result.{range}
use Rattle.mbj_aes_lanes.specs.KeyBytes.{key_of_array}
use Rattle.mbj_blocks.proofs.Ranges.{length-range}
use Rattle.mbj_cmac.specs.Rounds.{CmacState}
use Rattle.mbj_cmac.proofs.Ends.{block-last, block-more, range-block}
use Rattle.mbj_cmac.proofs.entry.CmacEntryChainedEntry.block.Goals as goal

pub returns-then-self-eq1 : goal.returns-then-self-eq1
returns-then-self-eq1 g c =
    let f = c.self.inside in
    let w : List ℕ = key_schedule (key_of_array g.row.N f.key) in
    let m : List ℕ = range f.off f.len f.packet.items in
    let size = length-range f.off f.len f.packet.items c.self.invariant.2.range in
    let rest : f.rest ≡ 1 = c.if-self-eq1.true in
    c.last_block.ensures
    ∙ rw (← c.self.view_is, rest) (sym (block-last (encipher w) m (cmac_rounds f.len - 1) (rw size (omega arith))))

pub returns : goal.returns
returns g c =
    let f = c.self.inside in
    let w : List ℕ = key_schedule (key_of_array g.row.N f.key) in
    let m : List ℕ = range f.off f.len f.packet.items in
    let i : ℕ = cmac_rounds f.len - f.rest in
    let size = length-range f.off f.len f.packet.items c.self.invariant.2.range in
    let rest : f.rest ≡ c.args.self.now.rest = ap (λ (e : CmacState). e.rest) c.self.view_is in
    let more : 2 ≤ f.rest = omega (arith, rest, c.requires, c.if-self-eq1.false) in
    rw (← c.self.view_is)
    (c.block_from.ensures
    ∙ rw (c.deref.ensures.value, c.rounds.ensures)
    (range-block f.off f.len i f.packet.items (omega (arith, more, c.self.invariant.2.rest)))
    ∙ sym (block-more (encipher w) m i (rw size (omega (arith, more, c.self.invariant.2.rest)))))
