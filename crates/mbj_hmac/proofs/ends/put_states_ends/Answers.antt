use Rattle.std.proofs.Common.{ap, ◌∙◌}
use Rattle.mbj_hmac.specs.Inside.Layout.{message_end, tail_blocks}
use Rattle.mbj_hmac.proofs.FirstEnds.{behind_first}
use Rattle.mbj_hmac.proofs.ends.put_states_ends.Goals as goal

pub returns-clause-value : goal.returns-clause-value
returns-clause-value g c =
    let h = g.H.LaneHash.hashing in
    let bytes = g.H.LaneHash.ends_bytes in
    behind_first h g.met.H.LaneHash.standard (tail_blocks h.block_bytes c.args.len) (bytes c.put_end.new.ends) (bytes c.args.ends.now) _
    c.requires.whole c.put_end.ensures.written
    ∙ ap (λ n. message_end h n c.args.packet.now c.args.off c.args.len) c.block_bytes.ensures
