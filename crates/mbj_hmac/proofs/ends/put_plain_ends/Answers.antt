use Rattle.mbj_hmac.specs.Inside.Layout.{tail_blocks}
use Rattle.mbj_hmac.proofs.FirstEnds.{behind_first}
use Rattle.mbj_hmac.proofs.ends.put_plain_ends.Goals as goal

pub returns-clause-value : goal.returns-clause-value
returns-clause-value g c =
    let bytes = g.H.LaneHash.ends_bytes in
    behind_first g.H.LaneHash.hashing g.met.H.LaneHash.standard (tail_blocks g.H.LaneHash.hashing.block_bytes c.args.len) (bytes c.put_end.new.ends) (bytes c.args.ends.now) _
    c.requires.whole c.put_end.ensures.written
