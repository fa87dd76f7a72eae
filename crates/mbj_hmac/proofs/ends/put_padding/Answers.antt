use Rattle.std.proofs.Common.{arith}
use Rattle.mbj_hmac.proofs.Writes.{behind, padding_length, padding_made}
use Rattle.mbj_hmac.proofs.ends.put_padding.Goals as goal

pub put-at-requires : goal.put-at-requires
put-at-requires g c =
    let l = padding_length g.H.LaneHash.hashing g.met.H.LaneHash.standard c.args.before c.args.len c.fill.result c.padding_start.result.now
    c.requires.before c.requires.small c.fill.ensures.value c.padding_start.ensures in
    omega (arith, l, c.requires.room)

pub put-requires : goal.put-requires
put-requires g c =
    let l = padding_length g.H.LaneHash.hashing g.met.H.LaneHash.standard c.args.before c.args.len c.fill.result c.padding_start.result.now
    c.requires.before c.requires.small c.fill.ensures.value c.padding_start.ensures in
    omega (arith, l, c.requires.room, c.put-at.ensures.next)

pub returns-clause-next : goal.returns-clause-next
returns-clause-next g c =
    let l = padding_length g.H.LaneHash.hashing g.met.H.LaneHash.standard c.args.before c.args.len c.fill.result c.padding_start.result.now
    c.requires.before c.requires.small c.fill.ensures.value c.padding_start.ensures in
    omega (arith, l, c.put.ensures.next, c.put-at.ensures.next)

pub returns-clause-written : goal.returns-clause-written
returns-clause-written g c =
    let x = c.padding_start.result.now in
    let y = c.to_be_bytes-bits.result in
    let is = padding_made g.H.LaneHash.hashing g.met.H.LaneHash.standard c.args.before c.args.len c.fill.result x y
    c.requires.before c.requires.small c.fill.ensures.value c.padding_start.ensures c.to_be_bytes-bits.ensures in
    let bytes = g.H.LaneHash.ends_bytes in
    rw is (behind (bytes c.args.ends.now) (bytes c.put-at.new.ends) (bytes c.put.new.ends) x y c.args.at c.put-at.result
    c.put-at.ensures.next c.put-at.ensures.written c.put.ensures.written)
