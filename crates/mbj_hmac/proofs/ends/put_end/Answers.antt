use Rattle.std.proofs.Common.{ℕ, List, ◌+◌, ◌++◌, take, sym, ap, ◌∙◌, arith}
use Rattle.mbj_hmac.proofs.FirstEnds.{behind_end, end_fits, end_is, joined}
use Rattle.mbj_hmac.proofs.ends.put_end.Goals as goal

pub put_padding-requires-clause-room : goal.put_padding-requires-clause-room
put_padding-requires-clause-room g c =
    let h = g.H.LaneHash.hashing in
    let std = g.met.H.LaneHash.standard in
    let packet = c.args.packet.now in
    let off = c.args.off in
    let len = c.args.len in
    let text = end_is h std len packet off c.whole_bytes.result c.whole_bytes.ensures.value c.whole_bytes.ensures.within in
    let place = behind_end h std len packet off c.args.before c.block_bytes.result c.put-at.result _ c.requires.before c.requires.range c.requires.small
    c.block_bytes.ensures c.put-at.ensures.next text in
    omega (arith, place, end_fits h std len)

pub returns-clause-next : goal.returns-clause-next
returns-clause-next g c =
    let h = g.H.LaneHash.hashing in
    let std = g.met.H.LaneHash.standard in
    let packet = c.args.packet.now in
    let off = c.args.off in
    let len = c.args.len in
    let text = end_is h std len packet off c.whole_bytes.result c.whole_bytes.ensures.value c.whole_bytes.ensures.within in
    c.put_padding.ensures.next
    ∙ behind_end h std len packet off c.args.before c.block_bytes.result c.put-at.result _ c.requires.before c.requires.range c.requires.small
    c.block_bytes.ensures c.put-at.ensures.next text

pub returns-clause-written : goal.returns-clause-written
returns-clause-written g c =
    let h = g.H.LaneHash.hashing in
    let bytes = g.H.LaneHash.ends_bytes in
    let std = g.met.H.LaneHash.standard in
    let packet = c.args.packet.now in
    let off = c.args.off in
    let len = c.args.len in
    let pad = h.padding (c.args.before + len) in
    let text = end_is h std len packet off c.whole_bytes.result c.whole_bytes.ensures.value c.whole_bytes.ensures.within in
    let place = behind_end h std len packet off c.args.before c.block_bytes.result c.put-at.result _ c.requires.before c.requires.range c.requires.small
    c.block_bytes.ensures c.put-at.ensures.next text in
    let first = ap (λ (n : ℕ). take n (bytes c.put-at.new.ends)) c.put-at.ensures.next ∙ c.put-at.ensures.written in
    ap (λ (n : ℕ). take n (bytes c.put_padding.new.ends)) (sym place) ∙ c.put_padding.ensures.written ∙ ap (λ (l : List ℕ). l ++ pad) first
    ∙ joined h std len packet off (bytes c.args.ends.now) _ pad c.block_bytes.result c.block_bytes.ensures text
