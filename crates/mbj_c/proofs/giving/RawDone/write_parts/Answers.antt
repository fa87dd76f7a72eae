-- The range's bytes and the tag stand at the front of their rooms.
use Rattle.std.proofs.Common.{◌≡◌, ◌++◌, ◌-◌, ℕ, List, ◌∙◌, ap, drop, length, take}
use Rattle.std.proofs.lemmas.List.{take_rest}
use Rattle.mbj_c.proofs.giving.RawDone.write_parts.Goals as goal

pub returns : goal.returns
returns c =
    let before = c.args.self.now in
    let range = c.args.range in
    let packet : List ℕ = c.args.packet.now in
    let bytes : take range.len (take (length packet - range.off) (drop range.off packet)) ≡ take range.len (drop range.off packet) =
    ap (take range.len) (take_rest packet range.off) in
    record {
      dst = c.put_front.ensures ∙ ap (λ (l : List ℕ). l ++ drop (length l) before.dst.now) bytes;
      dst_len = ap length bytes;
      tag = c.put_front-2.ensures ∙ ap (λ (l : List ℕ). l ++ drop (length l) before.tag.now) c.bytes-tag.ensures.value;
      tag_len = ap length c.bytes-tag.ensures.value;
      status = c.status_of-self.ensures;
      reason = c.reason_of-self.ensures;
    }
