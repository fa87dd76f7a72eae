use Rattle.std.proofs.Common.{subst}
use Rattle.mbj_hmac.specs.Rounds.{HmacState}
use Rattle.mbj_hmac.specs.Inside.InLanes.{HasDigest}
use Rattle.mbj_hmac.specs.Inside.Layout.{seen}
use Rattle.mbj_hmac.proofs.Laid.{length-back}
use Rattle.mbj_hmac.proofs.entry.HmacEntry.digest_bits.Goals as goal

pub returns : goal.returns
returns g c =
    let h = g.H.LaneHash.hashing in
    let words = g.H.LaneHash.words in
    let bytes = g.H.LaneHash.ends_bytes in
    let f = c.self.inside in
    let n = c.digest_bits.result in
    let has : HasDigest h n (seen h f.packet.items f.rest (words f.chain) (words f.inner) (words f.start) f.hash f.form (bytes f.ends) f.off f.len) = record {
      bits = c.digest_bits.ensures;
      served = c.self.invariant.0.2;
      back = length-back h g.met.H.LaneHash.standard f.form (bytes f.ends) f.len c.self.invariant.0.3;
    } in
    subst (λ (e : HmacState). HasDigest h n e) c.self.view_is has
