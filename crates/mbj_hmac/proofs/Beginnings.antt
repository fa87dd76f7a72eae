-- An entry of which nothing is done, by its authentication.
use Rattle.std.proofs.Common.{◌≡◌, Bool, ℕ, ◌+◌, ◌^◌, ◌≤◌, ◌<◌, List, length, take, drop, refl, sym, ap, subst, ◌∙◌, arith, true, false, ◌||◌}
use Rattle.std.proofs.lemmas.List.{length-map}
use Rattle.std.specs.Prelude.{IsTrue, bit_xor}
use Rattle.mbj_types.specs.declared.class.AuthClass.{AuthClass}
use Rattle.mbj_types.specs.declared.class.AuthClass.TheVariants as class
use Rattle.mbj_types.specs.declared.class.HashName.{HashName}
use Rattle.mbj_types.specs.Auths.{compression_of_name, hash_of_name}
use Rattle.mbj_types.specs.Hmac.{Hash, block_key, ipad, opad, padded_key}
use Rattle.mbj_types.specs.States.{Compression, hmac_from_states}
use Rattle.mbj_lane.specs.Rounds.{end_of}
use Rattle.mbj_hmac.specs.Names.{serves_class, serves_lanes_class, serves_plain_class, serves_states_class}
use Rattle.mbj_hmac.specs.Begun.{Begins, begun, begun_keyed, begun_states}
use Rattle.mbj_hmac.specs.Laws.Tests.{not_both}
use Rattle.mbj_hmac.specs.Rounds.{Hashing, HmacState, compression, hashed, rest_of, round, started_plain, started_states}
use Rattle.mbj_hmac.specs.Inside.Layout.{IsStandard}
use Rattle.mbj_hmac.proofs.Hmacs.{hmac_end, packet_end, plain_end, plain_packet_end, states_end, states_packet_end}
use Rattle.mbj_hmac.proofs.Keys.{length-block_key}

-- ---- the hash that is served, by the class of the authentication

pub keyed_name : (h : Hashing) (c : AuthClass) → IsTrue (serves_class h c) → (n : HashName) × (c ≡ class.Hmac n) × IsTrue (h.serves n)
keyed_name h class.Null t = absurd (not_both t)
keyed_name h (class.Hmac n) t = (n, refl, t)
keyed_name h (class.Cmac k) t = absurd (not_both t)
keyed_name h class.Gcm t = absurd (not_both t)
keyed_name h class.Ccm t = absurd (not_both t)
keyed_name h (class.Plain n) t = absurd (not_both t)
keyed_name h class.Gmac t = absurd (not_both t)
keyed_name h (class.States n) t = absurd (not_both t)

pub plain_name : (h : Hashing) (c : AuthClass) → IsTrue (serves_plain_class h c) → (n : HashName) × (c ≡ class.Plain n) × IsTrue (h.serves n)
plain_name h class.Null t = absurd (not_both t)
plain_name h (class.Hmac n) t = absurd (not_both t)
plain_name h (class.Cmac k) t = absurd (not_both t)
plain_name h class.Gcm t = absurd (not_both t)
plain_name h class.Ccm t = absurd (not_both t)
plain_name h (class.Plain n) t = (n, refl, t)
plain_name h class.Gmac t = absurd (not_both t)
plain_name h (class.States n) t = absurd (not_both t)

pub states_name : (h : Hashing) (c : AuthClass) → IsTrue (serves_states_class h c) → (n : HashName) × (c ≡ class.States n) × IsTrue (h.serves n)
states_name h class.Null t = absurd (not_both t)
states_name h (class.Hmac n) t = absurd (not_both t)
states_name h (class.Cmac k) t = absurd (not_both t)
states_name h class.Gcm t = absurd (not_both t)
states_name h class.Ccm t = absurd (not_both t)
states_name h (class.Plain n) t = absurd (not_both t)
states_name h class.Gmac t = absurd (not_both t)
states_name h (class.States n) t = (n, refl, t)

-- each of them is done in the lanes
module _ (h : Hashing) (n : HashName) (t : IsTrue (h.serves n)) (c : AuthClass) where
  pub keyed_serves : c ≡ class.Hmac n → IsTrue (serves_lanes_class h c)
  keyed_serves is = subst (λ (x : AuthClass). IsTrue (serves_lanes_class h x)) (sym is) (rw t refl)

  pub plain_serves : c ≡ class.Plain n → IsTrue (serves_lanes_class h c)
  plain_serves is = subst (λ (x : AuthClass). IsTrue (serves_lanes_class h x)) (sym is) (rw t refl)

  pub states_serve : c ≡ class.States n → IsTrue (serves_lanes_class h c)
  states_serve is = subst (λ (x : AuthClass). IsTrue (serves_lanes_class h x)) (sym is) (rw t refl)

-- ---- by the class, as an entry begins

module _ (h : Hashing) (std : IsStandard h)
    (hashes : (a : HashName) → IsTrue (h.serves a) → (m : List ℕ) → (hash_of_name a).digest m ≡ h.digest a (hashed h a m))
    (blocks : (a : HashName) → IsTrue (h.serves a) → (hash_of_name a).block_bytes ≡ h.block_bytes)
    (compressions : (a : HashName) → IsTrue (h.serves a) → compression_of_name a ≡ compression h a) where
  -- the key with a pad is a block
  pub length-pad_of : (n : HashName) (key : List ℕ) (pad : ℕ) → IsTrue (h.serves n)
      → length (padded_key pad (block_key (hash_of_name n) key)) ≡ h.block_bytes
  length-pad_of n key pad t =
      let hash : Hash = hash_of_name n in
      let short : (m : List ℕ) → length (hash.digest m) ≤ hash.block_bytes = λ m. omega (arith, ap length (hashes n t m), std.room n (hashed h n m), blocks n t) in
      length-map (block_key hash key) (λ x. bit_xor x pad) ∙ length-block_key hash key short ∙ blocks n t

  module _ (key packet : List ℕ) (off len : ℕ) (range : off + len ≤ length packet) (small : len < 2 ^ 32) where
    pub keyed_begins : (n : HashName) → IsTrue (h.serves n) → Begins h (class.Hmac n) key packet off len (begun_keyed h n key packet off len)
    keyed_begins n t =
        let hash : Hash = hash_of_name n in
        let front : List ℕ = padded_key ipad (block_key hash key) in
        let back : List ℕ = padded_key opad (block_key hash key) in
        record {
          rest = refl;
          packet_is = packet_end h std n front back packet off len (length-pad_of n key ipad t) range small;
          value = hmac_end h std n front back packet off len hash key (hashes n t) refl refl (length-pad_of n key ipad t) (length-pad_of n key opad t) range small;
        }

    pub plain_begins : (n : HashName) → IsTrue (h.serves n) → Begins h (class.Plain n) key packet off len (started_plain h n packet off len)
    plain_begins n t = record {
      rest = refl;
      packet_is = plain_packet_end h std n packet off len range small;
      value = plain_end h std n packet off len (hash_of_name n) (hashes n t) range small;
    }

    pub states_begin : (n : HashName) → IsTrue (h.serves n) → Begins h (class.States n) key packet off len (begun_states h n key packet off len)
    states_begin n t =
        let c : Compression = compression_of_name n in
        let digest : HmacState → List ℕ = λ e. let end : HmacState = end_of (round h) rest_of e in h.digest end.hash end.chain in
        let Ends : Compression → Type 0 = λ k.
        digest (started_states h n (k.loaded (take k.state_bytes key)) (k.loaded (drop k.state_bytes key)) packet off len)
        ≡ hmac_from_states k key (take len (drop off packet)) in
        record {
          rest = refl;
          packet_is = states_packet_end h std n (c.loaded (take c.state_bytes key)) (c.loaded (drop c.state_bytes key)) packet off len range small;
          value = subst Ends (sym (compressions n t)) (states_end h std n key packet off len range small);
        }

    pub begins : (c : AuthClass) → IsTrue (serves_lanes_class h c) → Begins h c key packet off len (begun h c key packet off len)
    begins class.Null t = absurd (not_both t)
    begins (class.Hmac n) t = keyed_begins n (first (h.serves n) t)
      where
        first : (b : Bool) → (b || (false || false)) ≡ true → b ≡ true
        first true e = refl
        first false e = absurd (not_both e)
    begins (class.Cmac k) t = absurd (not_both t)
    begins class.Gcm t = absurd (not_both t)
    begins class.Ccm t = absurd (not_both t)
    begins (class.Plain n) t = plain_begins n (second (h.serves n) t)
      where
        second : (b : Bool) → (false || (b || false)) ≡ true → b ≡ true
        second true e = refl
        second false e = absurd (not_both e)
    begins class.Gmac t = absurd (not_both t)
    begins (class.States n) t = states_begin n t
