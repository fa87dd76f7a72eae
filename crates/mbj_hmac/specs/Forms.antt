-- What an entry is: a digest (FIPS 180-4), an HMAC under a key (RFC 2104, 2), or an HMAC from stored states (RFC 2104, 4).
use Rattle.std.specs.Prelude.{Bool, true, false, ℕ, ◌+◌}
use Rattle.mbj_types.specs.Rounds.{hash_rounds, hmac_rounds, states_rounds}
use Rattle.mbj_hmac.specs.declared.form.Form.{Form}
use Rattle.mbj_hmac.specs.declared.form.Form.TheVariants as form

-- whether the first block of each of the two hashes is the key with a pad
abbrev pub has_pads : Form → Bool
has_pads form.Plain = false
has_pads form.Keyed = true
has_pads form.States = false

-- the rounds of the outer hash: the outer pad, and the block that holds the inner digest; behind a stored state the pad's lies
-- already, and a digest has no outer hash
abbrev pub outer_rounds_of : Form → ℕ
outer_rounds_of form.Plain = 0
outer_rounds_of form.Keyed = 2
outer_rounds_of form.States = 1

-- the rounds whose block is made in the lanes' vectors, and stands nowhere: that of the inner digest
abbrev pub made_rounds_of : Form → ℕ
made_rounds_of form.Plain = 0
made_rounds_of form.Keyed = 1
made_rounds_of form.States = 1

-- all rounds, for blocks of b bytes and a message of n
abbrev pub rounds_in : Form → ℕ → ℕ → ℕ
rounds_in form.Plain b n = hash_rounds b n
rounds_in form.Keyed b n = hmac_rounds b n
rounds_in form.States b n = states_rounds b n

-- the bytes that the padding of a text of n counts, for blocks of b bytes: a block lies behind a stored state
abbrev pub counted : Form → ℕ → ℕ → ℕ
counted form.Plain b n = n
counted form.Keyed b n = n
counted form.States b n = b + n
