use Rattle.std.proofs.Common.{◌≡◌, ℕ, ◌-◌, ◌*◌, List, ◌++◌, take, ap, ◌∙◌}
use Rattle.std.proofs.lemmas.List.{take_at}
use Rattle.std.specs.Prelude.{replicate}
use Rattle.mbj_types.specs.declared.class.HashName.{HashName}
use Rattle.mbj_types.specs.Auths.{compression_of_name, hash_of_name}
use Rattle.mbj_types.specs.Hmac.{hmac}
use Rattle.mbj_types.specs.States.{hmac_from_states, key_states}
use Rattle.mbj_hmac.proofs.NamedStates.{length-named_states, named_hmac}
use Rattle.mbj_hmac.proofs.Served.{of_name}
use Rattle.mbj_hmac.proofs.stored.states.Goals as goal

pub returns-clause-states : goal.returns-clause-states
returns-clause-states c =
    let key : List ℕ = c.args.key.now in
    of_name c.args.auth c.hash_name.result c.hash_name.ensures
    (λ h. c.states_by_name.result ≡ key_states (hash_of_name h) (compression_of_name h) key ++ replicate (128 - 2 * (compression_of_name h).state_bytes) 0)
    c.states_by_name.ensures

pub returns-clause-law : goal.returns-clause-law
returns-clause-law c =
    let a : HashName = c.hash_name.result in
    let key : List ℕ = c.args.key.now in
    let n : ℕ = (compression_of_name a).state_bytes in
    let states : List ℕ = key_states (hash_of_name a) (compression_of_name a) key in
    let first : take (2 * n) c.states_by_name.result ≡ states =
    ap (take (2 * n)) c.states_by_name.ensures ∙ take_at states (replicate (128 - 2 * n) 0) (2 * n) (length-named_states a key) in
    of_name c.args.auth a c.hash_name.ensures
    (λ h. (m : List ℕ) → hmac_from_states (compression_of_name h) (take (2 * (compression_of_name h).state_bytes) c.states_by_name.result) m ≡ hmac (hash_of_name h) key m)
    (λ m. ap (λ s. hmac_from_states (compression_of_name a) s m) first ∙ named_hmac a key m)
