-- What is put is what the key gives.
use Rattle.std.proofs.Common.{◌≡◌, ℕ, Bool, true, List, length, Ok, sym, ap, ap₂, ◌∙◌}
use Rattle.std.proofs.Math.Path.{fun_ext}
use Rattle.mbj_types.specs.Aes.{aes, encipher}
use Rattle.mbj_types.specs.Cmac.{first_subkey, second_subkey, takes_key}
use Rattle.mbj_c.specs.Direct.{Pair, and_then, put_both, wants}
use Rattle.mbj_c.specs.declared.refusal.Refusal.TheVariants.{KeyLength}
use Rattle.mbj_c.proofs.direct.put_subkeys.Goals as goal

pub returns-clause-written : goal.returns-clause-written
returns-clause-written c =
    let key : List ℕ = c.args.key.now in
    let rooms : Pair = (c.args.first.now, c.args.second.now) in
    let same : encipher c.expand.result ≡ aes key = fun_ext c.expand.ensures.encipher in
    let put : List ℕ → List ℕ → Pair = λ f s. (put_both (Ok (f, s)) rooms).1 in
    let meant : Bool → Pair = λ t.
    (put_both (and_then (wants t KeyLength) (Ok (first_subkey (aes key), second_subkey (aes key)))) rooms).1 in
    let taken : takes_key (length key) ≡ true = sym c.takes_key.ensures ∙ c.if-not-takes_key.false in
    c.put_two.ensures.written
    ∙ ap₂ put (c.cmac_subkeys-subkeys.ensures.first ∙ ap first_subkey same) (c.cmac_subkeys-subkeys.ensures.second ∙ ap second_subkey same)
    ∙ ap meant (sym taken)
