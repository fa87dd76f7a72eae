use Rattle.std.proofs.Common.{◌+◌, ◌-◌, arith}
use Rattle.std.proofs.lemmas.Slice.{drop-put_mid}
use Rattle.mbj_types.specs.Auths.{compression_of_name}
use Rattle.mbj_hmac.proofs.stored.put_state.Goals as goal

pub returns-clause-behind : goal.returns-clause-behind
returns-clause-behind c =
    drop-put_mid c.args.at (c.args.at + c.state_bytes.result - c.args.at) c.args.states.now c.store_by_name.new.state
    (c.args.at + (compression_of_name c.args.hash).state_bytes) (omega arith) (omega arith) (omega arith)
