-- One round key more stands in each turn, and at the end all do.
use Rattle.std.proofs.Common.{◌≡◌, ℕ, ◌+◌, ◌-◌, ◌*◌, ◌/◌, List, ◌++◌, length, replicate, sym, ap, ap₂, ◌∙◌, arith, length-append}
use Rattle.mbj_direct.specs.Schedules.{inverse_keys, inverse_round_key, inverse_schedule}
use Rattle.mbj_direct.proofs.KeyBytes.{inverse_keys-none, inverse_keys-next}
use Rattle.mbj_direct.proofs.Zeros.{put_next}
use Rattle.mbj_direct.proofs.keys.inverse_schedule.Goals as goal

pub rounds-init : goal.rounds-init
rounds-init c =
    let w : List ℕ = c.args.key.now in
    record {
      size = ap length (inverse_keys-none w c.rounds-rounds.result);
      bytes = ap (λ xs. xs ++ replicate 240 0) (sym (inverse_keys-none w c.rounds-rounds.result));
    }

pub rounds-preserved : goal.rounds-preserved
rounds-preserved c =
    let w : List ℕ = c.args.key.now in
    let n : ℕ = c.rounds-rounds.result in
    let r : ℕ = c.rounds.r in
    let block : List ℕ = c.inverse_round_key.result in
    let zeros : List ℕ = replicate (240 - 16 * (r + 1)) 0 in
    let count : length w / 16 - 1 ≡ n = omega arith in
    let is : block ≡ inverse_round_key w n (n - r) =
    c.inverse_round_key.ensures ∙ ap (λ (m : ℕ). inverse_round_key w m (n - r)) count in
    let next : inverse_keys w n r ++ block ≡ inverse_keys w n (r + 1) =
    ap (λ b. inverse_keys w n r ++ b) is ∙ inverse_keys-next w n r in
    record {
      size = ap length (sym next) ∙ length-append (inverse_keys w n r) block ∙ omega arith;
      bytes =
          put_next (inverse_keys w n r) block c.rounds.bytes c.put_block.new.text r 240 c.rounds.invariant.size
          (omega arith) c.rounds.invariant.bytes c.put_block.ensures
          ∙ ap (λ xs. xs ++ zeros) next;
    }

pub returns : goal.returns
unfolding inverse_schedule
returns c =
    let w : List ℕ = c.args.key.now in
    let n : ℕ = c.rounds-rounds.result in
    let count : n ≡ length w / 16 - 1 = omega arith in
    let turns : c.rounds.r ≡ length w / 16 - 1 + 1 = omega arith in
    let left : 240 - 16 * c.rounds.r ≡ 240 - length w = omega arith in
    c.rounds.invariant.bytes
    ∙ ap₂ (λ xs (k : ℕ). xs ++ replicate k 0) (ap₂ (inverse_keys w) count turns) left
