-- Each block takes the key of its schedule.
use Rattle.std.proofs.Common.{◌≡◌, ℕ, ◌+◌, ◌*◌, List, [], get_or, refl, sym, ◌∙◌, arith}
use Rattle.mbj_types.specs.Lanes.{lane_at}
use Rattle.mbj_aes.specs.BlockWords.{block_byte, block_at}
use Rattle.mbj_aes_lanes.specs.Inside.LaidKeys.{laid_key, laid_schedule}
use Rattle.mbj_aes_lanes.specs.Inside.LaidLaws.{laid_key-same, length-laid_key}
use Rattle.mbj_aes_lanes.proofs.LaidSchedules.{laid-stored, round_key-laid}
use Rattle.mbj_aes_lanes.proofs.narrow.schedules.EachKeysSchedulesU8x32Encryption.round_key.Goals as goal

pub returns : goal.returns
returns c b h =
    let n : ℕ = c.args.self.now.rounds in
    let r : ℕ = c.args.r in
    let i : ℕ = c.args.i in
    let all : List (List (List ℕ)) = c.args.self.now.keys.now in
    let keys : List (List ℕ) = get_or all (2 * i + b) [] in
    let loaded : block_at (lane_at 8) c.load.result b ≡ get_or keys r [] = c.load.ensures b h ∙ grind arith in
    sym (laid-stored laid_key n laid_key-same r (block_byte (lane_at 8) c.load.result b) (get_or keys r []) (sym loaded))
    ∙ round_key-laid laid_key n length-laid_key keys (laid_schedule laid_key n keys) r c.requires.round refl
