-- The numbers are those of the verb.
use Rattle.std.proofs.Common.{refl}
use Rattle.mbj_text.proofs.script.read_numbers.Goals as goal

pub returns-in_ok-read_below-in-Post : goal.returns-in_ok-read_below-in-Post
returns-in_ok-read_below-in-Post c = rw c.in-Post.is (rw c.in_ok-read_below-in-Post.ensures.value refl)

pub returns-in_ok-read_below-in-Claim-2 : goal.returns-in_ok-read_below-in-Claim-2
returns-in_ok-read_below-in-Claim-2 c =
    rw c.in-Claim.is (rw c.in_ok-read_below-in-Claim.ensures.value (rw c.in_ok-read_below-in-Claim-2.ensures.value refl))

pub returns-in_ok-read_below-in-Flush : goal.returns-in_ok-read_below-in-Flush
returns-in_ok-read_below-in-Flush c = rw c.in-Flush.is (rw c.in_ok-read_below-in-Flush.ensures.value refl)

pub returns-in_ok-read_below-in-Collect : goal.returns-in_ok-read_below-in-Collect
returns-in_ok-read_below-in-Collect c = rw c.in-Collect.is (rw c.in_ok-read_below-in-Collect.ensures.value refl)
