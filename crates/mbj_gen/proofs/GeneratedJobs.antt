-- Jobs that are made from a seed are small, and so are the lines of their results.
use Rattle.std.proofs.Common.{◌≡◌, ℕ, zero, suc, ◌+◌, ◌-◌, ◌*◌, ◌%◌, ◌<◌, ◌≤◌, List, [], ◌∷◌, ◌++◌, append_assoc, length, map, slice_get, Some, refl, sym, subst, ap, ◌∙◌, arith}
use Rattle.std.proofs.lemmas.List.{length-map}
use Rattle.std.proofs.lemmas.Nat.{mod_below}
use Rattle.mbj_types.specs.Auths.{class_of}
use Rattle.mbj_types.specs.Result.{result_of}
use Rattle.mbj_types.specs.declared.job.Job.{Job}
use Rattle.mbj_types.specs.declared.done.Done.{Done}
use Rattle.mbj_stage.proofs.PacketLengths.{length-result_of}
use Rattle.mbj_gen.proofs.TagLengths.{length-tag}
use Rattle.mbj_text.specs.Line.{done_line}
use Rattle.mbj_gen.specs.Generator.{with_auth_part, bare, byte, with_cipher_part, draws, job}
use Rattle.mbj_gen.specs.declared.line_sink.TheConstants.{LINE_ROOM}
use Rattle.mbj_text.specs.declared.limits.TheConstants.{JOB_LIMIT}
use Rattle.mbj_gen.proofs.ResultLines.{length-done_line}
use Rattle.std.proofs.lemmas.Option.{slice_get_within}

-- ---- packets

length-draws : {A : Type 0} (draw : ℕ → A × ℕ) (n x : ℕ) → length (draws draw n x).0 ≡ n
unfolding draws
length-draws draw zero x = refl
length-draws draw (suc n) x = ap suc (length-draws draw n (draw x).1)

packet-small : (x : ℕ) → length (job x).0.packet ≤ 512
unfolding job
packet-small x =
    let b : ℕ = (byte (bare x).1).0 in
    let n : ℕ = 16 * (1 + b % 32) in
    let below : b % 32 < 32 = mod_below b 32 (omega arith) in
    let ciphered = with_cipher_part (bare x).0.cipher n (bare x).0 (byte (bare x).1).1 in
    let y : ℕ = (with_auth_part (class_of ciphered.0.auth) n ciphered.0 ciphered.1).1 in
    omega (arith, length-draws byte n y)

-- one more job is made
pub made-next : (made more : List Job) (count i x y : ℕ) (all : List Job) → i < count → made ++ (draws job (count - i) x).0 ≡ all
    → more ≡ made ++ (job x).0 ∷ [] → y ≡ (job x).1 → more ++ (draws job (count - (i + 1)) y).0 ≡ all
unfolding draws
made-next made more count i x y all below is pushed state =
    let left : count - i ≡ suc (count - (i + 1)) = omega arith in
    let first : (draws job (count - i) x).0 ≡ (job x).0 ∷ (draws job (count - (i + 1)) (job x).1).0 = ap (λ (n : ℕ). (draws job n x).0) left in
    let moved = append_assoc made ((job x).0 ∷ []) (draws job (count - (i + 1)) y).0 in
    cc (first, moved)

-- ---- lines

result-small : (count x n : ℕ) (done : Done) → slice_get (map result_of (draws job count x).0) n ≡ Some done
    → (length done.packet ≤ 512) × (length done.tag ≤ 64)
unfolding draws
result-small zero x n done h = absurd (cc)
result-small (suc count) x zero done h =
    let j : Job = (job x).0 in
    let is : result_of j ≡ done = cc in
    let packet : length done.packet ≡ length j.packet = ap (λ (d : Done). length d.packet) (sym is) ∙ length-result_of j in
    let tag : length done.tag ≡ length (result_of j).tag = ap (λ (d : Done). length d.tag) (sym is) in
    let small = packet-small x in
    let tag_small = length-tag j in (omega arith, omega arith)
result-small (suc count) x (suc n) done h = result-small count (job x).1 n done h

-- the line of each result leaves room in a sink for one line
pub line-fits : (count x n : ℕ) (done : Done) → n < 65536 → slice_get (map result_of (draws job count x).0) n ≡ Some done
    → length (done_line n done) < LINE_ROOM
line-fits count x n done h at =
    let small = result-small count x n done at in
    let packet = small.0 in
    let tag = small.1 in
    omega (arith, length-done_line n done (omega arith))

-- there are as many results as jobs
pub length-results : (count x : ℕ) → count ≡ length (map result_of (draws job count x).0)
length-results count x = sym (length-map (draws job count x).0 result_of ∙ length-draws job count x)

-- each line of a result of jobs that were made leaves room
pub lines-fit : (count x : ℕ) → count ≤ JOB_LIMIT → (n : ℕ) (done : Done)
    → slice_get (map result_of (draws job count x).0) n ≡ Some done → length (done_line n done) < LINE_ROOM
lines-fit count x limit n done at =
    let inside = slice_get_within (map result_of (draws job count x).0) n done at in
    line-fits count x n done (omega (arith, length-results count x)) at
