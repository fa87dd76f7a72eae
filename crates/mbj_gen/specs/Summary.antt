-- What is told of generated jobs: how many there are, how they ended, and length and digest of their result text.
use Rattle.std.specs.Prelude.{◌-◌, ℕ, List, [], ◌∷◌, length, map, flat_map, count_by, Bool, true, false}
use Rattle.sha2.specs.Sha256.{sha256}
use Rattle.mbj_types.specs.declared.done.Done.{Done}
use Rattle.mbj_types.specs.declared.done.Status.{Status}
use Rattle.mbj_types.specs.declared.done.Status.TheVariants as status
use Rattle.mbj_types.specs.Result.{result_of}
use Rattle.mbj_text.specs.Line.{text}
use Rattle.mbj_gen.specs.Generator.{draws, job}
use Rattle.mbj_gen.specs.Lines.{line_text}
use Rattle.mbj_gen.specs.declared.line.SummaryLine.{SummaryLine}
use Rattle.mbj_gen.specs.declared.line.SummaryLine.TheVariants as line

abbrev pub is_ok : Status → Bool
is_ok status.Ok = true
is_ok (status.InvalidArgs reason) = false

abbrev pub accepted_count : List Done → ℕ
accepted_count results = count_by (λ done. is_ok done.status) results

abbrev pub summary_lines : List Done → List SummaryLine
summary_lines results =
    line.Jobs (length results)
    ∷ line.Accepted (accepted_count results)
    ∷ line.Invalid (length results - accepted_count results)
    ∷ line.Bytes (length (text results))
    ∷ line.Sha256 (sha256 (text results))
    ∷ []

-- the lines of a summary of generated jobs, one after another
abbrev pub gen_text : ℕ → ℕ → List ℕ
gen_text seed count = flat_map line_text (summary_lines (map result_of (draws job count seed).0))
