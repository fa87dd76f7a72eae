-- The lines of a replay. Numbers are in decimal, and each line ends with LF.
use Rattle.std.specs.Prelude.{ℕ, List, ◌++◌, codes, decimal}
use Rattle.mbj_text.specs.Line.{done_line, number_or_none}
use Rattle.mbj_replay.specs.declared.line.ReplayLine.{ReplayLine}
use Rattle.mbj_replay.specs.declared.line.ReplayLine.TheVariants as line

-- a word, a number, and what became of it
abbrev pub words_text : List ℕ → ℕ → List ℕ → List ℕ
words_text word n answer = word ++ (codes " " ++ (decimal n ++ (codes " " ++ (answer ++ codes "\n"))))

abbrev pub replay_line_text : ReplayLine → List ℕ
replay_line_text (line.Post submitter job) = words_text (codes "post") submitter (decimal job)
replay_line_text (line.PostFull submitter) = words_text (codes "post") submitter (codes "full")
replay_line_text (line.PostEnd submitter) = words_text (codes "post") submitter (codes "end")
replay_line_text (line.Claim worker job) = words_text (codes "claim") worker (number_or_none job)
replay_line_text (line.ClaimFull worker) = words_text (codes "claim") worker (codes "full")
replay_line_text (line.Finish worker job) = words_text (codes "finish") worker (number_or_none job)
-- the result line of the job stands behind the submitter
replay_line_text (line.Collect submitter job done) = codes "collect " ++ (decimal submitter ++ (codes " " ++ done_line job done))
replay_line_text (line.CollectNone submitter) = words_text (codes "collect") submitter (codes "none")
