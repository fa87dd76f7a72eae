-- Text that goes to a sink in pieces: what was written, and what waits.
use Rattle.std.specs.Prelude.{◌≡◌, ℕ, List, ◌++◌, Option, Result, MatchResult}
use Rattle.std.specs.Io.KnownBytes.{Appends}
use Rattle.mbj_io.specs.Streams.{Stream}
use Rattle.mbj_io.specs.declared.traits.Failed.{Failed}
use Rattle.mbj_text.specs.Flow.{WritesFront}

-- the text was appended to what was held, but for the end of it that is left
pub record Flows (old new : Option (List ℕ)) (text left : List ℕ) : Type 0 where
  pub front : List ℕ
  pub text_is : text ≡ front ++ left
  pub written : Appends old new front

-- the text was written but for the end of it that waits, and no write failed
pub record FlowsOn (s : Stream) (text waits : List ℕ) : Type 0 where
  pub flows : Flows s.before s.after text waits
  pub calm : s.faults_after ≡ s.faults_before

-- what a call answers that puts a text behind what waits, so that this text waits then or is written
abbrev pub Puts : Result (Unit {0}) Failed → Stream → List ℕ → List ℕ → Type 0
Puts answer s text waits = MatchResult answer (λ _. FlowsOn s text waits) (λ _. WritesFront s text)
