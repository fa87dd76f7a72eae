-- What a sink gained by a write whose answer is passed over.
use Rattle.std.proofs.Common.{inl, inr, ℕ, List, Result, Ok, Err}
use Rattle.mbj_io.specs.Streams.{Stream}
use Rattle.mbj_io.specs.declared.traits.Failed.{Failed}
use Rattle.mbj_text.specs.Flow.{Writes}
use Rattle.mbjobs.specs.Outcome.{Gains}

-- the sink gained the text, or broke off behind a prefix of it
pub told : (answer : Result (Unit {0}) Failed) (err : Stream) (text : List ℕ) → Writes answer err text → Gains err text
told (Ok done) err text writes = inl writes.written
told (Err fault) err text writes = inr (writes.failed, writes.front)
