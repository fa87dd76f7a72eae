-- What is read from the source.
use Rattle.std.specs.Prelude.{◌≡◌, ◌+◌, ◌≤◌, ℕ, List, Option, length}
use Rattle.std.specs.Io.KnownBytes.{Consumes, IsAtEnd}
use Rattle.mbj_io.specs.Streams.{Stream}
use Rattle.mbj_text.specs.declared.limits.TheConstants.{INPUT_LIMIT}

-- these bytes, no more than an input may have, were read, and the source then was at its end
abbrev pub ReadsAll : Option (List ℕ) → Option (List ℕ) → List ℕ → Type 0
ReadsAll before after bytes = (length bytes ≤ INPUT_LIMIT) × Consumes before after bytes × IsAtEnd after

-- one byte more was read than an input may have
abbrev pub ReadsTooMuch : Option (List ℕ) → Option (List ℕ) → Type 0
ReadsTooMuch before after = (bytes : List ℕ) × (length bytes ≡ INPUT_LIMIT + 1) × Consumes before after bytes

-- the input was read to its end, and a relation holds of its bytes
abbrev pub ReadsBytes : Stream → (List ℕ → Type 0) → Type 0
ReadsBytes input Holds = (bytes : List ℕ) × ReadsAll input.before input.after bytes × Holds bytes
