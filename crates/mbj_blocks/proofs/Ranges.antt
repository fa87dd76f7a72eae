-- Ranges of a packet.
use Rattle.std.proofs.Common.{◌≡◌, ℕ, ◌+◌, ◌≤◌, List, length, drop, arith, length-drop}
use Rattle.std.proofs.lemmas.List.{length-take-le}
use Rattle.mbj_types.specs.Result.{range}

-- how long a range is that lies in the packet
pub length-range : (off len : ℕ) (packet : List ℕ) → off + len ≤ length packet → length (range off len packet) ≡ len
length-range off len packet h = length-take-le len (drop off packet) (omega (arith, length-drop off packet))
