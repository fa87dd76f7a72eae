-- The code of a seat's state, by which proofs tell states apart.
use Rattle.std.specs.Prelude.{ℕ, List, refl}
use Rattle.std.specs.Coded.{Coded, code_by}
use Rattle.mbj_types.specs.declared.done.Done.{Done}
use Rattle.mbj_core.specs.declared.party.Phase.{Phase}
use Rattle.mbj_c.specs.declared.range.CipherRange.{CipherRange}
use Rattle.mbj_c.specs.Seats.{SeatState}

-- the parts of a party's part of the front, how many submitters there are, and the ranges
abbrev pub SeatParts : Type 0
SeatParts = ℕ × (Phase × (List Done × (ℕ × (List (ℕ × Done) × (List (ℕ × ℕ) × (ℕ × List CipherRange))))))

abbrev pub seat_code : Coded SeatParts → Coded SeatState
seat_code parts =
    code_by SeatParts parts
    (λ s. (s.part.number, (s.part.phase, (s.part.due, (s.part.handed, (s.part.hand, (s.part.looks, (s.submitters, s.ranges))))))))
    (λ p. record {
      part = record { number = p.0; phase = p.1.0; due = p.1.1.0; handed = p.1.1.1.0; hand = p.1.1.1.1.0; looks = p.1.1.1.1.1.0 };
      submitters = p.1.1.1.1.1.1.0;
      ranges = p.1.1.1.1.1.1.1;
    })
    (λ s. refl)
