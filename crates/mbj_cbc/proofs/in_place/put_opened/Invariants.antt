-- The blocks before the next one are in their places, the chain is what the next one is xored with, and the blocks behind
-- them are as they were.
use Rattle.std.proofs.Common.{◌≡◌, ℕ, ◌+◌, ◌*◌, ◌<◌, List, [], get_or, length, drop}
use Rattle.mbj_types.specs.Modes.{uncbc}
use Rattle.mbj_blocks.specs.Places.{block_of}
use Rattle.mbj_blocks.specs.Walked.{Walked}
use Rattle.mbj_cbc.proofs.in_place.put_opened.Given as goal

abbrev pub invariant-each : goal.invariant-each
invariant-each l = record {
  size : length l.chain ≡ 16;
  walked :
      (d : List ℕ → List ℕ) (whole : List ℕ)
      → ((j : ℕ) → j < length l.opened → get_or l.opened j [] ≡ d (block_of l.initial.text (l.first + j)))
      → Walked (uncbc d l.initial.chain) l.initial.text l.first whole → Walked (uncbc d l.chain) l.text (l.first + l.j) whole;
  left : drop (16 * (l.first + l.j)) l.text ≡ drop (16 * (l.first + l.j)) l.initial.text;
}
