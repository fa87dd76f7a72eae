-- What SHA-384 and SHA-512 have of their own among the hashes of SHA-2, and that it is as they all have it.
use Rattle.std.proofs.Common.{[], ◌∷◌, inr, refl, rules, w64, sym, ◌∙◌}
use Rattle.sha2.specs.Sha512 as Sha512
use Rattle.sha2.proofs.Schedule512.{length-first_words, rounds_next, slice_index-first_words, slice_index-schedule_first, slice_index-schedule_next}
use Rattle.mbj_sha_lanes.specs.Sha2.{IsSha2, Sha2Standard}

abbrev pub sha512 : Sha2Standard
sha512 = record {
  sigmas = (28 ∷ 34 ∷ 39 ∷ []) ∷ (14 ∷ 18 ∷ 41 ∷ []) ∷ (1 ∷ 8 ∷ 7 ∷ []) ∷ (19 ∷ 61 ∷ 6 ∷ []) ∷ [];
  count = 80;
  constants = Sha512.round_constants;
  first_words = λ b. Sha512.first_words b 16;
  schedule = λ b. Sha512.schedule b 64;
  rounds = Sha512.rounds;
}

pub sha512_laws : IsSha2 w64 sha512
unfolding Sha512.rounds
sha512_laws = record {
  sigmas = search rules;
  count = inr refl;
  constants = refl;
  words = λ b. length-first_words b 16;
  schedule_first = λ b t lt. slice_index-schedule_first b 64 t lt ∙ sym (slice_index-first_words b 16 t lt);
  schedule_next = λ b t low high. slice_index-schedule_next b 64 t low high;
  rounds_none = λ v w. refl;
  rounds_next = rounds_next;
}
