-- What SHA-224 and SHA-256 have of their own among the hashes of SHA-2, and that it is as they all have it.
use Rattle.std.proofs.Common.{[], ◌∷◌, inl, refl, rules, w32, sym, ◌∙◌}
use Rattle.sha2.specs.Sha256 as Sha256
use Rattle.sha2.proofs.Schedule256.{length-first_words, rounds_next, slice_index-first_words, slice_index-schedule_first, slice_index-schedule_next}
use Rattle.mbj_sha_lanes.specs.Sha2.{IsSha2, Sha2Standard}

abbrev pub sha256 : Sha2Standard
sha256 = record {
  sigmas = (2 ∷ 13 ∷ 22 ∷ []) ∷ (6 ∷ 11 ∷ 25 ∷ []) ∷ (7 ∷ 18 ∷ 3 ∷ []) ∷ (17 ∷ 19 ∷ 10 ∷ []) ∷ [];
  count = 64;
  constants = Sha256.round_constants;
  first_words = λ b. Sha256.first_words b 16;
  schedule = λ b. Sha256.schedule b 48;
  rounds = Sha256.rounds;
}

pub sha256_laws : IsSha2 w32 sha256
unfolding Sha256.rounds
sha256_laws = record {
  sigmas = search rules;
  count = inl refl;
  constants = refl;
  words = λ b. length-first_words b 16;
  schedule_first = λ b t lt. slice_index-schedule_first b 48 t lt ∙ sym (slice_index-first_words b 16 t lt);
  schedule_next = λ b t low high. slice_index-schedule_next b 48 t low high;
  rounds_none = λ v w. refl;
  rounds_next = rounds_next;
}
