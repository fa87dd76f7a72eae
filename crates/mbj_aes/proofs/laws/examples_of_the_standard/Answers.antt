-- The checker computes each example of encryption, and decryption undoes it.
use Rattle.std.proofs.Common.{◌≡◌, nat_lt, true, List, ℕ, get_or, refl, sym, ap, ◌∙◌}
use Rattle.std.specs.List.{list_all}
use Rattle.std.proofs.lemmas.Bool.{ltb-true}
use Rattle.std.proofs.lemmas.List.Sums.{AllPass-from_list_all}
use Rattle.mbj_types.specs.Aes.{times, power, sub_byte, inv_sub_byte, schedule, after_rounds, encipher, aes, aes_inverse}
use Rattle.mbj_aes.specs.Bytes.{IsBytes, IsBlock, IsKey}
use Rattle.mbj_aes.specs.Examples.{plaintext, key_128, key_192, key_256, ciphertext_128, ciphertext_192, ciphertext_256}
use Rattle.mbj_aes.proofs.AesLaws.{decryption_undoes}
use Rattle.mbj_aes.proofs.laws.examples_of_the_standard.Goals as goal

pub returns-clause-inv_sub_byte_63 : goal.returns-clause-inv_sub_byte_63
unfolding times power inv_sub_byte
returns-clause-inv_sub_byte_63 c = refl

pub returns-clause-inv_sub_byte_ed : goal.returns-clause-inv_sub_byte_ed
unfolding times power inv_sub_byte
returns-clause-inv_sub_byte_ed c = refl

-- a list whose numbers are tested to be bytes
tested : (xs : List ℕ) → list_all (λ x. nat_lt x 256) xs ≡ true → IsBytes xs
tested xs h k d below = ltb-true (get_or xs k d) 256 (AllPass-from_list_all (λ x. nat_lt x 256) xs h k d below)

-- what was encrypted is the plaintext, decrypted
undone : (key ciphertext : List ℕ) → IsKey key → aes key plaintext ≡ ciphertext → aes_inverse key ciphertext ≡ plaintext
undone key ciphertext k e =
    let block : IsBlock plaintext = record { size = refl; bytes = tested plaintext refl } in
    ap (aes_inverse key) (sym e) ∙ decryption_undoes key plaintext k block

pub returns-clause-aes_128 : goal.returns-clause-aes_128
unfolding times power sub_byte schedule after_rounds encipher aes
returns-clause-aes_128 c = refl

pub returns-clause-aes_128_inverse : goal.returns-clause-aes_128_inverse
returns-clause-aes_128_inverse c =
    undone key_128 ciphertext_128 (record { size = refl; bytes = tested key_128 refl }) (returns-clause-aes_128 c)

pub returns-clause-aes_192 : goal.returns-clause-aes_192
unfolding times power sub_byte schedule after_rounds encipher aes
returns-clause-aes_192 c = refl

pub returns-clause-aes_192_inverse : goal.returns-clause-aes_192_inverse
returns-clause-aes_192_inverse c =
    undone key_192 ciphertext_192 (record { size = refl; bytes = tested key_192 refl }) (returns-clause-aes_192 c)

pub returns-clause-aes_256 : goal.returns-clause-aes_256
unfolding times power sub_byte schedule after_rounds encipher aes
returns-clause-aes_256 c = refl

pub returns-clause-aes_256_inverse : goal.returns-clause-aes_256_inverse
returns-clause-aes_256_inverse c =
    undone key_256 ciphertext_256 (record { size = refl; bytes = tested key_256 refl }) (returns-clause-aes_256 c)
