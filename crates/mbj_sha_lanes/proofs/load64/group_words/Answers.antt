use Rattle.std.proofs.Common.{◌≡◌, ℕ, ◌+◌, List, [], ◌∷◌, refl, sym, ap, ◌∙◌, add-zero, rules}
use Rattle.sha2.specs.Sha512.{word_at}
use Rattle.mbj_sha_lanes.specs.Inside.Columns64.{columns}
use Rattle.mbj_sha_lanes.specs.Words.{places64}
use Rattle.mbj_sha_lanes.proofs.Loading.{IsRead, group_lanes}
use Rattle.mbj_sha_lanes.proofs.Loading64.{word-fits}
use Rattle.mbj_sha_lanes.proofs.load64.group_words.Goals as goal

pub returns-clause-lanes : goal.returns-clause-lanes
returns-clause-lanes g c i lt =
    let block : ℕ → List ℕ = λ k. g.B.Blocks.block c.args.blocks.now (c.args.first + k) in
    let bs : List (List ℕ) = c.block-b0.result.now ∷ c.block-b1.result.now ∷ c.block-b2.result.now ∷ c.block-b3.result.now ∷ [] in
    let w0 : c.transposed.result ≡ columns bs 0 = rw (c.transposed.ensures, c.pair.ensures.words, c.pair-2.ensures.words) refl in
    let w16 : c.transposed-2.result ≡ columns bs 16 = rw (c.transposed-2.ensures, c.pair-3.ensures.words, c.pair-4.ensures.words) refl in
    let w32 : c.transposed-3.result ≡ columns bs 32 = rw (c.transposed-3.ensures, c.pair-5.ensures.words, c.pair-6.ensures.words) refl in
    let w48 : c.transposed-4.result ≡ columns bs 48 = rw (c.transposed-4.ensures, c.pair-7.ensures.words, c.pair-8.ensures.words) refl in
    let w64 : c.transposed-5.result ≡ columns bs 64 = rw (c.transposed-5.ensures, c.pair-9.ensures.words, c.pair-10.ensures.words) refl in
    let w80 : c.transposed-6.result ≡ columns bs 80 = rw (c.transposed-6.ensures, c.pair-11.ensures.words, c.pair-12.ensures.words) refl in
    let w96 : c.transposed-7.result ≡ columns bs 96 = rw (c.transposed-7.ensures, c.pair-13.ensures.words, c.pair-14.ensures.words) refl in
    let w112 : c.transposed-8.result ≡ columns bs 112 = rw (c.transposed-8.ensures, c.pair-15.ensures.words, c.pair-16.ensures.words) refl in
    let r0 : IsRead (block 0) c.block-b0.result.now = record { same = c.block-b0.ensures.block ∙ ap (g.B.Blocks.block c.args.blocks.now) (sym (add-zero c.args.first)); bytes = c.pair.ensures.low } in
    let r1 : IsRead (block 1) c.block-b1.result.now = record { same = c.block-b1.ensures.block; bytes = c.pair-2.ensures.low } in
    let r2 : IsRead (block 2) c.block-b2.result.now = record { same = c.block-b2.ensures.block; bytes = c.pair.ensures.high } in
    let r3 : IsRead (block 3) c.block-b3.result.now = record { same = c.block-b3.ensures.block; bytes = c.pair-2.ensures.high } in
    rw (w0, w16, w32, w48, w64, w80, w96, w112) (group_lanes 64 word_at word-fits block bs places64 (r0, (r1, (r2, (r3, tt)))) i lt)

pub returns-clause-width : goal.returns-clause-width
returns-clause-width g c =
    rw (c.transposed.ensures, c.transposed-2.ensures, c.transposed-3.ensures, c.transposed-4.ensures, c.transposed-5.ensures, c.transposed-6.ensures, c.transposed-7.ensures, c.transposed-8.ensures)
    (search rules)
