use Rattle.std.proofs.Common.{◌≡◌, ℕ, ◌+◌, List, [], ◌∷◌, refl, sym, ap, ◌∙◌, add-zero, rules}
use Rattle.sha2.specs.Sha256.{word_at}
use Rattle.mbj_sha_lanes.specs.Inside.Columns32.{columns}
use Rattle.mbj_sha_lanes.specs.Words.{places32}
use Rattle.mbj_sha_lanes.proofs.Loading.{IsRead, group_lanes}
use Rattle.mbj_sha_lanes.proofs.Loading32.{word-fits}
use Rattle.mbj_sha_lanes.proofs.load32.group_words.Goals as goal

pub returns-clause-lanes : goal.returns-clause-lanes
returns-clause-lanes g c i lt =
    let block : ℕ → List ℕ = λ k. g.B.Blocks.block c.args.blocks.now (c.args.first + k) in
    let bs : List (List ℕ) =
    c.block-b0.result.now ∷ c.block-b1.result.now ∷ c.block-b2.result.now ∷ c.block-b3.result.now
    ∷ c.block-b4.result.now ∷ c.block-b5.result.now ∷ c.block-b6.result.now ∷ c.block-b7.result.now ∷ [] in
    let w0 : c.transposed.result ≡ columns bs 0 = rw (c.transposed.ensures, c.pair.ensures.words, c.pair-2.ensures.words, c.pair-3.ensures.words, c.pair-4.ensures.words) refl in
    let w16 : c.transposed-2.result ≡ columns bs 16 = rw (c.transposed-2.ensures, c.pair-5.ensures.words, c.pair-6.ensures.words, c.pair-7.ensures.words, c.pair-8.ensures.words) refl in
    let w32 : c.transposed-3.result ≡ columns bs 32 = rw (c.transposed-3.ensures, c.pair-9.ensures.words, c.pair-10.ensures.words, c.pair-11.ensures.words, c.pair-12.ensures.words) refl in
    let w48 : c.transposed-4.result ≡ columns bs 48 = rw (c.transposed-4.ensures, c.pair-13.ensures.words, c.pair-14.ensures.words, c.pair-15.ensures.words, c.pair-16.ensures.words) refl in
    let r0 : IsRead (block 0) c.block-b0.result.now = record { same = c.block-b0.ensures.block ∙ ap (g.B.Blocks.block c.args.blocks.now) (sym (add-zero c.args.first)); bytes = c.pair.ensures.low } in
    let r1 : IsRead (block 1) c.block-b1.result.now = record { same = c.block-b1.ensures.block; bytes = c.pair-2.ensures.low } in
    let r2 : IsRead (block 2) c.block-b2.result.now = record { same = c.block-b2.ensures.block; bytes = c.pair-3.ensures.low } in
    let r3 : IsRead (block 3) c.block-b3.result.now = record { same = c.block-b3.ensures.block; bytes = c.pair-4.ensures.low } in
    let r4 : IsRead (block 4) c.block-b4.result.now = record { same = c.block-b4.ensures.block; bytes = c.pair.ensures.high } in
    let r5 : IsRead (block 5) c.block-b5.result.now = record { same = c.block-b5.ensures.block; bytes = c.pair-2.ensures.high } in
    let r6 : IsRead (block 6) c.block-b6.result.now = record { same = c.block-b6.ensures.block; bytes = c.pair-3.ensures.high } in
    let r7 : IsRead (block 7) c.block-b7.result.now = record { same = c.block-b7.ensures.block; bytes = c.pair-4.ensures.high } in
    rw (w0, w16, w32, w48) (group_lanes 32 word_at word-fits block bs places32 (r0, (r1, (r2, (r3, (r4, (r5, (r6, (r7, tt)))))))) i lt)

pub returns-clause-width : goal.returns-clause-width
returns-clause-width g c =
    rw (c.transposed.ensures, c.transposed-2.ensures, c.transposed-3.ensures, c.transposed-4.ensures)
    (search rules)
