use Rattle.std.proofs.Common.{◌∙◌, length-set, eqb, refl, arith}
use Rattle.std.proofs.lemmas.List.{length-map}
use Rattle.mbj_types.specs.Lanes.{lane_of}
use Rattle.mbj_hmac.proofs.Written.{all_chosen, chosen_next}
use Rattle.mbj_hmac.proofs.lane_word.choose.Goals as goal

pub vectors-init : goal.vectors-init
vectors-init g c = record { size = refl; chosen = λ i h. refl }

pub vectors-preserved : goal.vectors-preserved
vectors-preserved g c =
    let lane = g.V.LaneWord.lane in
    let inv = c.vectors.invariant in
    record {
      size = length-set c.vectors.words c.vectors.k c.where_equal.result ∙ inv.size;
      chosen = λ i h. chosen_next (λ v. lane v i) (eqb (lane c.args.x i) (lane c.args.y i)) c.args.same.now c.args.words.now c.vectors.words c.vectors.k
          c.index-same-k.result c.index-words-k.result c.where_equal.result (omega arith) c.requires inv.size c.index-same-k.is c.index-words-k.is
          (c.where_equal.ensures i h) (inv.chosen i h);
    }

pub returns-clause-chosen : goal.returns-clause-chosen
returns-clause-chosen g c i h =
    let lane = g.V.LaneWord.lane in
    let same = c.args.same.now in
    let old = c.args.words.now in
    c.vectors.invariant.chosen i h
    ∙ all_chosen (eqb (lane c.args.x i) (lane c.args.y i)) (lane_of lane same i) (lane_of lane old i) c.vectors.k
    (omega (arith, length-map same (λ v. lane v i), length-map old (λ v. lane v i), c.requires)) (omega (arith, length-map old (λ v. lane v i), c.requires))

pub returns-clause-length : goal.returns-clause-length
returns-clause-length g c = c.vectors.invariant.size
