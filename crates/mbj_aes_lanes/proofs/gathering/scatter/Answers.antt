-- One entry more goes back in each turn.
use Rattle.std.proofs.Common.{◌≡◌, ℕ, suc, ◌-◌, List, swap, length, slice_index, sym, ap, ◌∙◌, arith}
use Rattle.std.proofs.lemmas.List.Edits.{length-swap}
use Rattle.mbj_aes_lanes.specs.Inside.Gathered.{ungathered}
use Rattle.mbj_aes_lanes.proofs.gathering.scatter.Goals as goal

-- the last of n is the first to go back
next : {A : Type 0} (from : ℕ → ℕ) (n p : ℕ) (es : List A) → n ≡ suc p → ungathered from p (swap es p (from p)) ≡ ungathered from n es
next from n p es is = ap (λ k. ungathered from k es) (sym is)

pub entries-preserved : goal.entries-preserved
entries-preserved g c =
    let from = slice_index c.args.origins.now.from in
    let at : ℕ = c.entries.p - 1 in record {
      size = ap length c.swap.ensures.after ∙ length-swap c.entries.slots at (from at) ∙ c.entries.invariant.size;
      back = ap (ungathered from at) c.swap.ensures.after ∙ next from c.entries.p at c.entries.slots (omega arith) ∙ c.entries.invariant.back;
    }

pub returns : goal.returns
returns g c =
    let none : 0 ≡ c.entries.p = omega arith in
    ap (λ k. ungathered (slice_index c.args.origins.now.from) k c.entries.slots) none ∙ c.entries.invariant.back
