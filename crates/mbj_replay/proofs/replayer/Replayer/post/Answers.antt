-- The job that is posted is the file's job of that number, and so is its copy.
use Rattle.std.proofs.Common.{◌≡◌, ◌∙◌, ◌+◌, ap, sym, refl, ℕ, Some, length, set, arith}
use Rattle.std.specs.Prelude.{slice_get}
use Rattle.std.proofs.lemmas.Option.{get_or_from_slice_get, same_Some, slice_get_read}
use Rattle.mbj_types.specs.declared.job.Job.{Job}
use Rattle.mbj_core.specs.Cells.{cell_of}
use Rattle.mbj_core.specs.CoreStates.{CoreState, jobs_out, next_cell}
use Rattle.mbj_replay.specs.Inside.State.{state_of, with_copy}
use Rattle.mbj_replay.specs.declared.replayer.Posted.{Posted}
use Rattle.mbj_replay.specs.declared.replayer.Unposted.{Unposted}
use Rattle.mbj_replay.proofs.Places.{next-at}
use Rattle.mbj_replay.proofs.Commands.{next-left, post-plays}
use Rattle.mbj_replay.proofs.CommandLines.{post-is, post-state}
use Rattle.mbj_replay.proofs.replayer.Replayer.post.Given.{Over}
use Rattle.mbj_replay.proofs.replayer.Replayer.post.Goals as goal
use Rattle.mbj_replay.proofs.replayer.Replayer.post.Goals.{After-index_mut}

entry-at : (g : Over) (c : After-index_mut g) → slice_get c.args.self.now.unposted.items c.index-number.result.now ≡ Some c.index_mut.result.now
entry-at g c =
    let unposted = c.args.self.now.unposted in
    slice_get_read unposted.items (length unposted.items) c.index-number.result.now c.index_mut.result.now refl
    (omega (arith, c.if-at-len.false, c.len.ensures, unposted.ok.0)) c.index_mut.ensures.value

own-job : (g : Over) (c : After-index_mut g) → (job : Job) × (slice_get g.jobs c.index-number.result.now ≡ Some job) × (c.index_mut.result.now ≡ with_copy job)
own-job g c =
    let r = c.args.self.now in
    let n = c.index-number.result.now in
    next-left g.jobs r c.args.s n c.index_mut.result.now c.requires.0 (next-at g.jobs r c.args.s n c.requires.0 c.requires.1.1 c.index-number.ensures) (entry-at g c)

-- the file's job of this number is the one whose copy is answered
copy-is : (g : Over) (c : After-index_mut g) (copy : Job) → c.index_mut.result.now ≡ with_copy copy → slice_get g.jobs c.index-number.result.now ≡ Some copy
copy-is g c copy at =
    let own = own-job g c in
    own.1 ∙ ap (λ (u : Unposted). Some u.copy) (same_Some _ _ (sym own.2 ∙ at))

pub post_entry-copy-requires-clause-entry : goal.post_entry-copy-requires-clause-entry
post_entry-copy-requires-clause-entry g c = let own = own-job g c in (own.0, own.2)

pub post_entry-copy-requires-clause-room : goal.post_entry-copy-requires-clause-room
post_entry-copy-requires-clause-room g c e = c.if-out-eq-SUBMITTER_CELLS.false (c.out-out.ensures.out ∙ e)

pub returns-clause-told : goal.returns-clause-told
returns-clause-told g c =
    let r = c.args.self.now in
    let n = c.index-number.result.now in
    let copy = c.post_entry-copy.result in
    let is_job = copy-is g (goal.at.returns-clause-told g c).After-index_mut copy c.post_entry-copy.ensures.copy in
    let next = next-at g.jobs r c.args.s n c.requires.0 c.requires.1.1 c.index-number.ensures in
    let cell : c.cell_behind-cell.result ≡ next_cell r.core c.args.s
    = c.cell_behind-cell.ensures.cell ∙ ap (λ (k : ℕ). cell_of c.args.s ((jobs_out r.core c.args.s).first + k)) c.out-out.ensures.out in
    let submitters : c.submitters.result ≡ r.core.submitters = c.submitters.ensures.0 ∙ ap (λ (d : CoreState). d.submitters) c.post_entry-copy.ensures.posted in
    post-is g.jobs c.args.s n copy (state_of r) _ (sym (get_or_from_slice_get r.nexts.items c.args.s n 0 next)) is_job
    (λ e. c.if-out-eq-SUBMITTER_CELLS.false (c.out-out.ensures.out ∙ e))
    (post-state r c.post_entry-copy.new.core c.args.s n c.submitters.result c.cell_behind-cell.result copy c.put.new.self
    c.post_entry-copy.ensures.posted submitters cell (ap (λ (x : Posted). x.number) c.put.ensures))

pub returns-clause-playing : goal.returns-clause-playing
returns-clause-playing g c =
    let r = c.args.self.now in
    let n = c.index-number.result.now in
    let copy = c.post_entry-copy.result in
    let is_job = copy-is g (goal.at.returns-clause-playing g c).After-index_mut copy c.post_entry-copy.ensures.copy in
    let next = next-at g.jobs r c.args.s n c.requires.0 c.requires.1.1 c.index-number.ensures in
    let cell : c.cell_behind-cell.result ≡ next_cell r.core c.args.s
    = c.cell_behind-cell.ensures.cell ∙ ap (λ (k : ℕ). cell_of c.args.s ((jobs_out r.core c.args.s).first + k)) c.out-out.ensures.out in
    let submitters : c.submitters.result ≡ r.core.submitters = c.submitters.ensures.0 ∙ ap (λ (d : CoreState). d.submitters) c.post_entry-copy.ensures.posted in
    post-plays g.jobs r c.post_entry-copy.new.core c.args.s n c.cell_behind-cell.result copy c.post_entry-copy.new.entry c.put.new.self
    _ _ _ c.requires.0 c.requires.1.1 next is_job (ap (λ (x : Posted). x.copy) c.put.ensures) cell
    c.post_entry-copy.ensures.posted c.post_entry-copy.ensures.leads (ap (λ (k : ℕ). set r.nexts.items c.args.s (n + k)) submitters) refl refl
