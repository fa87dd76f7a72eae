use Rattle.std.proofs.Common.{◌≡◌, ◌≤◌, ap, sym, subst, All, List, length}
use Rattle.mbj_types.specs.declared.job.Job.{Job}
use Rattle.mbj_text.specs.declared.limits.TheConstants.{JOB_LIMIT}
use Rattle.mbj_replay.specs.Replay.{IsFor, Replaying, replay_lines}
use Rattle.mbj_replay.specs.Inside.State.{IsPlaying, state_of}
use Rattle.mbj_replay.proofs.CommandLines.{answered-by}
use Rattle.mbj_replay.proofs.NewReplayers.{all-left, jobs_left}
use Rattle.mbj_replay.proofs.replayer.replay_lines.Goals as goal

pub play-requires : goal.play-requires
play-requires c =
    let r = c.in_ok-replayer.replayer in
    let same : jobs_left r.unposted.items ≡ c.args.jobs.items = all-left c.args.jobs.items r.unposted.items c.in_ok-replayer.ensures.jobs in
    let parties : (state_of r).core ≡ _ = ap (λ (q : Replaying). q.core) c.in_ok-replayer.ensures.state in (
      subst (λ (js : List Job). IsPlaying js r) (sym same) c.in_ok-replayer.ensures.playing,
      (
        subst (λ (js : List Job). length js ≤ JOB_LIMIT) (sym same) c.requires.jobs,
        subst (λ q. All (IsFor q.submitters q.workers) c.args.commands.items) (sym parties) c.requires.parties,
      ),
    )

pub returns : goal.returns
unfolding replay_lines
returns c =
    let r = c.in_ok-replayer.replayer in
    answered-by c.play.result (jobs_left r.unposted.items) c.args.jobs.items c.args.commands.items (state_of r) _
    (all-left c.args.jobs.items r.unposted.items c.in_ok-replayer.ensures.jobs) c.in_ok-replayer.ensures.state c.play.ensures
