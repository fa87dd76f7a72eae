-- A replay's lines tell of a run of events from the new front.
use Rattle.std.proofs.Common.{◌≡◌, slice_index, ◌+◌, ◌*◌, ◌++◌, [], ◌∷◌, ap, sym, subst, refl, ℕ, List, Option, All, option_to_list}
use Rattle.std.specs.Prelude.{slice_get}
use Rattle.std.specs.List.{AllZip, flat_map}
use Rattle.std.proofs.lemmas.List.{length-replicate}
use Rattle.std.proofs.lemmas.List.Concat.{flat_map-append}
use Rattle.std.proofs.lemmas.Option.{none-some}
use Rattle.mbj_types.specs.Result.{result_of}
use Rattle.mbj_types.specs.declared.job.Job.{Job}
use Rattle.mbj_types.specs.declared.done.Done.{Done}
use Rattle.mbj_core.specs.Cells.{Cell, free, ready}
use Rattle.mbj_core.specs.Parties.{FrontState, new_front}
use Rattle.mbj_core.specs.Runs.{Run}
use Rattle.mbj_core.specs.Stands.{StandsFor}
use Rattle.mbj_core.specs.declared.cells.TheConstants.{SUBMITTER_CELLS}
use Rattle.mbj_core.proofs.Calls.{outs_from}
use Rattle.mbj_core.proofs.New.{new_stands}
use Rattle.mbj_core.proofs.RunLaws.{new_front_sound}
use Rattle.mbj_manager.specs.State.{ManagerState, new_manager}
use Rattle.mbj_text.specs.declared.command.Cmd.{Cmd}
use Rattle.mbj_text.specs.declared.command.Cmd.TheVariants as command
use Rattle.mbj_replay.specs.Events.{Answered, ReplaysAreOfEvents, Tells}
use Rattle.mbj_replay.specs.Replay.{IsFor, Replaying, replayed, new_replay, replay_lines, told}
use Rattle.mbj_replay.proofs.CommandLines.{all-first, all-rest}
use Rattle.mbj_replay.proofs.NewReplayers.{alike}
use Rattle.mbj_replay.proofs.Playing.{Goes, Plays}
use Rattle.mbj_replay.proofs.Submitters.{collect-goes, earliest_out, post-goes}
use Rattle.mbj_replay.proofs.Workers.{claim-goes, flush-goes}

-- each command
told-goes : (jobs : List Job) (c : Cmd) (r : Replaying) (f : FrontState Job Done) → Plays jobs r f → IsFor r.core.submitters r.core.workers c
    → Goes jobs r f (told jobs c r)
told-goes jobs (command.Post s) r f plays own =
    post-goes jobs s (slice_index r.nexts s) (slice_get jobs (slice_index r.nexts s)) r f plays own refl
told-goes jobs (command.Claim w s) r f plays own = claim-goes jobs w s r f plays own.0
told-goes jobs (command.Flush w) r f plays own = flush-goes jobs w r f plays own
told-goes jobs (command.Collect s) r f plays own = collect-goes jobs s (earliest_out r.core s) r f plays own refl

zip-append : {A B : Type 0} (R : A → B → Type 0) (xs zs : List A) (ys ws : List B) → AllZip R xs ys → AllZip R zs ws → AllZip R (xs ++ zs) (ys ++ ws)
zip-append R [] zs [] ws first later = later
zip-append R [] zs (y ∷ ys) ws first later = absurd first
zip-append R (x ∷ xs) zs [] ws first later = absurd first
zip-append R (x ∷ xs) zs (y ∷ ys) ws first later = (first.0, zip-append R xs zs ys ws first.1 later)

run-append : (submitters workers : ℕ) (f g h : FrontState Job Done) (first later : List Answered) → Run result_of submitters workers f first g
    → Run result_of submitters workers g later h → Run result_of submitters workers f (first ++ later) h
run-append submitters workers f g h [] later one two = subst (λ (k : FrontState Job Done). Run result_of submitters workers k later h) one two
run-append submitters workers f g h (e ∷ first) later one two = (one.0, one.1, run-append submitters workers one.0 g h first later one.2 two)

-- from r on, where the core stands for f
abbrev pub AreOfEvents : List Job → ℕ → ℕ → List Cmd → Replaying → FrontState Job Done → Type 0
AreOfEvents jobs submitters workers commands r f =
    (events : List (Option Answered)) × (g : FrontState Job Done)
    × AllZip (Tells jobs submitters) (replayed jobs commands r).0 events
    × Run result_of submitters workers f (flat_map option_to_list events) g
    × StandsFor (replayed jobs commands r).1.core g

are-of-events : (jobs : List Job) (commands : List Cmd) (r : Replaying) (f : FrontState Job Done) → Plays jobs r f
    → All (IsFor r.core.submitters r.core.workers) commands → AreOfEvents jobs r.core.submitters r.core.workers commands r f
are-of-events jobs [] r f plays own = ([], f, tt, refl, plays.stands.front)
are-of-events jobs (c ∷ commands) r f plays own =
    let S : ℕ = r.core.submitters in
    let W : ℕ = r.core.workers in
    let one = told-goes jobs c r f plays (all-first (IsFor S W) (c ∷ commands) commands c refl own) in
    let q : Replaying = (told jobs c r).1 in
    let left : All (IsFor q.core.submitters q.core.workers) commands
    = subst (λ (n : ℕ × ℕ). All (IsFor n.0 n.1) commands) (λ t. (sym one.submitters t, sym one.workers t)) (all-rest (IsFor S W) (c ∷ commands) commands c refl own) in
    let later : AreOfEvents jobs S W commands q one.to
    = subst (λ (n : ℕ × ℕ). AreOfEvents jobs n.0 n.1 commands q one.to) (λ t. (one.submitters t, one.workers t)) (are-of-events jobs commands q one.to one.plays left) in (
      one.events ++ later.0,
      later.1,
      zip-append (Tells jobs S) (told jobs c r).0 (replayed jobs commands q).0 one.events later.0 one.tells later.2,
      subst (λ (es : List Answered). Run result_of S W f es later.1) (sym (flat_map-append option_to_list one.events later.0))
          (run-append S W f one.to later.1 (flat_map option_to_list one.events) (flat_map option_to_list later.0) one.run later.3),
      later.4,
    )

begins : (jobs : List Job) (submitters workers : ℕ) → Plays jobs (new_replay submitters workers) new_front
begins jobs submitters workers = record {
  stands = record {
    sizes = record {
      cells = length-replicate (SUBMITTER_CELLS * submitters) free;
      hands = length-replicate (submitters + workers) [];
      outs = length-replicate submitters (outs_from 0 0);
    };
    front = new_stands submitters workers;
    law = (new_front_sound result_of submitters workers).1;
    manager_count = length-replicate workers new_manager;
    number_count = length-replicate (SUBMITTER_CELLS * submitters) 0;
    jobs_are = λ cell job below there. let bad : ◌≡◌ {A = Cell Job Done} free (ready job) = there in cc;
    results = λ cell d below there. absurd (none-some d there);
  };
  owes = λ w m at. ap (λ (x : ManagerState). x.owed) (alike workers new_manager m w at);
}

pub replays-are-of-events : ReplaysAreOfEvents
unfolding replay_lines
replays-are-of-events jobs commands submitters workers own =
    are-of-events jobs commands (new_replay submitters workers) new_front (begins jobs submitters workers) own
