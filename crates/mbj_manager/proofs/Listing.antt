-- Who waits in a lane queue has an entry out: when one joins, and when the course of another changes.
use Rattle.std.proofs.Common.{◌≡◌, ◌≢◌, ℕ, ◌+◌, ◌*◌, ◌%◌, ◌≤◌, List, [], ◌∷◌, ◌++◌, length, map, refl, ap, sym, ◌∙◌, subst, arith}
use Rattle.std.proofs.lemmas.Bool.{eq-eqb, ne_eqb}
use Rattle.std.proofs.lemmas.List.{length-append, map-append}
use Rattle.mbj_lane.specs.Rounds.{least}
use Rattle.std.proofs.lemmas.List.Elements.{All-push}
use Rattle.mbj_types.specs.declared.kind.Kind.{Kind}
use Rattle.mbj_stage.specs.CourseState.{CourseState}
use Rattle.mbj_stage.specs.Handing.{IsNext, IsOut, handed_out}
use Rattle.mbj_manager.specs.Machine.Queues.{changed, count_end}
use Rattle.mbj_manager.specs.declared.lane.Cause.{Cause}
use Rattle.mbj_manager.specs.declared.lane.Cause.TheVariants as cause
use Rattle.mbj_manager.specs.Inside.Leaving.{At, Gives, IsAbsent}
use Rattle.mbj_manager.specs.Inside.QueueView.{QueueView, IsReady, Listed, MayEnter, queue_view, queue_view_at, joined_by, advanced_all, left_by, left_now, ran_at, ran_if_full}
use Rattle.mbj_manager.specs.Inside.PlacedQueue.{EntryView, HasRest, PlacedQueue, PlacedEntry, advanced_queue, advanced_entry, numbered, pair_rest, rounds_in, with_queued}
use Rattle.mbj_manager.specs.Inside.Held.{IsHere}
use Rattle.mbj_manager.proofs.Finishing.{listed-changed}
use Rattle.mbj_manager.proofs.Numbering.{numbered-least, numbered-advanced}
use Rattle.mbj_manager.proofs.Joining.{at-here, at-made, here-not-out}

-- a job whose packet is here is in no lane queue
pub absent-listed : (j : Kind) (m : ℕ) (cs : List CourseState) (ws : List PlacedEntry) → At IsHere m cs → Listed j cs ws → IsAbsent m ws
absent-listed j m cs [] h r = tt
absent-listed j m cs (w ∷ ws) h r =
    ((λ z. here-not-out j w.1.brings m cs h (subst (λ (n : ℕ). At (IsOut j w.1.brings) n cs) z r.0)), absent-listed j m cs ws h r.2)

pub absent-end : (m : ℕ) (w : PlacedEntry) (ws : List PlacedEntry) → IsAbsent m ws → w.0 ≢ m → IsAbsent m (ws ++ w ∷ [])
absent-end m w [] a h = (h, tt)
absent-end m w (v ∷ ws) a h = (a.0, absent-end m w ws a.1 h)

pub listed-join : (k : Kind) (w : PlacedEntry) (cs : List CourseState) (ws : List PlacedEntry) → At (IsOut k w.1.brings) w.0 cs → IsAbsent w.0 ws → Listed k cs ws
    → Listed k cs (ws ++ w ∷ [])
listed-join k w cs [] o a r = (o, tt, tt)
listed-join k w cs (v ∷ ws) o a r = (r.0, absent-end v.0 w ws r.1 (λ z. a.0 (sym z)), listed-join k w cs ws o a.1 r.2)

-- the lane queue that a job joined
pub joined-listed : (k : Kind) (w : PlacedEntry) (cs : List CourseState) (ws : List PlacedEntry) → At (IsNext k) w.0 cs → At (Gives k w.1.rounds w.1.brings) w.0 cs
    → Listed k cs ws → Listed k (changed handed_out w.0 cs) (ws ++ w ∷ [])
joined-listed k w cs ws next gives r =
    let a = absent-listed k w.0 cs ws (at-here k w.0 cs next) r in
    listed-join k w (changed handed_out w.0 cs) ws (at-made k w.1.rounds w.1.brings w.0 cs next gives) a (listed-changed k handed_out w.0 cs ws a r)

-- it may run
pub joined-ready : (lanes : ℕ) (k : Kind) (n : ℕ) (a : EntryView) (d : QueueView) (room : ℕ) → MayEnter lanes k n d room → 1 ≤ a.rounds
    → At (Gives k a.rounds a.brings) n d.courses → IsReady k (joined_by n a d) room
joined-ready lanes k n a d room may some gives =
    let more = length-append d.queued ((n, a) ∷ []) in
    record {
      some = omega arith;
      rests = All-push HasRest d.queued (n, a) may.rests some;
      listed = joined-listed k (n, a) d.courses d.queued may.next gives may.listed;
      room_left = (let left = may.room_left in omega arith);
    }

pub full-runs : (at : Cause) (lanes : ℕ) (d : QueueView) → length d.queued ≡ lanes → ran_if_full at lanes d ≡ ran_at at d
full-runs at lanes d e = rw (eq-eqb (length d.queued) lanes e) refl

pub else-waits : (at : Cause) (lanes : ℕ) (d : QueueView) → length d.queued ≢ lanes → ran_if_full at lanes d ≡ d
else-waits at lanes d ne = rw (ne_eqb (length d.queued) lanes ne) refl

-- ---- what is seen of a list with the courses and the agenda

-- a job joins
pub joined-queue_view : (f : ℕ → ℕ) (cs cs' : List CourseState) (agenda : List ℕ) (l l' : PlacedQueue) (p : ℕ) (a : EntryView) (runs : ℕ) → cs' ≡ changed handed_out (f p) cs
    → l' ≡ with_queued p a l → queue_view_at f cs' agenda l' runs ≡ joined_by (f p) a (queue_view_at f cs agenda l runs)
joined-queue_view f cs cs' agenda l l' p a runs out join =
    rw (out, join) (ap (λ (ws : List PlacedEntry). queue_view (changed handed_out (f p) cs) (map f agenda) ws l.rounds l.blocks runs)
    (map-append (λ (w : PlacedEntry). (f w.0, w.1)) l.queued ((p, a) ∷ [])))

-- those leave whose rounds are done, once all were advanced by the least rest
pub advanced-queue_view : (f : ℕ → ℕ) (cs : List CourseState) (agenda : List ℕ) (l l' : PlacedQueue) (m runs : ℕ) → l' ≡ advanced_queue m l → m ≡ least (pair_rest rounds_in) l.queued
    → left_now (queue_view_at f cs agenda l' 0) ≡ record (left_by (advanced_all (numbered f l.queued)) (queue_view_at f cs agenda l runs)) { flush_runs = 0 }
advanced-queue_view f cs agenda l l' m runs advanced is =
    let ws : numbered f (map (advanced_entry m) l.queued) ≡ advanced_all (numbered f l.queued)
    = numbered-advanced f m l.queued ∙ ap (λ (n : ℕ). map (advanced_entry n) (numbered f l.queued)) (is ∙ sym (numbered-least f l.queued)) in
    rw (advanced, ws) refl

-- the run within a submit, and the one within a flush
pub counted-run : (d e : QueueView) (m lanes : ℕ) → e ≡ record (left_by (advanced_all d.queued) d) { flush_runs = 0 } → m ≡ least (pair_rest rounds_in) d.queued
    → lanes ≡ length d.queued
    → record e { rounds = (e.rounds + m) % count_end; blocks = (e.blocks + m * lanes) % count_end; flush_runs = d.flush_runs } ≡ ran_at cause.Submit d
counted-run d e m lanes is least-is lanes-are = rw (is, least-is, lanes-are) refl

pub flushed-run : (d e : QueueView) → e ≡ record (left_by (advanced_all d.queued) d) { flush_runs = 0 }
    → record e { flush_runs = (d.flush_runs + 1) % count_end } ≡ ran_at cause.Flush d
flushed-run d e is = rw is refl
