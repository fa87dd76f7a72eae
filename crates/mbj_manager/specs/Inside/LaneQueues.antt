-- The lane queues of all kinds.
use Rattle.std.specs.Prelude.{ℕ, List, length, sum_by}
use Rattle.mbj_types.specs.Kinds.{all_kinds}
use Rattle.mbj_types.specs.declared.kind.Kind.{Kind}
use Rattle.mbj_types.specs.declared.kind.Kind.TheVariants as kind
use Rattle.mbj_stage.specs.CourseState.{CourseState}
use Rattle.mbj_manager.specs.declared.lane_queues.LaneQueues.{LaneQueues}
use Rattle.mbj_manager.specs.Inside.PlacedQueue.{PlacedQueue, no_queue}
use Rattle.mbj_manager.specs.Inside.QueueView.{QueueView, queue_view_at}

abbrev pub placed_in : Kind → LaneQueues → PlacedQueue
placed_in kind.Cbc128 ls = ls.cbc128
placed_in kind.Cbc192 ls = ls.cbc192
placed_in kind.Cbc256 ls = ls.cbc256
placed_in kind.Cmac128 ls = ls.cmac128
placed_in kind.Cmac256 ls = ls.cmac256
placed_in kind.HmacSha1 ls = ls.hmac_sha1
placed_in kind.HmacSha256 ls = ls.hmac_sha256
placed_in kind.HmacSha512 ls = ls.hmac_sha512
placed_in kind.Ccm128 ls = ls.ccm128
placed_in kind.Ccm192 ls = ls.ccm192
placed_in kind.Ccm256 ls = ls.ccm256

-- with another lane queue of a kind, and another count
abbrev pub with_placed : Kind → PlacedQueue → ℕ → LaneQueues → LaneQueues
with_placed kind.Cbc128 l n ls = record ls { cbc128 = l; flush_runs = n }
with_placed kind.Cbc192 l n ls = record ls { cbc192 = l; flush_runs = n }
with_placed kind.Cbc256 l n ls = record ls { cbc256 = l; flush_runs = n }
with_placed kind.Cmac128 l n ls = record ls { cmac128 = l; flush_runs = n }
with_placed kind.Cmac256 l n ls = record ls { cmac256 = l; flush_runs = n }
with_placed kind.HmacSha1 l n ls = record ls { hmac_sha1 = l; flush_runs = n }
with_placed kind.HmacSha256 l n ls = record ls { hmac_sha256 = l; flush_runs = n }
with_placed kind.HmacSha512 l n ls = record ls { hmac_sha512 = l; flush_runs = n }
with_placed kind.Ccm128 l n ls = record ls { ccm128 = l; flush_runs = n }
with_placed kind.Ccm192 l n ls = record ls { ccm192 = l; flush_runs = n }
with_placed kind.Ccm256 l n ls = record ls { ccm256 = l; flush_runs = n }

-- lane queues with nobody in them, and counts of 0
abbrev pub no_queues : LaneQueues
no_queues = record {
  cbc128 = no_queue;
  cbc192 = no_queue;
  cbc256 = no_queue;
  cmac128 = no_queue;
  cmac256 = no_queue;
  hmac_sha1 = no_queue;
  hmac_sha256 = no_queue;
  hmac_sha512 = no_queue;
  ccm128 = no_queue;
  ccm192 = no_queue;
  ccm256 = no_queue;
  flush_runs = 0;
}

abbrev pub waiting_in : LaneQueues → Kind → ℕ
waiting_in ls k = length (placed_in k ls).queued

-- how many wait in all of them
abbrev pub total : LaneQueues → ℕ
total ls = sum_by (waiting_in ls) all_kinds

-- the lane queue of a kind with the courses and the agenda
abbrev pub queue_view_of : Kind → (ℕ → ℕ) → List CourseState → List ℕ → LaneQueues → QueueView
queue_view_of k f cs agenda ls = queue_view_at f cs agenda (placed_in k ls) ls.flush_runs
