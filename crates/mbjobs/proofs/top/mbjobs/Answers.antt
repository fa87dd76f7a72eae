-- If the input tells its bytes, what they are decides the status.
use Rattle.std.proofs.Common.{◌≡◌, ◌⊎◌, ◌∙◌, arith, inl, inr, refl, subst, sym}
use Rattle.mbjobs.specs.Outcome.{AsksFor, IsBadFor, IsOverFor}
use Rattle.mbj_io.specs.Streams.{Stream, stream}
use Rattle.mbjobs.proofs.Endings.{along, bad_ends, bad_not_whole, good_ends, over_ends, over_not_whole, same-command, status_6}
use Rattle.mbjobs.proofs.Statuses.{known, never, read_is_3, status_3, status_4, status_5, write_is_4}
use Rattle.mbjobs.proofs.top.mbjobs.Goals as goal

pub returns-in-Err-clause-unread : goal.returns-in-Err-clause-unread
returns-in-Err-clause-unread g c = λ here. record { bytes = refl; faults = refl }

pub returns-in-Err-clause-gen_unread : goal.returns-in-Err-clause-gen_unread
returns-in-Err-clause-gen_unread g c = λ n m s w found. record { bytes = refl; faults = refl }

pub returns-in-Err-clause-calm : goal.returns-in-Err-clause-calm
returns-in-Err-clause-calm g c = λ other. refl

pub returns-in-Ok-carry_out-clause-only_bad : goal.returns-in-Ok-carry_out-clause-only_bad
returns-in-Ok-carry_out-clause-only_bad g c = λ d bytes line field found tells short bad calm.
    let input : Stream = stream g.S.Source.rest g.S.Source.faults c.args.input.now c.carry_out.new.input in
    let out : Stream = stream g.O.Sink.held g.O.Sink.faults c.args.out.now c.carry_out.new.out in
    let same = same-command _ c.in-Ok.command d c.in-Ok.ensures.found found in
    absurd {A = (0 ≡ 5) ⊎ (0 ≡ 7)} (bad_not_whole c.in-Ok.command input out _ bytes line field c.in-Ok-carry_out.ensures.ok tells (subst (λ k. IsBadFor k bytes line field) same bad))

pub returns-in-Ok-carry_out-clause-only_over : goal.returns-in-Ok-carry_out-clause-only_over
returns-in-Ok-carry_out-clause-only_over g c = λ d bytes line found tells short over calm.
    let input : Stream = stream g.S.Source.rest g.S.Source.faults c.args.input.now c.carry_out.new.input in
    let out : Stream = stream g.O.Sink.held g.O.Sink.faults c.args.out.now c.carry_out.new.out in
    let same = same-command _ c.in-Ok.command d c.in-Ok.ensures.found found in
    absurd {A = (0 ≡ 6) ⊎ (0 ≡ 7)} (over_not_whole c.in-Ok.command input out _ bytes line c.in-Ok-carry_out.ensures.ok tells (subst (λ k. IsOverFor k bytes line) same over))

pub returns-in-Ok-carry_out-clause-words : goal.returns-in-Ok-carry_out-clause-words
returns-in-Ok-carry_out-clause-words g c = λ here. absurd (omega (arith, here))

pub returns-in-Ok-carry_out-clause-unread : goal.returns-in-Ok-carry_out-clause-unread
returns-in-Ok-carry_out-clause-unread g c = λ here. absurd (omega (arith, here))

pub returns-in-Ok-carry_out-clause-read_failed : goal.returns-in-Ok-carry_out-clause-read_failed
returns-in-Ok-carry_out-clause-read_failed g c = λ here. absurd (omega (arith, here))

pub returns-in-Ok-carry_out-clause-write_failed : goal.returns-in-Ok-carry_out-clause-write_failed
returns-in-Ok-carry_out-clause-write_failed g c = λ here. absurd (omega (arith, here))

pub returns-in-Ok-carry_out-clause-bad : goal.returns-in-Ok-carry_out-clause-bad
returns-in-Ok-carry_out-clause-bad g c = λ here. absurd (omega (arith, here))

pub returns-in-Ok-carry_out-clause-over : goal.returns-in-Ok-carry_out-clause-over
returns-in-Ok-carry_out-clause-over g c = λ here. absurd (omega (arith, here))

pub returns-in-Ok-carry_out-clause-told_words : goal.returns-in-Ok-carry_out-clause-told_words
returns-in-Ok-carry_out-clause-told_words g c = λ here. absurd (omega (arith, here))

pub returns-in-Ok-carry_out-clause-untouched : goal.returns-in-Ok-carry_out-clause-untouched
returns-in-Ok-carry_out-clause-untouched g c = λ some other. absurd (some refl)

pub returns-in-Ok-carry_out-clause-told : goal.returns-in-Ok-carry_out-clause-told
returns-in-Ok-carry_out-clause-told g c = λ some other. absurd (some refl)

pub returns-in-Ok-carry_out-clause-complete : goal.returns-in-Ok-carry_out-clause-complete
returns-in-Ok-carry_out-clause-complete g c = λ d bytes text found tells short good calm calm_out. inl refl

pub returns-in-Ok-carry_out-clause-complete_gen : goal.returns-in-Ok-carry_out-clause-complete_gen
returns-in-Ok-carry_out-clause-complete_gen g c = λ n m s w found calm. inl refl

pub returns-in-Err-carry_out-clause-complete : goal.returns-in-Err-carry_out-clause-complete
returns-in-Err-carry_out-clause-complete g c = λ d bytes text found tells short good calm calm_out.
    let input : Stream = stream g.S.Source.rest g.S.Source.faults c.args.input.now c.carry_out.new.input in
    let out : Stream = stream g.O.Sink.held g.O.Sink.faults c.args.out.now c.carry_out.new.out in
    let same = same-command _ c.in-Ok.command d c.in-Ok.ensures.found found in
    inr (c.tell.ensures.status ∙ good_ends c.in-Ok.command c.in-Err-carry_out.cause input out bytes text c.in-Err-carry_out.ensures.err tells short (subst (λ k. AsksFor k bytes text) same good) calm calm_out)

pub returns-in-Err-carry_out-clause-only_bad : goal.returns-in-Err-carry_out-clause-only_bad
returns-in-Err-carry_out-clause-only_bad g c = λ d bytes line field found tells short bad calm.
    let input : Stream = stream g.S.Source.rest g.S.Source.faults c.args.input.now c.carry_out.new.input in
    let out : Stream = stream g.O.Sink.held g.O.Sink.faults c.args.out.now c.carry_out.new.out in
    let same = same-command _ c.in-Ok.command d c.in-Ok.ensures.found found in
    along c.tell.ensures.status (bad_ends c.in-Ok.command c.in-Err-carry_out.cause input out bytes line field c.in-Err-carry_out.ensures.err tells short (subst (λ k. IsBadFor k bytes line field) same bad) calm)

pub returns-in-Err-carry_out-clause-only_over : goal.returns-in-Err-carry_out-clause-only_over
returns-in-Err-carry_out-clause-only_over g c = λ d bytes line found tells short over calm.
    let input : Stream = stream g.S.Source.rest g.S.Source.faults c.args.input.now c.carry_out.new.input in
    let out : Stream = stream g.O.Sink.held g.O.Sink.faults c.args.out.now c.carry_out.new.out in
    let same = same-command _ c.in-Ok.command d c.in-Ok.ensures.found found in
    along c.tell.ensures.status (over_ends c.in-Ok.command c.in-Err-carry_out.cause input out bytes line c.in-Err-carry_out.ensures.err tells short (subst (λ k. IsOverFor k bytes line) same over) calm)

pub returns-in-Err-carry_out-clause-over : goal.returns-in-Err-carry_out-clause-over
returns-in-Err-carry_out-clause-over g c = λ six.
    let input : Stream = stream g.S.Source.rest g.S.Source.faults c.args.input.now c.carry_out.new.input in
    let out : Stream = stream g.O.Sink.held g.O.Sink.faults c.args.out.now c.carry_out.new.out in
    let over = status_6 c.in-Ok.command c.in-Err-carry_out.cause input out c.tell.result c.in-Err-carry_out.ensures.err c.tell.ensures.status six in
    (c.in-Ok.command, c.in-Ok.ensures.found, over.0, over.1)

pub returns-in-Err-carry_out-clause-done : goal.returns-in-Err-carry_out-clause-done
returns-in-Err-carry_out-clause-done g c = λ here. absurd (never c.in-Err-carry_out.cause _ 0 c.tell.ensures.status (omega arith) here)

pub returns-in-Err-carry_out-clause-words : goal.returns-in-Err-carry_out-clause-words
returns-in-Err-carry_out-clause-words g c = λ here. absurd (never c.in-Err-carry_out.cause _ 2 c.tell.ensures.status (omega arith) here)

pub returns-in-Err-carry_out-clause-unread : goal.returns-in-Err-carry_out-clause-unread
returns-in-Err-carry_out-clause-unread g c = λ here. absurd (never c.in-Err-carry_out.cause _ 2 c.tell.ensures.status (omega arith) here)

pub returns-in-Err-carry_out-clause-quiet : goal.returns-in-Err-carry_out-clause-quiet
returns-in-Err-carry_out-clause-quiet g c = λ here. absurd (never c.in-Err-carry_out.cause _ 0 c.tell.ensures.status (omega arith) here)

pub returns-in-Err-carry_out-clause-told_words : goal.returns-in-Err-carry_out-clause-told_words
returns-in-Err-carry_out-clause-told_words g c = λ here. absurd (never c.in-Err-carry_out.cause _ 2 c.tell.ensures.status (omega arith) here)

pub returns-in-Err-carry_out-clause-read_failed : goal.returns-in-Err-carry_out-clause-read_failed
returns-in-Err-carry_out-clause-read_failed g c = λ here.
    let input : Stream = stream g.S.Source.rest g.S.Source.faults c.args.input.now c.carry_out.new.input in
    let out : Stream = stream g.O.Sink.held g.O.Sink.faults c.args.out.now c.carry_out.new.out in
    status_3 c.in-Ok.command c.in-Err-carry_out.cause input out c.in-Err-carry_out.ensures.err (sym c.tell.ensures.status ∙ here)

pub returns-in-Err-carry_out-clause-calm : goal.returns-in-Err-carry_out-clause-calm
returns-in-Err-carry_out-clause-calm g c = λ other.
    c.in-Err-carry_out.ensures.calm (λ is. other (c.tell.ensures.status ∙ read_is_3 c.in-Err-carry_out.cause _ refl is))

pub returns-in-Err-carry_out-clause-write_failed : goal.returns-in-Err-carry_out-clause-write_failed
returns-in-Err-carry_out-clause-write_failed g c = λ here.
    let input : Stream = stream g.S.Source.rest g.S.Source.faults c.args.input.now c.carry_out.new.input in
    let out : Stream = stream g.O.Sink.held g.O.Sink.faults c.args.out.now c.carry_out.new.out in
    let behind = status_4 c.in-Ok.command c.in-Err-carry_out.cause input out c.in-Err-carry_out.ensures.err (sym c.tell.ensures.status ∙ here) in
    (behind.0, (c.in-Ok.command, c.in-Ok.ensures.found, behind.1))

pub returns-in-Err-carry_out-clause-bad : goal.returns-in-Err-carry_out-clause-bad
returns-in-Err-carry_out-clause-bad g c = λ here.
    let input : Stream = stream g.S.Source.rest g.S.Source.faults c.args.input.now c.carry_out.new.input in
    let out : Stream = stream g.O.Sink.held g.O.Sink.faults c.args.out.now c.carry_out.new.out in
    let behind = status_5 c.in-Ok.command c.in-Err-carry_out.cause input out c.in-Err-carry_out.ensures.err (sym c.tell.ensures.status ∙ here) in
    (c.in-Ok.command, behind.0, behind.1, c.in-Ok.ensures.found, behind.2)

pub returns-in-Err-carry_out-clause-known : goal.returns-in-Err-carry_out-clause-known
returns-in-Err-carry_out-clause-known g c = inr (known c.in-Err-carry_out.cause _ c.tell.ensures.status)

pub returns-in-Err-carry_out-clause-untouched : goal.returns-in-Err-carry_out-clause-untouched
returns-in-Err-carry_out-clause-untouched g c = λ some other.
    c.in-Err-carry_out.ensures.untouched (λ is. other (c.tell.ensures.status ∙ write_is_4 c.in-Err-carry_out.cause is))

pub returns-in-Err-carry_out-clause-told : goal.returns-in-Err-carry_out-clause-told
returns-in-Err-carry_out-clause-told g c = λ some other. (
  c.in-Err-carry_out.cause,
  c.tell.ensures.status,
  c.tell.ensures.told,
  inr (c.in-Ok.command, c.in-Ok.ensures.found, c.in-Err-carry_out.ensures.err),
)
