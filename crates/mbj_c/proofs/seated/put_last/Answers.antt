-- The one range that is open then is committed.
use Rattle.std.proofs.Common.{◌≡◌, ◌++◌, ◌∷◌, [], List, drop, take, ap, ◌∙◌}
use Rattle.mbj_ring.specs.Ring.{RingState, with_committed}
use Rattle.mbj_c.specs.declared.range.CipherRange.{CipherRange}
use Rattle.mbj_c.proofs.seated.put_last.Goals as goal

pub returns-clause-values : goal.returns-clause-values
returns-clause-values c =
    ap (λ (r : RingState CipherRange). r.values) c.commit.ensures.values
    ∙ ap (λ (r : RingState CipherRange). r.values ++ take 1 r.opened) c.open_cell.ensures
    ∙ ap (λ (o : List CipherRange). c.args.ranges.now.values ++ take 1 (o ++ c.args.range ∷ [])) c.requires.closed

pub returns-clause-closed : goal.returns-clause-closed
returns-clause-closed c =
    ap (λ (r : RingState CipherRange). r.opened) c.commit.ensures.values
    ∙ ap (λ (r : RingState CipherRange). drop 1 r.opened) c.open_cell.ensures
    ∙ ap (λ (o : List CipherRange). drop 1 (o ++ c.args.range ∷ [])) c.requires.closed
