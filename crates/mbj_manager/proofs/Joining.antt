-- A course whose packet is here, and one that hands it out.
use Rattle.std.proofs.Common.{ℕ, zero, suc, List, [], ◌∷◌}
use Rattle.mbj_types.specs.declared.kind.Kind.{Kind}
use Rattle.mbj_stage.specs.CourseState.{CourseState}
use Rattle.mbj_stage.specs.Handing.{End, IsNext, IsOut, handed_out}
use Rattle.mbj_manager.specs.Machine.Queues.{changed}
use Rattle.mbj_manager.specs.Inside.Leaving.{At, Gives}
use Rattle.mbj_manager.specs.Inside.Held.{IsHere}

pub here-not-out : (k : Kind) (e : End) (n : ℕ) (cs : List CourseState) → At IsHere n cs → At (IsOut k e) n cs → ⊥
here-not-out k e n [] h o = h
here-not-out k e zero (c ∷ cs) h o = let p = o.packet in cc
here-not-out k e (suc n) (c ∷ cs) h o = here-not-out k e n cs h o

pub at-made : (k : Kind) (r : ℕ) (e : End) (n : ℕ) (cs : List CourseState) → At (IsNext k) n cs → At (Gives k r e) n cs → At (IsOut k e) n (changed handed_out n cs)
at-made k r e n [] h g = absurd h
at-made k r e zero (c ∷ cs) h g = g.is_out
at-made k r e (suc n) (c ∷ cs) h g = at-made k r e n cs h g

pub at-here : (k : Kind) (n : ℕ) (cs : List CourseState) → At (IsNext k) n cs → At IsHere n cs
at-here k n [] h = h
at-here k zero (c ∷ cs) h = h.here
at-here k (suc n) (c ∷ cs) h = at-here k n cs h
