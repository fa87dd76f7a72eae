-- A state of the running front, as the core sees it.
use Rattle.std.specs.Prelude.{[]}
use Rattle.mbj_core.specs.declared.party.View.{View}
use Rattle.mbj_core.specs.declared.party.Phase.TheVariants.{Rest}
use Rattle.mbj_core.specs.Cells.{Cell, free, ready, done, open_by, hand_of, take_by}
use Rattle.mbj_core.specs.Parties.{FrontState, front, view}

-- a cell that is being filled or emptied is read as one that holds nothing
abbrev pub settled : {J D : Type 0} → Cell J D → Cell J D
settled free = free
settled (ready j) = ready j
settled (done d) = done d
settled (open_by p) = free
settled (hand_of p d) = hand_of p d
settled (take_by p) = free

-- phases and looks are forgotten
abbrev pub rested : {D : Type 0} → View D → View D
rested v = view v.number Rest v.due v.handed v.hand []

abbrev pub as_core : {J D : Type 0} → FrontState J D → FrontState J D
as_core f = front (λ c. settled (f.cells c)) (λ p. rested (f.seats p))
