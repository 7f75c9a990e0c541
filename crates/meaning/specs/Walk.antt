-- The walk on the words, link by link: Looked and the walk 1 and 2.
use Rattle.std.specs.Prelude.{Bool, true, false, cond, ◌&&◌, not, List, [], ◌∷◌, ℕ, zero, suc, ◌*◌, eqb, ltb}
use Rattle.meaning.specs.Keys.{coordinate}
use Rattle.meaning.specs.Row.{between}
use Rattle.meaning.specs.Words.{owed_at, low_at, high_at, coordinate_at, link_at, dimensions_at, base_at}
use Rattle.meaning.specs.declared.Step.{Step}
use Rattle.meaning.specs.declared.Step.TheVariants.{Go, Up, End}

-- where the cell owes and the number is from its low to its high-1, the link is read from the owed cell
unfoldable pub link_read : List ℕ → ℕ → ℕ → ℕ
link_read ws x d = link_at ws (cond (not (eqb (owed_at ws x) 0) && between (low_at ws x) (high_at ws x) d) (owed_at ws x) x) d

-- where a link leads; the walk ends if that is nowhere
abbrev pub step_along : ℕ → Step
step_along y = cond (eqb y 0) End (Go y)

-- One step for k from cell x and coordinate d. If the cell at hand is below k at that coordinate, the walk goes along its link of that
-- number, or ends if that leads nowhere. If it is equal, the coordinate goes up by one, and the walk ends at D. If it is above, the walk
-- ends.
unfoldable pub step_at : List ℕ → ℕ → ℕ → ℕ → Step
step_at ws k x d =
    let own = coordinate_at ws x d in
    let sought = coordinate (base_at ws) (dimensions_at ws) k d in
    cond (ltb own sought) (step_along (link_read ws x d)) (cond (eqb own sought) (cond (eqb (suc d) (dimensions_at ws)) End Up) End)

-- the steps that follow a step from cell x and coordinate d, if `further` are those from a cell and a coordinate on
abbrev pub on_from : (ℕ → ℕ → List Step) → ℕ → ℕ → Step → List Step
on_from further x d (Go y) = further y d
on_from further x d Up = further x (suc d)
on_from further x d End = []

-- the trail of the walk for k from cell x and coordinate d: its steps, each from where the one before leads, at most `fuel` of them
unfoldable pub trail_from : ℕ → List ℕ → ℕ → ℕ → ℕ → List Step
trail_from zero ws k x d = []
trail_from (suc fuel) ws k x d = step_at ws k x d ∷ on_from (trail_from fuel ws k) x d (step_at ws k x d)

-- The walk for k starts at the head with coordinate 0. Each step but the last raises the coordinate, or at the same coordinate the cell's
-- digit there, so D times b steps are enough on a list.
unfoldable pub trail : List ℕ → ℕ → List Step
trail ws k = trail_from (dimensions_at ws * base_at ws) ws k 0 0

-- the cells that steps go to
unfoldable pub gone_to : List Step → List ℕ
gone_to [] = []
gone_to (Go y ∷ steps) = y ∷ gone_to steps
gone_to (Up ∷ steps) = gone_to steps
gone_to (End ∷ steps) = gone_to steps

-- the last of some steps is the walk's end
unfoldable pub ends : List Step → Bool
ends [] = false
ends (Go y ∷ steps) = ends steps
ends (Up ∷ steps) = ends steps
ends (End ∷ []) = true
ends (End ∷ step ∷ steps) = ends (step ∷ steps)

-- the cells gone to
unfoldable pub walk : List ℕ → ℕ → List ℕ
walk ws k = gone_to (trail ws k)
