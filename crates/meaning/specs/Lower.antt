-- The way from where the walk for a key rests to the standing cell of next smaller key, on the words. It is no part of the walk: looked
-- counts none of its cells.
use Rattle.std.specs.Prelude.{cond, List, [], ◌∷◌, ℕ, zero, suc, ◌*◌, eqb, ltb, length, get_or}
use Rattle.meaning.specs.Words.{key_at, dimensions_at, base_at}
use Rattle.meaning.specs.Walk.{link_read}
use Rattle.meaning.specs.Resting.{rest}

-- the cells gone to from cell x where its link of number d leads to y, if `further` are those from a cell and a number on: along the link, or
-- on with the next number where it leads nowhere
abbrev pub way_on : (ℕ → ℕ → List ℕ) → ℕ → ℕ → ℕ → List ℕ
way_on further x d y = cond (eqb y 0) (further x (suc d)) (y ∷ further y d)

-- the cells gone to from cell x and link d on, up to the last of its branch, in at most `fuel` steps
unfoldable pub way_from : ℕ → List ℕ → ℕ → ℕ → List ℕ
way_from zero ws x d = []
way_from (suc fuel) ws x d = cond (ltb d (dimensions_at ws)) (way_on (way_from fuel ws) x d (link_read ws x d)) []

-- Each step raises the number, or at the same number the cell's digit there, so D times b steps are enough on a list.
abbrev pub lower_way : List ℕ → ℕ → ℕ → List ℕ
lower_way ws x d = way_from (dimensions_at ws * base_at ws) ws x d

-- the last of some cells gone to from x; x itself if there is none
abbrev pub last_gone : ℕ → List ℕ → ℕ
last_gone x cells = get_or (x ∷ cells) (length cells) 0

-- the last cell of the branch of x from link d on
abbrev pub lower_from : List ℕ → ℕ → ℕ → ℕ
lower_from ws x d = last_gone x (lower_way ws x d)

-- What is asked of the cell and the link from which the way for k starts: the cell from which k hangs, or would hang, and the link after that by
-- which it does. Where the walk rests below k that is the link that it wants of the cell at hand; else it is the link of its last move.
abbrev pub from_rest : {A : Type 0} → List ℕ → ℕ → (ℕ → ℕ → A) → A
from_rest ws k asked =
    cond (ltb (key_at ws (rest ws k).at) k) (asked (rest ws k).at (suc (rest ws k).coordinate)) (asked (rest ws k).from (suc (rest ws k).number))

abbrev pub lower_way_for : List ℕ → ℕ → List ℕ
lower_way_for ws k = from_rest ws k (lower_way ws)

abbrev pub lower_for : List ℕ → ℕ → ℕ
lower_for ws k = from_rest ws k (lower_from ws)
