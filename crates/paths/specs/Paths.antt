-- The path that a struct holds, on which words the code may go from cell to cell, and what the functions answer.
use Rattle.std.specs.Prelude.{◌≡◌, true, Option, None, Some, List, ◌∷◌, map, ℕ, ◌<◌, get_or, take, drop}
use Rattle.settings.specs.declared.Settings.{Settings}
use Rattle.lists.specs.Lists.{occurrences}
use Rattle.meaning.specs.Row.{head_node}
use Rattle.meaning.specs.State.{State, key_of, valid}
use Rattle.meaning.specs.Picture.{path, picture}
use Rattle.meaning.specs.Words.{key_at, owed_at}
use Rattle.meaning.specs.Walk.{link_read, trail, ends}
use Rattle.meaning.specs.Layer.Near.{NearAlong}
use Rattle.meaning.specs.Layer.Paths.{path_for, onward, next_from}
use Rattle.meaning.specs.Layer.Stores.{write_path}
use Rattle.words.specs.Shaped.{Shaped}
use Rattle.paths.specs.declared.path.Path.{Path}
use Rattle.paths.specs.declared.NextCell.{NextCell}

-- the path: the cells used
abbrev pub path_of : Path → List ℕ
path_of p = take p.used p.cells

-- r is path p with cell y from word d on; what is past the path stays
pub record Onward (p : Path) (d y : ℕ) (r : Path) : Type 0 where
  pub way : path_of r ≡ onward p.used (path_of p) d y
  pub rest : drop p.used r.cells ≡ drop p.used p.cells
  pub used : r.used ≡ p.used

-- a path with as many cells as there are dimensions, each one of the list's
pub record PathIn (s : Settings) (p : Path) : Type 0 where
  pub used : p.used ≡ s.dimensions
  pub below : (d : ℕ) → d < s.dimensions → get_or (path_of p) d 0 < s.cells

-- Words with the shape of a list on which every owed cell, and every cell that a link leads to as it is read, is one of the list's.
pub record Walkable (ws : List ℕ) (s : Settings) : Type 0 where
  pub shaped : Shaped ws s
  pub head : 0 < s.cells
  pub owed : (x : ℕ) → x < s.cells → owed_at ws x < s.cells
  pub links : (x d : ℕ) → x < s.cells → d < s.dimensions → link_read ws x d < s.cells

-- The walk for k comes to its end, and each cell that it meets shares with k the coordinates before the one at hand.
pub record WalkEnds (ws : List ℕ) (s : Settings) (k : ℕ) : Type 0 where
  pub ended : ends (trail ws k) ≡ true
  pub near : NearAlong s.base s.dimensions k (key_at ws) 0 0 (trail ws k)

-- r is the next cell from a path, another than the head and one of the list's, with the number of the link that leads to it
pub record NextAt (ws : List ℕ) (s : Settings) (path : List ℕ) (r : NextCell) : Type 0 where
  pub is : next_from ws path s.dimensions ≡ record { cell = r.cell; number = r.number }
  pub other : r.cell ≡ 0 → ⊥
  pub below : r.cell < s.cells
  pub number : r.number < s.dimensions

-- there is none
abbrev pub NoneNext : List ℕ → Settings → List ℕ → Type 0
NoneNext ws s path = next_from ws path s.dimensions ≡ record { cell = 0; number = 0 }

-- what `next_from` answers from path p
abbrev pub NextFound : List ℕ → Settings → Path → Option NextCell → Type 0
NextFound ws s p None = NoneNext ws s (path_of p)
NextFound ws s p (Some r) = NextAt ws s (path_of p) r

-- r is the next cell from path p, and q its path
pub record NextWith (ws : List ℕ) (s : Settings) (p : Path) (r : NextCell) (q : Path) : Type 0 where
  pub at : NextAt ws s (path_of p) r
  pub way : path_of q ≡ onward s.dimensions (path_of p) r.number r.cell
  pub path_in : PathIn s q

-- what `next` answers from path p, which becomes q
abbrev pub NextIs : List ℕ → Settings → Path → Option NextCell → Path → Type 0
NextIs ws s p None q = NoneNext ws s (path_of p) × (q ≡ p)
NextIs ws s p (Some r) q = NextWith ws s p r q

-- Words that are the picture of a state in order but for the D words of path, and cell x is a standing one of that state.
pub record StandsIn (ws : List ℕ) (s : Settings) (x : ℕ) (t : State) : Type 0 where
  pub order : valid t ≡ true
  pub settings : t.settings ≡ s
  pub words : picture t ≡ write_path ws (path t)
  pub stands : 0 < occurrences x (0 ∷ map (λ y. y.cell) t.row)

-- so it is for some state
pub record StandsInSome (ws : List ℕ) (s : Settings) (x : ℕ) : Type 0 where
  pub state : State
  pub in_it : StandsIn ws s x state

-- What `path_of` answers: the path of standing cell x, in each such state.
pub record CellPath (ws : List ℕ) (s : Settings) (x : ℕ) (r : Path) : Type 0 where
  pub is : (t : State) → StandsIn ws s x t → path_of r ≡ path_for s.base s.dimensions t.row (key_of x (head_node ∷ t.row))
  pub used : r.used ≡ s.dimensions
