-- Paths: the path of any standing cell, the way through the standing cells in the order of their keys, the next one on the words, and the
-- path that the walk builds. The functions on words are the ones that the code follows.
use Rattle.std.specs.Prelude.{◌≡◌, cond, List, [], ◌∷◌, ◌++◌, map, ℕ, zero, suc, ◌-◌, eqb, get_or, take, replicate}
use Rattle.lists.specs.Lists.{numbers_from}
use Rattle.meaning.specs.Row.{Node, head_node, place_of, last_of}
use Rattle.meaning.specs.State.{State, places_of}
use Rattle.meaning.specs.Picture.{first_with}
use Rattle.meaning.specs.Walk.{link_read}
use Rattle.meaning.specs.Operations.{dimension_at}
use Rattle.meaning.specs.declared.Step.{Step}
use Rattle.meaning.specs.declared.Step.TheVariants.{Go, Up, End}

-- The position 2, of any standing cell: word d is the first that shares at least d+1 coordinates with its key.
unfoldable pub path_for : ℕ → ℕ → List Node → ℕ → List ℕ
path_for b D row key = map (λ d. first_with b D key (suc d) (head_node ∷ row)) (numbers_from 0 D)

-- The way through the standing cells in the order of their keys: this is the path of the last of the nodes in front, or of the head where
-- there is none, and the later ones are still to come. Whoever goes from cell to cell keeps this.
pub record PathOf (s : State) (path : List ℕ) (front later : List Node) : Type 0 where
  pub split : s.row ≡ front ++ later
  pub is : path ≡ path_for s.settings.base s.settings.dimensions s.row (last_of front).key

-- the dimension of standing cell c, which is the number of the link that leads to it
abbrev pub dimension_in : State → ℕ → ℕ
dimension_in s c = dimension_at (place_of c (places_of s s.row))

-- a path of D words with cell y from word d on
abbrev pub onward : ℕ → List ℕ → ℕ → ℕ → List ℕ
onward D path d y = take d path ++ replicate (D - d) y

-- The next standing cell in key order and the number of the link that leads to it; cell 0 if there is none.
pub record NextCell : Type 0 where
  pub cell : ℕ
  pub number : ℕ

-- The next key after that of a path is at the highest d with link d of path word d not 0: the first such, of links d-1 down to 0.
unfoldable pub next_from : List ℕ → List ℕ → ℕ → NextCell
next_from ws path zero = record { cell = 0; number = 0 }
next_from ws path (suc d) =
    let y = link_read ws (get_or path d 0) d in
    cond (eqb y 0) (next_from ws path d) (record { cell = y; number = d })

-- The path that steps from coordinate d on build on a path of D words: where they go to a cell, that cell from the coordinate at hand on.
unfoldable pub path_over : ℕ → List ℕ → ℕ → List Step → List ℕ
path_over D path d [] = path
path_over D path d (Go y ∷ steps) = path_over D (onward D path d y) d steps
path_over D path d (Up ∷ steps) = path_over D path (suc d) steps
path_over D path d (End ∷ steps) = path
