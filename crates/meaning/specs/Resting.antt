-- Where the walk comes to rest: the cell at hand at its end and the move that led there. The search goes by it.
use Rattle.std.specs.Prelude.{List, [], ◌∷◌, ℕ, suc}
use Rattle.meaning.specs.Walk.{trail}
use Rattle.meaning.specs.declared.Rest.{Rest}
use Rattle.meaning.specs.declared.Step.{Step}
use Rattle.meaning.specs.declared.Step.TheVariants.{Go, Up, End}

-- at the head with coordinate 0, before any move
abbrev pub at_head : Rest
at_head = record { from = 0; number = 0; at = 0; coordinate = 0; looked = 0 }

-- what a step makes of where the walk was
abbrev pub rest_after : Rest → Step → Rest
rest_after r (Go y) = record { from = r.at; number = r.coordinate; at = y; coordinate = r.coordinate; looked = suc r.looked }
rest_after r Up = record { from = r.from; number = r.number; at = r.at; coordinate = suc r.coordinate; looked = r.looked }
rest_after r End = r

-- .. and what some steps make of it
unfoldable pub rest_over : Rest → List Step → Rest
rest_over r [] = r
rest_over r (step ∷ steps) = rest_over (rest_after r step) steps

-- where the walk for k comes to rest
unfoldable pub rest : List ℕ → ℕ → Rest
rest ws k = rest_over at_head (trail ws k)
