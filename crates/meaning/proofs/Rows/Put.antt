-- A node put in its place in a row.
use mathlib.Core.Path.{◌≡◌, refl}
use mathlib.Core.List.{List, [], ◌∷◌}
use Prim.Native.Nat.{◌<◌}
use native.Mathlib.Omega.{arith}
use borrow.Author.Tests.{le-leb, lt-leb}
use Rattle.lists.proofs.All.{All}
use Rattle.meaning.specs.Row.{Node, put}

pub put_front : (x : Node) (row : List Node) → All (λ y. x.key < y.key) row → put x row ≡ x ∷ row
unfolding put
put_front x [] a = refl
put_front x (y ∷ row) a = rw (le-leb x.key y.key (let h = a.0 in omega arith)) refl

pub put_past : (x y : Node) (row : List Node) → y.key < x.key → put x (y ∷ row) ≡ y ∷ put x row
unfolding put
put_past x y row h = rw (lt-leb x.key y.key h) refl
