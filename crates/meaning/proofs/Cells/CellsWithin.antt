-- Every cell number that the words of a picture hold is below C: a cell that is owed from, where a link leads as it stands, and as it is
-- read. A standing cell's debt and links lead to nodes of the row, and a free cell has neither.
use Rattle.std.specs.Prelude.{Option, None, Some}
use mathlib.Core.Path.{◌≡◌, refl}
use mathlib.Core.Bool.{Bool, cond, ◌&&◌, not}
use mathlib.Core.List.{List, [], ◌∷◌}
use Prim.Native.Nat.{ℕ, ◌<◌}
use native.Mathlib.Omega.{arith}
use lib.Dec.{eqb, leb}
use Rattle.lists.proofs.All.{All, all_map}
use Rattle.lists.proofs.Tests.{cond_has}
use Rattle.meaning.specs.Keys.{shared}
use Rattle.meaning.specs.Row.{Node, first_of, first_sharing, Place, place_of, settled_link, low, high, between, link, owed}
use Rattle.meaning.specs.State.{State, places_of}
use Rattle.meaning.specs.Picture.{picture}
use Rattle.meaning.specs.Words.{owed_at, low_at, high_at, link_at, link_field}
use Rattle.meaning.specs.Walk.{link_read}
use Rattle.meaning.proofs.Pictures.State.{Sound}
use Rattle.meaning.proofs.Cells.Placed.{Placed, placed_below, placed_cell, place_owed, place_link, free_cell_rest}
use Rattle.meaning.proofs.BothWays.SentencesShape.{later_placed}

-- Where a place leads

module _ (P : ℕ → Type 0) where
  -- what holds of 0 and of the cell of each node holds of where a link leads, ..
  pub sharing_among : (b D key d : ℕ) (later : List Node) → P 0 → All (λ y. P y.cell) later → P (first_sharing b D key d later)
  unfolding first_sharing
  sharing_among b D key d [] nowhere all = nowhere
  sharing_among b D key d (y ∷ later) nowhere all =
      cond_has P (eqb (shared b D key y.key) d) y.cell (first_sharing b D key d later) all.0 (sharing_among b D key d later nowhere all.1)

  pub link_among : (b D : ℕ) (x : Place) (d : ℕ) → P 0 → P x.node.cell → All (λ y. P y.cell) x.later → P (link b D x d)
  unfolding link
  link_among b D x d nowhere here all =
      cond_has P (x.before.owes && between x.before_dimension x.dimension d)
      (first_sharing b D x.before.key d (x.node ∷ x.later)) (cond (x.node.owes && between (low x) (high b D x) d) 0 (settled_link b D x d))
      (sharing_among b D x.before.key d (x.node ∷ x.later) nowhere (here, all))
      (cond_has P (x.node.owes && between (low x) (high b D x) d) 0 (settled_link b D x d) nowhere
      (cond_has P (leb x.dimension d) (first_sharing b D x.node.key d x.later) 0 (sharing_among b D x.node.key d x.later nowhere all) nowhere))

  -- .. and of a cell that is owed from
  pub owed_among : (x : Place) → P 0 → All (λ y. P y.cell) x.later → P (owed x)
  owed_among x nowhere all = cond_has P x.node.owes (first_of x.later).cell 0 (first x.later all) nowhere
    where
      first : (later : List Node) → All (λ y. P y.cell) later → P (first_of later).cell
      first [] a = nowhere
      first (y ∷ later) a = a.0

-- On a list

module _ (s : State) (v : Sound s) where
  cell_none : 0 < s.settings.cells
  cell_none = let least = v.ranges.cells_least in omega arith

  later_within : (x : ℕ) (p : Place) → Placed s x p → All (λ y. y.cell < s.settings.cells) p.later
  later_within x p here = all_map (λ y h. placed_below v h.placed) p.later (later_placed v here)

  pub owed_within : (x : ℕ) → x < s.settings.cells → owed_at (picture s) x < s.settings.cells
  owed_within x h = at (place_of x (places_of s s.row)) refl
    where
      at : (o : Option Place) → place_of x (places_of s s.row) ≡ o → owed_at (picture s) x < s.settings.cells
      at None e = rw (free_cell_rest s x h e 3 (omega arith) (omega arith)) cell_none
      at (Some p) e =
          let here : Placed s x p = record { found = e } in
          rw (place_owed v here) (owed_among (λ c. c < s.settings.cells) p cell_none (later_within x p here))

  pub link_within : (x d : ℕ) → x < s.settings.cells → d < s.settings.dimensions → link_at (picture s) x d < s.settings.cells
  link_within x d h l = at (place_of x (places_of s s.row)) refl
    where
      at : (o : Option Place) → place_of x (places_of s s.row) ≡ o → link_at (picture s) x d < s.settings.cells
      at None e =
          rw (free_cell_rest s x h e (link_field d) (omega arith) (omega arith)) cell_none
      at (Some p) e =
          let here : Placed s x p = record { found = e } in
          let cell : p.node.cell < s.settings.cells = rw (placed_cell here) h in
          rw (place_link v here d l) (link_among (λ c. c < s.settings.cells) s.settings.base s.settings.dimensions p d cell_none cell
          (later_within x p here))

  pub link_read-within : (x d : ℕ) → x < s.settings.cells → d < s.settings.dimensions → link_read (picture s) x d < s.settings.cells
  unfolding link_read
  link_read-within x d h l =
      link_within (cond through (owed_at (picture s) x) x) d (cond_has (λ c. c < s.settings.cells) through (owed_at (picture s) x) x (owed_within x h) h) l
    where
      through : Bool
      through = not (eqb (owed_at (picture s) x) 0) && between (low_at (picture s) x) (high_at (picture s) x) d
