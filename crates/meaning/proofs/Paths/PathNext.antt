-- The way through the standing cells in the order of their keys, on the words of a list: the highest link d of path word d that is not 0
-- leads to the next. A link read from the words is the settled one, since the dimension of path word d is at most d.
use mathlib.Core.Path.{◌≡◌, refl, sym, ap, ◌∙◌, subst}
use mathlib.Core.List.{List, [], ◌∷◌, ◌++◌, append-nil}
use Prim.Native.Nat.{ℕ, zero, suc, ◌≤◌, ◌<◌}
use native.Mathlib.Decide.{ℕ_discrete, dec_lt}
use native.Mathlib.Omega.{arith}
use lib.ListN.{get_or, replicate, get_or-eq_default}
use lib.Seq.{append_snoc}
use borrow.Author.Tests.{eq-eqb, ne_eqb}
use Rattle.lists.proofs.All.{All, all_map, all_left, all_at}
use Rattle.meaning.specs.Keys.{shared}
use Rattle.meaning.specs.Row.{Node, head_node, places, place_of, settled_link, last_of}
use Rattle.meaning.specs.State.{State}
use Rattle.meaning.specs.Picture.{mark, picture}
use Rattle.meaning.specs.Words.{key_at, mark_at}
use Rattle.meaning.specs.Walk.{link_read}
use Rattle.meaning.specs.Operations.{dimension_at}
use Rattle.meaning.specs.Layer.Paths.{path_for, PathOf, dimension_in, onward, NextCell, next_from}
use Rattle.meaning.proofs.Rows.AscendingRow.{Asc}
use Rattle.meaning.proofs.Rows.Keys.{shared_less}
use Rattle.meaning.proofs.Pictures.State.{Sound, base_positive}
use Rattle.meaning.proofs.Pictures.StateCells.{row_range}
use Rattle.meaning.proofs.Kept.KeepsState.{cell_alone}
use Rattle.meaning.proofs.Rows.Places.{last_from, last_from_lem}
use Rattle.meaning.proofs.Rows.Parent.{Apart, all_last, asc_last, apart_left, apart_before, place_at}
use Rattle.meaning.proofs.Kept.Slot.{sound_apart, dimensions_positive}
use Rattle.meaning.proofs.Cells.WalkRead.{link_read_lem, row_key_read, row_mark_read}
use Rattle.meaning.proofs.Cells.Placed.{Placed, placed_has, placed_cell, head_placed, place_key}
use Rattle.meaning.proofs.Paths.Path.{path_for-length, path_head, path_holds, PathLink, path_next, next_link, next_link_above, last_link}

-- The search from link d-1 down

pub next_none : (ws path : List ℕ) → next_from ws path 0 ≡ record { cell = 0; number = 0 }
unfolding next_from
next_none ws path = refl

pub next_down : (ws path : List ℕ) (d : ℕ) → link_read ws (get_or path d 0) d ≡ 0 → next_from ws path (suc d) ≡ next_from ws path d
unfolding next_from
next_down ws path d e = rw (eq-eqb (link_read ws (get_or path d 0) d) 0 e) refl

pub next_here : (ws path : List ℕ) (d y : ℕ) → link_read ws (get_or path d 0) d ≡ y → 0 < y → next_from ws path (suc d) ≡ record { cell = y; number = d }
unfolding next_from
next_here ws path d y e h =
    rw (ne_eqb (link_read ws (get_or path d 0) d) 0 (λ z. omega arith)) (ap {B = NextCell} (λ c. record { cell = c; number = d }) e)

next_nowhere : (ws path : List ℕ) (n : ℕ) → ((d : ℕ) → d < n → link_read ws (get_or path d 0) d ≡ 0) → next_from ws path n ≡ record { cell = 0; number = 0 }
next_nowhere ws path zero f = next_none ws path
next_nowhere ws path (suc n) f = next_down ws path n (f n (omega arith)) ∙ next_nowhere ws path n (λ d h. f d (omega arith))

next_highest :
    (ws path : List ℕ) (n e y : ℕ) → e < n → link_read ws (get_or path e 0) e ≡ y → 0 < y → ((d : ℕ) → e < d → d < n → link_read ws (get_or path d 0) d ≡ 0) →
    next_from ws path n ≡ record { cell = y; number = e }
next_highest ws path zero e y h there other f = absurd (omega arith)
next_highest ws path (suc n) e y h there other f = at (ℕ_discrete e n) (next_highest ws path n e y)
  where
    Highest : ℕ → Type 0
    Highest m = next_from ws path m ≡ record { cell = y; number = e }

    at : Dec (e ≡ n) → (e < n → link_read ws (get_or path e 0) e ≡ y → 0 < y → ((d : ℕ) → e < d → d < n → link_read ws (get_or path d 0) d ≡ 0) → Highest n)
        → Highest (suc n)
    at (yes q) further = subst (λ m. Highest (suc m)) q (next_here ws path e y there other)
    at (no q) further = next_down ws path n (f n (omega arith) (omega arith)) ∙ further (omega arith) there other (λ d l m. f d l (omega arith))

-- On a list

-- the last of some nodes, or the head, is the last from the head on
pub last_snoc : (x : Node) (row : List Node) (y : Node) → last_from x (row ++ (y ∷ [])) ≡ y
unfolding last_from
last_snoc x [] y = refl
last_snoc x (z ∷ row) y = last_snoc z row y

pub last_of_lem : (front : List Node) (y : Node) → last_of (front ++ (y ∷ [])) ≡ y
last_of_lem front y = last_from_lem (front ++ (y ∷ [])) ∙ last_snoc head_node front y

abbrev key_path : State → ℕ → List ℕ
key_path s key = path_for s.settings.base s.settings.dimensions s.row key

module _ (s : State) (v : Sound s) where
  -- every word of a path is a cell
  path_within : (key d : ℕ) → get_or (path_for s.settings.base s.settings.dimensions s.row key) d 0 < s.settings.cells
  path_within key d = at (dec_lt d D)
    where
      b : ℕ
      b = s.settings.base

      D : ℕ
      D = s.settings.dimensions

      some : 0 < s.settings.cells
      some = let least = v.ranges.cells_least in omega arith

      at : Dec (d < D) → get_or (path_for b D s.row key) d 0 < s.settings.cells
      at (yes h) = path_holds (λ c. c < s.settings.cells) b D s.row key d h some (all_map (λ x r. r.1) s.row (row_range s v))
      at (no h) = rw (get_or-eq_default (path_for b D s.row key) 0 {n = d} (let n = path_for-length b D s.row key in omega arith)) some

  -- link d of path word d, as it is read
  path_link_read :
      (key d c : ℕ) → d < s.settings.dimensions → PathLink s.settings.base s.settings.dimensions s.row key d c →
      link_read (picture s) (get_or (path_for s.settings.base s.settings.dimensions s.row key) d 0) d ≡ c
  path_link_read key d c l to =
      let b = s.settings.base in
      let D = s.settings.dimensions in
      let x = get_or (path_for b D s.row key) d 0 in
      let here : Placed s x to.place = record { found = to.found } in
      ap (λ y. link_read (picture s) y d) (sym (placed_cell here))
      ∙ placed_has here (λ p. p.dimension ≤ d → link_read (picture s) p.node.cell d ≡ settled_link b D p d) (link_read_lem s v d l) to.dimension
      ∙ to.leads

  apart_split : (pre later : List Node) → s.row ≡ pre ++ later → Apart (head_node ∷ (pre ++ later))
  apart_split pre later split = subst (λ r. Apart (head_node ∷ r)) split (sound_apart s v)

  -- the dimension of a node, by the last in front of it
  pub dimension_is :
      (pre : List Node) (y : Node) (post : List Node) → s.row ≡ pre ++ (y ∷ post) →
      dimension_in s y.cell ≡ shared s.settings.base s.settings.dimensions (last_from head_node pre).key y.key
  unfolding dimension_at places
  dimension_is pre y post split =
      let b = s.settings.base in
      let D = s.settings.dimensions in
      ap (λ r. dimension_at (place_of y.cell (places b D r))) split
      ∙ ap dimension_at (place_at b D head_node 0 head_node 0 pre y post (apart_before (head_node ∷ pre) y post (apart_split pre (y ∷ post) split)))

  deep : 0 < s.settings.dimensions
  deep = dimensions_positive s v

  -- from the path of a node that has a next one, or of the head, to that one
  next_of_path :
      (pre : List Node) (y : Node) (post : List Node) → s.row ≡ pre ++ (y ∷ post) →
      next_from (picture s) (key_path s (last_from head_node pre).key) s.settings.dimensions
      ≡ record { cell = y.cell; number = shared s.settings.base s.settings.dimensions (last_from head_node pre).key y.key }
  next_of_path pre y post split =
      let b = s.settings.base in
      let D = s.settings.dimensions in
      let A = last_from head_node pre in
      let e = shared b D A.key y.key in
      let pos = base_positive s v in
      let asc = subst (Asc 0) split v.ascends in
      let apart = apart_left (head_node ∷ pre) (y ∷ post) (apart_split pre (y ∷ post) split) in
      let less = (asc_last head_node pre (y ∷ post) asc).0 in
      let number : e < D = shared_less b D A.key y.key deep (omega arith) in
      next_highest (picture s) (path_for b D s.row A.key) D e y.cell number
      (path_link_read A.key e y.cell number (subst (λ r. PathLink b D r A.key e y.cell) (sym split) (next_link b D pos deep pre y post asc apart)))
      (cell_alone s v pre y post split).standing
      (λ d h l. path_link_read A.key d 0 l (subst (λ r. PathLink b D r A.key d 0) (sym split) (next_link_above b D pos deep pre y post d asc apart h l)))

  -- from the path of the last node, or of the head if there is no node, there is no next
  next_of_last :
      next_from (picture s) (key_path s (last_from head_node s.row).key) s.settings.dimensions ≡ record { cell = 0; number = 0 }
  next_of_last =
      let b = s.settings.base in
      let D = s.settings.dimensions in
      let key = (last_from head_node s.row).key in
      next_nowhere (picture s) (path_for b D s.row key) D
      (λ d l. path_link_read key d 0 l (last_link b D (base_positive s v) deep s.row d v.ascends (sound_apart s v) l))

  -- the next one's path
  path_of_next :
      (pre : List Node) (y : Node) (post : List Node) → s.row ≡ pre ++ (y ∷ post) →
      path_for s.settings.base s.settings.dimensions s.row y.key
      ≡ onward s.settings.dimensions (key_path s (last_from head_node pre).key)
      (shared s.settings.base s.settings.dimensions (last_from head_node pre).key y.key) y.cell
  path_of_next pre y post split =
      let b = s.settings.base in
      let D = s.settings.dimensions in
      let A = last_from head_node pre in
      subst (λ r. path_for b D r y.key ≡ onward D (path_for b D r A.key) (shared b D A.key y.key) y.cell) (sym split)
      (path_next b D (base_positive s v) pre y post (subst (Asc 0) split v.ascends))

-- The way through the row

pub head_on_way : (s : State) → PathOf s (replicate s.settings.dimensions 0) [] s.row
unfolding last_of
head_on_way s = record { split = refl; is = sym (path_head s.settings.base s.settings.dimensions s.row) }

module _ {s : State} (v : Sound s) {path : List ℕ} {front : List Node} where
  pub way_within : {later : List Node} → PathOf s path front later → (d : ℕ) → get_or path d 0 < s.settings.cells
  way_within t d = rw t.is (path_within s v (last_of front).key d)

  -- the key of the path's cell, as it stands in it
  pub way_key : {later : List Node} → PathOf s path front later → key_at (picture s) (last_of front).cell ≡ (last_of front).key
  way_key {later} t =
      let Read : Node → Type 0 = λ y. key_at (picture s) y.cell ≡ y.key in
      let fronts = all_left Read front later (subst (All Read) t.split (row_key_read s v)) in
      rw (last_from_lem front) (all_last Read head_node front (place_key v (head_placed s)) fronts)

  pub way_end : PathOf s path front [] → next_from (picture s) path s.settings.dimensions ≡ record { cell = 0; number = 0 }
  way_end t =
      let all : s.row ≡ front = t.split ∙ append-nil front in
      rw (t.is, last_from_lem front, ← all) (next_of_last s v)

  module _ {y : Node} {later : List Node} (t : PathOf s path front (y ∷ later)) where
    way_dimension : dimension_in s y.cell ≡ shared s.settings.base s.settings.dimensions (last_of front).key y.key
    way_dimension = rw (last_from_lem front) (dimension_is s v front y later t.split)

    -- the next standing cell ..
    pub way_next : next_from (picture s) path s.settings.dimensions ≡ record { cell = y.cell; number = dimension_in s y.cell }
    way_next = rw (way_dimension, t.is, last_from_lem front) (next_of_path s v front y later t.split)

    -- .. with its mark, its key, and its path
    pub way_mark : mark_at (picture s) y.cell ≡ mark y.live
    way_mark =
        let Read : Node → Type 0 = λ z. mark_at (picture s) z.cell ≡ mark z.live in
        all_at Read front y later (subst (All Read) t.split (row_mark_read s v))

    pub way_above : (last_of front).key < y.key
    way_above = rw (last_from_lem front) (asc_last head_node front (y ∷ later) (subst (Asc 0) t.split v.ascends)).0

    pub way_on : PathOf s (onward s.settings.dimensions path (dimension_in s y.cell) y.cell) (front ++ (y ∷ [])) later
    way_on =
        record {
          split = t.split ∙ sym (append_snoc front y later);
          is = rw (way_dimension, t.is, last_of_lem front y, last_from_lem front) (sym (path_of_next s v front y later t.split));
        }
