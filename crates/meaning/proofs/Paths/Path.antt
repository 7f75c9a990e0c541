-- The path of a standing cell, from that of one before it. Below what two keys share, their paths have the same words: the cells up to
-- the smaller key share as much with one as with the other, as far as it matters. From a cell's dimension on, its path's words are the
-- cell itself: every cell before it shares less. And link d of path word d leads to the next cell if d is that one's dimension, and
-- nowhere if d is larger: all up to there share more than d with that word's cell.
use Rattle.std.specs.Prelude.{Some}
use mathlib.Core.Path.{◌≡◌, refl, sym, ap, ◌∙◌, subst}
use mathlib.Core.List.{List, [], ◌∷◌, ◌++◌, append-nil}
use Prim.Native.Nat.{ℕ, suc, ◌+◌, ◌-◌, ◌≤◌, ◌<◌, min}
use native.Mathlib.Nat.{zero-add}
use native.Mathlib.Decide.{dec_lt}
use native.Mathlib.Omega.{arith}
use lib.ListN.{length, get_or, take, replicate, length-append, length-replicate, get_or-replicate, get_or-append}
use lib.Seq.{get_or-append-add, get_or-take, length-take-le, ext_get_or}
use borrow.Author.Tests.{lt-ltb, le-ltb}
use Rattle.lists.proofs.Numbers.{made_at, made_length}
use Rattle.lists.proofs.All.{All, all_map}
use Rattle.meaning.specs.Keys.{shared}
use Rattle.meaning.specs.Row.{Node, head_node, first_sharing, Place, places, settled_link, place_of}
use Rattle.meaning.specs.State.{State, position_key}
use Rattle.meaning.specs.Picture.{first_with, path}
use Rattle.meaning.specs.Layer.Paths.{path_for, onward}
use Rattle.meaning.proofs.Rows.AscendingRow.{Asc}
use Rattle.meaning.proofs.Rows.Keys.{shared_same, shared_sym, shared_le, shared_less, ultra, triangle}
use Rattle.meaning.proofs.Rows.Places.{asc_left, last_from}
use Rattle.meaning.proofs.Rows.Parent.{dimension_after, Apart, ParentPlace, asc_last, last_least, last_greatest, sharing_skips, sharing_hits}
use Rattle.meaning.proofs.Rows.Parent.{sharing_none, first_hits, first_skips, first_front, near, first_place, sharing_above}
use Rattle.meaning.proofs.Cells.WalkRead.{settled_above}

-- The words of a path

pub path_is : (s : State) → path s ≡ path_for s.settings.base s.settings.dimensions s.row (position_key s)
unfolding path path_for
path_is s = refl

pub path_for-length : (b D : ℕ) (row : List Node) (key : ℕ) → length (path_for b D row key) ≡ D
unfolding path_for
path_for-length b D row key = made_length (λ d. first_with b D key (suc d) (head_node ∷ row)) 0 D

pub path_for-at : (b D : ℕ) (row : List Node) (key d : ℕ) → d < D → get_or (path_for b D row key) d 0 ≡ first_with b D key (suc d) (head_node ∷ row)
unfolding path_for
path_for-at b D row key d h =
    made_at (λ i. first_with b D key (suc i) (head_node ∷ row)) 0 D d 0 h ∙ ap (λ i. first_with b D key (suc i) (head_node ∷ row)) (zero-add d)

-- a path with a cell from a word on

pub onward_length : (D : ℕ) (path : List ℕ) (d y : ℕ) → length path ≡ D → d ≤ D → length (onward D path d y) ≡ D
onward_length D path d y long h =
    omega (arith, length-append (take d path) (replicate (D - d) y), length-take-le d path (omega arith), length-replicate {A = ℕ} (D - d) y)

pub onward_front : (D : ℕ) (path : List ℕ) (d y i : ℕ) → length path ≡ D → d ≤ D → i < d → get_or (onward D path d y) i 0 ≡ get_or path i 0
onward_front D path d y i long h l =
    get_or-append (take d path) (replicate (D - d) y) 0 i (omega (arith, length-take-le d path (omega arith))) ∙ get_or-take d path i 0 l

pub onward_back : (D : ℕ) (path : List ℕ) (d y i : ℕ) → length path ≡ D → d ≤ i → i < D → get_or (onward D path d y) i 0 ≡ y
onward_back D path d y i long h l =
    let front = length-take-le d path (omega arith) in
    let there : i ≡ length (take d path) + (i - d) = omega arith in
    ap (λ j. get_or (onward D path d y) j 0) there
    ∙ get_or-append-add (take d path) (replicate (D - d) y) (i - d) 0
    ∙ get_or-replicate {A = ℕ} (D - d) (i - d) y 0 (omega arith)

-- D words that are a path's below d, and y from d on
pub onward_is :
    (D : ℕ) (path words : List ℕ) (d y : ℕ) → length path ≡ D → length words ≡ D → d ≤ D →
    ((i : ℕ) → i < d → get_or words i 0 ≡ get_or path i 0) → ((i : ℕ) → d ≤ i → i < D → get_or words i 0 ≡ y) → words ≡ onward D path d y
onward_is D path words d y long same h front back =
    ext_get_or 0 words (onward D path d y) (same ∙ sym (onward_length D path d y long h)) (λ i l. at i (omega arith) (dec_lt i d))
  where
    at : (i : ℕ) → i < D → Dec (i < d) → get_or words i 0 ≡ get_or (onward D path d y) i 0
    at i l (yes m) = front i m ∙ sym (onward_front D path d y i long h m)
    at i l (no m) = back i (omega arith) l ∙ sym (onward_back D path d y i long (omega arith) l)

-- The first that shares enough

module _ (b D : ℕ) where
  pub first_past : (key n : ℕ) (pre later : List Node) → All (λ z. shared b D z.key key < n) pre →
      first_with b D key n (pre ++ later) ≡ first_with b D key n later
  first_past key n [] later a = refl
  first_past key n (z ∷ pre) later a = first_skips b D key n z (pre ++ later) a.0 ∙ first_past key n pre later a.1

  -- it is the same for keys that share n coordinates
  pub first_alike : 0 < b → (k l n : ℕ) → n ≤ shared b D k l → (row : List Node) → first_with b D k n row ≡ first_with b D l n row
  unfolding first_with
  first_alike pos k l n h [] = refl
  first_alike pos k l n h (z ∷ row) = at (dec_lt (shared b D z.key k) n) (first_alike pos k l n h row)
    where
      at : Dec (shared b D z.key k < n) → first_with b D k n row ≡ first_with b D l n row → first_with b D k n (z ∷ row) ≡ first_with b D l n (z ∷ row)
      at (yes g) more =
          first_skips b D k n z row g ∙ more ∙ sym (first_skips b D l n z row (omega (arith, triangle b D z.key l k pos, shared_sym b D k l)))
      at (no g) more = first_hits b D k n z row (omega arith) ∙ sym (first_hits b D l n z row (omega (arith, triangle b D z.key k l pos)))

-- what holds of 0 and of the cell of each node holds of the first that shares enough
pub first_holds : (P : ℕ → Type 0) (b D key n : ℕ) (row : List Node) → P 0 → All (λ z. P z.cell) row → P (first_with b D key n row)
unfolding first_with
first_holds P b D key n [] nowhere a = nowhere
first_holds P b D key n (z ∷ row) nowhere a = at (dec_lt (shared b D z.key key) n) (first_holds P b D key n row nowhere a.1)
  where
    at : Dec (shared b D z.key key < n) → P (first_with b D key n row) → P (first_with b D key n (z ∷ row))
    at (yes h) more = rw (lt-ltb (shared b D z.key key) n h) more
    at (no h) more = rw (le-ltb (shared b D z.key key) n (omega arith)) a.0

-- what holds of the head and of the cell of each node holds of every word of a path
pub path_holds : (P : ℕ → Type 0) (b D : ℕ) (row : List Node) (key d : ℕ) → d < D → P 0 → All (λ z. P z.cell) row → P (get_or (path_for b D row key) d 0)
path_holds P b D row key d h head a = rw (path_for-at b D row key d h) (first_holds P b D key (suc d) (head_node ∷ row) head (head, a))

-- The head and the nodes up to the last of them, and a key not below that one's

module _ (b D : ℕ) (pos : 0 < b) (pre : List Node) (asc : Asc 0 pre) where
  up_to_last : All (λ z. z.key ≤ (last_from head_node pre).key) (head_node ∷ pre)
  up_to_last = (last_least head_node pre asc, last_greatest head_node pre asc)

  up_to_shares :
      (key : ℕ) → (last_from head_node pre).key ≤ key →
      All (λ z. shared b D z.key key ≡ min (shared b D z.key (last_from head_node pre).key) (shared b D (last_from head_node pre).key key)) (head_node ∷ pre)
  up_to_shares key h = all_map (λ z l. ultra b D z.key (last_from head_node pre).key key pos l h) (head_node ∷ pre) up_to_last

  -- from its dimension on, the path of the node after it has that one's cell
  path_next_own :
      (y : Node) (post : List Node) (i : ℕ) → (last_from head_node pre).key ≤ y.key → dimension_after b D head_node pre y.key ≤ i → i < D →
      first_with b D y.key (suc i) (head_node ∷ (pre ++ y ∷ post)) ≡ y.cell
  path_next_own y post i g h l =
      first_past b D y.key (suc i) (head_node ∷ pre) (y ∷ post) (all_map (λ z e. omega arith) (head_node ∷ pre) (up_to_shares y.key g))
      ∙ first_hits b D y.key (suc i) y post (omega (arith, shared_same b D y.key))

-- Paths

-- the head's
pub path_head : (b D : ℕ) (row : List Node) → path_for b D row 0 ≡ replicate D 0
path_head b D row =
    ext_get_or 0 (path_for b D row 0) (replicate D 0) (path_for-length b D row 0 ∙ sym (length-replicate {A = ℕ} D 0))
    (λ i h. let l : i < D = omega (arith, path_for-length b D row 0) in
    path_for-at b D row 0 i l ∙ first_hits b D 0 (suc i) head_node row (omega (arith, shared_same b D 0)) ∙ sym (get_or-replicate {A = ℕ} D i 0 0 l))

-- the path of a key, from the path of another that has the same words below d
pub path_from :
    (b D : ℕ) (row : List Node) (x y d c : ℕ) → d ≤ D →
    ((i : ℕ) → i < d → first_with b D y (suc i) (head_node ∷ row) ≡ first_with b D x (suc i) (head_node ∷ row)) →
    ((i : ℕ) → d ≤ i → i < D → first_with b D y (suc i) (head_node ∷ row) ≡ c) → path_for b D row y ≡ onward D (path_for b D row x) d c
path_from b D row x y d c h front back =
    onward_is D (path_for b D row x) (path_for b D row y) d c (path_for-length b D row x) (path_for-length b D row y) h
    (λ i l. path_for-at b D row y i (omega arith) ∙ front i l ∙ sym (path_for-at b D row x i (omega arith)))
    (λ i l m. path_for-at b D row y i m ∙ back i l m)

module _ (b D : ℕ) (pos : 0 < b) (pre : List Node) where
  -- the next node's: below its dimension as before, from there on its own cell
  pub path_next :
      (y : Node) (post : List Node) → Asc 0 (pre ++ y ∷ post) →
      path_for b D (pre ++ y ∷ post) y.key
      ≡ onward D (path_for b D (pre ++ y ∷ post) (last_from head_node pre).key) (shared b D (last_from head_node pre).key y.key) y.cell
  path_next y post asc =
      let A = last_from head_node pre in
      let front = asc_left 0 pre (y ∷ post) asc in
      let less = (asc_last head_node pre (y ∷ post) asc).0 in
      path_from b D (pre ++ y ∷ post) A.key y.key (shared b D A.key y.key) y.cell (shared_le b D A.key y.key)
      (λ i l. sym (first_alike b D pos A.key y.key (suc i) l (head_node ∷ (pre ++ y ∷ post))))
      (λ i h l. path_next_own b D pos pre front y post i (omega arith) h l)

-- Links of path words

-- Word d of a key's path is a cell of dimension at most d, whose settled link d leads to c.
pub record PathLink (b D : ℕ) (row : List Node) (key d c : ℕ) : Type 0 where
  pub place : Place
  pub found : place_of (get_or (path_for b D row key) d 0) (places b D row) ≡ Some place
  pub dimension : place.dimension ≤ d
  pub leads : settled_link b D place d ≡ c

module _ (b D : ℕ) (pos : 0 < b) (deep : 0 < D) where
  -- link d of a place that shares more than d with a leads to the first of what comes after a that shares just d
  parent_passes : (d : ℕ) (a : Node) (later : List Node) (p : Place) → ParentPlace b D d a later p →
      settled_link b D p d ≡ first_sharing b D p.node.key d later
  parent_passes d a later p at =
      let shares = at.shares in
      let to_last = ap (λ z. shared b D p.node.key z.key) at.last_is in
      settled_above b D p d at.low
      ∙ ap (first_sharing b D p.node.key d) at.later_is
      ∙ sharing_skips b D p.node.key d at.between later (all_map (λ z h e. omega arith) at.between
      (near b D pos deep p.node at.between at.ascends))

  pub parent_shares :
      (d : ℕ) (a : Node) (later : List Node) (p : Place) → ParentPlace b D d a later p → (key : ℕ) → a.key ≤ key →
      shared b D p.node.key key ≡ min (shared b D p.node.key a.key) (shared b D a.key key)
  parent_shares d a later p at key h =
      let up = last_least p.node at.between at.ascends in
      ultra b D p.node.key a.key key pos (omega (arith, up, ap (λ z. z.key) at.last_is)) h

  module _ (pre : List Node) where
    -- link d of word d of the last node's path leads to c, if c is the first of what comes after that shares just d with that word's cell
    pub path_link :
        (later : List Node) (d c : ℕ) → Asc 0 pre → Apart (head_node ∷ pre) → d < D →
        ((p : Place) → ParentPlace b D d (last_from head_node pre) later p → first_sharing b D p.node.key d later ≡ c) →
        PathLink b D (pre ++ later) (last_from head_node pre).key d c
    unfolding places
    path_link later d c asc apart l to =
        let A = last_from head_node pre in
        let (p, found, at) = first_place b D pos deep d head_node 0 head_node 0 pre later asc apart l (λ h. omega arith) in
        let word = path_for-at b D (pre ++ later) A.key d l ∙ first_front b D A.key (suc d) head_node pre later (omega (arith, shared_same b D A.key)) in
        record {
          place = p;
          found = ap (λ c. place_of c (places b D (pre ++ later))) word ∙ found;
          dimension = at.low;
          leads = parent_passes d A later p at ∙ to p at;
        }

    -- the link that leads to the next node: its number is that one's dimension
    pub next_link :
        (y : Node) (post : List Node) → Asc 0 (pre ++ y ∷ post) → Apart (head_node ∷ pre) →
        PathLink b D (pre ++ y ∷ post) (last_from head_node pre).key (shared b D (last_from head_node pre).key y.key) y.cell
    next_link y post asc apart =
        let A = last_from head_node pre in
        let e = shared b D A.key y.key in
        let less = (asc_last head_node pre (y ∷ post) asc).0 in
        path_link (y ∷ post) e y.cell (asc_left 0 pre (y ∷ post) asc) apart (shared_less b D A.key y.key deep (omega arith))
        (λ p at. let shares = at.shares in sharing_hits b D p.node.key e y post (omega (arith, parent_shares e A (y ∷ post) p at y.key (omega arith))))

    -- a higher one leads nowhere, ..
    pub next_link_above :
        (y : Node) (post : List Node) (d : ℕ) → Asc 0 (pre ++ y ∷ post) → Apart (head_node ∷ pre) →
        shared b D (last_from head_node pre).key y.key < d → d < D → PathLink b D (pre ++ y ∷ post) (last_from head_node pre).key d 0
    next_link_above y post d asc apart h l =
        let A = last_from head_node pre in
        let up = asc_last head_node pre (y ∷ post) asc in
        let less = up.0 in
        path_link (y ∷ post) d 0 (asc_left 0 pre (y ∷ post) asc) apart l
        (λ p at.
        let least = last_least p.node at.between at.ascends in
        let last = ap (λ z. z.key) at.last_is in
        sharing_above b D pos p.node.key d y post (omega arith) up.1 (omega (arith, parent_shares d A (y ∷ post) p at y.key (omega arith))))

    -- .. and from the path of the last node none leads anywhere
    pub last_link : (d : ℕ) → Asc 0 pre → Apart (head_node ∷ pre) → d < D → PathLink b D pre (last_from head_node pre).key d 0
    last_link d asc apart l =
        subst (λ row. PathLink b D row (last_from head_node pre).key d 0) (append-nil pre)
        (path_link [] d 0 asc apart l (λ p at. sharing_none b D p.node.key d [] tt))
