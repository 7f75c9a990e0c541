-- Where each word of a picture stands: header, path, and the words of each cell, as equal blocks; and which cells it shows standing.
use Rattle.std.specs.Prelude.{Option, None, Some}
use mathlib.Core.Path.{◌≡◌, refl, sym, ap, ◌∙◌, subst}
use mathlib.Core.Bool.{cond}
use mathlib.Core.List.{List, [], ◌∷◌, map}
use Prim.Native.Nat.{ℕ, zero, suc, ◌+◌, ◌*◌, ◌<◌, ◌-◌}
use native.Mathlib.Nat.{zero-add}
use native.Mathlib.Decide.{ℕ_discrete}
use native.Mathlib.Omega.{arith}
use lib.Dec.{eqb}
use lib.ListN.{length, get_or, length-append, length-replicate, get_or-append, get_or-replicate}
use lib.Seq.{get_or-append-add}
use borrow.Author.Tests.{eq-eqb, ne_eqb}
use Rattle.settings.specs.Numbers.{header_words, cell_words, length_of}
use Rattle.lists.specs.Lists.{numbers_from, first_number}
use Rattle.lists.proofs.Blocks.{blocks_length, block_word}
use Rattle.lists.proofs.Numbers.{numbers_length, numbers_at, made_at, made_length}
use Rattle.lists.proofs.Occurrences.{Distinct, distinct_left, distinct_apart}
use Rattle.lists.proofs.All.{All, all_map, all_zip, all_of_map}
use Rattle.meaning.specs.Keys.{coordinates, shared}
use Rattle.meaning.specs.Row.{Node, head_node, first_of, Place, places_after, places, place_of, link}
use Rattle.meaning.specs.State.{State}
use Rattle.meaning.specs.Picture.{standing_words, free_words, words_of, path_word, path, cell_pictures, picture}
use Rattle.meaning.specs.Words.{word_at}
use Rattle.meaning.proofs.Rows.Keys.{coordinates_length}
use Rattle.meaning.proofs.Pictures.State.{Sound}
use Rattle.meaning.proofs.Pictures.StateCells.{cells_distinct}

-- How long the parts are

pub words_of_length : (b D c : ℕ) (free : List ℕ) (x : Option Place) → length (words_of b D free c x) ≡ cell_words D
unfolding standing_words free_words words_of
words_of_length b D c free None = omega (arith, length-replicate {A = ℕ} (cell_words D - 1) 0)
words_of_length b D c free (Some x) =
    omega (
      arith,
      length-append (coordinates b D x.node.key) (map (link b D x) (numbers_from 0 D)),
      coordinates_length b D
          x.node.key,
      made_length (link b D x) 0 D,
    )

-- the words of cell c in the picture of a state
abbrev pub shown_words : State → ℕ → List ℕ
shown_words s c = words_of s.settings.base s.settings.dimensions s.free c (place_of c (places s.settings.base s.settings.dimensions s.row))

pub shown_length : (s : State) (c : ℕ) → length (shown_words s c) ≡ cell_words s.settings.dimensions
shown_length s c =
    words_of_length s.settings.base s.settings.dimensions c s.free (place_of c (places s.settings.base s.settings.dimensions s.row))

pub path_length : (s : State) → length (path s) ≡ s.settings.dimensions
unfolding path
path_length s = made_length (path_word s) 0 s.settings.dimensions

pub cells_length : (s : State) → length (cell_pictures s) ≡ s.settings.cells * cell_words s.settings.dimensions
unfolding cell_pictures
cells_length s =
    blocks_length (shown_words s) (cell_words s.settings.dimensions) (shown_length s) (numbers_from 0 s.settings.cells)
    ∙ ap (λ n. n * cell_words s.settings.dimensions) (numbers_length 0 s.settings.cells)

pub picture_length : (s : State) → length (picture s) ≡ length_of s.settings.dimensions s.settings.cells
unfolding picture
picture_length s = omega (arith, length-append (path s) (cell_pictures s), path_length s, cells_length s)

-- Where the words stand

pub picture_dimensions : (s : State) → get_or (picture s) 0 0 ≡ s.settings.dimensions
unfolding picture
picture_dimensions s = refl

pub picture_largest : (s : State) → get_or (picture s) 1 0 ≡ s.settings.largest
unfolding picture
picture_largest s = refl

pub picture_cells : (s : State) → get_or (picture s) 2 0 ≡ s.settings.cells
unfolding picture
picture_cells s = refl

pub picture_base : (s : State) → get_or (picture s) 3 0 ≡ s.settings.base
unfolding picture
picture_base s = refl

pub picture_free : (s : State) → get_or (picture s) 4 0 ≡ first_number s.free
unfolding picture
picture_free s = refl

pub path_word_lem : (s : State) (d : ℕ) → d < s.settings.dimensions → get_or (path s) d 0 ≡ path_word s d
unfolding path
path_word_lem s d h = made_at (path_word s) 0 s.settings.dimensions d 0 h ∙ ap (path_word s) (zero-add d)

pub picture_path : (s : State) (d : ℕ) → d < s.settings.dimensions → get_or (picture s) (header_words + d) 0 ≡ path_word s d
unfolding picture
picture_path s d h =
    let there : header_words + d ≡ suc (suc (suc (suc (suc d)))) = omega arith in
    let inside : d < length (path s) = omega (arith, path_length s) in
    ap (λ n. get_or (picture s) n 0) there
    ∙ get_or-append (path s) (cell_pictures s) 0 d inside
    ∙ path_word_lem s d h

-- word j of cell c of a picture
pub picture_word : (s : State) (c j : ℕ) → c < s.settings.cells → j < cell_words s.settings.dimensions →
    word_at (picture s) c j ≡ get_or (words_of s.settings.base s.settings.dimensions s.free c
    (place_of c (places s.settings.base s.settings.dimensions s.row))) j 0
unfolding cell_pictures picture
picture_word s c j hc hj =
    let D = s.settings.dimensions in
    let w = cell_words D in
    let numbers = numbers_from 0 s.settings.cells in
    let there : header_words + D + c * w + j ≡ suc (suc (suc (suc (suc (length (path s) + (c * w + j)))))) = omega (arith, path_length s) in
    let inside : c < length numbers = omega (arith, numbers_length 0 s.settings.cells) in
    ap (λ n. get_or (picture s) n 0) there
    ∙ get_or-append-add (path s) (cell_pictures s) (c * w + j) 0
    ∙ block_word (shown_words s) w (shown_length s) numbers c j 0 inside hj
    ∙ ap (λ n. get_or (shown_words s n) j 0) (numbers_at 0 s.settings.cells c 0 hc ∙ zero-add c)

-- The words 4: a free cell's words after the first
pub free_words-rest : (D next j : ℕ) → 0 < j → j < cell_words D → get_or (free_words D next) j 0 ≡ 0
unfolding free_words
free_words-rest D next zero h l = absurd (omega arith)
free_words-rest D next (suc j) h l = get_or-replicate {A = ℕ} (cell_words D - 1) j 0 0 (omega arith)

-- Which cells stand

pub place_here : (c : ℕ) (p : Place) (ps : List Place) → p.node.cell ≡ c → place_of c (p ∷ ps) ≡ Some p
unfolding place_of
place_here c p ps e = rw (eq-eqb p.node.cell c e) refl

pub place_past : (c : ℕ) (p : Place) (ps : List Place) → (p.node.cell ≡ c → ⊥) → place_of c (p ∷ ps) ≡ place_of c ps
unfolding place_of
place_past c p ps ne = rw (ne_eqb p.node.cell c ne) refl

pub place_none : (c : ℕ) (ps : List Place) → All (λ p. p.node.cell ≡ c → ⊥) ps → place_of c ps ≡ None
unfolding place_of
place_none c [] a = refl
place_none c (p ∷ ps) a = place_past c p ps a.0 ∙ place_none c ps a.1

-- what is known of a place that was found
abbrev pub Told : (Place → Type 0) → ℕ → Option Place → Type 0
Told P c None = Unit {0}
Told P c (Some x) = (x.node.cell ≡ c) × P x

pub told : (P : Place → Type 0) (c : ℕ) (ps : List Place) → All P ps → Told P c (place_of c ps)
unfolding place_of
told P c [] a = tt
told P c (p ∷ ps) a = at (ℕ_discrete p.node.cell c) (told P c ps a.1)
  where
    at : Dec (p.node.cell ≡ c) → Told P c (place_of c ps) → Told P c (cond (eqb p.node.cell c) (Some p) (place_of c ps))
    at (yes e) more = rw (eq-eqb p.node.cell c e) (e, a.0)
    at (no ne) more = rw (ne_eqb p.node.cell c ne) more

places_distinct : (ps : List Place) → Distinct (map (λ p. p.node.cell) ps) → All (λ p. place_of p.node.cell ps ≡ Some p) ps
places_distinct [] d = tt
places_distinct (p ∷ ps) d = (
  place_here p.node.cell p ps refl,
  all_zip (λ q ne found. place_past q.node.cell p ps ne ∙ found) ps
      (all_of_map (λ c. p.node.cell ≡ c → ⊥) (λ q. q.node.cell) ps d.0)
      (places_distinct ps d.1),
)

places_after-cells : (b D : ℕ) (a : Node) (e : ℕ) (row : List Node) → map (λ p. p.node.cell) (places_after b D a e row) ≡ map (λ x. x.cell) row
unfolding places_after
places_after-cells b D a e [] = refl
places_after-cells b D a e (x ∷ row) = ap (λ cs. x.cell ∷ cs) (places_after-cells b D x (shared b D a.key x.key) row)

-- the cells of the places are the head and the cells of the row
pub places_cells : (b D : ℕ) (row : List Node) → map (λ p. p.node.cell) (places b D row) ≡ 0 ∷ map (λ x. x.cell) row
unfolding places
places_cells b D row = ap (λ cs. 0 ∷ cs) (places_after-cells b D head_node 0 row)

-- what all nodes of a row have, the first and the later ones of each place have
pub first_has : (P : Node → Type 0) (row : List Node) → All P row → 0 < length row → P (first_of row)
first_has P [] a h = absurd (omega arith)
first_has P (x ∷ row) a h = a.0

later_after : (P : Node → Type 0) (b D : ℕ) (a : Node) (e : ℕ) (row : List Node) → All P row → All (λ p. All P p.later) (places_after b D a e row)
unfolding places_after
later_after P b D a e [] h = tt
later_after P b D a e (x ∷ row) h = (h.1, later_after P b D x (shared b D a.key x.key) row h.1)

pub places_later : (P : Node → Type 0) (b D : ℕ) (row : List Node) → All P row → All (λ p. All P p.later) (places b D row)
unfolding places
places_later P b D row h = (h, later_after P b D head_node 0 row h)

-- each standing cell is found at its place, and a free cell is no standing one
pub place_found : (s : State) → Sound s → All (λ p. place_of p.node.cell (places s.settings.base s.settings.dimensions s.row) ≡ Some p)
    (places s.settings.base s.settings.dimensions s.row)
place_found s v =
    let b = s.settings.base in
    let D = s.settings.dimensions in
    places_distinct (places b D s.row)
    (subst Distinct (sym (places_cells b D s.row)) (distinct_left (0 ∷ map (λ x. x.cell) s.row) s.free (cells_distinct s v)))

pub free_found : (s : State) → Sound s → All (λ c. place_of c (places s.settings.base s.settings.dimensions s.row) ≡ None) s.free
free_found s v =
    let ps = places s.settings.base s.settings.dimensions s.row in
    all_map (λ c apart.
    place_none c ps (all_of_map (λ x. x ≡ c → ⊥) (λ p. p.node.cell) ps
    (subst (All (λ x. x ≡ c → ⊥)) (sym (places_cells s.settings.base s.settings.dimensions s.row)) apart)))
    s.free (distinct_apart (0 ∷ map (λ x. x.cell) s.row) s.free (cells_distinct s v))
