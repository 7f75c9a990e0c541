-- Reading a picture gives the state again, so a buffer is a list exactly if it is the picture of a state in order. Part by part: the
-- blocks are cut out as they were put in; put one by one into a row, the standing cells numbered i and more are those of the row; the
-- free cells are distinct, so each leads to the next; the last word of the path is the position, since only equal keys share all
-- coordinates.
use Rattle.std.specs.Prelude.{Option, None, Some}
use mathlib.Core.Path.{◌≡◌, refl, sym, ap, ◌∙◌, subst}
use mathlib.Core.Bool.{Bool, true, false, cond, ◌&&◌, not, false≢true}
use mathlib.Core.List.{List, [], ◌∷◌, map}
use Prim.Native.Nat.{ℕ, zero, suc, ◌+◌, ◌-◌, ◌≤◌, ◌<◌}
use native.Mathlib.Nat.{zero-add}
use native.Mathlib.Decide.{ℕ_discrete, dec_le}
use native.Mathlib.Omega.{arith}
use lib.Dec.{eqb, leb}
use lib.ListN.{length, get_or, drop}
use lib.Seq.{drop_at}
use borrow.Author.Tests.{eq-eqb, ne_eqb, le-leb, lt-leb, le-ltb, lt-ltb}
use Rattle.settings.specs.Numbers.{in_range, header_words, cell_words, length_of}
use Rattle.settings.proofs.Numbers.{in_range_lem}
use Rattle.lists.specs.Lists.{those, occurrences, numbers_from, first_number, blocks, same}
use Rattle.lists.proofs.Same.{same_refl, same_eq}
use Rattle.lists.proofs.Those.{those_all, those_none, those_same, those_keep}
use Rattle.lists.proofs.Blocks.{blocks_cut}
use Rattle.lists.proofs.Numbers.{numbers_length, made_at, made_rest}
use Rattle.lists.proofs.Occurrences.{Distinct}
use Rattle.lists.proofs.All.{All, all_map, all_zip, all_of_map}
use Rattle.lists.proofs.Tests.{both, and_both}
use Rattle.meaning.specs.Keys.{shared}
use Rattle.meaning.specs.Row.{Node, head_node, first_of, Place, head_place, places_after, places, owed, place_of, put}
use Rattle.meaning.specs.State.{State, key_of, position_key, valid}
use Rattle.meaning.specs.Picture.{mark, standing_words, next_free, free_words, words_of, first_with, path, cell_pictures, picture}
use Rattle.meaning.specs.Reading.{node_of, standing, chain, cell_blocks, read, sized, is_list}
use Rattle.meaning.proofs.Rows.AscendingRow.{Asc, asc_above}
use Rattle.meaning.proofs.Rows.Keys.{shared_same, shared_less}
use Rattle.meaning.proofs.Pictures.State.{Sound, valid_sound, sound_valid}
use Rattle.meaning.proofs.Pictures.StateCells.{row_distinct, free_distinct, row_range, free_range, free_length}
use Rattle.meaning.proofs.Rows.Put.{put_front, put_past}
use Rattle.meaning.proofs.Pictures.Picture.{shown_words, shown_length, path_length, picture_length, picture_path, place_past, Told, told, first_has}
use Rattle.meaning.proofs.Pictures.Picture.{free_found, free_words-rest, places_later}
use Rattle.meaning.proofs.Rows.Places.{key_of_has}

-- The blocks

pub blocks_read : (s : State) → cell_blocks (picture s) ≡ map (shown_words s) (numbers_from 0 s.settings.cells)
unfolding picture cell_pictures
blocks_read s =
    let D = s.settings.dimensions in
    let numbers = numbers_from 0 s.settings.cells in
    let there : header_words + D ≡ suc (suc (suc (suc (suc D)))) = omega arith in
    ap (λ n. blocks (cell_words D) s.settings.cells (drop n (picture s))) there
    ∙ ap (blocks (cell_words D) s.settings.cells) (drop_at (path s) (cell_pictures s) D (path_length s))
    ∙ ap (λ n. blocks (cell_words D) n (cell_pictures s)) (sym (numbers_length 0 s.settings.cells))
    ∙ blocks_cut (shown_words s) (cell_words D) (shown_length s) numbers

-- The standing cells

pub mark_live : (live : Bool) → eqb (mark live) 1 ≡ live
mark_live true = refl
mark_live false = refl

pub mark_stands : (live : Bool) → eqb (mark live) 0 ≡ false
mark_stands true = refl
mark_stands false = refl

pub node_read : (b D c : ℕ) (x : Place) → x.node.cell ≡ c → not (eqb (owed x) 0) ≡ x.node.owes → node_of c (standing_words b D x) ≡ x.node
unfolding standing_words
node_read b D c x e o = λ i. record { cell = sym e i; key = x.node.key; value = x.node.value; live = mark_live x.node.live i; owes = o i }

-- a cell owes exactly if its owed word is not 0
pub owes_told : (owes : Bool) (c : ℕ) → (owes ≡ true → 0 < c) → not (eqb (cond owes c 0) 0) ≡ owes
owes_told true c f = rw (ne_eqb c 0 (λ e. let h = f refl in omega arith)) refl
owes_told false c f = refl

-- the cells numbered i and more
abbrev from : ℕ → Node → Bool
from i x = leb i x.cell

-- the node found at i put to those numbered more than i gives those numbered i and more
abbrev Cut : ℕ → ℕ → List Node → Option Place → Type 0
Cut low i row None = those (from i) row ≡ those (from (suc i)) row
Cut low i row (Some p) = (low < p.node.key) × (those (from i) row ≡ put p.node (those (from (suc i)) row))

from_other : (i c : ℕ) → (c ≡ i → ⊥) → leb i c ≡ leb (suc i) c
from_other i c ne = at (dec_le i c)
  where
    at : Dec (i ≤ c) → leb i c ≡ leb (suc i) c
    at (yes h) = le-leb i c h ∙ sym (le-leb (suc i) c (omega arith))
    at (no h) = lt-leb i c (omega arith) ∙ sym (lt-leb (suc i) c (omega arith))

cut_here : (i : ℕ) (x : Node) (row : List Node) → x.cell ≡ i → All (λ y. x.key < y.key) row → All (λ y. x.cell ≡ y.cell → ⊥) row →
    those (from i) (x ∷ row) ≡ put x (those (from (suc i)) (x ∷ row))
unfolding those
cut_here i x row e above others =
    let more = those (from (suc i)) row in
    rw (le-leb i x.cell (omega arith), lt-leb (suc i) x.cell (omega arith))
    (ap (λ r. x ∷ r) (those_same (from i) (from (suc i)) row (all_map (λ y ne. from_other i y.cell (λ q. ne (e ∙ sym q))) row others))
    ∙ sym (put_front x more (those_keep (λ y. x.key < y.key) (from (suc i)) row above)))

cut_past : (low i : ℕ) (x : Node) (row : List Node) → low < x.key → (x.cell ≡ i → ⊥) →
    (o : Option Place) → Cut x.key i row o → Cut low i (x ∷ row) o
unfolding those
cut_past low i x row h ne None more = rw (from_other i x.cell ne, more) refl
cut_past low i x row h ne (Some p) more =
    (let k = more.0 in omega arith, rw (from_other i x.cell ne, more.1) (at (leb (suc i) x.cell)))
  where
    rest : List Node
    rest = those (from (suc i)) row

    at : (t : Bool) → cond t (x ∷ put p.node rest) (put p.node rest) ≡ put p.node (cond t (x ∷ rest) rest)
    at true = sym (put_past p.node x rest more.0)
    at false = refl

cut : (b D : ℕ) (a : Node) (e i : ℕ) (row : List Node) → Asc a.key row → Distinct (map (λ x. x.cell) row) →
    Cut a.key i row (place_of i (places_after b D a e row))
unfolding places_after place_of those
cut b D a e i [] asc d = refl
cut b D a e i (x ∷ row) asc d = at (ℕ_discrete x.cell i) (cut b D x (shared b D a.key x.key) i row asc.1 d.1)
  where
    later : List Place
    later = places_after b D x (shared b D a.key x.key) row

    here : Place
    here = record { node = x; dimension = shared b D a.key x.key; before = a; before_dimension = e; later = row }

    at : Dec (x.cell ≡ i) → Cut x.key i row (place_of i later) → Cut a.key i (x ∷ row) (cond (eqb x.cell i) (Some here) (place_of i later))
    at (yes q) more =
        rw (eq-eqb x.cell i q)
        (asc.0, cut_here i x row q (asc_above x.key row asc.1) (all_of_map (λ c. x.cell ≡ c → ⊥) (λ y. y.cell) row d.0))
    at (no ne) more = rw (ne_eqb x.cell i ne) (cut_past a.key i x row asc.0 ne (place_of i later) more)

-- the owed words of the places tell who owes, since no standing cell but the head has number 0
pub owes_shown : (s : State) → Sound s → All (λ p. not (eqb (owed p) 0) ≡ p.node.owes) (places s.settings.base s.settings.dimensions s.row)
owes_shown s v =
    let b = s.settings.base in
    let D = s.settings.dimensions in
    let above : All (λ x. 0 < x.cell) s.row = all_map (λ x h. h.0) s.row (row_range s v) in
    all_zip (λ p debt later.
    owes_told p.node.owes (first_of p.later).cell (λ o. first_has (λ x. 0 < x.cell) p.later later (debt o).later))
    (places b D s.row) v.debts (places_later (λ x. 0 < x.cell) b D s.row above)

standing_read : (b D : ℕ) (free : List ℕ) (i : ℕ) (row : List Node) (cells : List (List ℕ)) (o : Option Place) →
    Told (λ p. not (eqb (owed p) 0) ≡ p.node.owes) i o → Cut 0 i row o → standing (suc i) cells ≡ those (from (suc i)) row →
    standing i (words_of b D free i o ∷ cells) ≡ those (from i) row
unfolding standing words_of standing_words
standing_read b D free i row cells None t c more = rw (free_words-rest D (next_free i free) 2 (omega arith) (omega arith)) (more ∙ sym c)
standing_read b D free i row cells (Some p) t c more =
    rw (mark_stands p.node.live)
    (ap (λ x. put x (standing (suc i) cells)) (node_read b D i p t.0 t.1)
    ∙ ap (put p.node) more
    ∙ sym c.1)

-- the last n of C cells, numbered i and more
cells_read : (s : State) → Sound s → (n i : ℕ) → 0 < i → i + n ≡ s.settings.cells →
    standing i (map (shown_words s) (numbers_from i n)) ≡ those (from i) s.row
unfolding standing numbers_from places
cells_read s v zero i h e =
    sym (those_none (from i) s.row (all_map (λ x r. lt-leb i x.cell (let k = r.1 in omega arith)) s.row (row_range s v)))
cells_read s v (suc n) i h e =
    let b = s.settings.base in
    let D = s.settings.dimensions in
    let row = s.row in
    let found = place_of i (places b D row) in
    let past : found ≡ place_of i (places_after b D head_node 0 row) =
    place_past i (head_place row) (places_after b D head_node 0 row) (λ q. omega arith) in
    standing_read b D s.free i row (map (shown_words s) (numbers_from (suc i) n)) found
    (told (λ p. not (eqb (owed p) 0) ≡ p.node.owes) i (places b D row) (owes_shown s v))
    (subst (Cut 0 i row) (sym past) (cut b D head_node 0 i row v.ascends (row_distinct s v)))
    (cells_read s v n (suc i) (omega arith) (omega arith))

pub row_read : (s : State) → Sound s → standing 1 (drop 1 (cell_blocks (picture s))) ≡ s.row
row_read s v =
    let C = s.settings.cells in
    ap (λ cells. standing 1 (drop 1 cells)) (blocks_read s)
    ∙ ap (standing 1) (made_rest (shown_words s) 0 C)
    ∙ cells_read s v (C - 1) 1 (omega arith) (let h = v.ranges.cells_least in omega arith)
    ∙ those_all (from 1) s.row (all_map (λ x h. le-leb 1 x.cell h.0) s.row (row_range s v))

-- The free cells

-- each of some cells is followed in the chain by the next of them, the last by none
abbrev pub Follow : List ℕ → List ℕ → Type 0
Follow free [] = Unit {0}
Follow free (c ∷ cs) = (next_free c free ≡ first_number cs) × Follow free cs

pub follow_past : (x : ℕ) (free cs : List ℕ) → All (λ c. x ≡ c → ⊥) cs → Follow free cs → Follow (x ∷ free) cs
unfolding next_free
follow_past x free [] a f = tt
follow_past x free (c ∷ cs) a f = (rw (ne_eqb x c a.0) f.0, follow_past x free cs a.1 f.1)

pub distinct_follow : (free : List ℕ) → Distinct free → Follow free free
unfolding next_free
distinct_follow [] d = tt
distinct_follow (x ∷ free) d = (rw (eq-eqb x x refl) refl, follow_past x free free d.0 (distinct_follow free d.1))

pub free_word : (s : State) (c : ℕ) → c < s.settings.cells → place_of c (places s.settings.base s.settings.dimensions s.row) ≡ None →
    get_or (get_or (cell_blocks (picture s)) c []) 0 0 ≡ next_free c s.free
unfolding words_of free_words
free_word s c h e =
    let b = s.settings.base in
    let D = s.settings.dimensions in
    ap (λ cells. get_or (get_or cells c []) 0 0) (blocks_read s)
    ∙ ap (λ ws. get_or ws 0 0) (made_at (shown_words s) 0 s.settings.cells c [] h)
    ∙ ap (λ n. get_or (shown_words s n) 0 0) (zero-add c)
    ∙ ap (λ o. get_or (words_of b D s.free c o) 0 0) e

pub chain_more : (fuel : ℕ) (cells : List (List ℕ)) (c : ℕ) → (c ≡ 0 → ⊥) → chain (suc fuel) cells c ≡ c ∷ chain fuel cells (get_or (get_or cells c []) 0 0)
unfolding chain
chain_more fuel cells c ne = rw (ne_eqb c 0 ne, chain) refl

chain_read : (s : State) (fuel : ℕ) (cs : List ℕ) → length cs ≤ fuel → Follow s.free cs →
    All (λ c. (0 < c) × (c < s.settings.cells)) cs →
    All (λ c. place_of c (places s.settings.base s.settings.dimensions s.row) ≡ None) cs →
    chain fuel (cell_blocks (picture s)) (first_number cs) ≡ cs
unfolding chain
chain_read s zero [] h f range free = refl
chain_read s (suc fuel) [] h f range free = refl
chain_read s zero (c ∷ cs) h f range free = absurd (omega arith)
chain_read s (suc fuel) (c ∷ cs) h f range free =
    let words = cell_blocks (picture s) in
    chain_more fuel words c (λ e. let k = range.0.0 in omega arith)
    ∙ ap (λ n. c ∷ chain fuel words n) (free_word s c range.0.1 free.0 ∙ f.0)
    ∙ ap (λ r. c ∷ r) (chain_read s fuel cs (omega arith) f.1 range.1 free.1)

pub free_read : (s : State) → Sound s → chain s.settings.cells (cell_blocks (picture s)) (first_number s.free) ≡ s.free
free_read s v =
    let n = free_length s v in
    chain_read s s.settings.cells s.free (omega arith)
    (distinct_follow s.free (free_distinct s v)) (free_range s v) (free_found s v)

-- The position

-- one standing cell: it is c, or c is one of the later ones
first_is : (b D c : ℕ) (x : Node) (row : List Node) → 0 < D → Asc x.key row → 0 < occurrences c (map (λ y. y.cell) (x ∷ row)) →
    (0 < occurrences c (map (λ y. y.cell) row) → first_with b D (key_of c row) D row ≡ c) →
    first_with b D (key_of c (x ∷ row)) D (x ∷ row) ≡ c
unfolding first_with key_of occurrences
first_is b D c x row pos asc o more = at (ℕ_discrete x.cell c)
  where
    at : Dec (x.cell ≡ c) → first_with b D (key_of c (x ∷ row)) D (x ∷ row) ≡ c
    at (yes e) = rw (eq-eqb x.cell c e, le-ltb (shared b D x.key x.key) D (omega (arith, shared_same b D x.key))) e
    at (no ne) =
        let o' : 0 < occurrences c (map (λ y. y.cell) row) = rw (ne_eqb x.cell c ne) at o in
        let above = key_of_has (λ key. x.key < key) c row o' (all_map (λ y h e. h) row (asc_above x.key row asc)) in
        let less = shared_less b D x.key (key_of c row) pos (λ e. omega arith) in
        let first_at : ℕ → Type 0 = λ k. first_with b D k D (x ∷ row) ≡ c in
        let key : key_of c (x ∷ row) ≡ key_of c row = rw (ne_eqb x.cell c ne) refl in
        subst first_at (sym key) (rw (lt-ltb (shared b D x.key (key_of c row)) D less) (more o'))

-- the first of the standing cells that shares all coordinates with cell c is c itself
pub first_in : (b D c : ℕ) (x : Node) (row : List Node) → 0 < D → Asc x.key row → 0 < occurrences c (map (λ y. y.cell) (x ∷ row)) →
    first_with b D (key_of c (x ∷ row)) D (x ∷ row) ≡ c
unfolding occurrences
first_in b D c x [] pos asc o = first_is b D c x [] pos asc o (λ n. absurd (omega arith))
first_in b D c x (y ∷ row) pos asc o = first_is b D c x (y ∷ row) pos asc o (first_in b D c y row pos asc.1)

pub position_read : (s : State) → Sound s → get_or (picture s) (header_words + s.settings.dimensions - 1) 0 ≡ s.position
position_read s v =
    let b = s.settings.base in
    let D = s.settings.dimensions in
    let least = v.ranges.dimensions_least in
    let there : header_words + D - 1 ≡ header_words + (D - 1) = omega arith in
    let all : suc (D - 1) ≡ D = omega arith in
    ap (λ n. get_or (picture s) n 0) there
    ∙ picture_path s (D - 1) (omega arith)
    ∙ ap (λ n. first_with b D (position_key s) n (head_node ∷ s.row)) all
    ∙ first_in b D s.position head_node s.row (omega arith) v.ascends v.position

-- The whole

pub read_of_picture : (s : State) → Sound s → read (picture s) ≡ s
unfolding picture read
read_of_picture s v =
    λ i. record { settings = s.settings; row = row_read s v i; free = free_read s v i; position = position_read s v i }

pub picture_sized : (s : State) → Sound s → sized (picture s) ≡ true
unfolding sized picture
picture_sized s v =
    let D = s.settings.dimensions in
    let K = s.settings.largest in
    let C = s.settings.cells in
    and_both (in_range D K C) (eqb (length (picture s)) (length_of D C))
    (in_range_lem D K C v.ranges) (eq-eqb (length (picture s)) (length_of D C) (picture_length s))

-- the picture of a state in order is a list
pub picture_is_list : (s : State) → Sound s → is_list (picture s) ≡ true
unfolding is_list
picture_is_list s v =
    rw (picture_sized s v, is_list)
    (ap (λ t. valid t && same (picture t) (picture s)) (read_of_picture s v)
    ∙ and_both (valid s) (same (picture s) (picture s)) (sound_valid s v) (same_refl (picture s)))

-- the two tests of a list of the right size
list_tests : (ws : List ℕ) → is_list ws ≡ true → (valid (read ws) ≡ true) × (same (picture (read ws)) ws ≡ true)
unfolding is_list
list_tests ws e = at (sized ws) e
  where
    at : (t : Bool) → elim t [ true ↦ valid (read ws) && same (picture (read ws)) ws | false ↦ false ] ≡ true →
        (valid (read ws) ≡ true) × (same (picture (read ws)) ws ≡ true)
    at true h = both (valid (read ws)) (same (picture (read ws)) ws) h
    at false h = absurd (false≢true h)

-- a list is the picture of the state that it holds, which is in order
pub list_is_picture : (ws : List ℕ) → is_list ws ≡ true → picture (read ws) ≡ ws
list_is_picture ws e = same_eq (picture (read ws)) ws (list_tests ws e).1

pub list_sound : (ws : List ℕ) → is_list ws ≡ true → Sound (read ws)
list_sound ws e = valid_sound (read ws) (list_tests ws e).0
