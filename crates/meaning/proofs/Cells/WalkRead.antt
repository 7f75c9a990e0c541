-- What the words of a picture say of each standing cell: each word is that of its place, and a link read through what is owed is the
-- settled one. A cell that owes reads the links in question from the next standing cell, which holds them for it.
use Rattle.std.specs.Prelude.{Some}
use mathlib.Core.Path.{◌≡◌, refl, ◌∙◌, sym, ap, ap₂}
use mathlib.Core.Bool.{Bool, true, false, cond, ◌&&◌, not, and-false}
use mathlib.Core.List.{List, [], ◌∷◌, ◌++◌, map}
use Prim.Native.Nat.{ℕ, ◌+◌, ◌≤◌, ◌<◌}
use native.Mathlib.Nat.{zero-add}
use native.Mathlib.Decide.{dec_le}
use native.Mathlib.Omega.{arith}
use lib.Dec.{eqb, leb, ltb}
use lib.ListN.{length, get_or}
use lib.Seq.{get_or-append-add}
use borrow.Author.Tests.{lt-ltb, le-leb, eq-eqb, leb-true, ltb-true}
use Rattle.settings.specs.Numbers.{fields_before_links, cell_words}
use Rattle.lists.specs.Lists.{numbers_from}
use Rattle.lists.proofs.Numbers.{made_at}
use Rattle.lists.proofs.All.{All, all_map, all_zip}
use Rattle.lists.proofs.Tests.{both, and_both}
use Rattle.meaning.specs.Keys.{shared}
use Rattle.meaning.specs.Row.{Node, head_node, first_of, first_sharing, Place, head_place, places_after, places, settled_link, owed, low, high}
use Rattle.meaning.specs.Row.{between, link, place_of}
use Rattle.meaning.specs.State.{State}
use Rattle.meaning.specs.Picture.{standing_words, words_of, picture, mark}
use Rattle.meaning.specs.Words.{word_at, key_at, owed_at, low_at, high_at, link_at, link_field, value_at, mark_at}
use Rattle.meaning.specs.Walk.{link_read}
use Rattle.meaning.proofs.Promised.AgainstSlips.{owed_link_is_read_there}
use Rattle.meaning.proofs.Pictures.State.{Debt, Sound}
use Rattle.meaning.proofs.Pictures.StateCells.{row_range}
use Rattle.meaning.proofs.Pictures.Picture.{picture_word, place_found}
use Rattle.meaning.proofs.Rows.Places.{places_nodes, row_of_places}

-- Words by place.

-- A standing cell's words are six, then D links.
pub words_link :
    (six : List ℕ) → length six ≡ fields_before_links → (D : ℕ) (to : ℕ → ℕ) (d : ℕ) → d < D → get_or (six ++ map to (numbers_from 0 D)) (link_field d) 0 ≡ to d
words_link six are D to d h =
    ap (λ n. get_or (six ++ map to (numbers_from 0 D)) (n + d) 0) (sym are)
    ∙ get_or-append-add six (map to (numbers_from 0 D)) d 0
    ∙ made_at to 0 D d 0 h
    ∙ ap to (zero-add d)

abbrev six_words : ℕ → ℕ → Place → List ℕ
six_words b D p = p.node.key ∷ p.node.value ∷ mark p.node.live ∷ owed p ∷ low p ∷ high b D p ∷ []

pub standing_link : (b D : ℕ) (p : Place) (d : ℕ) → d < D → get_or (standing_words b D p) (link_field d) 0 ≡ link b D p d
unfolding standing_words
standing_link b D p d h = words_link (six_words b D p) refl D (link b D p) d h

-- The words of a standing cell are those of its place.
pub record Held (ws : List ℕ) (b D : ℕ) (p : Place) : Type 0 where
  pub key : key_at ws p.node.cell ≡ p.node.key
  pub value : value_at ws p.node.cell ≡ p.node.value
  pub mark : mark_at ws p.node.cell ≡ mark p.node.live
  pub owed : owed_at ws p.node.cell ≡ owed p
  pub low : low_at ws p.node.cell ≡ low p
  pub high : high_at ws p.node.cell ≡ high b D p
  pub link : (d : ℕ) → d < D → link_at ws p.node.cell d ≡ link b D p d

-- what holds of the head and of each node of the row holds of the node of each place
pub all_places : (P : Node → Type 0) (b D : ℕ) (row : List Node) → P head_node → All P row → All (λ p. P p.node) (places b D row)
unfolding places
all_places P b D row h r = (h, places_nodes P b D head_node 0 row r)

module _ (s : State) where
  -- word j of the cell of a place
  pub standing_word : (x : ℕ) (p : Place) → x < s.settings.cells → place_of x (places s.settings.base s.settings.dimensions s.row) ≡ Some p →
      (j : ℕ) → j < cell_words s.settings.dimensions → word_at (picture s) x j ≡ get_or (standing_words s.settings.base s.settings.dimensions p) j 0
  unfolding words_of
  standing_word x p h found j l =
      picture_word s x j h l ∙ ap (λ o. get_or (words_of s.settings.base s.settings.dimensions s.free x o) j 0) found

  held : (p : Place) → p.node.cell < s.settings.cells →
      place_of p.node.cell (places s.settings.base s.settings.dimensions s.row) ≡ Some p →
      Held (picture s) s.settings.base s.settings.dimensions p
  unfolding standing_words
  held p h found =
      let b = s.settings.base in
      let D = s.settings.dimensions in
      let word = standing_word p.node.cell p h found in
      record {
        key = word 0 (omega arith);
        value = word 1 (omega arith);
        mark = word 2 (omega arith);
        owed = word 3 (omega arith);
        low = word 4 (omega arith);
        high = word 5 (omega arith);
        link = λ d l. word (link_field d) (omega arith) ∙ standing_link b D p d l;
      }

  pub places_held : Sound s → All (Held (picture s) s.settings.base s.settings.dimensions)
      (places s.settings.base s.settings.dimensions s.row)
  places_held v =
      let C = s.settings.cells in
      let standing = places s.settings.base s.settings.dimensions s.row in
      all_zip held standing
      (all_places (λ x. x.cell < C) s.settings.base s.settings.dimensions s.row (let h = v.ranges.cells_least in omega arith)
      (all_map (λ x h. h.1) s.row (row_range s v)))
      (place_found s v)

-- Links as they stand.

pub between_is : (least above d : ℕ) → least ≤ d → d < above → between least above d ≡ true
between_is least above d h l = rw (le-leb least d h, lt-ltb d above l) refl

pub between_facts : (least above d : ℕ) → between least above d ≡ true → (least ≤ d) × (d < above)
between_facts least above d e = let (h, l) = both (leb least d) (ltb d above) e in (leb-true least d h, ltb-true d above l)

pub between_out : (least above d : ℕ) → (least ≤ d → d < above → ⊥) → between least above d ≡ false
between_out least above d out = at (between least above d) refl
  where
    at : (t : Bool) → between least above d ≡ t → t ≡ false
    at true e = let (h, l) = between_facts least above d e in absurd (out h l)
    at false e = refl

pub between_not : (least above d : ℕ) → above ≤ d → between least above d ≡ false
between_not least above d h = between_out least above d (λ k l. omega arith)

pub between_below : (least above d : ℕ) → d < least → between least above d ≡ false
between_below least above d h = between_out least above d (λ k l. omega arith)

-- link d of a place is one that the cell before is due, ..
abbrev pub link_due : Place → ℕ → Bool
link_due p d = p.before.owes && between p.before_dimension p.dimension d

-- .. which then is this; ..
abbrev pub due_link : ℕ → ℕ → Place → ℕ → ℕ
due_link b D p d = first_sharing b D p.before.key d (p.node ∷ p.later)

-- .. or one that the cell itself owes
abbrev pub link_owing : ℕ → ℕ → Place → ℕ → Bool
link_owing b D p d = p.node.owes && between (low p) (high b D p) d

-- the link, where it is known whether it is the one or the other
pub link_tested : (b D : ℕ) (p : Place) (d : ℕ) {t u : Bool} → link_due p d ≡ t → link_owing b D p d ≡ u →
    link b D p d ≡ cond t (due_link b D p d) (cond u 0 (settled_link b D p d))
unfolding link
link_tested b D p d e f = ap₂ (λ t u. cond t (due_link b D p d) (cond u 0 (settled_link b D p d))) e f

-- from the dimension up the cell before is due nothing
pub undue_above : (p : Place) (d : ℕ) → p.dimension ≤ d → link_due p d ≡ false
undue_above p d h = ap (λ t. p.before.owes && t) (between_not p.before_dimension p.dimension d h) ∙ and-false p.before.owes

-- link d from the dimension up is settled, if it is not one that the cell owes
pub link_settled : (b D : ℕ) (p : Place) (d : ℕ) → p.dimension ≤ d → link_owing b D p d ≡ false → link b D p d ≡ settled_link b D p d
link_settled b D p d h e = link_tested b D p d (undue_above p d h) e

-- below the dimension, where the cell before owes, link d is what that one is due
link_due_lem : (b D : ℕ) (p : Place) (d : ℕ) → p.before.owes ≡ true → p.before_dimension ≤ d → d < p.dimension → link b D p d ≡ due_link b D p d
link_due_lem b D p d e h l = link_tested b D p d (and_both p.before.owes (between p.before_dimension p.dimension d) e
    (between_is p.before_dimension p.dimension d h l)) refl

-- from the dimension up, the settled link is not cut off
pub settled_above : (b D : ℕ) (p : Place) (d : ℕ) → p.dimension ≤ d → settled_link b D p d ≡ first_sharing b D p.node.key d p.later
settled_above b D p d h = rw (le-leb p.dimension d h) refl

-- Links as they are read.

module _ (ws : List ℕ) (x d : ℕ) where
  -- link d of x is one that x owes, by its words
  abbrev owed_there : Bool
  owed_there = not (eqb (owed_at ws x) 0) && between (low_at ws x) (high_at ws x) d

  pub read_own : owed_there ≡ false → link_read ws x d ≡ link_at ws x d
  unfolding link_read
  read_own e = ap (λ t. link_at ws (cond t (owed_at ws x) x) d) e

  pub read_owed : owed_there ≡ true → link_read ws x d ≡ link_at ws (owed_at ws x) d
  unfolding link_read
  read_owed e = ap (λ t. link_at ws (cond t (owed_at ws x) x) d) e

  pub read_unowing : owed_at ws x ≡ 0 → link_read ws x d ≡ link_at ws x d
  read_unowing e = read_own (ap (λ t. not t && between (low_at ws x) (high_at ws x) d) (eq-eqb (owed_at ws x) 0 e))

  pub read_below : d < low_at ws x → link_read ws x d ≡ link_at ws x d
  read_below h =
      read_own
      (ap (λ t. not (eqb (owed_at ws x) 0) && t) (between_out (low_at ws x) (high_at ws x) d (λ k l. omega arith)) ∙ and-false (not (eqb (owed_at ws x) 0)))

  pub read_above : high_at ws x ≤ d → link_read ws x d ≡ link_at ws x d
  read_above h = read_own (ap (λ t. not (eqb (owed_at ws x) 0) && t) (between_not (low_at ws x) (high_at ws x) d h) ∙ and-false (not (eqb (owed_at ws x) 0)))

  pub read_through : 0 < owed_at ws x → low_at ws x ≤ d → d < high_at ws x → link_read ws x d ≡ link_at ws (owed_at ws x) d
  read_through o h l = owed_link_is_read_there ws x d (λ e. omega arith) h l

-- a cell that owes nothing
link_read_free : (ws : List ℕ) (b D : ℕ) (p : Place) → Held ws b D p → p.node.owes ≡ false → (d : ℕ) → p.dimension ≤ d → d < D →
    link_read ws p.node.cell d ≡ settled_link b D p d
link_read_free ws b D p held e d h l =
    read_unowing ws p.node.cell d (held.owed ∙ ap (λ t. cond t (first_of p.later).cell 0) e)
    ∙ held.link d l
    ∙ link_settled b D p d h (ap (λ t. t && between (low p) (high b D p) d) e)

-- a cell that owes, with the next standing cell c
link_read_owing : (ws : List ℕ) (b D : ℕ) (p : Place) (c : Node) (later : List Node) → p.later ≡ c ∷ later → Held ws b D p →
    Held ws b D (record { node = c; dimension = shared b D p.node.key c.key; before = p.node; before_dimension = p.dimension; later = later }) →
    p.node.owes ≡ true → 0 < c.cell → (d : ℕ) → p.dimension ≤ d → d < D → link_read ws p.node.cell d ≡ settled_link b D p d
link_read_owing ws b D p c later is held next o pos d h l =
    go (dec_le (shared b D p.node.key c.key) d)
    (held.owed ∙ ap (λ t. cond t (first_of p.later).cell 0) o ∙ ap (λ r. (first_of r).cell) is)
    (held.low ∙ ap (λ t. cond t p.dimension 0) o)
    (ap (λ t. cond t (shared b D p.node.key (first_of p.later).key) 0) o ∙ ap (λ r. shared b D p.node.key (first_of r).key) is)
  where
    go : Dec (shared b D p.node.key c.key ≤ d) → owed_at ws p.node.cell ≡ c.cell → low_at ws p.node.cell ≡ p.dimension →
        high b D p ≡ shared b D p.node.key c.key → link_read ws p.node.cell d ≡ settled_link b D p d
    go (yes m) is-owed is-low is-high =
        let is_read = held.high in
        read_above ws p.node.cell d (omega arith)
        ∙ held.link d l
        ∙ link_settled b D p d h (ap (λ t. p.node.owes && t) (between_not (low p) (high b D p) d (omega arith)) ∙ and-false p.node.owes)
    go (no m) is-owed is-low is-high =
        let is_read = held.high in
        read_through ws p.node.cell d (omega arith) (omega arith) (omega arith)
        ∙ ap (λ y. link_at ws y d) is-owed
        ∙ next.link d l
        ∙ link_due_lem b D (record { node = c; dimension = shared b D p.node.key c.key; before = p.node; before_dimension = p.dimension; later = later })
        d o h (omega arith)
        ∙ ap (λ r. first_sharing b D p.node.key d r) (sym is)
        ∙ sym (settled_above b D p d h)

-- Looked and the walk 2: a link read through what is owed is the settled one.
link_read_at : (ws : List ℕ) (b D : ℕ) (p : Place) → Held ws b D p → All (Held ws b D) (places_after b D p.node p.dimension p.later) →
    (p.node.owes ≡ true → Debt b D p) → All (λ x. 0 < x.cell) p.later → (d : ℕ) → p.dimension ≤ d → d < D →
    link_read ws p.node.cell d ≡ settled_link b D p d
unfolding places_after
link_read_at ws b D p held after debt pos d h l = go p.node.owes refl p.later refl after pos
  where
    go : (t : Bool) → p.node.owes ≡ t → (later : List Node) → p.later ≡ later → All (Held ws b D) (places_after b D p.node p.dimension later) →
        All (λ x. 0 < x.cell) later → link_read ws p.node.cell d ≡ settled_link b D p d
    go false o later is next pos = link_read_free ws b D p held o d h l
    go true o [] is next pos = absurd (let m = (debt o).later in let n = ap length is in omega arith)
    go true o (c ∷ later) is next pos = link_read_owing ws b D p c later is held next.0 o pos.0 d h l

-- what the walk reads of a standing cell
pub record Read (ws : List ℕ) (b D : ℕ) (p : Place) : Type 0 where
  pub key : key_at ws p.node.cell ≡ p.node.key
  pub link : (d : ℕ) → p.dimension ≤ d → d < D → link_read ws p.node.cell d ≡ settled_link b D p d

module _ (ws : List ℕ) (b D : ℕ) where
  reads_after : (a : Node) (e : ℕ) (row : List Node) → All (Held ws b D) (places_after b D a e row) →
      All (λ n. n.node.owes ≡ true → Debt b D n) (places_after b D a e row) → All (λ x. 0 < x.cell) row → All (Read ws b D) (places_after b D a e row)
  unfolding places_after
  reads_after a e [] held debts pos = tt
  reads_after a e (x ∷ row) held debts pos = (
    record { key = held.0.key; link = link_read_at ws b D _ held.0 held.1 debts.0 pos.1 },
    reads_after x (shared b D a.key x.key) row held.1 debts.1 pos.1,
  )

  reads : (row : List Node) → All (Held ws b D) (places b D row) → All (λ n. n.node.owes ≡ true → Debt b D n) (places b D row) →
      All (λ x. 0 < x.cell) row → All (Read ws b D) (places b D row)
  unfolding places
  reads row held debts pos = (
    record { key = held.0.key; link = link_read_at ws b D (head_place row) held.0 held.1 debts.0 pos },
    reads_after head_node 0 row held.1 debts.1 pos,
  )

module _ (s : State) (v : Sound s) where
  pub places_read : All (Read (picture s) s.settings.base s.settings.dimensions) (places s.settings.base s.settings.dimensions s.row)
  places_read = reads (picture s) s.settings.base s.settings.dimensions s.row (places_held s v) v.debts
      (all_map (λ x h. h.0) s.row (row_range s v))

  pub key_read : All (λ p. key_at (picture s) p.node.cell ≡ p.node.key) (places s.settings.base s.settings.dimensions s.row)
  key_read = all_map (λ p h. h.key) (places s.settings.base s.settings.dimensions s.row) (places_held s v)

  -- from a cell's dimension up (below it, a cell to which the one before owes still holds that one's links)
  pub link_read_lem : (d : ℕ) → d < s.settings.dimensions →
      All (λ p. p.dimension ≤ d → link_read (picture s) p.node.cell d ≡ settled_link s.settings.base s.settings.dimensions p d)
      (places s.settings.base s.settings.dimensions s.row)
  link_read_lem d l = all_map (λ p r h. r.link d h l) (places s.settings.base s.settings.dimensions s.row) places_read

  pub row_key_read : All (λ x. key_at (picture s) x.cell ≡ x.key) s.row
  unfolding places
  row_key_read = row_of_places (λ x. key_at (picture s) x.cell ≡ x.key) s.settings.base s.settings.dimensions head_node 0 s.row key_read.1

  pub row_mark_read : All (λ x. mark_at (picture s) x.cell ≡ mark x.live) s.row
  unfolding places
  row_mark_read =
      row_of_places (λ x. mark_at (picture s) x.cell ≡ mark x.live) s.settings.base s.settings.dimensions head_node 0 s.row
      (all_map (λ p h. h.mark) (places_after s.settings.base s.settings.dimensions head_node 0 s.row) (places_held s v).1)
