-- What a call leaves alone, which cells owe afterwards and where the position goes, on the words.
use Rattle.std.specs.Prelude.{◌≡◌, List, ◌⊎◌, ℕ, ◌+◌, ◌≤◌, ◌<◌, get_or}
use Rattle.settings.specs.Numbers.{header_words, fields_before_links, cell_words}
use Rattle.meaning.specs.Keys.{shared}
use Rattle.meaning.specs.Words.{word_at, key_at, value_at, mark_at, owed_at, low_at, high_at, link_at, cells_at, position_at, dimensions_at}
use Rattle.meaning.specs.Words.{base_at, first_free_at, link_field, free_mark, live_mark, dead_mark, path_at, value_field, mark_field}
use Rattle.meaning.specs.declared.Slot.{Slot}
use Rattle.meaning.specs.Sentences.{Free, Standing, NextSmaller, Settled}

-- Debts 4: a cell that owes nothing has owed, low and high 0.
abbrev pub OwesNothing : List ℕ → ℕ → Type 0
OwesNothing ws n = (owed_at ws n ≡ 0) × (low_at ws n ≡ 0) × (high_at ws n ≡ 0)

-- cell x owes in the words us what it owes in ws
abbrev pub OwesSame : List ℕ → List ℕ → ℕ → Type 0
OwesSame ws us x = (owed_at us x ≡ owed_at ws x) × (low_at us x ≡ low_at ws x) × (high_at us x ≡ high_at ws x)

-- Debts 5: us are the words ws after cell n is finished.
pub record Finished (ws us : List ℕ) (n : ℕ) : Type 0 where
  -- the links move from c to n,
  pub given : (d : ℕ) → low_at ws n ≤ d → d < high_at ws n → link_at us n d ≡ link_at ws (owed_at ws n) d
  -- .. 0 stands in their place in c,
  pub cleared : (d : ℕ) → low_at ws n ≤ d → d < high_at ws n → link_at us (owed_at ws n) d ≡ 0
  -- .. and the three words are 0
  pub owed : owed_at us n ≡ 0
  pub low : low_at us n ≡ 0
  pub high : high_at us n ≡ 0
  -- and every other word is as before: of header and path, and of every cell
  pub below : (i : ℕ) → i < header_words + dimensions_at ws → get_or us i 0 ≡ get_or ws i 0
  pub other : (x j : ℕ) → j < cell_words (dimensions_at ws) → (x ≡ n → 3 ≤ j → j < fields_before_links → ⊥) →
      ((d : ℕ) → low_at ws n ≤ d → d < high_at ws n → j ≡ link_field d → (x ≡ n → ⊥) × (x ≡ owed_at ws n → ⊥)) → word_at us x j ≡ word_at ws x j

-- Word j of cell x is none that finishing cell n changes: if n owes, none of its owed, low and high, and no link low to high-1 of n or of
-- its owed cell.
abbrev pub Unmoved : List ℕ → ℕ → ℕ → ℕ → Type 0
Unmoved ws n x j =
    0 < owed_at ws n → (x ≡ n → 3 ≤ j → j < fields_before_links → ⊥) ×
    ((d : ℕ) → low_at ws n ≤ d → d < high_at ws n → j ≡ link_field d → (x ≡ n → ⊥) × (x ≡ owed_at ws n → ⊥))

-- The operations 2: a key k above the position changes no word of path
abbrev pub PathKept : List ℕ → List ℕ → ℕ → Type 0
PathKept ws us k = key_at ws (position_at ws) < k → (d : ℕ) → d < dimensions_at ws → path_at us d ≡ path_at ws d

-- An insert of a key k that does not stand, with value v, into slot t: us are the words ws afterwards.
pub record Inserted (ws us : List ℕ) (k v : ℕ) (t : Slot) : Type 0 where
  -- a new cell n, the first free one
  pub free : t.n ≡ first_free_at ws
  pub next_free : first_free_at us ≡ word_at ws t.n 0
  pub key : key_at us t.n ≡ k
  pub value : value_at us t.n ≡ v
  pub live : mark_at us t.n ≡ live_mark
  -- it hangs by link p from its parent in the new settled shape
  pub standing : Standing ws t.parent
  pub settled : Settled us t.parent t.p t.n
  pub parent : link_at us t.parent t.p ≡ t.n
  -- c had that slot in the settled shape before, and shares q coordinates with n
  pub held : Settled ws t.parent t.p t.c
  pub shares : (t.c ≡ 0 → ⊥) → t.q ≡ shared (base_at ws) (dimensions_at ws) k (key_at ws t.c)
  -- c becomes link q of n
  pub given : (t.c ≡ 0 → ⊥) → link_at us t.n t.q ≡ t.c
  pub other_links : (d : ℕ) → d < dimensions_at ws → (d ≡ t.q → t.c ≡ 0) → link_at us t.n d ≡ 0
  -- if p is below q, n owes c from p to q, and only so
  pub owes : (t.c ≡ 0 → ⊥) → t.p < t.q → (owed_at us t.n ≡ t.c) × (low_at us t.n ≡ t.p) × (high_at us t.n ≡ t.q)
  pub owes_nothing : ((t.c ≡ 0 → ⊥) → t.q ≤ t.p) → OwesNothing us t.n
  -- what the parent owes is finished, then what c owes, and nothing else
  pub parent_paid : OwesNothing us t.parent
  pub c_paid : OwesNothing us t.c
  pub others_owe : (x : ℕ) → x < cells_at ws → (x ≡ t.n → ⊥) → (x ≡ t.parent → ⊥) → (x ≡ t.c → ⊥) → OwesSame ws us x
  -- so the links that the parent was due become its own, but for link p, which leads to n, and all are 0 in the cell that it owed from
  pub parent_given : (d : ℕ) → low_at ws t.parent ≤ d → d < high_at ws t.parent → (d ≡ t.p → ⊥) →
      link_at us t.parent d ≡ link_at ws (owed_at ws t.parent) d
  pub parent_cleared : (d : ℕ) → low_at ws t.parent ≤ d → d < high_at ws t.parent → link_at us (owed_at ws t.parent) d ≡ 0
  -- .. and all that c was due become its own: where n owes, those from p to q-1 are then n's settled ones (docs/REFERENCE.md, *Debts 1*)
  pub c_given : (d : ℕ) → low_at ws t.c ≤ d → d < high_at ws t.c → link_at us t.c d ≡ link_at ws (owed_at ws t.c) d
  pub c_cleared : (d : ℕ) → low_at ws t.c ≤ d → d < high_at ws t.c → link_at us (owed_at ws t.c) d ≡ 0
  -- every other word of the header and of the cells is as before
  pub header : (i : ℕ) → i < 4 → get_or us i 0 ≡ get_or ws i 0
  pub other : (x j : ℕ) → x < cells_at ws → j < cell_words (dimensions_at ws) → (x ≡ t.n → ⊥) → (x ≡ t.parent → j ≡ link_field t.p → ⊥) →
      Unmoved ws t.parent x j → Unmoved ws t.c x j → word_at us x j ≡ word_at ws x j
  -- if the key is at or below the position's, the position becomes the standing cell of next smaller key, and only so
  pub path_kept : PathKept ws us k
  pub position_lowered : k ≤ key_at ws (position_at ws) → NextSmaller us t.n (position_at us)

-- A take, or a revival, of key k: value and mark of its cell are written, and the path. No link changes and nothing is
-- finished.
pub record Marked (ws us : List ℕ) (cell k value mark : ℕ) : Type 0 where
  -- a free cell's first word is no key
  pub standing : Standing ws cell
  pub same : key_at ws cell ≡ k
  pub valued : value_at us cell ≡ value
  pub marked : mark_at us cell ≡ mark
  -- every other word of the header and of the cells is as before
  pub header : (i : ℕ) → i < header_words → get_or us i 0 ≡ get_or ws i 0
  pub other : (x j : ℕ) → j < cell_words (dimensions_at ws) → (x ≡ cell → (j ≡ value_field → ⊥) × (j ≡ mark_field → ⊥)) → word_at us x j ≡ word_at ws x j

-- The operations 5: a take of key k.
pub record Taken (ws us : List ℕ) (k : ℕ) : Type 0 where
  pub cell : ℕ
  pub marked : Marked ws us cell k 0 dead_mark
  -- it is the least live key
  pub live : mark_at ws cell ≡ live_mark
  pub least : (x : ℕ) → Standing ws x → mark_at ws x ≡ live_mark → k ≤ key_at ws x
  -- it becomes the position
  pub position : position_at us ≡ cell

-- The operations 2: a revival of key k with value v.
pub record Revived (ws us : List ℕ) (k v : ℕ) : Type 0 where
  pub cell : ℕ
  pub marked : Marked ws us cell k v live_mark
  pub dead : mark_at ws cell ≡ dead_mark
  -- if the key is at or below the position's, the position becomes the standing cell of next smaller key, and only so
  pub path_kept : PathKept ws us k
  pub position_lowered : k ≤ key_at ws (position_at ws) → NextSmaller us cell (position_at us)

-- The operations 6: us are the words ws afterwards.
pub record Swept (ws us : List ℕ) : Type 0 where
  -- the position moves to the greatest dead cell below every live key (of all, if none is live; the head, if there is no other)
  pub position : Standing ws (position_at us)
  pub dead : mark_at ws (position_at us) ≡ dead_mark
  pub below_live : (x : ℕ) → Standing ws x → mark_at ws x ≡ live_mark → key_at ws (position_at us) < key_at ws x
  pub greatest : (x : ℕ) → Standing ws x → mark_at ws x ≡ dead_mark → ((y : ℕ) → Standing ws y → mark_at ws y ≡ live_mark → key_at ws x < key_at ws y) →
      key_at ws x ≤ key_at ws (position_at us)
  -- every cell strictly between head and position is freed
  pub freed : (x : ℕ) → Standing ws x → 0 < key_at ws x → key_at ws x < key_at ws (position_at us) → mark_at us x ≡ free_mark
  -- what still stands: the head, the position and every cell of larger key
  pub kept : (x : ℕ) → Standing ws x → (x ≡ 0) ⊎ (key_at ws (position_at us) ≤ key_at ws x) →
      (key_at us x ≡ key_at ws x) × ((value_at us x ≡ value_at ws x) × (mark_at us x ≡ mark_at ws x))
  -- .. and a free cell stays free
  pub free : (x : ℕ) → Free ws x → Free us x
  -- all that is owed is finished
  pub owes : (x : ℕ) → x < cells_at ws → OwesNothing us x
  -- what still stands has its settled shape
  pub settled : (x d : ℕ) → Standing us x → d < dimensions_at ws → Settled us x d (link_at us x d)
  -- D, K, C and b are as before
  pub header : (i : ℕ) → i < 4 → get_or us i 0 ≡ get_or ws i 0
