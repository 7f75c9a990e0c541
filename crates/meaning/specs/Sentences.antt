-- The rules of docs/REFERENCE.md from Numbers to A list, each as a condition on the words of a buffer. The theorems tie the other
-- definitions to them: a buffer is a list, by specs/Reading.antt, if and only if every one of these holds.
use Rattle.std.specs.Prelude.{◌≡◌, List, [], ◌∷◌, ◌⊎◌, ℕ, suc, ◌≤◌, ◌<◌, length}
use Rattle.settings.specs.Numbers.{least_dimensions, most_dimensions, least_largest, most_largest, least_cells, most_cells, cell_words, length_of}
use Rattle.settings.specs.Base.{IsBase}
use Rattle.lists.specs.Lists.{occurrences}
use Rattle.lists.specs.Compared.{agreed}
use Rattle.meaning.specs.Keys.{coordinates}
use Rattle.meaning.specs.Words.{word_at, key_at, value_at, mark_at, owed_at, low_at, high_at, coordinate_at, link_at, dimensions_at, largest_at, cells_at}
use Rattle.meaning.specs.Words.{base_at, position_at, first_free_at, free_mark, live_mark, dead_mark, path_at}

-- the leading coordinates that two cells share
abbrev pub shared_at : List ℕ → ℕ → ℕ → ℕ
shared_at ws x y =
    agreed (coordinates (base_at ws) (dimensions_at ws) (key_at ws x)) (coordinates (base_at ws) (dimensions_at ws) (key_at ws y))

-- The words 1: mark 0 is free.
pub record Free (ws : List ℕ) (x : ℕ) : Type 0 where
  pub cell : x < cells_at ws
  pub mark : mark_at ws x ≡ free_mark

-- The words 3: a cell is standing if it is live or dead.
pub record Standing (ws : List ℕ) (x : ℕ) : Type 0 where
  pub cell : x < cells_at ws
  pub mark : (mark_at ws x ≡ live_mark) ⊎ (mark_at ws x ≡ dead_mark)

-- the standing cell of next smaller key than x
pub record NextSmaller (ws : List ℕ) (x a : ℕ) : Type 0 where
  pub standing : Standing ws a
  pub smaller : key_at ws a < key_at ws x
  pub next : (y : ℕ) → Standing ws y → key_at ws y < key_at ws x → key_at ws y ≤ key_at ws a

-- the standing cell of next larger key than x
pub record NextLarger (ws : List ℕ) (x c : ℕ) : Type 0 where
  pub standing : Standing ws c
  pub larger : key_at ws x < key_at ws c
  pub next : (y : ℕ) → Standing ws y → key_at ws x < key_at ws y → key_at ws c ≤ key_at ws y

-- How cells hang together 2: the dimension is what a standing cell shares with the one before it; the head's is 0.
pub data Dimension (ws : List ℕ) : ℕ → ℕ → Type 0 where
  of_head : Dimension ws 0 0
  of_other : {x a : ℕ} → NextSmaller ws x a → Dimension ws x (shared_at ws a x)

-- a standing cell that shares exactly the first d coordinates with x and is larger at d
pub record LargerAt (ws : List ℕ) (x d y : ℕ) : Type 0 where
  pub standing : Standing ws y
  pub shares : shared_at ws x y ≡ d
  pub larger : coordinate_at ws x d < coordinate_at ws y d

-- How cells hang together 3: y is what link d of x is in the settled shape.
pub data Settled (ws : List ℕ) (x d : ℕ) : ℕ → Type 0 where
  leads : {e y : ℕ} → Dimension ws x e → e ≤ d → LargerAt ws x d y → ((z : ℕ) → LargerAt ws x d z → key_at ws y ≤ key_at ws z) → Settled ws x d y
  leads_nowhere : {e : ℕ} → Dimension ws x e → e ≤ d → ((z : ℕ) → LargerAt ws x d z → ⊥) → Settled ws x d 0
  below_dimension : {e : ℕ} → Dimension ws x e → d < e → Settled ws x d 0

-- The words 4: cells cs one after the other from c on, each named by the first word of the one before, and then 0
pub data Chained (ws : List ℕ) : ℕ → List ℕ → Type 0 where
  ended : Chained ws 0 []
  chained_on : {c : ℕ} {cs : List ℕ} → 0 < c → Chained ws (word_at ws c 0) cs → Chained ws c (c ∷ cs)

-- The words 4: the chain from word 4 meets every free cell once and no other cell.
pub record FreeChain (ws : List ℕ) : Type 0 where
  pub chain : List ℕ
  pub chained : Chained ws (first_free_at ws) chain
  pub once : (x : ℕ) → Free ws x → occurrences x chain ≡ 1
  pub no_other : (x : ℕ) → 0 < occurrences x chain → Free ws x

-- cell n owes, and link d is one of those that it is due: low to high-1
pub record Owing (ws : List ℕ) (n d : ℕ) : Type 0 where
  pub standing : Standing ws n
  pub owes : 0 < owed_at ws n
  pub low : low_at ws n ≤ d
  pub high : d < high_at ws n

-- Debts 2 and 3: n may owe only so.
pub record MayOwe (ws : List ℕ) (n : ℕ) : Type 0 where
  pub not_head : 0 < n
  pub owed : NextLarger ws n (owed_at ws n)
  pub owes_nothing : owed_at ws (owed_at ws n) ≡ 0
  pub low : Dimension ws n (low_at ws n)
  pub high : high_at ws n ≡ shared_at ws n (owed_at ws n)
  pub low_below_high : low_at ws n < high_at ws n
  pub own_links : (d : ℕ) → low_at ws n ≤ d → d < high_at ws n → link_at ws n d ≡ 0
  pub owed_links : (d : ℕ) → low_at ws n ≤ d → d < high_at ws n → Settled ws n d (link_at ws (owed_at ws n) d)

-- a standing cell sharing the first n coordinates with x
pub record Sharing (ws : List ℕ) (x n y : ℕ) : Type 0 where
  pub standing : Standing ws y
  pub shares : n ≤ shared_at ws x y

-- The position 2: path word d is the least-key standing cell that shares at least d+1 coordinates with the position.
pub record OnPath (ws : List ℕ) (d : ℕ) : Type 0 where
  pub sharing : Sharing ws (position_at ws) (suc d) (path_at ws d)
  pub least : (y : ℕ) → Sharing ws (position_at ws) (suc d) y → key_at ws (path_at ws d) ≤ key_at ws y

-- A list 1: all that the rules say of a buffer between calls, a field a rule.
pub record AList (ws : List ℕ) : Type 0 where
  -- Numbers 1: D, K and C are in range.
  pub dimensions : (least_dimensions ≤ dimensions_at ws) × (dimensions_at ws ≤ most_dimensions)
  pub largest : (least_largest ≤ largest_at ws) × (largest_at ws ≤ most_largest)
  pub count : (least_cells ≤ cells_at ws) × (cells_at ws ≤ most_cells)
  -- Numbers 2: keys are from 1 to K.
  pub keys : (x : ℕ) → Standing ws x → 0 < x → (0 < key_at ws x) × (key_at ws x ≤ largest_at ws)
  -- Numbers 3: b is the base.
  pub base : IsBase (dimensions_at ws) (largest_at ws) (base_at ws)
  -- The words 1: the length is exact.
  pub long : length ws ≡ length_of (dimensions_at ws) (cells_at ws)
  -- The words 1: a mark is 0, 1 or 2.
  pub marks : (x : ℕ) → x < cells_at ws → mark_at ws x ≤ dead_mark
  -- The words 2: the head.
  pub head : (key_at ws 0 ≡ 0) × ((value_at ws 0 ≡ 0) × (mark_at ws 0 ≡ dead_mark))
  -- The words 3: a dead cell's value is 0.
  pub dead_value : (x : ℕ) → x < cells_at ws → mark_at ws x ≡ dead_mark → value_at ws x ≡ 0
  -- The words 4: a free cell's words after the first are 0.
  pub free_words : (x j : ℕ) → Free ws x → 0 < j → j < cell_words (dimensions_at ws) → word_at ws x j ≡ 0
  -- The words 4: the free chain.
  pub free_chain : FreeChain ws
  -- Debts 4: a cell that owes nothing has owed, low and high 0.
  pub owes_nothing : (x : ℕ) → Standing ws x → owed_at ws x ≡ 0 → (low_at ws x ≡ 0) × (high_at ws x ≡ 0)
  -- How cells hang together 1: no two standing cells have the same key.
  pub distinct : (x y : ℕ) → Standing ws x → Standing ws y → key_at ws x ≡ key_at ws y → x ≡ y
  -- Debts 2 and 3: only so may a cell owe.
  pub debts : (n : ℕ) → Standing ws n → 0 < owed_at ws n → MayOwe ws n
  -- Debts 3: every other link is settled.
  pub links : (x d : ℕ) → Standing ws x → d < dimensions_at ws → (Owing ws x d → ⊥) → ((n : ℕ) → Owing ws n d → owed_at ws n ≡ x → ⊥) →
      Settled ws x d (link_at ws x d)
  -- The position 1 and 2: the position stands, and each path word is as the keys require.
  pub position : Standing ws (position_at ws)
  pub path : (d : ℕ) → d < dimensions_at ws → OnPath ws d
  -- The position 1: all up to the position are dead.
  pub passed_dead : (x : ℕ) → Standing ws x → key_at ws x ≤ key_at ws (position_at ws) → mark_at ws x ≡ dead_mark
