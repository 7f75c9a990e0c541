-- The slot in which a new cell is written, and its words part by part.
use Rattle.std.specs.Prelude.{◌≡◌, cond, List, [], ◌∷◌, ℕ, ◌<◌, ltb}
use Rattle.settings.specs.declared.Settings.{Settings}
use Rattle.meaning.specs.declared.Slot.{Slot}

-- n is a cell of the list; q is one of its links, and 0 where there is no c
pub record Fits (s : Settings) (t : Slot) : Type 0 where
  pub cell : t.n < s.cells
  pub link : t.q < s.dimensions
  pub none : t.c ≡ 0 → t.q ≡ 0

-- the six words of a new cell before its links: live; it owes c from p to q if p is below q
abbrev pub field_words : ℕ → ℕ → Slot → List ℕ
field_words key value t =
    key ∷ value ∷ 1 ∷ cond (ltb t.p t.q) t.c 0 ∷ cond (ltb t.p t.q) t.p 0 ∷ cond (ltb t.p t.q) t.q 0 ∷ []
