-- At which state the words end once the path is written; and a key that comes last, whose slot needs no search.
use Rattle.std.specs.Prelude.{◌≡◌, true, false, List, ℕ, ◌<◌}
use Rattle.settings.specs.declared.Settings.{Settings}
use Rattle.meaning.specs.State.{State, position_key, valid}
use Rattle.meaning.specs.Picture.{path, picture}
use Rattle.meaning.specs.Reading.{read}
use Rattle.meaning.specs.Words.{owed_at}
use Rattle.meaning.specs.Layer.Stores.{write_path}
use Rattle.search.specs.Found.{Sought}
use Rattle.search.specs.declared.Found.{Found}

-- Words that are the picture of a state t in order, with its position at cell x, but for the D words of path; if the key is above the
-- position's key before the call, which is `top`, t has the path that stands.
pub record Ending (ws : List ℕ) (s : Settings) (top key x : ℕ) (t : State) : Type 0 where
  pub order : valid t ≡ true
  pub settings : t.settings ≡ s
  pub words : picture t ≡ write_path ws (path t)
  pub position : t.position ≡ x
  pub kept : top < key → picture t ≡ ws

-- the words end so at some state
pub record EndsInSome (ws : List ℕ) (s : Settings) (top key x : ℕ) : Type 0 where
  pub state : State
  pub ending : Ending ws s top key x state

-- the words us, which ws become when the path is written, are the picture of each such state
pub record PathWritten (ws us : List ℕ) (s : Settings) (top key x : ℕ) : Type 0 where
  pub is : (t : State) → Ending ws s top key x t → us ≡ picture t

-- What a search for the key would find, as one may know without it: the parent and p, and no cell in the slot. The parent owes nothing, and the
-- key is above the position's.
pub record ComesLast (ws : List ℕ) (s : Settings) (key parent p : ℕ) : Type 0 where
  pub found : Found
  pub sought : Sought ws s key found
  pub missing : found.standing ≡ false
  pub parent_is : found.parent ≡ parent
  pub p_is : found.p ≡ p
  pub none : found.c ≡ 0
  pub owes_nothing : owed_at ws parent ≡ 0
  pub above : position_key (read ws) < key
