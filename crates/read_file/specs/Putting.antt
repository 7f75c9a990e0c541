-- Where a list stands while it is given a file's pairs, one after the other, and what one pair more makes of it.
use Rattle.std.specs.Prelude.{◌≡◌, true, List, [], ◌∷◌, ◌++◌, ℕ}
use Rattle.settings.specs.Numbers.{base_of}
use Rattle.settings.specs.declared.Settings.{Settings}
use Rattle.files.specs.Files.{Pair, keeps}
use Rattle.meaning.specs.Picture.{picture}
use Rattle.meaning.specs.Layer.Paths.{path_for}
use Rattle.calls.specs.Layer.ReadState.{nodes_from, read_state, last_key}
use Rattle.paths.specs.declared.path.Path.{Path}
use Rattle.paths.specs.Paths.{path_of}

-- Words to which some pairs of a file have been given: the picture of the state that reading them gives, the last of their keys (0 if
-- there is none), and its path.
pub record Putting (ws : List ℕ) (s : Settings) (pairs : List Pair) (last : ℕ) (path : Path) : Type 0 where
  pub words : ws ≡ picture (read_state s pairs)
  pub kept : keeps s pairs ≡ true
  pub base : s.base ≡ base_of s.dimensions s.largest
  pub last_is : last ≡ last_key 0 pairs
  pub path_is : path_of path ≡ path_for s.base s.dimensions (nodes_from 1 pairs) last
  pub used : path.used ≡ s.dimensions

-- p may be kept as the next of some pairs that the words have been given
pub record NextOfSome (ws : List ℕ) (s : Settings) (last : ℕ) (path : Path) (p : Pair) : Type 0 where
  pub pairs : List Pair
  pub putting : Putting ws s pairs last path
  pub more : keeps s (pairs ++ (p ∷ [])) ≡ true

-- the words us and the path r, which ws and the path become when p is put, have been given p after each such pairs
pub record PairPut (ws us : List ℕ) (s : Settings) (last : ℕ) (path r : Path) (p : Pair) : Type 0 where
  pub is : (pairs : List Pair) → Putting ws s pairs last path → keeps s (pairs ++ (p ∷ [])) ≡ true → Putting us s (pairs ++ (p ∷ [])) p.key r
