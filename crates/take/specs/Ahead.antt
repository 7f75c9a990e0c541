-- What `first_live` answers, by the row of the state that the words hold: its first live node, and what is passed up to it.
use Rattle.std.specs.Prelude.{◌≡◌, None, Some, IfSome, List, [], ◌∷◌, ℕ, ◌<◌}
use Rattle.settings.specs.declared.Settings.{Settings}
use Rattle.meaning.specs.Row.{Node}
use Rattle.meaning.specs.State.{State, position_key}
use Rattle.meaning.specs.Reading.{read}
use Rattle.meaning.specs.Operations.{from_live, keys_above, keys_passed}
use Rattle.meaning.specs.Layer.Paths.{path_for}
use Rattle.paths.specs.Paths.{path_of}
use Rattle.take.specs.declared.Ahead.{Ahead}

-- nothing is live
pub record NoneLive (t : State) (r : Ahead) : Type 0 where
  pub cell : r.cell ≡ None
  pub passed : r.passed ≡ keys_above (position_key t) t.row

-- x is the first live node, with its path
pub record LiveAt (t : State) (x : Node) (r : Ahead) : Type 0 where
  pub cell : r.cell ≡ Some x.cell
  pub passed : r.passed ≡ keys_passed (position_key t) x.key t.row
  pub path : path_of r.path ≡ path_for t.settings.base t.settings.dimensions t.row x.key

-- the one or the other, by the row from its first live node on
abbrev pub AheadIs : State → Ahead → List Node → Type 0
AheadIs t r [] = NoneLive t r
AheadIs t r (x ∷ later) = LiveAt t x r

pub record FirstLive (ws : List ℕ) (s : Settings) (r : Ahead) : Type 0 where
  pub found : AheadIs (read ws) r (from_live (read ws).row)
  pub below : IfSome r.cell (λ x. x < s.cells)
  pub used : r.path.used ≡ s.dimensions
