-- The position: its key, as the words of a list say it; the cell that it becomes; and the path that is written for it.
use mathlib.Core.Path.{◌≡◌, refl, sym, ap, ◌∙◌, subst}
use mathlib.Core.List.{List, ◌∷◌, map}
use Prim.Native.Nat.{ℕ, suc, ◌≤◌, ◌<◌}
use native.Mathlib.Omega.{arith}
use borrow.Author.Tests.{le-leb, lt-leb}
use Rattle.settings.specs.declared.Settings.{Settings}
use Rattle.lists.specs.Lists.{occurrences}
use Rattle.meaning.specs.Row.{head_node}
use Rattle.meaning.specs.State.{State, key_of, position_key}
use Rattle.meaning.specs.Picture.{path}
use Rattle.meaning.specs.Layer.Paths.{path_for}
use Rattle.meaning.specs.Reading.{read}
use Rattle.meaning.specs.Operations.{position_after}
use Rattle.meaning.specs.Lower.{lower_from}
use Rattle.meaning.specs.Layer.Stores.{write_path}
use Rattle.meaning.specs.Words.{key_at, position_at}
use Rattle.meaning.specs.Layer.Listed.{Listed}
use Rattle.meaning.proofs.BothWays.Sentences.{position_is}
use Rattle.meaning.proofs.Pictures.State.{valid_sound}
use Rattle.meaning.proofs.Cells.Placed.{placed_key_of, placed_below, place_key, position_placed}
use Rattle.words.proofs.Listed.{on_listed}
use Rattle.search.specs.Found.{Sought}
use Rattle.search.specs.declared.Found.{Found}
use Rattle.search.proofs.Lowering.{lower_found}
use Rattle.paths.specs.Paths.{path_of, StandsIn, StandsInSome, CellPath}
use Rattle.paths.specs.declared.path.Path.{Path}
use Rattle.insert.specs.Inserting.{Ending, EndsInSome, PathWritten}

-- the last word of path is a cell, and that cell's key is the position's
pub position_cell : {ws : List ℕ} {s : Settings} → Listed ws s → (position_at ws < s.cells) × (key_at ws (position_at ws) ≡ position_key (read ws))
position_cell =
    on_listed (λ t ws s. (position_at ws < s.cells) × (key_at ws (position_at ws) ≡ position_key t))
    (λ t v.
    let (p, here) = position_placed v in
    rw (position_is v) (placed_below v here, place_key v here ∙ sym (placed_key_of here)))

-- it is the position after the call, or the cell of next smaller key is
pub position_stays : {ws : List ℕ} {s : Settings} → Listed ws s → {top key x : ℕ} → top ≡ position_key (read ws) → top < key → x ≡ position_at ws →
    x ≡ position_after (read ws) key
unfolding position_after
position_stays {ws} h {key = key} is above e =
    rw (lt-leb key (position_key (read ws)) (omega arith))
    (e ∙ on_listed (λ t ws s. position_at ws ≡ t.position) (λ t v. position_is v) h)

pub position_lowers :
    {ws : List ℕ} {s : Settings} {top key x : ℕ} {f : Found} → Sought ws s key f → top ≡ position_key (read ws) → key ≤ top →
    x ≡ lower_from ws f.parent (suc f.p) → x ≡ position_after (read ws) key
unfolding position_after
position_lowers {ws} {key = key} k is low e = rw (le-leb key (position_key (read ws)) (omega arith)) (e ∙ lower_found k)

module _ {ws : List ℕ} {s : Settings} {top key x : ℕ} where
  -- a key above the position's: the path stays
  pub path_kept : top < key → PathWritten ws ws s top key x
  path_kept h = record { is = λ t e. sym (e.kept h) }

  -- the position stands
  ending_stands : {t : State} → Ending ws s top key x t → StandsIn ws s x t
  ending_stands {t} e =
      record {
        order = e.order;
        settings = e.settings;
        words = e.words;
        stands = subst (λ c. 0 < occurrences c (0 ∷ map (λ y. y.cell) t.row)) e.position (valid_sound t e.order).position;
      }

  pub due_standing : EndsInSome ws s top key x → StandsInSome ws s x
  due_standing d = record { state = d.state; in_it = ending_stands d.ending }

  -- and its path is the one of the state
  ending_path : {t : State} → Ending ws s top key x t → path_for s.base s.dimensions t.row (key_of x (head_node ∷ t.row)) ≡ path t
  unfolding path path_for
  ending_path e = rw (← e.position, ← e.settings) refl

  pub path_moved : {us : List ℕ} {r : Path} → CellPath ws s x r → us ≡ write_path ws (path_of r) → PathWritten ws us s top key x
  path_moved c written = record { is = λ t e. written ∙ ap (write_path ws) (c.is t (ending_stands e) ∙ ending_path e) ∙ sym e.words }
