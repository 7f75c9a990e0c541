-- What a list on which nobody owes gives, where a sweep moves the position to another cell than the head: that cell is one of the list's,
-- its key has D coordinates, the numbers of the drop fit, and with the front dropped the words are the picture of the swept state.
use mathlib.Core.Path.{◌≡◌, sym, ap, ◌∙◌, subst}
use mathlib.Core.Bool.{false}
use mathlib.Core.List.{List, map}
use Prim.Native.Nat.{ℕ}
use Rattle.settings.specs.declared.Settings.{Settings}
use Rattle.lists.proofs.All.{All, all_at}
use Rattle.meaning.specs.Keys.{shared}
use Rattle.meaning.specs.Row.{Node, last_of}
use Rattle.meaning.specs.State.{State}
use Rattle.meaning.specs.Picture.{picture}
use Rattle.meaning.specs.Reading.{read}
use Rattle.meaning.specs.Operations.{paid, dead_front, from_live, freed_by, swept}
use Rattle.meaning.specs.Layer.Paths.{PathOf, dimension_in}
use Rattle.meaning.specs.Layer.SweepStores.{drop_front}
use Rattle.meaning.proofs.Pictures.State.{Sound, base_positive}
use Rattle.meaning.proofs.Cells.Placed.{place_key, placed_below}
use Rattle.meaning.proofs.BothWays.SentencesShape.{HasPlace, row_placed, key_below_lem}
use Rattle.meaning.proofs.Paths.PathNext.{way_key}
use Rattle.meaning.proofs.Written.SweepStores.{Dropping}
use Rattle.meaning.proofs.Written.SweepFinish.{paid_owes_nothing}
use Rattle.meaning.proofs.Written.SweepWords.{swept_front, swept_zeros, swept_dropping, unowing_swept}
use Rattle.words.proofs.Listed.{power_fits, on_listed}
use Rattle.paths.specs.Paths.{path_of}
use Rattle.free_between.specs.declared.Target.{Target}
use Rattle.free_between.specs.Between.{Droppable, zeros_of, Keyed}

-- dropping the front of state u up to cell c, reached by link `number` and with a path
pub record Drops (u : State) (ws : List ℕ) (s : Settings) (c number : ℕ) (path : List ℕ) : Type 0 where
  pub keyed : Keyed ws s c
  pub dropping : Dropping s.dimensions s.cells c number (zeros_of ws s c) (map (λ x. x.cell) (freed_by u.row))
  pub words : drop_front s.dimensions ws c number path (zeros_of ws s c) (map (λ x. x.cell) (freed_by u.row)) ≡ picture (swept u)

module _ (u : State) (v : Sound u) (unowing : All (λ x. x.owes ≡ false) u.row) {c number : ℕ} {path : List ℕ}
    (w : PathOf u path (dead_front u.row) (from_live u.row)) (cell : c ≡ (last_of (dead_front u.row)).cell) (is : number ≡ dimension_in u c)
    (other : c ≡ 0 → ⊥) where
  abbrev x : Node
  x = last_of (dead_front u.row)

  ne : x.cell ≡ 0 → ⊥
  ne e = other (cell ∙ e)

  zeros_read : zeros_of (picture u) u.settings x.cell ≡ swept_zeros u
  zeros_read = ap (shared u.settings.base u.settings.dimensions 0) (way_key v w)

  keyed_read : Keyed (picture u) u.settings x.cell
  keyed_read =
      let standing = subst (All (HasPlace u)) (swept_front u.row ne) (row_placed v) in
      let here = (all_at (HasPlace u) (freed_by u.row) x (from_live u.row) standing).placed in
      record {
        cell = placed_below v here;
        base = base_positive u v;
        power = power_fits u v;
        fits = rw (place_key v here) (key_below_lem v here);
      }

  drops_read : Drops u (picture u) u.settings c number path
  drops_read =
      rw (w.is, is, cell)
      (record {
        keyed = keyed_read;
        dropping = rw zeros_read (swept_dropping u v unowing ne);
        words = rw zeros_read (sym (unowing_swept u v unowing ne));
      })

pub drops : {ws : List ℕ} {s : Settings} {t : Target} → Droppable ws s t → Drops (read ws) ws s t.cell t.number (path_of t.path)
drops {t = t} d =
    on_listed
    (λ u ws s.
    map paid u.row ≡ u.row → PathOf u (path_of t.path) (dead_front u.row) (from_live u.row) → t.cell ≡ (last_of (dead_front u.row)).cell →
    t.number ≡ dimension_in u t.cell → Drops u ws s t.cell t.number (path_of t.path))
    (λ u v e w cell is. drops_read u v (subst (All (λ x. x.owes ≡ false)) e (paid_owes_nothing u.row)) w cell is d.other)
    d.paid.listed d.paid.unowing d.target.on_way d.target.cell d.target.number
