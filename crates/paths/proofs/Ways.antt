-- From cell to cell in the order of keys, on a list: what `next` answers on the way through the row of the state that the words hold.
use mathlib.Core.Path.{◌≡◌, refl, sym, ap, ap₂, ◌∙◌}
use mathlib.Core.List.{List, [], ◌∷◌, ◌++◌}
use Prim.Native.Nat.{ℕ, ◌<◌}
use native.Mathlib.Omega.{arith}
use lib.ListN.{replicate}
use Rattle.settings.specs.declared.Settings.{Settings}
use Rattle.meaning.specs.Row.{Node, last_of}
use Rattle.meaning.specs.State.{State}
use Rattle.meaning.specs.Picture.{mark, picture}
use Rattle.meaning.specs.Reading.{read}
use Rattle.meaning.specs.Words.{mark_at}
use Rattle.meaning.specs.Layer.Paths.{PathOf, dimension_in, onward}
use Rattle.meaning.specs.Layer.Listed.{Listed}
use Rattle.meaning.proofs.Pictures.State.{Sound}
use Rattle.meaning.proofs.Kept.KeepsState.{cell_alone}
use Rattle.meaning.proofs.Paths.PathNext.{head_on_way, way_within, way_next, way_end, way_mark, way_above, way_on}
use Rattle.words.proofs.Listed.{on_listed}
use Rattle.paths.specs.declared.path.Path.{Path}
use Rattle.paths.specs.declared.NextCell.{NextCell}
use Rattle.paths.specs.Paths.{path_of, PathIn, NoneNext, NextAt}

-- the head's path, and that a path on the way is the list's

pub head_starts :
    {ws : List ℕ} {s : Settings} → Listed ws s → {path : List ℕ} → path ≡ replicate s.dimensions 0 → PathOf (read ws) path [] (read ws).row
head_starts h {path} is =
    on_listed (λ t ws s. path ≡ replicate s.dimensions 0 → PathOf t path [] t.row) (λ t v e. rw e (head_on_way t)) h is

pub way_in :
    {ws : List ℕ} {s : Settings} → Listed ws s → {p : Path} {front later : List Node} → p.used ≡ s.dimensions →
    PathOf (read ws) (path_of p) front later → PathIn s p
way_in h {p} {front} {later} =
    on_listed (λ t ws s. p.used ≡ s.dimensions → PathOf t (path_of p) front later → PathIn s p)
    (λ t v used w. record { used = used; below = λ d l. way_within v w d }) h

-- a move by r to node y, from the last of the nodes in front of it, which has this path
pub record MovesTo (t : State) (ws : List ℕ) (s : Settings) (path : List ℕ) (front : List Node) (y : Node) (later : List Node) (r : NextCell) : Type 0 where
  pub cell : r.cell ≡ y.cell
  pub number : r.number ≡ dimension_in t r.cell
  pub mark : mark_at ws r.cell ≡ mark y.live
  pub above : (last_of front).key < y.key
  pub way : {q : List ℕ} → q ≡ onward s.dimensions path r.number r.cell → PathOf t q (front ++ (y ∷ [])) later

moves_at :
    {t : State} → Sound t → {path : List ℕ} {r : NextCell} → NextAt (picture t) t.settings path r → {front : List Node} {y : Node} {later : List Node} →
    PathOf t path front (y ∷ later) → MovesTo t (picture t) t.settings path front y later r
moves_at {t} v {path} {r} n {front} {y} {later} w =
    let next = sym n.is ∙ way_next v w in
    let cell = ap (λ c. c.cell) next in
    let number = ap (λ c. c.number) next in
    let on = way_on v w in
    record {
      cell = cell;
      number = number ∙ ap (dimension_in t) (sym cell);
      mark = ap (mark_at (picture t)) cell ∙ way_mark v w;
      above = way_above v w;
      way = λ e. record { split = on.split; is = e ∙ ap₂ (onward t.settings.dimensions path) number cell ∙ on.is };
    }

-- a move by r to the first of those still to come
pub record MovesOn (t : State) (ws : List ℕ) (s : Settings) (path : List ℕ) (front later : List Node) (r : NextCell) : Type 0 where
  pub node : Node
  pub rest : List Node
  pub next : later ≡ node ∷ rest
  pub to : MovesTo t ws s path front node rest r

module _ {ws : List ℕ} {s : Settings} (h : Listed ws s) {path : List ℕ} {front : List Node} where
  -- where there is no next cell, none is still to come
  pub moves_end : NoneNext ws s path → (later : List Node) → PathOf (read ws) path front later → later ≡ []
  moves_end none [] w = refl
  moves_end none (y ∷ later) w =
      absurd
      (on_listed (λ t ws s. NoneNext ws s path → PathOf t path front (y ∷ later) → ⊥)
      (λ t v none w.
      let nowhere : 0 ≡ y.cell = ap (λ c. c.cell) (sym none ∙ way_next v w) in
      omega (arith, (cell_alone t v front y later w.split).standing))
      h none w)

  module _ {r : NextCell} (n : NextAt ws s path r) where
    pub moves_to : {y : Node} {later : List Node} → PathOf (read ws) path front (y ∷ later) → MovesTo (read ws) ws s path front y later r
    moves_to {y} {later} =
        on_listed (λ t ws s. NextAt ws s path r → PathOf t path front (y ∷ later) → MovesTo t ws s path front y later r) (λ t v m w. moves_at v m w) h n

    pub moves_on : (later : List Node) → PathOf (read ws) path front later → MovesOn (read ws) ws s path front later r
    moves_on [] w =
        absurd
        (on_listed (λ t ws s. NextAt ws s path r → PathOf t path front [] → ⊥)
        (λ t v m w. m.other (ap (λ c. c.cell) (sym m.is ∙ way_end v w))) h n w)
    moves_on (y ∷ later) w = record { node = y; rest = later; next = refl; to = moves_to w }
