-- Looking for the new position from the head on: past dead nodes, up to the first live one or the end.
use mathlib.Core.Path.{◌≡◌, refl, sym, ap, ◌∙◌, subst}
use mathlib.Core.Bool.{false}
use mathlib.Core.List.{List, [], ◌∷◌, ◌++◌}
use Prim.Native.Nat.{ℕ, ◌<◌}
use native.Mathlib.Omega.{arith}
use lib.ListN.{length, replicate}
use Rattle.settings.specs.declared.Settings.{Settings}
use Rattle.lists.proofs.All.{All, all_append}
use Rattle.meaning.specs.Row.{Node, last_of}
use Rattle.meaning.specs.Reading.{read}
use Rattle.meaning.specs.Words.{key_at, mark_at}
use Rattle.meaning.specs.Operations.{dimension_at, keys_above}
use Rattle.meaning.specs.Layer.Listed.{Listed}
use Rattle.meaning.specs.Layer.Paths.{PathOf, dimension_in}
use Rattle.meaning.proofs.Cells.Placed.{mark_one, mark_other, head_placed}
use Rattle.meaning.proofs.Paths.PathNext.{last_of_lem, way_key}
use Rattle.meaning.proofs.Paths.PathTake.{Stops, Live, stops, above_later}
use Rattle.words.proofs.Listed.{on_listed}
use Rattle.paths.specs.declared.path.Path.{Path}
use Rattle.paths.specs.declared.NextCell.{NextCell}
use Rattle.paths.specs.Paths.{path_of, Onward, PathIn, NoneNext, NextAt}
use Rattle.paths.proofs.Paths.{onward_way, onward_in}
use Rattle.paths.proofs.Ways.{head_starts, way_in, MovesOn, moves_on, moves_end}
use Rattle.free_between.specs.Between.{SweptTo}

-- the path has come past dead nodes to cell `at`, which was reached by link `number`
pub record Seeking (ws : List ℕ) (s : Settings) (at number : ℕ) (p : Path) : Type 0 where
  pub front : List Node
  pub later : List Node
  pub on_way : PathOf (read ws) (path_of p) front later
  pub dead : All (λ y. y.live ≡ false) front
  pub cell : at ≡ (last_of front).cell
  pub reached : number ≡ dimension_in (read ws) at
  pub path_in : PathIn s p

pub seeking_start :
    {ws : List ℕ} {s : Settings} {p : Path} → Listed ws s → path_of p ≡ replicate s.dimensions 0 → p.used ≡ s.dimensions → Seeking ws s 0 0 p
unfolding dimension_at last_of
seeking_start {ws} h is used =
    let w = head_starts h is in
    record {
      front = [];
      later = (read ws).row;
      on_way = w;
      dead = tt;
      cell = refl;
      reached = ap dimension_at (sym (head_placed (read ws)).found);
      path_in = way_in h used w;
    }

-- the keys above that of a path's cell are those still to come
above_is :
    {ws : List ℕ} {s : Settings} → Listed ws s → {path : List ℕ} {front later : List Node} {c : ℕ} → PathOf (read ws) path front later →
    c ≡ (last_of front).cell → keys_above (key_at ws c) (read ws).row ≡ length later
above_is h {path} {front} {later} {c} =
    on_listed (λ t ws s. PathOf t path front later → c ≡ (last_of front).cell → keys_above (key_at ws c) t.row ≡ length later)
    (λ t v w e. rw (e, way_key v w) (above_later v w)) h

module _ {ws : List ℕ} {s : Settings} (h : Listed ws s) {at number : ℕ} {p : Path} (k : Seeking ws s at number p) where
  -- where none comes later, or a live one comes next, the new position is found
  found : (later : List Node) → k.later ≡ later → Live later → SweptTo ws s (record { cell = at; number = number; path = p })
  found later e live =
      let w = subst (PathOf (read ws) (path_of p) k.front) e k.on_way in
      let stop = subst (λ row. Stops row k.front later) (sym w.split) (stops k.front later k.dead live) in
      record { on_way = rw (stop.dead, stop.live) w; cell = rw stop.dead k.cell; number = k.reached; path_in = k.path_in }

  pub seeking_end : NoneNext ws s (path_of p) → SweptTo ws s (record { cell = at; number = number; path = p })
  seeking_end none = found [] (moves_end h none k.later k.on_way) tt

  module _ {r : NextCell} (n : NextAt ws s (path_of p) r) where
    on : MovesOn (read ws) ws s (path_of p) k.front k.later r
    on = moves_on h n k.later k.on_way

    pub seeking_live : {mark : ℕ} → mark ≡ mark_at ws r.cell → mark ≡ 1 → SweptTo ws s (record { cell = at; number = number; path = p })
    seeking_live is one = found (on.node ∷ on.rest) on.next (mark_one on.node.live (sym on.to.mark ∙ sym is ∙ one))

    module _ {q : Path} (o : Onward p r.number r.cell q) where
      further : PathOf (read ws) (path_of q) (k.front ++ (on.node ∷ [])) on.rest
      further = on.to.way (onward_way k.path_in o)

      pub seeking_less : keys_above (key_at ws r.cell) (read ws).row < keys_above (key_at ws at) (read ws).row
      seeking_less =
          let there = on.to.cell ∙ ap (λ y. y.cell) (sym (last_of_lem k.front on.node)) in
          omega (arith, above_is h further there, above_is h k.on_way k.cell, ap length on.next)

      pub seeking_onward : {mark : ℕ} → mark ≡ mark_at ws r.cell → (mark ≡ 1 → ⊥) → Seeking ws s r.cell r.number q
      seeking_onward is other =
          let y = on.node in
          record {
            front = k.front ++ (y ∷ []);
            later = on.rest;
            on_way = further;
            dead = all_append (λ z. z.live ≡ false) k.front (y ∷ []) k.dead (mark_other y.live (λ e. other (is ∙ on.to.mark ∙ e)), tt);
            cell = on.to.cell ∙ ap (λ z. z.cell) (sym (last_of_lem k.front y));
            reached = on.to.number;
            path_in = onward_in k.path_in o n.number n.below;
          }
