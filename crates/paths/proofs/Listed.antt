-- What a list gives to whoever goes from cell to cell on its words: they are the picture of a state in order, so every cell that they name
-- is one of the list's, walks end, and the walk for a standing key builds the path of its cell. It is so too where the words of path
-- are not yet those of the state.
use mathlib.Core.Path.{◌≡◌, sym, ap, ◌∙◌, subst}
use mathlib.Core.List.{List, ◌∷◌}
use Prim.Native.Nat.{ℕ, ◌^◌, ◌<◌}
use native.Mathlib.Omega.{arith}
use lib.ListN.{get_or, replicate}
use Rattle.settings.specs.declared.Settings.{Settings}
use Rattle.meaning.specs.Row.{head_node, Place}
use Rattle.meaning.specs.State.{State, key_of}
use Rattle.meaning.specs.Picture.{path, picture}
use Rattle.meaning.specs.Words.{key_at, dimensions_at}
use Rattle.meaning.specs.Walk.{trail}
use Rattle.meaning.specs.Layer.Near.{NearAlong}
use Rattle.meaning.specs.Layer.Paths.{path_for, path_over}
use Rattle.meaning.specs.Layer.Listed.{Listed}
use Rattle.meaning.proofs.Pictures.State.{Sound, valid_sound, base_positive}
use Rattle.meaning.proofs.Pictures.Picture.{path_length, picture_dimensions}
use Rattle.meaning.proofs.Walks.Walk.{trail_ends, trail_near}
use Rattle.meaning.proofs.Cells.Stores.{path_sets_header}
use Rattle.meaning.proofs.Cells.Placed.{Placed, placed_key_of, placed_below, placed_most, placed_above, place_key, occurs_placed}
use Rattle.meaning.proofs.BothWays.SentencesShape.{key_below_lem}
use Rattle.meaning.proofs.Cells.CellsWithin.{owed_within, link_read-within}
use Rattle.meaning.proofs.Paths.Path.{path_head}
use Rattle.meaning.proofs.Paths.PathWalk.{path_of_cell}
use Rattle.words.proofs.Listed.{picture_shaped, power_fits, on_listed}
use Rattle.paths.specs.declared.path.Path.{Path}
use Rattle.paths.specs.Paths.{path_of, Walkable, WalkEnds, StandsIn, CellPath}
use Rattle.paths.proofs.Alike.{Alike, path_alike, alike_walkable, alike_trail}

pub picture_walkable : (t : State) → Sound t → Walkable (picture t) t.settings
picture_walkable t v =
    record { shaped = picture_shaped t v; head = omega (arith, v.ranges.cells_least); owed = owed_within t v; links = link_read-within t v }

pub listed_walkable : {ws : List ℕ} {s : Settings} → Listed ws s → Walkable ws s
listed_walkable = on_listed (λ t ws s. Walkable ws s) picture_walkable

-- A standing cell, the words of path apart

module _ {ws : List ℕ} {s : Settings} {x : ℕ} {t : State} (h : StandsIn ws s x t) where
  pub stands_sound : Sound t
  stands_sound = valid_sound t h.order

  stands_alike : Alike ws (picture t)
  stands_alike =
      let first : dimensions_at ws ≡ t.settings.dimensions =
      sym (path_sets_header ws (path t) 0 (omega arith)) ∙ ap (λ l. get_or l 0 0) (sym h.words) ∙ picture_dimensions t
      in
      subst (Alike ws) (sym h.words) (path_alike ws (path t) (path_length t ∙ sym first))

  pub stands_walkable : Walkable ws s
  stands_walkable = alike_walkable stands_alike (subst (Walkable (picture t)) h.settings (picture_walkable t stands_sound))

  stands_placed : (p : Place) × Placed t x p
  stands_placed = occurs_placed t x h.stands

  pub stands_base : 0 < s.base
  stands_base = subst (λ u. 0 < u.base) h.settings (base_positive t stands_sound)

  pub stands_power : s.base ^ s.dimensions < 2 ^ 64
  stands_power = subst (λ u. u.base ^ u.dimensions < 2 ^ 64) h.settings (power_fits t stands_sound)

  pub stands_below : x < s.cells
  stands_below = subst (λ u. x < u.cells) h.settings (placed_below stands_sound stands_placed.1)

  -- the head's path
  stands_head : x ≡ 0 → replicate s.dimensions 0 ≡ path_for s.base s.dimensions t.row (key_of x (head_node ∷ t.row))
  unfolding key_of
  stands_head e =
      sym (path_head s.base s.dimensions t.row) ∙ ap (λ c. path_for s.base s.dimensions t.row (key_of c (head_node ∷ t.row))) (sym e)

  module _ (other : x ≡ 0 → ⊥) {k : ℕ} (key : k ≡ key_at ws x) where
    key_is : k ≡ stands_placed.0.node.key
    key_is = key ∙ stands_alike.cells x 0 ∙ place_key stands_sound stands_placed.1

    -- the key has D coordinates, ..
    pub stands_fits : k < s.base ^ s.dimensions
    stands_fits = rw key_is (subst (λ u. stands_placed.0.node.key < u.base ^ u.dimensions) h.settings (key_below_lem stands_sound stands_placed.1))

    -- .. the walk for it ends, ..
    pub stands_ends : WalkEnds ws s k
    stands_ends =
        let v = stands_sound in
        let here = stands_placed.1 in
        let key = stands_placed.0.node.key in
        record {
          ended = rw (alike_trail stands_alike k, key_is) (trail_ends t v key (placed_above v here (omega arith)) (placed_most v here));
          near =
              rw (alike_trail stands_alike k, key_is)
              (subst (λ keys. NearAlong s.base s.dimensions key keys 0 0 (trail (picture t) key)) (λ i x. sym (stands_alike.cells x 0) i)
              (subst (λ u. NearAlong u.base u.dimensions key (key_at (picture t)) 0 0 (trail (picture t) key)) h.settings
              (trail_near t v key (placed_above v here (omega arith)) (placed_most v here))));
        }

    -- .. and builds its path
    stands_path :
        path_over s.dimensions (replicate s.dimensions 0) 0 (trail ws k)
        ≡ path_for s.base s.dimensions t.row (key_of x (head_node ∷ t.row))
    stands_path =
        let here = stands_placed.1 in
        let key = stands_placed.0.node.key in
        rw (alike_trail stands_alike k, key_is, placed_key_of here)
        (subst
        (λ u. path_over u.dimensions (replicate u.dimensions 0) 0 (trail (picture t) key) ≡ path_for u.base u.dimensions t.row key)
        h.settings (path_of_cell stands_sound here (omega arith)))

-- what `path_of` answers for the head, and for another cell

pub cell_path_head :
    (ws : List ℕ) {s : Settings} {x : ℕ} {r : Path} → x ≡ 0 → r.used ≡ s.dimensions → path_of r ≡ replicate s.dimensions 0 → CellPath ws s x r
cell_path_head ws e used is = record { is = λ t h. is ∙ stands_head h e; used = used }

pub cell_path_other :
    (ws : List ℕ) {s : Settings} {x : ℕ} {r : Path} {k : ℕ} → (x ≡ 0 → ⊥) → k ≡ key_at ws x → r.used ≡ s.dimensions →
    path_of r ≡ path_over s.dimensions (replicate s.dimensions 0) 0 (trail ws k) → CellPath ws s x r
cell_path_other ws other key used is = record { is = λ t h. is ∙ stands_path h other key; used = used }
