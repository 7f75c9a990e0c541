-- The places of the standing cells of a buffer of which every sentence holds. After each cell of the row come all standing cells with
-- larger keys (`Above`), so the first of them is the one of next larger key, and a cell's dimension is what it shares with the one before.
use mathlib.Core.Path.{◌≡◌, refl, sym, ◌∙◌, ap, ap₂, subst}
use mathlib.Core.Bool.{false}
use mathlib.Core.List.{List, [], ◌∷◌, map}
use Prim.Native.Nat.{ℕ, ◌-◌, ◌≤◌, ◌<◌}
use native.Mathlib.Decide.{dec_le}
use native.Mathlib.Omega.{arith}
use Rattle.lists.specs.Lists.{occurrences}
use Rattle.lists.proofs.Occurrences.{occurrences_past, occurs_has}
use Rattle.lists.proofs.All.{All, all_map, all_zip, all_mapped}
use Rattle.meaning.specs.Keys.{shared}
use Rattle.meaning.specs.Row.{Node, head_node, Place, places_after, places}
use Rattle.meaning.specs.Words.{key_at, dimensions_at, cells_at, base_at}
use Rattle.meaning.specs.Sentences.{shared_at, Standing, NextSmaller, NextLarger, Dimension, of_head, of_other, AList}
use Rattle.meaning.proofs.Rows.AscendingRow.{Asc, asc_above}
use Rattle.meaning.proofs.BothWays.ConverseKeys.{cell_positive, shared_is}
use Rattle.meaning.proofs.BothWays.ConverseRow.{Shown, standing_row, head_shown, row_shown, row_ascends, row_once}

-- What comes after a key

-- The standing cells with keys above a key, all of them, in ascending order.
pub record Above (ws : List ℕ) (key : ℕ) (row : List Node) : Type 0 where
  pub shown : All (Shown ws) row
  pub ascends : Asc key row
  pub complete : (y : ℕ) → Standing ws y → key < key_at ws y → 0 < occurrences y (map (λ x. x.cell) row)

-- what their cells have, every standing cell above the key has
pub above_has : (P : ℕ → Type 0) {ws : List ℕ} {key : ℕ} {row : List Node} → Above ws key row → All (λ x. P x.cell) row → (y : ℕ) → Standing ws y →
    key < key_at ws y → P y
above_has P {row = row} r all y st h = occurs_has P y (map (λ x. x.cell) row) (r.complete y st h) (all_mapped P (λ x. x.cell) row all)

pub above_next : {ws : List ℕ} {key : ℕ} {x : Node} {row : List Node} → Above ws key (x ∷ row) → Above ws x.key row
above_next {ws} {key} {x} {row} r =
    record {
      shown = r.shown.1;
      ascends = r.ascends.1;
      complete = λ y st h.
          let same : x.cell ≡ y → x.key ≡ key_at ws y = λ e. r.shown.0.key ∙ ap (key_at ws) e in
          rw (occurrences_past y x.cell (map (λ z. z.cell) row) (λ e. let q = same e in omega arith)) at
          (r.complete y st (let k = r.ascends.0 in omega arith));
    }

-- the first of them has the least key
pub above_least : {ws : List ℕ} {key : ℕ} {x : Node} {row : List Node} → Above ws key (x ∷ row) → (y : ℕ) → Standing ws y → key < key_at ws y →
    key_at ws x.cell ≤ key_at ws y
above_least {ws} {key} {x} {row} r =
    above_has (λ y. key_at ws x.cell ≤ key_at ws y) r (
      omega arith,
      all_zip (λ z s h. let k = r.shown.0.key in let l = s.key in omega arith) row r.shown.1 (asc_above x.key row r.ascends.1),
    )

-- so it is the cell of next larger key, and the cell before it is the one of next smaller key
pub above_next_larger : {ws : List ℕ} {a x : Node} {row : List Node} → Shown ws a → Above ws a.key (x ∷ row) → NextLarger ws a.cell x.cell
above_next_larger {ws} {a} {x} s r =
    let k = s.key in
    let l = r.shown.0.key in
    let h = r.ascends.0 in
    record { standing = r.shown.0.standing; larger = omega arith; next = λ y st m. above_least r y st (omega arith) }

pub above_next_smaller : {ws : List ℕ} {a x : Node} {row : List Node} → Shown ws a → Above ws a.key (x ∷ row) → NextSmaller ws x.cell a.cell
above_next_smaller {ws} {a} {x} s r =
    let k = s.key in
    let l = r.shown.0.key in
    let h = r.ascends.0 in
    record { standing = s.standing; smaller = omega arith; next = λ y st m. at y st m (dec_le (key_at ws y) (key_at ws a.cell)) }
  where
    at : (y : ℕ) → Standing ws y → key_at ws y < key_at ws x.cell → Dec (key_at ws y ≤ key_at ws a.cell) → key_at ws y ≤ key_at ws a.cell
    at y st m (yes e) = e
    at y st m (no ne) = let k = s.key in let n = above_least r y st (omega arith) in omega arith

-- Places

-- a node n with its dimension e and the later ones
pub record Stands (ws : List ℕ) (n : Node) (e : ℕ) (later : List Node) : Type 0 where
  pub shown : Shown ws n
  pub dimension : Dimension ws n.cell e
  pub above : Above ws n.key later

-- What is behind a place: nothing that owes if it is the head's, and else the node before it.
pub data Behind (ws : List ℕ) (p : Place) : Type 0 where
  none : p.node.cell ≡ 0 → p.before.owes ≡ false → Behind ws p
  one : Stands ws p.before p.before_dimension (p.node ∷ p.later) →
      p.dimension ≡ shared (base_at ws) (dimensions_at ws) p.before.key p.node.key → Behind ws p

pub record PlaceShown (ws : List ℕ) (p : Place) : Type 0 where
  pub here : Stands ws p.node p.dimension p.later
  pub behind : Behind ws p

module _ (ws : List ℕ) (a : AList ws) where
  pub row_above : Above ws 0 (standing_row ws)
  row_above =
      let h = a.count.0 in
      let n = cells_at ws - 1 in
      record {
        shown = all_map (λ x s. s.0) (standing_row ws) (row_shown ws a 1 n (omega arith));
        ascends = row_ascends ws a 1 n (omega arith) (omega arith);
        complete = λ y st pos. let c = st.cell in let k = cell_positive ws a y pos in
            let o = row_once ws a y 1 n st (omega arith) (omega arith) (omega arith) in omega arith;
      }

  pub shown_shared : {x y : Node} → Shown ws x → Shown ws y → shared (base_at ws) (dimensions_at ws) x.key y.key ≡ shared_at ws x.cell y.cell
  shown_shared {x} {y} s t =
      ap₂ (shared (base_at ws) (dimensions_at ws)) s.key t.key ∙ sym (shared_is ws a x.cell y.cell s.standing t.standing)

  placed_after : (before : Node) (e : ℕ) (row : List Node) → Stands ws before e row →
      All (PlaceShown ws) (places_after (base_at ws) (dimensions_at ws) before e row)
  unfolding places_after
  placed_after before e [] s = tt
  placed_after before e (x ∷ row) s =
      let dimension = shared (base_at ws) (dimensions_at ws) before.key x.key in
      let shown = s.above.shown.0 in
      let here : Stands ws x dimension row = record {
        shown = shown;
        dimension = subst (Dimension ws x.cell) (sym (shown_shared s.shown shown)) (of_other (above_next_smaller s.shown s.above));
        above = above_next s.above;
      } in
      (record { here = here; behind = one s refl }, placed_after x dimension row here)

  pub row_placed : All (PlaceShown ws) (places (base_at ws) (dimensions_at ws) (standing_row ws))
  unfolding places
  row_placed =
      let head : Stands ws head_node 0 (standing_row ws) = record { shown = head_shown ws a; dimension = of_head; above = row_above } in
      (record { here = head; behind = none refl refl }, placed_after head_node 0 (standing_row ws) head)
