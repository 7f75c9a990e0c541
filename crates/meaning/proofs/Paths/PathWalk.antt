-- The path that the walk for k builds is the path of the cell where it comes to rest; so, for a standing key, the key's own path. The walk
-- goes from a cell x to a cell y by link d of x: d is y's dimension and what x and y share, so y's path is x's below d, and y from d on.
use Rattle.std.specs.Prelude.{None}
use mathlib.Core.Path.{◌≡◌, sym, ap, ◌∙◌}
use mathlib.Core.Logic.{◌⊎◌, inl, inr}
use mathlib.Core.List.{List, [], ◌∷◌}
use Prim.Native.Nat.{ℕ, suc, ◌≤◌, ◌<◌}
use native.Mathlib.Decide.{ℕ_discrete}
use native.Mathlib.Omega.{arith}
use lib.ListN.{replicate}
use Rattle.lists.proofs.All.{All, all_zip}
use Rattle.meaning.specs.Keys.{shared}
use Rattle.meaning.specs.Row.{Node, head_node, Place, places_after, places, node_at}
use Rattle.meaning.specs.State.{State}
use Rattle.meaning.specs.Picture.{first_with, picture}
use Rattle.meaning.specs.Words.{key_at}
use Rattle.meaning.specs.Walk.{trail}
use Rattle.meaning.specs.Layer.Paths.{path_for, onward, path_over}
use Rattle.meaning.specs.declared.Step.{Step}
use Rattle.meaning.specs.declared.Step.TheVariants.{Go, Up}
use Rattle.meaning.specs.declared.Rest.{Rest}
use Rattle.meaning.specs.Resting.{at_head, rest_after, rest_over, rest}
use Rattle.meaning.proofs.Rows.AscendingRow.{Asc}
use Rattle.meaning.proofs.Rows.Keys.{shared_same, shared_le}
use Rattle.meaning.proofs.Pictures.State.{Sound, base_positive}
use Rattle.meaning.proofs.Rows.Parent.{dimension_least, first_skips, first_hits}
use Rattle.meaning.proofs.Walks.WalkRow.{RowTrail, rises, moves, wants, reaches}
use Rattle.meaning.proofs.Walks.Walk.{row_trail}
use Rattle.meaning.proofs.Walks.WalkStop.{Wanting, Moved, rests}
use Rattle.meaning.proofs.Cells.Placed.{Placed, Own, placed_has, placed_most, placed_above, placed_at, head_placed, place_key}
use Rattle.meaning.proofs.Paths.Path.{first_alike, path_head, path_from}

-- from a place's dimension on, its path has its cell
path_has_own : (b D : ℕ) → 0 < b → (y : Node) (e : ℕ) (row : List Node) → Asc y.key row →
    All (λ p. (i : ℕ) → p.dimension ≤ i → i < D → first_with b D p.node.key (suc i) (y ∷ row) ≡ p.node.cell) (places_after b D y e row)
unfolding places_after
path_has_own b D pos y e [] asc = tt
path_has_own b D pos y e (z ∷ row) asc =
    let f = shared b D y.key z.key in (
      λ i h l.
          first_skips b D z.key (suc i) y (z ∷ row) (omega arith)
          ∙ first_hits b D z.key (suc i) z row (omega (arith, shared_same b D z.key)),
      all_zip (λ p less own i h l. first_skips b D p.node.key (suc i) y (z ∷ row) (omega arith) ∙ own i h l) (places_after b D z f row)
          (dimension_least b D pos y e (z ∷ row) asc).1 (path_has_own b D pos z f row asc.1),
    )

module _ {s : State} (v : Sound s) where
  placed_path_own : {x : ℕ} {p : Place} → Placed s x p → (i : ℕ) → p.dimension ≤ i → i < s.settings.dimensions →
      first_with s.settings.base s.settings.dimensions p.node.key (suc i) (head_node ∷ s.row) ≡ p.node.cell
  unfolding places
  placed_path_own here =
      let b = s.settings.base in
      let D = s.settings.dimensions in
      placed_has here (λ p. (i : ℕ) → p.dimension ≤ i → i < D → first_with b D p.node.key (suc i) (head_node ∷ s.row) ≡ p.node.cell) (
        λ i h l. first_hits b D 0 (suc i) head_node s.row (omega (arith, shared_same b D 0)),
        path_has_own b D (base_positive s v) head_node 0 s.row v.ascends,
      )

  -- the path after a move
  path_moves : {y : ℕ} {q : Place} (x d : ℕ) → Placed s y q →
      d ≡ shared s.settings.base s.settings.dimensions x q.node.key → q.dimension ≡ d →
      onward s.settings.dimensions (path_for s.settings.base s.settings.dimensions s.row x) d q.node.cell
      ≡ path_for s.settings.base s.settings.dimensions s.row q.node.key
  path_moves {q = q} x d there e dim =
      let b = s.settings.base in
      let D = s.settings.dimensions in
      sym (path_from b D s.row x q.node.key d q.node.cell (omega (arith, shared_le b D x q.node.key))
      (λ i l. sym (first_alike b D (base_positive s v) x q.node.key (suc i) (omega arith) (head_node ∷ s.row)))
      (λ i h l. placed_path_own there i (omega arith) l))

  -- steps make the path of the place that they start from that of the cell where they come to rest
  path_rests : {k : ℕ} {p : Place} {d : ℕ} {steps : List Step} → RowTrail s.settings.base s.settings.dimensions k (Own s) p d steps →
      (r : Rest) → Placed s r.at p →
      path_over s.settings.dimensions (path_for s.settings.base s.settings.dimensions s.row p.node.key) d steps
      ≡ path_for s.settings.base s.settings.dimensions s.row (key_at (picture s) (rest_over r steps).at)
  unfolding path_over rest_over
  path_rests (rises t) r here = path_rests t (rest_after r Up) here
  path_rests {p = p} {d} (moves {steps = steps} h up e to t) r here =
      ap (λ path. path_over s.settings.dimensions path d steps)
      (path_moves p.node.key d to.holds (e ∙ sym to.shares) (to.dimension ∙ sym e))
      ∙ path_rests t (rest_after r (Go to.to.node.cell)) to.holds
  path_rests (wants h up e stop) r here = ap (path_for s.settings.base s.settings.dimensions s.row) (sym (place_key v here))
  path_rests (reaches h e) r here = ap (path_for s.settings.base s.settings.dimensions s.row) (sym (place_key v here))

-- for a standing key the walk rests at the cell with the key
rest_at_key : (s : State) → Sound s → (k : ℕ) → 1 ≤ k → k ≤ s.settings.largest → (node_at k s.row ≡ None → ⊥) →
    key_at (picture s) (rest (picture s) k).at ≡ k
rest_at_key s v k least most stands = at (rests s v k least most)
  where
    at : Wanting s k (rest (picture s) k) ⊎ Moved s k (rest (picture s) k) → key_at (picture s) (rest (picture s) k).at ≡ k
    at (inl w) = absurd (stands w.absent)
    at (inr m) = place_key v m.to_placed ∙ reached (ℕ_discrete k m.to.node.key)
      where
        reached : Dec (k ≡ m.to.node.key) → m.to.node.key ≡ k
        reached (yes e) = sym e
        reached (no ne) = absurd (stands (m.absent (let h = m.reached in omega arith)))

-- The path of a standing cell other than the head is the one that the walk for its key builds (the head's is `path_head`).
pub path_of_cell :
    {s : State} (v : Sound s) {x : ℕ} {p : Place} → Placed s x p → 0 < x →
    path_over s.settings.dimensions (replicate s.settings.dimensions 0) 0 (trail (picture s) p.node.key)
    ≡ path_for s.settings.base s.settings.dimensions s.row p.node.key
unfolding rest
path_of_cell {s} v {p = p} here other =
    let b = s.settings.base in
    let D = s.settings.dimensions in
    let key = p.node.key in
    let above = placed_above v here other in
    let most = placed_most v here in
    let at = placed_at v here above in
    ap (λ path. path_over D path 0 (trail (picture s) key)) (sym (path_head b D s.row))
    ∙ path_rests v (row_trail s v key above most) at_head (head_placed s)
    ∙ ap (path_for b D s.row) (rest_at_key s v key above most (λ e. let z : ◌≡◌ {A = ℕ} 0 1 = cc in omega arith))
