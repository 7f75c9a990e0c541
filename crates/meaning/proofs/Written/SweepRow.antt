-- What a sweep does to links and paths. Dropping the front of a row, up to a node x, leaves every link that looks only at nodes after x
-- as it was. All of the front share at least as much with the head as x does, and all after x at most as much: so the head's links below
-- what it shares with x stay, that one leads to x, and the higher ones lead nowhere. And x shares more than d with the cell on its path at
-- d, so the first later node that shares just d with x is the first that shares just d with that cell.
use mathlib.Core.Path.{◌≡◌, refl, sym, subst, subst₂}
use mathlib.Core.List.{List, [], ◌∷◌, ◌++◌}
use Prim.Native.Nat.{ℕ, ◌≤◌, ◌<◌}
use native.Mathlib.Omega.{arith}
use lib.Seq.{append_snoc}
use Rattle.lists.proofs.All.{All, all_map}
use Rattle.meaning.specs.Keys.{shared}
use Rattle.meaning.specs.Row.{Node, head_node, first_sharing, Place}
use Rattle.meaning.proofs.Rows.AscendingRow.{Asc}
use Rattle.meaning.proofs.Rows.Keys.{ultra}
use Rattle.meaning.proofs.Rows.Places.{asc_left, asc_smaller, asc_larger, last_from, asc_right}
use Rattle.meaning.proofs.Rows.Parent.{dimension_after, Apart, ParentPlace, asc_last, last_least, apart_left, sharing_skips, sharing_hits}
use Rattle.meaning.proofs.Rows.Parent.{sharing_alike, sharing_above}
use Rattle.meaning.proofs.Paths.Path.{PathLink, path_link, parent_shares}
use Rattle.meaning.proofs.Paths.PathNext.{last_snoc}

-- Links to what comes after x, and of the head

module _ (b D : ℕ) (pos : 0 < b) (front : List Node) (x : Node) (later : List Node) (asc : Asc 0 (front ++ x ∷ later)) where
  front_shares : All (λ y. shared b D 0 x.key ≤ shared b D 0 y.key) front
  front_shares = all_map (λ y h. omega (arith, ultra b D 0 y.key x.key pos (omega arith) (omega arith))) front (asc_smaller 0 front x later asc)

  -- The head's links

  pub head_link_below : (d : ℕ) → d < shared b D 0 x.key → first_sharing b D 0 d (x ∷ later) ≡ first_sharing b D 0 d (front ++ x ∷ later)
  head_link_below d h = sym (sharing_skips b D 0 d front (x ∷ later) (all_map (λ y g e. omega arith) front front_shares))

  pub head_link_at : first_sharing b D 0 (shared b D 0 x.key) (x ∷ later) ≡ x.cell
  head_link_at = sharing_hits b D 0 (shared b D 0 x.key) x later refl

  pub head_link_above : (d : ℕ) → shared b D 0 x.key < d → first_sharing b D 0 d (x ∷ later) ≡ 0
  head_link_above d h = sharing_above b D pos 0 d x later (omega arith) (asc_right 0 front (x ∷ later) asc).1 h

  -- x's dimension becomes what it shares with the head
  pub dimension_falls : shared b D 0 x.key ≤ dimension_after b D head_node front x.key
  dimension_falls =
      let least = last_least head_node front (asc_left 0 front (x ∷ later) asc) in
      let less = (asc_last head_node front (x ∷ later) asc).0 in
      omega (arith, ultra b D 0 (last_from head_node front).key x.key pos least (omega arith))

-- The links of the cells on x's path

-- settled link d of the cell on x's path at d leads to the first later node that shares just d with x
pub path_shifts :
    (b D : ℕ) → 0 < b → 0 < D → (front : List Node) (x : Node) (later : List Node) (d : ℕ) → Asc 0 (front ++ x ∷ later) →
    Apart (head_node ∷ (front ++ x ∷ later)) → d < D →
    PathLink b D (front ++ x ∷ later) x.key d (first_sharing b D x.key d later)
path_shifts b D pos deep front x later d asc apart h =
    let up_to = front ++ x ∷ [] in
    let row : up_to ++ later ≡ front ++ x ∷ later = append_snoc front x later in
    let last : last_from head_node up_to ≡ x = last_snoc head_node front x in
    let up : Asc 0 up_to = asc_left 0 up_to later (subst (Asc 0) (sym row) asc) in
    let others : Apart (head_node ∷ up_to) = apart_left (head_node ∷ up_to) later (subst (λ r. Apart (head_node ∷ r)) (sym row) apart) in
    subst₂ (λ r y. PathLink b D r y.key d (first_sharing b D x.key d later)) row last
    (path_link b D pos deep up_to later d (first_sharing b D x.key d later) up others h (λ p at. alike p (subst (λ y. ParentPlace b D d y later p) last at)))
  where
    alike : (p : Place) → ParentPlace b D d x later p → first_sharing b D p.node.key d later ≡ first_sharing b D x.key d later
    alike p at =
        sharing_alike b D p.node.key x.key d later
        (all_map (λ y k. let shares = at.shares in let u = parent_shares b D pos deep d x later p at y.key (omega arith) in
        (λ e. omega arith, λ e. omega arith))
        later (asc_larger 0 front x later asc))
