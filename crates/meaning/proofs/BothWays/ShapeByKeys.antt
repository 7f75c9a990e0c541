-- The settled shape follows from the keys alone: what the sentences say of a settled link is said by D, b and the keys of standing cells,
-- so it holds of the cells with the same keys in another list that has the same ones.
use mathlib.Core.Path.{◌≡◌, sym, ◌∙◌, ap, subst}
use mathlib.Core.Bool.{true}
use mathlib.Core.List.{List, map}
use Prim.Native.Nat.{ℕ, ◌<◌}
use native.Mathlib.Omega.{arith}
use Rattle.lists.specs.Compared.{agreed}
use Rattle.lists.proofs.All.{All, all_map, all_of_map, all_mapped}
use Rattle.meaning.specs.Keys.{coordinate, coordinates}
use Rattle.meaning.specs.Reading.{is_list, standing_keys}
use Rattle.meaning.specs.Words.{key_at, owed_at, link_at, dimensions_at, base_at, coordinate_at}
use Rattle.meaning.specs.Sentences.{shared_at, Standing, NextSmaller, Dimension, of_head, of_other, LargerAt, Settled, leads}
use Rattle.meaning.specs.Sentences.{leads_nowhere, below_dimension, AList}
use Rattle.meaning.proofs.Cells.Placed.{placed_node, place_key, place_standing, cell_standing}
use Rattle.meaning.proofs.Outcomes.{on_read_lists}
use Rattle.meaning.proofs.BothWays.SentencesShape.{row_placed}
use Rattle.meaning.proofs.BothWays.Sentences.{list_sentences}
use Rattle.meaning.proofs.BothWays.ConverseKeys.{head_stands, settled_unique}

-- a standing cell has the key
pub record HasKey (ws : List ℕ) (key : ℕ) : Type 0 where
  pub cell : ℕ
  pub standing : Standing ws cell
  pub is : key_at ws cell ≡ key

-- Two lists with the same D and b and the same keys on standing cells.
pub record Alike (ws vs : List ℕ) : Type 0 where
  pub dimensions : dimensions_at ws ≡ dimensions_at vs
  pub base : base_at ws ≡ base_at vs
  pub there : (x : ℕ) → Standing ws x → HasKey vs (key_at ws x)
  pub back : (y : ℕ) → Standing vs y → HasKey ws (key_at vs y)

alike_back : {ws vs : List ℕ} → Alike ws vs → Alike vs ws
alike_back a = record { dimensions = sym a.dimensions; base = sym a.base; there = a.back; back = a.there }

-- Lists with the same standing keys

-- what 0 and every standing key have, every standing cell's key has
list_standing : (P : ℕ → Type 0) (ws : List ℕ) → is_list ws ≡ true → P 0 → All P (standing_keys ws) → (x : ℕ) → Standing ws x → P (key_at ws x)
list_standing P =
    on_read_lists (λ s ws. P 0 → All P (map (λ x. x.key) s.row) → (x : ℕ) → Standing ws x → P (key_at ws x)) (λ s v zero keys x stands.
    let (p, here) = cell_standing s x stands in
    subst P (sym (place_key v here)) (placed_node here (λ y. P y.key) zero (all_of_map P (λ y. y.key) s.row keys)))

-- every standing key is some standing cell's
list_keyed : (ws : List ℕ) → is_list ws ≡ true → All (HasKey ws) (standing_keys ws)
list_keyed =
    on_read_lists (λ s ws. All (HasKey ws) (map (λ x. x.key) s.row)) (λ s v.
    all_mapped (HasKey _) (λ x. x.key) s.row (all_map (λ x at.
    record { cell = x.cell; standing = place_standing v at.placed; is = place_key v at.placed ∙ ap (λ y. y.key) at.node })
    s.row (row_placed v)))

-- so a standing cell's key is some standing cell's of another list with the same standing keys
key_there : (ws vs : List ℕ) → is_list ws ≡ true → is_list vs ≡ true → standing_keys ws ≡ standing_keys vs →
    (x : ℕ) → Standing ws x → HasKey vs (key_at ws x)
key_there ws vs e f same =
    let a = list_sentences vs f in
    list_standing (HasKey vs) ws e (record { cell = 0; standing = head_stands vs a; is = a.head.0 })
    (subst (All (HasKey vs)) (sym same) (list_keyed vs f))

pub keys_alike : (ws vs : List ℕ) → is_list ws ≡ true → is_list vs ≡ true → dimensions_at ws ≡ dimensions_at vs → base_at ws ≡ base_at vs →
    standing_keys ws ≡ standing_keys vs → Alike ws vs
keys_alike ws vs e f d b same =
    record { dimensions = d; base = b; there = key_there ws vs e f same; back = key_there vs ws f e (sym same) }

-- The sentences, from one list to the other

module _ {ws vs : List ℕ} (a : Alike ws vs) where
  shared_alike : (x y x' y' : ℕ) → key_at ws x ≡ key_at vs x' → key_at ws y ≡ key_at vs y' → shared_at ws x y ≡ shared_at vs x' y'
  shared_alike x y x' y' k l =
      λ i. agreed (coordinates (a.base i) (a.dimensions i) (k i)) (coordinates (a.base i) (a.dimensions i) (l i))

  coordinate_alike : (x x' d : ℕ) → key_at ws x ≡ key_at vs x' → coordinate_at ws x d ≡ coordinate_at vs x' d
  coordinate_alike x x' d k = λ i. coordinate (a.base i) (a.dimensions i) (k i) d

  smaller_alike : (x y x' y' : ℕ) → key_at ws x ≡ key_at vs x' → key_at ws y ≡ key_at vs y' → Standing vs y' → NextSmaller ws x y → NextSmaller vs x' y'
  smaller_alike x y x' y' k l stands n =
      let less = n.smaller in
      record {
        standing = stands;
        smaller = omega arith;
        next = λ z sz h.
            let t = a.back z sz in
            let same = t.is in
            let most = n.next t.cell t.standing (omega arith) in
            omega arith;
      }

  larger_alike : (x y x' y' d : ℕ) → key_at ws x ≡ key_at vs x' → key_at ws y ≡ key_at vs y' → Standing vs y' → LargerAt ws x d y → LargerAt vs x' d y'
  larger_alike x y x' y' d k l stands h =
      let more = h.larger in
      record {
        standing = stands;
        shares = sym (shared_alike x y x' y' k l) ∙ h.shares;
        larger = omega (arith, more, coordinate_alike x x' d k, coordinate_alike y y' d l);
      }

module _ {ws vs : List ℕ} (a : Alike ws vs) (left : AList ws) (right : AList vs) where
  dimension_alike : (x e x' : ℕ) → Standing vs x' → key_at ws x ≡ key_at vs x' → Dimension ws x e → Dimension vs x' e
  dimension_alike x e x' stands k of_head =
      subst (λ y. Dimension vs y 0) (right.distinct 0 x' (head_stands vs right) stands (right.head.0 ∙ sym left.head.0 ∙ k)) of_head
  dimension_alike x e x' stands k (of_other {a = y} n) =
      let t = a.there y n.standing in
      subst (Dimension vs x') (sym (shared_alike a y x t.cell x' (sym t.is) k))
      (of_other (smaller_alike a x y x' t.cell k (sym t.is) t.standing n))

  -- a cell of the other list that has the settled link, with the same key
  pub record Likewise (x' d l : ℕ) : Type 0 where
    pub cell : ℕ
    pub settled : Settled vs x' d cell
    pub same : key_at ws l ≡ key_at vs cell

  settled_alike : (x d l x' : ℕ) → Standing vs x' → key_at ws x ≡ key_at vs x' → Settled ws x d l → Likewise x' d l
  settled_alike x d l x' stands k (leads {e = e} dimension h larger least) =
      let t = a.there l larger.standing in
      record {
        cell = t.cell;
        settled = leads (dimension_alike x e x' stands k dimension) h (larger_alike a x l x' t.cell d k (sym t.is) t.standing larger) (λ z m.
            let u = a.back z m.standing in
            let first = least u.cell (larger_alike (alike_back a) x' z x u.cell d (sym k) (sym u.is) u.standing m) in
            omega (arith, first, t.is, u.is));
        same = sym t.is;
      }
  settled_alike x d l x' stands k (leads_nowhere {e = e} dimension h never) =
      record {
        cell = 0;
        settled = leads_nowhere (dimension_alike x e x' stands k dimension) h (λ z m.
            let u = a.back z m.standing in
            never u.cell (larger_alike (alike_back a) x' z x u.cell d (sym k) (sym u.is) u.standing m));
        same = left.head.0 ∙ sym right.head.0;
      }
  settled_alike x d l x' stands k (below_dimension {e = e} dimension h) =
      record { cell = 0; settled = below_dimension (dimension_alike x e x' stands k dimension) h; same = left.head.0 ∙ sym right.head.0 }

-- where nothing is owed, each link is settled
link_settled : (ws : List ℕ) → AList ws → ((x : ℕ) → Standing ws x → owed_at ws x ≡ 0) → (x d : ℕ) → Standing ws x → d < dimensions_at ws →
    Settled ws x d (link_at ws x d)
link_settled ws a nothing x d stands h =
    a.links x d stands h (λ o. let e = nothing x o.standing in let n = o.owes in omega arith)
    (λ n o e. let z = nothing n o.standing in let m = o.owes in omega arith)

pub links_by_keys : (ws vs : List ℕ) → is_list ws ≡ true → is_list vs ≡ true → Alike ws vs →
    ((x : ℕ) → Standing ws x → owed_at ws x ≡ 0) → ((y : ℕ) → Standing vs y → owed_at vs y ≡ 0) →
    (x y : ℕ) → Standing ws x → Standing vs y → key_at ws x ≡ key_at vs y →
    (d : ℕ) → d < dimensions_at ws → key_at ws (link_at ws x d) ≡ key_at vs (link_at vs y d)
links_by_keys ws vs e f a nothing nothing' x y sx sy k d h =
    let left = list_sentences ws e in
    let right = list_sentences vs f in
    let t = settled_alike a left right x d (link_at ws x d) y sy k (link_settled ws left nothing x d sx h) in
    let own = link_settled vs right nothing' y d sy (subst (λ D. d < D) a.dimensions h) in
    t.same ∙ ap (key_at vs) (settled_unique vs right t.settled own)
