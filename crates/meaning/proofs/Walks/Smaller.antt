-- The standing cell of next smaller key than a key: the last of those before it in the row, or the head.
use mathlib.Core.Path.{◌≡◌, refl, ap, ap₂, ◌∙◌, subst}
use mathlib.Core.Bool.{Bool}
use mathlib.Core.List.{List, [], ◌∷◌, ◌++◌, append-nil}
use Prim.Native.Nat.{ℕ, ◌≤◌, ◌<◌}
use native.Mathlib.Omega.{arith}
use lib.Dec.{ltb}
use borrow.Author.Tests.{lt-ltb, le-ltb}
use Rattle.lists.specs.Lists.{those}
use Rattle.lists.proofs.Those.{those_all, those_none, those_append}
use Rattle.lists.proofs.All.{All, all_map, all_zip}
use Rattle.meaning.specs.Keys.{shared}
use Rattle.meaning.specs.Row.{Node, head_node, last_of, Place, places_after, places, place_of, smaller_than}
use Rattle.meaning.specs.State.{State}
use Rattle.meaning.specs.Picture.{picture}
use Rattle.meaning.specs.Sentences.{NextSmaller}
use Rattle.meaning.proofs.Rows.AscendingRow.{Asc, asc_above}
use Rattle.meaning.proofs.Pictures.State.{Sound}
use Rattle.meaning.proofs.Rows.Places.{asc_right, last_from, last_from_lem, dimension_from, places_nodes}
use Rattle.meaning.proofs.Rows.Parent.{dimension_after, Apart, apart_before, place_at}
use Rattle.meaning.proofs.Cells.Placed.{Placed, placed_has, placed_other}
use Rattle.meaning.proofs.Kept.Slot.{sound_apart}
use Rattle.meaning.proofs.BothWays.SentencesShape.{place_next_smaller}

-- where the nodes in front are below the key and the rest is not
pub smaller_is : (k : ℕ) (front rest : List Node) → All (λ y. y.key < k) front → All (λ y. k ≤ y.key) rest → smaller_than k (front ++ rest) ≡ last_from head_node front
smaller_is k front rest below above =
    let test : Node → Bool = λ x. ltb x.key k in
    ap last_of
    (those_append test front rest
    ∙ ap₂ ◌++◌ (those_all test front (all_map (λ y h. lt-ltb y.key k h) front below))
    (those_none test rest (all_map (λ y h. le-ltb y.key k h) rest above))
    ∙ append-nil front)
    ∙ last_from_lem front

-- It is the node of a place below the key with no later node below it.

LastBelow : ℕ → List Node → Node → Place → Type 0
LastBelow k row a p = p.node.key < k → All (λ z. k ≤ z.key) p.later → last_from a (those (λ x. ltb x.key k) row) ≡ p.node

last_below_lem : (b D k : ℕ) (a : Node) (e : ℕ) (row : List Node) → Asc a.key row → All (LastBelow k row a) (places_after b D a e row)
unfolding places_after those last_from LastBelow
last_below_lem b D k a e [] asc = tt
last_below_lem b D k a e (x ∷ row) asc = (
  λ h beyond.
      rw (lt-ltb x.key k h, those_none (λ y. ltb y.key k) row (all_map (λ y l. le-ltb y.key k l) row beyond)) refl,
  all_zip (λ p above last h beyond. let l : x.key < k = omega arith in rw (lt-ltb x.key k l) (last h beyond))
      (places_after b D x (shared b D a.key x.key) row) (places_nodes (λ y. x.key < y.key) b D x (shared b D a.key x.key) row (asc_above x.key row asc.1))
      (last_below_lem b D k x (shared b D a.key x.key) row asc.1),
)

pub smaller_placed : {s : State} → Sound s → {x : ℕ} {p : Place} → Placed s x p → (k : ℕ) → p.node.key < k → All (λ z. k ≤ z.key) p.later →
    smaller_than k s.row ≡ p.node
unfolding places LastBelow last_from those
smaller_placed {s} v here k h beyond =
    last_from_lem (those (λ x. ltb x.key k) s.row)
    ∙ placed_has here (LastBelow k s.row head_node) (
      λ l after. ap (last_from head_node) (those_none (λ y. ltb y.key k) s.row (all_map (λ y m. le-ltb y.key k m) s.row after)),
      last_below_lem s.settings.base s.settings.dimensions k head_node 0 s.row v.ascends,
    ) h beyond

-- It is the position's, where the position was moved back: on the words, the next smaller.
pub split_next_smaller : (s : State) → Sound s → (pre : List Node) (x : Node) (post : List Node) → s.row ≡ pre ++ x ∷ post →
    NextSmaller (picture s) x.cell (last_from head_node pre).cell
unfolding places
split_next_smaller s v pre x post split =
    let b = s.settings.base in
    let D = s.settings.dimensions in
    let o = apart_before (head_node ∷ pre) x post (subst (λ r. Apart (head_node ∷ r)) split (sound_apart s v)) in
    let found = place_at b D head_node 0 head_node 0 pre x post o in
    let place : Place = record {
      node = x;
      dimension = dimension_after b D head_node pre x.key;
      before = last_from head_node pre;
      before_dimension = dimension_from b D head_node 0 pre;
      later = post;
    } in
    let here : Placed s x.cell place = record { found = ap (λ r. place_of x.cell (places b D r)) split ∙ found } in
    let positive = (asc_right 0 pre (x ∷ post) (subst (Asc 0) split v.ascends)).0 in
    place_next_smaller v here (placed_other v here (omega arith))
