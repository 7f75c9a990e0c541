-- What a take finds on the way from the position: nodes in front that are dead do not matter to where the live ones begin, and what it
-- passes is counted in the row. Then the path that it leaves.
use mathlib.Core.Path.{◌≡◌, refl, sym, ap, ap₂, ◌∙◌, subst, fun_ext}
use mathlib.Core.Bool.{Bool, true, false, cond, ◌&&◌, and-true, and-false}
use mathlib.Core.List.{List, [], ◌∷◌, ◌++◌, map}
use mathlib.Core.Logic.{◌⊎◌, inl, inr}
use Prim.Native.Nat.{ℕ, suc, ◌+◌, ◌≤◌, ◌<◌}
use native.Mathlib.Omega.{arith}
use lib.Dec.{leb, ltb}
use lib.ListN.{length, length-append}
use lib.Seq.{append_snoc}
use borrow.Author.Tests.{lt-ltb, le-ltb, le-leb, lt-leb}
use Rattle.lists.specs.Lists.{those, numbers_from}
use Rattle.lists.proofs.Those.{those_all, those_none, those_same, those_append}
use Rattle.lists.proofs.All.{All, all_map, all_left, all_zip}
use Rattle.lists.proofs.Tests.{and_both}
use Rattle.meaning.specs.Row.{Node, head_node, last_of}
use Rattle.meaning.specs.State.{State, position_key}
use Rattle.meaning.specs.Picture.{first_with, path}
use Rattle.meaning.specs.Operations.{dead_front, from_live, dead_node, keys_above, keys_passed, taken}
use Rattle.meaning.specs.Layer.Paths.{path_for, PathOf}
use Rattle.meaning.proofs.Rows.AscendingRow.{Asc, asc_above}
use Rattle.meaning.proofs.Pictures.State.{Sound}
use Rattle.meaning.proofs.Rows.Places.{Located, last_from_lem, asc_left, asc_smaller, asc_larger, Keeping, on_cell, key_of_head_changed}
use Rattle.meaning.proofs.Kept.KeepsState.{position_cases, position_head, position_node}
use Rattle.meaning.proofs.Kept.KeepsTake.{dead_keeping, taken_key}
use Rattle.meaning.proofs.Rows.Parent.{asc_last, last_greatest}
use Rattle.meaning.proofs.Kept.Slot.{first_changed}
use Rattle.meaning.proofs.Paths.Path.{path_is}
use Rattle.meaning.proofs.Paths.PathNext.{last_of_lem}

-- Up to the first live node

-- the nodes in front are all before the first live one, and the later ones begin with it
pub record Stops (row front later : List Node) : Type 0 where
  pub dead : dead_front row ≡ front
  pub live : from_live row ≡ later

-- none come later, or a live one comes next
abbrev pub Live : List Node → Type 0
Live [] = Unit {0}
Live (y ∷ later) = y.live ≡ true

pub stops : (front later : List Node) → All (λ y. y.live ≡ false) front → Live later → Stops (front ++ later) front later
unfolding dead_front from_live
stops [] [] dead live = record { dead = refl; live = refl }
stops [] (y ∷ later) dead live =
    record { dead = ap (λ t. cond t [] (y ∷ dead_front later)) live; live = ap (λ t. cond t (y ∷ later) (from_live later)) live }
stops (x ∷ front) later dead live =
    let more = stops front later dead.1 live in
    record {
      dead = ap (λ t. cond t [] (x ∷ dead_front (front ++ later))) dead.0 ∙ ap {B = List Node} (λ r. x ∷ r) more.dead;
      live = ap (λ t. cond t (x ∷ (front ++ later)) (from_live (front ++ later))) dead.0 ∙ more.live;
    }

-- Where a take starts

-- the position's path on the way: what is in front is dead, and none of it is above the position
pub record PositionPath (s : State) : Type 0 where
  pub front : List Node
  pub later : List Node
  pub on_way : PathOf s (path s) front later
  pub key : (last_of front).key ≡ position_key s
  pub dead : All (λ y. y.live ≡ false) front
  pub none_above : keys_above (position_key s) front ≡ 0

pub position_on_way : (s : State) → Sound s → PositionPath s
unfolding last_of keys_above
position_on_way s v = at (position_cases s v)
  where
    from : (front later : List Node) → s.row ≡ front ++ later → (last_of front).key ≡ position_key s → PositionPath s
    from front later split key =
        let Dead : Node → Type 0 = λ y. y.key ≤ position_key s → y.live ≡ false in
        let asc = asc_left 0 front later (subst (Asc 0) split v.ascends) in
        let low : All (λ y. y.key ≤ position_key s) front =
        subst (λ k. All (λ y. y.key ≤ k) front) (ap (λ x. x.key) (sym (last_from_lem front)) ∙ key) (last_greatest head_node front asc) in
        record {
          front = front;
          later = later;
          on_way = record { split = split; is = path_is s ∙ ap (path_for s.settings.base s.settings.dimensions s.row) (sym key) };
          key = key;
          dead = all_zip (λ y d l. d l) front (all_left Dead front later (subst (All Dead) split v.dead)) low;
          none_above = ap length (those_none (λ y. ltb (position_key s) y.key) front (all_map (λ y. le-ltb (position_key s) y.key) front low));
        }

    at : (s.position ≡ 0) ⊎ Located s.position s.row → PositionPath s
    at (inl e) = from [] s.row refl (sym (position_head s e))
    at (inr t) =
        from (t.front ++ (t.node ∷ [])) t.later (t.split ∙ sym (append_snoc t.front t.node t.later))
        (ap (λ x. x.key) (last_of_lem t.front t.node) ∙ sym (position_node s v t))

-- What is passed

-- one more key above the position
pub above_more :
    (position : ℕ) (front : List Node) (y : Node) → position < y.key → keys_above position (front ++ (y ∷ [])) ≡ keys_above position front + 1
unfolding keys_above
above_more position front y h =
    let test : Node → Bool = λ z. ltb position z.key in
    ap length (those_append test front (y ∷ []) ∙ ap (λ r. those test front ++ r) (those_all test (y ∷ []) (lt-ltb position y.key h, tt)))
    ∙ length-append (those test front) (y ∷ [])

-- up to a key: those in front, and itself
pub passed_upto :
    (position : ℕ) (front : List Node) (x : Node) (later : List Node) → Asc 0 (front ++ (x ∷ later)) → position < x.key →
    keys_passed position x.key (front ++ (x ∷ later)) ≡ keys_above position front + 1
unfolding keys_above keys_passed
passed_upto position front x later asc h =
    let above : Node → Bool = λ y. ltb position y.key in
    let upto : Node → Bool = λ y. above y && leb y.key x.key in
    let low : All (λ y. upto y ≡ above y) front =
    all_map (λ y l. ap (λ t. above y && t) (le-leb y.key x.key (omega arith)) ∙ and-true (above y)) front (asc_smaller 0 front x later asc) in
    let own : upto x ≡ true = and_both (above x) (leb x.key x.key) (lt-ltb position x.key h) (le-leb x.key x.key (omega arith)) in
    let high : All (λ y. upto y ≡ false) later =
    all_map (λ y l. ap (λ t. above y && t) (lt-leb y.key x.key l) ∙ and-false (above y)) later (asc_larger 0 front x later asc) in
    ap length
    (those_append upto front (x ∷ later)
    ∙ ap₂ ◌++◌ (those_same upto above front low)
    (those_append upto (x ∷ []) later ∙ ap₂ ◌++◌ (those_all upto (x ∷ []) (own, tt)) (those_none upto later high)))
    ∙ length-append (those above front) (x ∷ [])

-- the keys above that of the last in front are those still to come
pub above_later :
    {s : State} → Sound s → {path : List ℕ} {front later : List Node} → PathOf s path front later →
    keys_above (last_of front).key s.row ≡ length later
unfolding keys_above
above_later {s} v {path} {front} {later} w =
    let key = (last_of front).key in
    let above : Node → Bool = λ y. ltb key y.key in
    let asc = subst (Asc 0) w.split v.ascends in
    let low = all_map (λ y. le-ltb key y.key) front (rw (last_from_lem front) (last_greatest head_node front (asc_left 0 front later asc))) in
    let high = all_map (λ y. lt-ltb key y.key) later (asc_above key later (rw (last_from_lem front) (asc_last head_node front later asc))) in
    ap length (ap (those above) w.split ∙ those_append above front later ∙ ap₂ ◌++◌ (those_none above front low) (those_all above later high))

-- The path after a take

pub path_for-changed : (f : Node → Node) → Keeping f → (b D : ℕ) (row : List Node) (key : ℕ) → path_for b D (map f row) key ≡ path_for b D row key
unfolding path_for
path_for-changed f k b D row key =
    ap (λ word. map word (numbers_from 0 D))
    (fun_ext (λ d. ap (λ y. first_with b D key (suc d) (y ∷ map f row)) (sym k.head) ∙ first_changed f k b D key (suc d) (head_node ∷ row)))

pub taken_path :
    (s : State) (x : Node) (later : List Node) → Sound s → from_live s.row ≡ x ∷ later →
    path (taken s x) ≡ path_for s.settings.base s.settings.dimensions s.row x.key
unfolding taken
taken_path s x later v e =
    let b = s.settings.base in
    let D = s.settings.dimensions in
    let keeping = dead_keeping x.cell in
    path_is (taken s x)
    ∙ ap (path_for b D (map (on_cell x.cell dead_node) s.row)) (key_of_head_changed (on_cell x.cell dead_node) keeping x.cell s.row
    ∙ taken_key s x later v e)
    ∙ path_for-changed (on_cell x.cell dead_node) keeping b D s.row x.key
