-- What an insert at or below the position leaves. The position is the node before the inserted one, so that the inserted one is the first live node
-- and the only one that a take passes.
use Rattle.std.specs.Prelude.{None, Some}
use mathlib.Core.Path.{◌≡◌, refl, sym, ap, ap₂, ◌∙◌, subst, subst₂}
use mathlib.Core.Bool.{Bool, true, false, cond, ◌&&◌, and-false, true≢false}
use mathlib.Core.List.{List, [], ◌∷◌, ◌++◌, map, map-append}
use Prim.Native.Nat.{ℕ, suc, ◌≤◌, ◌<◌}
use native.Mathlib.Omega.{arith}
use lib.Dec.{leb, ltb}
use lib.ListN.{length}
use borrow.Author.Tests.{lt-ltb, le-ltb, le-leb, lt-leb, ltb-true, eq-eqb}
use Rattle.lists.specs.Lists.{those}
use Rattle.lists.proofs.Those.{those_none, those_append}
use Rattle.lists.proofs.All.{All, all_map, all_append, all_left, all_zip, all_at}
use Rattle.meaning.specs.Row.{Node, head_node, node_at}
use Rattle.meaning.specs.State.{State, key_of, position_key}
use Rattle.meaning.specs.Picture.{picture}
use Rattle.answers.specs.Refusals.{Outcome, answer, refused}
use Rattle.answers.specs.declared.Refusal.TheVariants.{BadKey, KeyLive}
use Rattle.meaning.specs.Words.{key_at, position_at}
use Rattle.meaning.specs.Operations.{looked, insert_out, from_live, parent_in, keys_passed, revived, revived_node, slot_for, slot_owes, new_node, finished, added}
use Rattle.meaning.specs.Promises.{FellBack, LateInserts}
use Rattle.meaning.proofs.Rows.AscendingRow.{Asc}
use Rattle.meaning.proofs.Pictures.State.{Sound, base_positive}
use Rattle.meaning.proofs.Pictures.ReadBack.{read_of_picture}
use Rattle.meaning.proofs.Rows.Places.{asc_left, asc_larger, last_from, node_found, on_cell}
use Rattle.meaning.proofs.Rows.Parent.{dimension_after, Apart, asc_last, last_greatest, apart_left, first_key, last_shares, parent_is}
use Rattle.meaning.proofs.Cells.Placed.{cell_standing, placed_node, place_key}
use Rattle.meaning.proofs.BothWays.Sentences.{position_key_is}
use Rattle.meaning.proofs.Kept.Slot.{gap, sound_apart, dimensions_positive, slot_is}
use Rattle.meaning.proofs.Paths.PathTake.{stops}
use Rattle.meaning.proofs.Kept.KeepsInsert.{last_key_of, revived_position, revived_sound, added_row, added_position_lowered, added_sound}
use Rattle.meaning.proofs.Rows.Nodes.{node_split, node_key}
use Rattle.meaning.proofs.Outcomes.{on_lists, take_outcome_first, insert_outcome_bad_key, insert_outcome_live, insert_outcome_dead, insert_outcome_new}
use Rattle.meaning.proofs.Outcomes.{key_cases, live_cases}
use Rattle.meaning.proofs.Promised.Serves.{refused_not, new_accepted}

-- the higher the position, the less is passed
passed_falls : (low high k : ℕ) (row : List Node) → low ≤ high → keys_passed high k row ≤ keys_passed low k row
unfolding keys_passed those
passed_falls low high k [] h = omega arith
passed_falls low high k (y ∷ row) h = at (ltb high y.key) (ltb low y.key) (leb y.key k) refl refl (passed_falls low high k row h)
  where
    above : List Node
    above = those (λ x. ltb high x.key && leb x.key k) row

    more : List Node
    more = those (λ x. ltb low x.key && leb x.key k) row

    at : (s t u : Bool) → ltb high y.key ≡ s → ltb low y.key ≡ t → length above ≤ length more →
        length (cond (s && u) (y ∷ above) above) ≤ length (cond (t && u) (y ∷ more) more)
    at true true true e f ih = omega arith
    at true true false e f ih = ih
    at true false u e f ih =
        let l = ltb-true high y.key e in
        absurd (true≢false (sym (lt-ltb low y.key (omega arith)) ∙ f))
    at false true true e f ih = omega arith
    at false true false e f ih = ih
    at false false u e f ih = ih

module _ (t : State) (v : Sound t) (pre : List Node) (x : Node) (post : List Node) (split : t.row ≡ pre ++ x ∷ post) (live : x.live ≡ true)
    (there : t.position ≡ (last_from head_node pre).cell) where
  asc : Asc 0 (pre ++ x ∷ post)
  asc = subst (Asc 0) split v.ascends

  apart : Apart (head_node ∷ (pre ++ x ∷ post))
  apart = subst (λ r. Apart (head_node ∷ r)) split (sound_apart t v)

  position : position_key t ≡ (last_from head_node pre).key
  position = ap₂ (λ c r. key_of c (head_node ∷ r)) there split ∙ last_key_of head_node pre (x ∷ post) apart

  last_below_lem : position_key t < x.key
  last_below_lem = let less = (asc_last head_node pre (x ∷ post) asc).0 in omega (arith, position)

  up_to : All (λ y. y.key ≤ position_key t) pre
  up_to = all_map (λ y h. omega (arith, position)) pre (last_greatest head_node pre (asc_left 0 pre (x ∷ post) asc))

  nothing_between : All (λ y. position_key t < y.key → x.key ≤ y.key) t.row
  nothing_between =
      subst (All (λ y. position_key t < y.key → x.key ≤ y.key)) (sym split)
      (all_append (λ y. position_key t < y.key → x.key ≤ y.key) pre (x ∷ post) (all_map (λ y h l. absurd (omega arith)) pre up_to)
      (λ l. omega arith, all_map (λ y h l. omega arith) post (asc_larger 0 pre x post asc)))

  -- the inserted node is the first live one, and the only one passed
  first_live : from_live t.row ≡ x ∷ post
  first_live =
      ap from_live split
      ∙ (stops pre (x ∷ post)
      (all_zip (λ y up dead. dead up) pre up_to
      (all_left (λ y. y.key ≤ position_key t → y.live ≡ false) pre (x ∷ post) (subst (All (λ y. y.key ≤ position_key t → y.live ≡ false)) split v.dead)))
      live).live

  passes_one : keys_passed (position_key t) x.key t.row ≡ 1
  unfolding keys_passed those
  passes_one =
      ap (λ r. length (those test r)) split
      ∙ ap length (those_append test pre (x ∷ post))
      ∙ ap₂ (λ (l r : List Node). length (l ++ r)) {v = x ∷ []} none_before alone
    where
      test : Node → Bool
      test y = ltb (position_key t) y.key && leb y.key x.key

      none_before : those test pre ≡ []
      none_before = those_none test pre (all_map (λ y h. ap (λ s. s && leb y.key x.key) (le-ltb (position_key t) y.key h)) pre up_to)

      none_after : those test post ≡ []
      none_after =
          those_none test post
          (all_map (λ y h. ap (λ s. ltb (position_key t) y.key && s) (lt-leb y.key x.key h) ∙ and-false (ltb (position_key t) y.key)) post
          (asc_larger 0 pre x post asc))

      alone : those test (x ∷ post) ≡ x ∷ []
      alone =
          rw (lt-ltb (position_key t) x.key last_below_lem, le-leb x.key x.key (omega arith)) (ap {B = List Node} (λ r. x ∷ r) none_after)

  parent_below : key_of (parent_in t x.cell t.row) (head_node ∷ t.row) ≤ position_key t
  parent_below =
      let b = t.settings.base in
      let D = t.settings.dimensions in
      let deep = dimensions_positive t v in
      let is = ap (parent_in t x.cell) split ∙ parent_is t pre x post (base_positive t v) deep asc apart in
      let below = first_key b D (last_from head_node pre).key (suc (dimension_after b D head_node pre x.key)) head_node pre (x ∷ post)
      (asc_left 0 pre (x ∷ post) asc) (apart_left (head_node ∷ pre) (x ∷ post) apart) (last_shares b D deep head_node pre x post asc) in
      let same = ap₂ (λ c r. key_of c (head_node ∷ r)) is split in
      omega (arith, same, below, position)

  fell_back : FellBack (picture t) x.key x.value
  fell_back =
      record {
        below = omega (arith, last_below_lem, position_key_is v);
        nothing_between = λ y stands l.
            let (p, here) = cell_standing t y stands in
            let above = placed_node here (λ z. position_key t < z.key → x.key ≤ z.key) (λ m. absurd (omega arith)) nothing_between in
            let key = place_key v here in
            let most = above (omega (arith, position_key_is v)) in
            omega arith;
        taken =
            ap (λ (o : Outcome (List ℕ)). o.answered) (take_outcome_first t v x post first_live)
            ∙ ap (answer 0 x.key x.value) passes_one;
        parent = λ y e k.
            subst
            (λ u. node_at x.key u.row ≡ Some y →
            (key_of (parent_in u y.cell u.row) (head_node ∷ u.row) ≤ position_key u) ×
            (keys_passed (position_key u) k u.row ≤ keys_passed (key_of (parent_in u y.cell u.row) (head_node ∷ u.row)) k u.row))
            (sym (read_of_picture t v)) (own y k) e;
      }
    where
      own : (y : Node) (k : ℕ) → node_at x.key t.row ≡ Some y →
          (key_of (parent_in t y.cell t.row) (head_node ∷ t.row) ≤ position_key t) ×
          (keys_passed (position_key t) k t.row ≤ keys_passed (key_of (parent_in t y.cell t.row) (head_node ∷ t.row)) k t.row)
      own y k e =
          let found = all_at (λ z. node_at z.key t.row ≡ Some z) pre x post (subst (All (λ z. node_at z.key t.row ≡ Some z)) split
          (node_found 0 t.row v.ascends)) in
          let same : Some x ≡ Some y = sym found ∙ e in
          let is : x ≡ y = cc in
          subst
          (λ z. (key_of (parent_in t z.cell t.row) (head_node ∷ t.row) ≤ position_key t) ×
          (keys_passed (position_key t) k t.row ≤ keys_passed (key_of (parent_in t z.cell t.row) (head_node ∷ t.row)) k t.row))
          is (parent_below, passed_falls _ (position_key t) k t.row parent_below)

-- A dead key that is revived, and a new one

revived_back : (s : State) (x : Node) (value : ℕ) → Sound s → node_at x.key s.row ≡ Some x → x.live ≡ false → x.key ≤ position_key s →
    FellBack (picture (revived s x value)) x.key value
unfolding revived
revived_back s x value v a dead low =
    let (pre, post, split) = node_split x.key x s.row a in
    let revive = on_cell x.cell (revived_node value) in
    let own : revive x ≡ revived_node value x = ap (λ t. cond t (revived_node value x) x) (eq-eqb x.cell x.cell refl) in
    subst₂ (FellBack (picture (revived s x value))) (ap (λ y. y.key) own) (ap (λ y. y.value) own)
    (fell_back (revived s x value) (revived_sound s x value v a dead) (map revive pre) (revive x) (map revive post)
    (ap (map revive) split ∙ map-append revive pre (x ∷ post)) (ap (λ y. y.live) own) (revived_position s x value v pre post split low))

added_back : (s : State) → Sound s → (key value : ℕ) → 1 ≤ key → key ≤ s.settings.largest → node_at key s.row ≡ None → 0 < length s.free →
    key ≤ position_key s → FellBack (picture (added s key value (slot_for s key))) key value
added_back s v key value least most absent room low =
    let g = gap key 0 s.row v.ascends absent in
    let t = slot_for s key in
    let i = slot_is s v key least g room in
    fell_back (added s key value t) (added_sound s key value v least most absent room) (finished t.c (finished t.parent g.pre))
    (new_node t.n key value (slot_owes t)) (finished t.c (finished t.parent g.post)) (added_row s v key value least g room t i) refl
    (added_position_lowered s v key value least g room t i low)

pub late_inserts : LateInserts
late_inserts =
    on_lists
    (λ ws. (key value : ℕ) → (insert_out ws key value).answered.refusal ≡ 0 → key ≤ key_at ws (position_at ws) → FellBack (insert_out ws key value).left key value)
    back
  where
    back : (s : State) → Sound s → (key value : ℕ) → (insert_out (picture s) key value).answered.refusal ≡ 0 →
        key ≤ key_at (picture s) (position_at (picture s)) → FellBack (insert_out (picture s) key value).left key value
    back s v key value z low =
        let down : key ≤ position_key s = omega (arith, position_key_is v) in
        key_cases s key
        (λ n. absurd (refused_not (insert_out (picture s) key value) (refused BadKey (picture s)) 3 (insert_outcome_bad_key s v key value n) refl z))
        (λ h l a.
        let (least, most, room) = new_accepted s v key value a z in
        subst (λ us. FellBack us key value) (ap (λ (o : Outcome (List ℕ)). o.left) (sym (insert_outcome_new s v key value h l a room)))
        (added_back s v key value h l a room down))
        (λ h l x a.
        let same = node_key key x s.row a in
        live_cases x
        (λ q. absurd (refused_not (insert_out (picture s) key value) (refused (KeyLive key (looked s key)) (picture s)) 4
        (insert_outcome_live s v key value h l x a q) refl z))
        (λ q.
        subst₂ (λ us k. FellBack us k value) (ap (λ (o : Outcome (List ℕ)). o.left) (sym (insert_outcome_dead s v key value h l x a q))) same
        (revived_back s x value v (subst (λ k. node_at k s.row ≡ Some x) (sym same) a) q (omega arith))))
