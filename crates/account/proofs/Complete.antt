-- The check accepts every list: a list is the picture of a state in order; of that the header, the head, each standing cell in the
-- order of keys, and the chain of free cells are right.
use Rattle.std.specs.Prelude.{None}
use mathlib.Core.Path.{◌≡◌, refl, sym, ◌∙◌, ap, ap₂, subst}
use mathlib.Core.Bool.{true, ◌||◌, not}
use mathlib.Core.List.{List, [], ◌∷◌}
use mathlib.Core.Logic.{◌⊎◌, inl, inr}
use Prim.Native.Nat.{ℕ, suc, ◌+◌, ◌-◌, ◌^◌, ◌≤◌, ◌<◌}
use native.Mathlib.Decide.{dec_lt, ℕ_discrete}
use native.Mathlib.Omega.{arith}
use lib.Dec.{eqb, leb}
use lib.ListN.{length}
use borrow.Author.Tests.{lt-ltb, le-ltb, le-leb, lt-leb, eq-eqb, ne_eqb}
use Rattle.settings.specs.Numbers.{cell_words, length_of}
use Rattle.settings.proofs.Numbers.{in_range_lem}
use Rattle.lists.specs.Lists.{first_number}
use Rattle.lists.proofs.All.{All, all_map}
use Rattle.meaning.specs.Keys.{shared}
use Rattle.meaning.specs.Row.{Node, head_node, Place, head_place, place_of, places_after, places}
use Rattle.meaning.specs.State.{State, position_key}
use Rattle.meaning.specs.Picture.{picture}
use Rattle.meaning.specs.Reading.{read, is_list}
use Rattle.meaning.specs.Words.{word_at, key_at, value_at, mark_at, owed_at, low_at, high_at, dimensions_at, cells_at, base_at, position_at}
use Rattle.meaning.proofs.Rows.AscendingRow.{Asc, asc_weaken}
use Rattle.meaning.proofs.Rows.Keys.{shared_same}
use Rattle.meaning.proofs.Pictures.State.{Sound, base_positive, base_above, base_of_lem}
use Rattle.meaning.proofs.Pictures.StateCells.{free_distinct, free_range, free_length}
use Rattle.meaning.proofs.Pictures.Picture.{picture_length, picture_free, free_found}
use Rattle.meaning.proofs.Pictures.ReadBack.{Follow, distinct_follow, list_is_picture, list_sound}
use Rattle.meaning.proofs.Cells.WalkRead.{places_read}
use Rattle.meaning.proofs.Cells.Placed.{free_cell_first, free_cell_rest}
use Rattle.account.specs.Tree.{path_run, children, head_right, at_head, free_right, chain_right, header_right, seen_all, accepts}
use Rattle.account.proofs.CompleteOrder.{last_below, agreed_with, agreed_up_to, seen_at, LinksRead, Entered, Ready, below_keeps, last_any}
use Rattle.account.proofs.CompleteOrder.{children_read}
use Rattle.account.proofs.CompletePath.{Stands, PlaceOnPath, run_agreed, position_here, position_apart}
use Rattle.account.proofs.AcceptedTests.{all_true}
use Rattle.account.proofs.CompleteCell.{and_then, or_left, or_right, Shown, enters_after}
use Rattle.account.proofs.CompleteShown.{position_stands, places_shown}

-- The position among the standing cells

-- a key has been reached at x, or stands later
abbrev ToCome : ℕ → Node → List Node → Type 0
ToCome key x later = (key ≤ x.key) ⊎ Stands key later

stands_above : (key low : ℕ) (row : List Node) → Asc low row → Stands key row → low < key
stands_above key low [] asc stands = absurd stands
stands_above key low (x ∷ row) asc (inl e) = let h = asc.0 in omega arith
stands_above key low (x ∷ row) asc (inr later) =
    let h = asc.0 in
    stands_above key low row (asc_weaken low x.key row (omega arith) asc.1) later

-- no standing key is between those of a cell and the next
gap : (key : ℕ) (x y : Node) (later : List Node) → Asc x.key (y ∷ later) → ToCome key x (y ∷ later) → (key ≤ x.key) ⊎ (y.key ≤ key)
gap key x y later asc (inl h) = inl h
gap key x y later asc (inr (inl e)) = inr (omega arith)
gap key x y later asc (inr (inr stands)) = inr (let h = stands_above key y.key later asc.1 stands in omega arith)

ahead_next : (key : ℕ) (x y : Node) (later : List Node) → x.key < y.key → ToCome key x (y ∷ later) → ToCome key y later
ahead_next key x y later h (inl l) = inl (omega arith)
ahead_next key x y later h (inr (inl e)) = inl (omega arith)
ahead_next key x y later h (inr (inr stands)) = inr stands

-- at a place of an ascending row
abbrev Passing : ℕ → Place → Type 0
Passing key p = Asc p.node.key p.later × ToCome key p.node p.later

-- at the end of the row the position has been reached
passed_last : (b D key : ℕ) (p : Place) → Passing key p → leb key (last_below b D 0 p).node.key ≡ true
passed_last b D key p ahead =
    le-leb key last.node.key
    (at (subst (ToCome key last.node)
    (last_any b D p.node.key p.node p.dimension p.before p.before_dimension p.later) passing.1))
  where
    last : Place
    last = last_below b D 0 p

    passing : Passing key last
    passing =
        below_keeps b D (Passing key) (λ q y later is h.
        let asc : Asc q.node.key (y ∷ later) = subst (Asc q.node.key) is h.0 in
        (asc.1, ahead_next key q.node y later asc.0 (subst (ToCome key q.node) is h.1))) 0 p ahead

    at : ToCome key last.node [] → key ≤ last.node.key
    at (inl h) = h
    at (inr stands) = absurd stands

-- Every standing cell is right when it is read

module _ (ws : List ℕ) (key free : ℕ) (pos : 0 < base_at ws) (some : 0 < dimensions_at ws) where
  after_entered : (x : Node) (e : ℕ) (a : Node) (f : ℕ) (later : List Node) →
      Shown ws key (record { node = x; dimension = e; before = a; before_dimension = f; later = later }) →
      All (Shown ws key) (places_after (base_at ws) (dimensions_at ws) x e later) →
      All (LinksRead ws (base_at ws)) (places_after (base_at ws) (dimensions_at ws) x e later) →
      ToCome key x later → All (Entered ws (base_at ws) key free) (places_after (base_at ws) (dimensions_at ws) x e later)
  unfolding places_after
  after_entered x e a f [] shown after links ahead = tt
  after_entered x e a f (y ∷ later) shown after links ahead = (
    record {
      positive = shown.later.0.0;
      links = links.0;
      enters = enters_after ws key x e a f y later free pos some shown after.0 (gap key x y later shown.ascends ahead);
    },
    after_entered y (shared (base_at ws) (dimensions_at ws) x.key y.key) x e later after.0 after.1 links.1
        (ahead_next key x y later shown.ascends.0 ahead),
  )

-- The head

module _ (ws : List ℕ) (key free : ℕ) (row : List Node) (some : 0 < dimensions_at ws) (on : PlaceOnPath ws (base_at ws) key (head_place row)) where
  head_agreed : path_run ws 0 0 (dimensions_at ws) ≡ shared (base_at ws) (dimensions_at ws) 0 key
  head_agreed =
      let D = dimensions_at ws in
      let all : D ≡ D - 0 = omega arith in
      ap (path_run ws 0 0) all ∙ run_agreed ws (base_at ws) key (head_place row) on 0 (omega arith) (omega arith)

  -- what has been seen at the head
  head_seen : cells_at ws - 1 ≡ length row + free → at_head ws ≡ seen_at (base_at ws) (dimensions_at ws) key free (head_place row)
  unfolding at_head
  head_seen left = λ i. record { right = right i; left = left i; last = 0; agreed = agreed i; reached = reached i }
    where
      b : ℕ
      b = base_at ws

      D : ℕ
      D = dimensions_at ws

      agreed : path_run ws 0 0 D ≡ agreed_with b D key 0
      agreed = head_agreed ∙ agreed_up_to b D key 0 (omega arith)

      apart : (0 ≡ key → ⊥) → position_at ws ≡ 0 → ⊥
      apart ne e = position_apart ws b key (head_place row) on some ne (sym e)

      here : 0 ≡ key → position_at ws ≡ 0
      here e = sym (position_here ws b key (head_place row) on some some e)

      right : (not (eqb (position_at ws) 0) || eqb (path_run ws 0 0 D) D) ≡ true
      right = at (ℕ_discrete 0 key)
        where
          at : Dec (0 ≡ key) → (not (eqb (position_at ws) 0) || eqb (path_run ws 0 0 D) D) ≡ true
          at (yes e) =
              or_right (not (eqb (position_at ws) 0)) (eqb (path_run ws 0 0 D) D)
              (eq-eqb (path_run ws 0 0 D) D (head_agreed ∙ ap (shared b D 0) (sym e) ∙ shared_same b D 0))
          at (no ne) =
              or_left (not (eqb (position_at ws) 0)) (eqb (path_run ws 0 0 D) D) (ap not (ne_eqb (position_at ws) 0 (apart ne)))

      reached : eqb (position_at ws) 0 ≡ leb key 0
      reached = at (ℕ_discrete 0 key)
        where
          at : Dec (0 ≡ key) → eqb (position_at ws) 0 ≡ leb key 0
          at (yes e) = eq-eqb (position_at ws) 0 (here e) ∙ sym (le-leb key 0 (omega arith))
          at (no ne) = ne_eqb (position_at ws) 0 (apart ne) ∙ sym (lt-leb key 0 (omega arith))

head_right_lem : (ws : List ℕ) (key : ℕ) (row : List Node) → Shown ws key (head_place row) → head_right ws ≡ true
unfolding head_right
head_right_lem ws key row shown =
    let held = shown.held in
    and_then (eq-eqb (key_at ws 0) 0 held.key)
    (and_then (eq-eqb (value_at ws 0) 0 held.value)
    (and_then (eq-eqb (mark_at ws 0) 2 held.mark)
    (and_then (eq-eqb (owed_at ws 0) 0 held.owed)
    (and_then (eq-eqb (low_at ws 0) 0 held.low)
    (eq-eqb (high_at ws 0) 0 held.high)))))

-- All standing cells

-- at the head a key that stands is ahead
head_ahead : (key : ℕ) (row : List Node) → Stands key (head_node ∷ row) → ToCome key head_node row
head_ahead key row (inl e) = inl (omega arith)
head_ahead key row (inr stands) = inr stands

all_seen : (ws : List ℕ) (key free : ℕ) (row : List Node) → 0 < base_at ws → 0 < dimensions_at ws → Stands key (head_node ∷ row) →
    cells_at ws ≡ suc (length row + free) → All (Shown ws key) (places (base_at ws) (dimensions_at ws) row) →
    All (LinksRead ws (base_at ws)) (places (base_at ws) (dimensions_at ws) row) →
    seen_all ws ≡ seen_at (base_at ws) (dimensions_at ws) key free (last_below (base_at ws) (dimensions_at ws) 0 (head_place row))
unfolding places
all_seen ws key free row pos some stands cells shown links =
    let b = base_at ws in
    let D = dimensions_at ws in
    let C = cells_at ws in
    let lowest : D - D ≡ 0 = omega arith in
    let ready : Ready ws b key free C (head_place row) =
    record {
      ascends = shown.0.ascends;
      links = links.0;
      later = after_entered ws key free pos some head_node 0 head_node 0 row shown.0 shown.1 links.1 (head_ahead key row stands);
      enough = omega arith;
    } in
    ap (children C ws D 0) (head_seen ws key free row some shown.0.path (omega arith))
    ∙ children_read ws b key free C pos some D (omega arith) (head_place row) (omega arith) ready
    ∙ ap (λ m. seen_at b D key free (last_below b D m (head_place row))) lowest

-- The picture of a state in order

module _ (s : State) (v : Sound s) where
  header_right_lem : header_right (picture s) ≡ true
  unfolding header_right picture
  header_right_lem =
      let D = s.settings.dimensions in
      let K = s.settings.largest in
      let C = s.settings.cells in
      let b = s.settings.base in
      let pos = base_positive s v in
      and_then (in_range_lem D K C v.ranges)
      (and_then (eq-eqb (length (picture s)) (length_of D C) (picture_length s))
      (and_then (lt-ltb 0 b pos)
      (and_then (lt-ltb K (b ^ D) (base_above s v))
      (ap not (le-ltb K ((b - 1) ^ D) (at (dec_lt K ((b - 1) ^ D))))))))
    where
      at : Dec (s.settings.largest < (s.settings.base - 1) ^ s.settings.dimensions) →
          (s.settings.base - 1) ^ s.settings.dimensions ≤ s.settings.largest
      at (yes h) = absurd (let pos = base_positive s v in let l = (base_of_lem s v).least (s.settings.base - 1) h in omega arith)
      at (no h) = omega arith

  free_right_lem : (c : ℕ) → c < s.settings.cells → place_of c (places s.settings.base s.settings.dimensions s.row) ≡ None →
      free_right (picture s) c ≡ true
  unfolding free_right picture
  free_right_lem c h found =
      and_then (lt-ltb c s.settings.cells h)
      (all_true (λ j. eqb (word_at (picture s) c j) 0) 1 (cell_words s.settings.dimensions - 1)
      (λ j k l. eq-eqb (word_at (picture s) c j) 0 (free_cell_rest s c h found j k (omega arith))))

  chain_right_lem : (cs : List ℕ) → Follow s.free cs → All (λ c. (0 < c) × (c < s.settings.cells)) cs →
      All (λ c. place_of c (places s.settings.base s.settings.dimensions s.row) ≡ None) cs →
      chain_right (picture s) (length cs) (first_number cs) ≡ true
  unfolding chain_right
  chain_right_lem [] follow range found = refl
  chain_right_lem (c ∷ cs) follow range found =
      rw (free_right_lem c range.0.1 found.0)
      (ap (chain_right (picture s) (length cs)) (free_cell_first s c range.0.1 found.0 ∙ follow.0) ∙ chain_right_lem cs follow.1 range.1 found.1)

  -- all standing cells, read to the end of the row
  picture_seen : seen_all (picture s) ≡
      seen_at s.settings.base s.settings.dimensions (position_key s) (length s.free)
      (last_below s.settings.base s.settings.dimensions 0 (head_place s.row))
  unfolding picture
  picture_seen =
      let least = v.ranges.dimensions_least in
      let cells = v.ranges.cells_least in
      let count = free_length s v in
      all_seen (picture s) (position_key s) (length s.free) s.row (base_positive s v) (omega arith) (position_stands s v) (omega arith)
      (places_shown s v) (all_map (λ p r. r.link) (places s.settings.base s.settings.dimensions s.row) (places_read s v))

  -- how many cells are left when all standing cells are read
  pub seen_all_left : (seen_all (picture s)).left ≡ length s.free
  seen_all_left =
      let b = s.settings.base in
      let D = s.settings.dimensions in
      let end = ap length (last_any b D 0 head_node 0 head_node 0 s.row) in
      ap (λ t. t.left) picture_seen ∙ omega arith

  seen_all_passed : (seen_all (picture s)).reached ≡ true
  seen_all_passed =
      ap (λ t. t.reached) picture_seen
      ∙ passed_last s.settings.base s.settings.dimensions (position_key s) (head_place s.row)
      (v.ascends, head_ahead (position_key s) s.row (position_stands s v))

  seen_all_right : (seen_all (picture s)).right ≡ true
  seen_all_right = ap (λ t. t.right) picture_seen

  head_shown : Shown (picture s) (position_key s) (head_place s.row)
  unfolding places
  head_shown = (places_shown s v).0

  at_head_right : (at_head (picture s)).right ≡ true
  unfolding picture
  at_head_right =
      let least = v.ranges.dimensions_least in
      let cells = v.ranges.cells_least in
      let count = free_length s v in
      ap (λ t. t.right) (head_seen (picture s) (position_key s) (length s.free) s.row (omega arith) head_shown.path (omega arith))

  pub picture_accepts : accepts (picture s) ≡ true
  unfolding accepts
  picture_accepts =
      rw (header_right_lem, accepts)
      (and_then (head_right_lem (picture s) (position_key s) s.row head_shown)
      (and_then (and_then at_head_right seen_all_right)
      (and_then seen_all_passed
      (ap₂ (chain_right (picture s)) seen_all_left (picture_free s)
      ∙ chain_right_lem s.free (distinct_follow s.free (free_distinct s v)) (free_range s v) (free_found s v)))))

pub list_accepts : (ws : List ℕ) → is_list ws ≡ true → accepts ws ≡ true
list_accepts ws e = subst (λ xs. accepts xs ≡ true) (list_is_picture ws e) (picture_accepts (read ws) (list_sound ws e))
