-- What reading leaves: the calls for which a read stands, made one after the other, leave the picture of the state that the file's pairs
-- make. Each key is above all that stand, so its insert appends: the cell is the next of the chain, no cell had the slot before, and so
-- nobody owes. Then the finishing changes nothing.
use Rattle.std.specs.Prelude.{None}
use mathlib.Core.Path.{◌≡◌, refl, sym, ap, ap₂, ◌∙◌}
use mathlib.Core.Bool.{true, false, ◌&&◌, not}
use mathlib.Core.List.{List, [], ◌∷◌, ◌++◌, append-nil}
use Prim.Native.Nat.{ℕ, suc, ◌-◌, ◌<◌}
use native.Mathlib.Omega.{arith}
use lib.Dec.{ltb}
use lib.ListN.{length, drop, length-append}
use lib.Seq.{append_snoc}
use borrow.Author.Tests.{eq-eqb, lt-leb}
use Rattle.settings.specs.Numbers.{base_of, length_of}
use Rattle.settings.specs.declared.Settings.{Settings}
use Rattle.lists.specs.Lists.{numbers_from, first_number}
use Rattle.lists.proofs.All.{All}
use Rattle.files.specs.Files.{Pair, keeps}
use Rattle.files.proofs.Files.{keepable}
use Rattle.meaning.specs.Row.{Node, node_at, put}
use Rattle.meaning.specs.State.{State, position_key}
use Rattle.meaning.specs.Picture.{picture}
use Rattle.answers.specs.Refusals.{accepted}
use Rattle.meaning.specs.Operations.{paid, finished, with_row, looked, fresh, position_after, new_node, slot_for, slot_owes, added, insert_out, finish_out}
use Rattle.meaning.specs.declared.Slot.{Slot}
use Rattle.calls.specs.Saved.{inserted_all, finished_all, read_in}
use Rattle.calls.specs.Layer.ReadState.{nodes_from, read_state}
use Rattle.meaning.proofs.Rows.Places.{node_past, on_cell-cases}
use Rattle.meaning.proofs.Pictures.State.{Sound}
use Rattle.meaning.proofs.Kept.KeepsState.{position_head}
use Rattle.meaning.proofs.Kept.Slot.{Gap, put_gap, SlotIs, slot_is}
use Rattle.meaning.proofs.Outcomes.{set_up_outcome, insert_outcome_new, finish_outcome_bad_key, finish_outcome_absent, finish_outcome_standing, key_cases}
use Rattle.calls.proofs.Restarted.ReadState.{keeps_left, pair_node, nodes_unowing, NextPair, next_pair, read_unowing}
pub use Rattle.calls.proofs.Restarted.ReadState.{read_state_sound, read_list}

-- Insert of the next pair

-- a key above all nodes has none
pub node_absent : (key : ℕ) (row : List Node) → All (λ x. x.key < key) row → node_at key row ≡ None
unfolding node_at
node_absent key [] a = refl
node_absent key (x ∷ row) a = let h = a.0 in node_past key x row (λ e. omega arith) ∙ node_absent key row a.1

-- where nobody owes, finishing changes nothing
finished_unowing : (c : ℕ) (row : List Node) → All (λ x. x.owes ≡ false) row → finished c row ≡ row
unfolding finished
finished_unowing c [] a = refl
finished_unowing c (x ∷ row) a =
    ap₂ {C = List Node} (λ y r. y ∷ r) (on_cell-cases (λ y. y ≡ x) c paid x (λ here. unchanged x a.0) (λ other. refl)) (finished_unowing c row a.1)
  where
    unchanged : (x : Node) → x.owes ≡ false → paid x ≡ x
    unchanged x e = λ i. record { cell = x.cell; key = x.key; value = x.value; live = x.live; owes = sym e i }

module _ (s : Settings) (pairs : List Pair) (p : Pair) (kept : keeps s (pairs ++ (p ∷ [])) ≡ true)
    (base : s.base ≡ base_of s.dimensions s.largest) where
  abbrev row : List Node
  row = nodes_from 1 pairs

  abbrev n : ℕ
  n = suc (length pairs)

  abbrev next : NextPair s pairs p
  next = next_pair s pairs p kept

  state_sound : Sound (read_state s pairs)
  state_sound = read_state_sound s pairs (keeps_left s pairs (p ∷ []) kept) base

  -- all that stand are below the key, ..
  last_gap : Gap p.key row
  last_gap = record { pre = row; post = []; splits = sym (append-nil row); below = next.below; above = tt }

  -- .. and a cell is free
  chain_is : numbers_from n (s.cells - n) ≡ n ∷ numbers_from (suc n) (s.cells - suc n)
  unfolding numbers_from
  chain_is =
      let room = next.room in
      let more : s.cells - n ≡ suc (s.cells - suc n) = omega arith in
      ap (numbers_from n) more

  free_is : (read_state s pairs).free ≡ n ∷ numbers_from (suc n) (s.cells - suc n)
  unfolding read_state
  free_is = chain_is

  room : 0 < length (read_state s pairs).free
  room = rw free_is (omega arith)

  abbrev slot : Slot
  slot = slot_for (read_state s pairs) p.key

  slot_at_end : SlotIs (read_state s pairs) p.key row [] slot
  unfolding read_state last_gap
  slot_at_end = slot_is (read_state s pairs) state_sound p.key next.positive last_gap room

  -- no cell has the slot, so the new one does not owe, ..
  new_unowing : slot_owes slot ≡ false
  new_unowing = ap (λ t. not t && ltb slot.p slot.q) (eq-eqb slot.c 0 slot_at_end.c_is)

  -- .. it is the first of the chain, ..
  new_cell : slot.n ≡ n
  new_cell = slot_at_end.n_is ∙ ap first_number free_is

  -- .. and it comes last
  row_added : put (new_node slot.n p.key p.value (slot_owes slot)) (finished slot.c (finished slot.parent row)) ≡ nodes_from 1 (pairs ++ (p ∷ []))
  unfolding last_gap
  row_added =
      let unowing = nodes_unowing 1 pairs in
      ap₂ (λ owes r. put (new_node slot.n p.key p.value owes) r) new_unowing
      (ap (finished slot.c) (finished_unowing slot.parent row unowing) ∙ finished_unowing slot.c row unowing)
      ∙ ap (λ c. put (pair_node c p) row) new_cell
      ∙ put_gap (pair_node n p) row last_gap
      ∙ sym next.row_is

  position_kept : position_after (read_state s pairs) p.key ≡ 0
  unfolding position_after read_state
  position_kept =
      let above = next.positive in
      let head = position_head (read_state s pairs) refl in
      rw (lt-leb p.key (position_key (read_state s pairs)) (omega arith)) refl

  last_added : added (read_state s pairs) p.key p.value slot ≡ read_state s (pairs ++ (p ∷ []))
  unfolding added read_state
  last_added =
      let more : suc (length (pairs ++ (p ∷ []))) ≡ suc n = omega (arith, length-append pairs (p ∷ [])) in
      let free : drop 1 (numbers_from n (s.cells - n)) ≡ numbers_from (suc (length (pairs ++ (p ∷ [])))) (s.cells - suc (length (pairs ++ (p ∷ [])))) =
      ap (drop 1) chain_is ∙ ap (λ i. numbers_from i (s.cells - i)) (sym more) in
      λ i. record { settings = s; row = row_added i; free = free i; position = position_kept i }

  -- The operations 10: an insert in ascending order leaves the state with the pair more.
  pub insert_last :
      insert_out (picture (read_state s pairs)) p.key p.value
      ≡ accepted p.key 0 (looked (read_state s pairs) p.key) (picture (read_state s (pairs ++ (p ∷ []))))
  unfolding read_state
  insert_last =
      insert_outcome_new (read_state s pairs) state_sound p.key p.value next.positive next.most (node_absent p.key row next.below) room
      ∙ ap (λ t. accepted p.key 0 (looked (read_state s pairs) p.key) (picture t)) last_added

-- Reading

inserted_from : (s : Settings) → s.base ≡ base_of s.dimensions s.largest → (front rest : List Pair) → keeps s (front ++ rest) ≡ true →
    inserted_all rest (picture (read_state s front)) ≡ picture (read_state s (front ++ rest))
unfolding inserted_all
inserted_from s base front [] kept = ap (λ pairs. picture (read_state s pairs)) (sym (append-nil front))
inserted_from s base front (p ∷ rest) kept =
    let all = append_snoc front p rest in
    let more : keeps s ((front ++ (p ∷ [])) ++ rest) ≡ true = ap (keeps s) all ∙ kept in
    ap (λ o. inserted_all rest o.left) (insert_last s front p (keeps_left s (front ++ (p ∷ [])) rest more) base)
    ∙ inserted_from s base (front ++ (p ∷ [])) rest more
    ∙ ap (λ pairs. picture (read_state s pairs)) all

-- where nobody owes, a finish leaves the words, whatever its key
pub finish_leaves : (t : State) → Sound t → All (λ x. x.owes ≡ false) t.row → (key : ℕ) → (finish_out (picture t) key).left ≡ picture t
finish_leaves t v unowing key =
    key_cases t key (λ bad. ap (λ o. o.left) (finish_outcome_bad_key t v key bad))
    (λ least most absent. ap (λ o. o.left) (finish_outcome_absent t v key least most absent))
    (λ least most x found.
    ap (λ o. o.left) (finish_outcome_standing t v key least most x found) ∙ ap (λ r. picture (with_row t r)) (finished_unowing x.cell t.row unowing))

pub finished_leaves : (t : State) → Sound t → All (λ x. x.owes ≡ false) t.row → (pairs : List Pair) → finished_all pairs (picture t) ≡ picture t
unfolding finished_all
finished_leaves t v unowing [] = refl
finished_leaves t v unowing (p ∷ pairs) = ap (finished_all pairs) (finish_leaves t v unowing p.key) ∙ finished_leaves t v unowing pairs

-- set up leaves the state of no pairs
fresh_read : (s : Settings) → s.base ≡ base_of s.dimensions s.largest → fresh s.dimensions s.largest s.cells ≡ read_state s []
unfolding fresh read_state nodes_from
fresh_read s base =
    λ i. record {
      settings = record { dimensions = s.dimensions; largest = s.largest; cells = s.cells; base = sym base i };
      row = [];
      free = numbers_from 1 (s.cells - 1);
      position = 0;
    }

pub read_in_is : (s : Settings) (pairs : List Pair) (ws : List ℕ) → keeps s pairs ≡ true → s.base ≡ base_of s.dimensions s.largest →
    length ws ≡ length_of s.dimensions s.cells → read_in s pairs ws ≡ picture (read_state s pairs)
unfolding read_in
read_in_is s pairs ws kept base long =
    ap (λ o. finished_all pairs (inserted_all pairs o.left))
    (set_up_outcome s.dimensions s.largest s.cells ws (keepable s pairs kept).ranges long)
    ∙ ap (λ t. finished_all pairs (inserted_all pairs (picture t))) (fresh_read s base)
    ∙ ap (finished_all pairs) (inserted_from s base [] pairs kept)
    ∙ finished_leaves (read_state s pairs) (read_state_sound s pairs kept base) (read_unowing s pairs) pairs
