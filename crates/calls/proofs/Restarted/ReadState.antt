-- The state that reading a file gives, with the pairs in cells 1, 2, ..: where the pairs may be kept it is in order, and its picture is a
-- settled list that holds just those pairs.
use mathlib.Core.Path.{◌≡◌, refl, sym, ap, ap₂, ◌∙◌, subst}
use mathlib.Core.Bool.{true, false, cond, ◌&&◌}
use mathlib.Core.List.{List, [], ◌∷◌, ◌++◌, map}
use Prim.Native.Nat.{ℕ, zero, suc, ◌+◌, ◌-◌, ◌≤◌, ◌<◌}
use native.Mathlib.Omega.{arith}
use lib.Dec.{leb, ltb}
use lib.ListN.{length, length-append}
use borrow.Author.Tests.{ltb-true, lt-ltb, leb-true}
use Rattle.settings.specs.Numbers.{in_range, base_of}
use Rattle.settings.specs.declared.Settings.{Settings}
use Rattle.settings.proofs.Numbers.{ranges}
use Rattle.lists.specs.Lists.{those, occurrences, numbers_from}
use Rattle.lists.proofs.Occurrences.{occurrences_here}
use Rattle.lists.proofs.Those.{those_all}
use Rattle.lists.proofs.All.{All, all_map, all_at}
use Rattle.lists.proofs.Tests.{both, and_both}
use Rattle.files.specs.Files.{Pair, rising, keeps}
use Rattle.files.proofs.Files.{keepable}
use Rattle.meaning.specs.Row.{Node, Place, first_of}
use Rattle.meaning.specs.Picture.{picture}
use Rattle.meaning.specs.State.{State}
use Rattle.meaning.specs.Reading.{read}
use Rattle.meaning.specs.Words.{owed_at}
use Rattle.calls.specs.Pairs.{pair}
use Rattle.meaning.specs.Operations.{fresh, new_node}
use Rattle.calls.specs.Promises.{ReadList}
use Rattle.calls.specs.Layer.ReadState.{nodes_from, read_state}
use Rattle.meaning.proofs.Rows.AscendingRow.{Asc, asc_above}
use Rattle.meaning.proofs.Rows.Places.{asc_right, asc_smaller}
use Rattle.meaning.proofs.Pictures.State.{Sound, cells_in}
use Rattle.meaning.proofs.Pictures.ReadBack.{read_of_picture, picture_is_list}
use Rattle.meaning.proofs.Cells.Placed.{Placed, placed_node, place_owed, occurs_placed, cell_standing}
use Rattle.meaning.proofs.Kept.KeepsState.{position_head, unowing_debts}
use Rattle.meaning.proofs.Kept.KeepsSetUp.{fresh_sound}

-- What may be kept

rising_left : (low K : ℕ) (front rest : List Pair) → rising low K (front ++ rest) ≡ true → rising low K front ≡ true
unfolding rising
rising_left low K [] rest e = refl
rising_left low K (p ∷ front) rest e =
    let here = ltb low p.key && leb p.key K in
    let t = both here (rising p.key K (front ++ rest)) e in
    and_both here (rising p.key K front) t.0 (rising_left p.key K front rest t.1)

-- the first of some pairs that may be kept may be kept
pub keeps_left : (s : Settings) (front rest : List Pair) → keeps s (front ++ rest) ≡ true → keeps s front ≡ true
unfolding keeps
keeps_left s front rest kept =
    let k = keepable s (front ++ rest) kept in
    let room = k.room in
    let ranges = in_range s.dimensions s.largest s.cells in
    and_both (ranges && ltb (length front) s.cells) (rising 0 s.largest front)
    (and_both ranges (ltb (length front) s.cells) k.ranges (lt-ltb (length front) s.cells (omega (arith, length-append front rest))))
    (rising_left 0 s.largest front rest k.rises)

-- The nodes of the pairs

-- a pair's node in cell c
abbrev pub pair_node : ℕ → Pair → Node
pair_node c p = new_node c p.key p.value false

pub nodes_ascend : (low K c : ℕ) (pairs : List Pair) → rising low K pairs ≡ true → Asc low (nodes_from c pairs)
unfolding rising nodes_from
nodes_ascend low K c [] e = tt
nodes_ascend low K c (p ∷ pairs) e =
    let t = both (ltb low p.key && leb p.key K) (rising p.key K pairs) e in
    (ltb-true low p.key (both (ltb low p.key) (leb p.key K) t.0).0, nodes_ascend p.key K (suc c) pairs t.1)

pub nodes_within : (low K c : ℕ) (pairs : List Pair) → rising low K pairs ≡ true → All (λ x. x.key ≤ K) (nodes_from c pairs)
unfolding rising nodes_from
nodes_within low K c [] e = tt
nodes_within low K c (p ∷ pairs) e =
    let t = both (ltb low p.key && leb p.key K) (rising p.key K pairs) e in
    (leb-true p.key K (both (ltb low p.key) (leb p.key K) t.0).1, nodes_within p.key K (suc c) pairs t.1)

-- live, and none owes
pub nodes_live : (c : ℕ) (pairs : List Pair) → All (λ x. x.live ≡ true) (nodes_from c pairs)
unfolding nodes_from
nodes_live c [] = tt
nodes_live c (p ∷ pairs) = (refl, nodes_live (suc c) pairs)

pub nodes_unowing : (c : ℕ) (pairs : List Pair) → All (λ x. x.owes ≡ false) (nodes_from c pairs)
unfolding nodes_from
nodes_unowing c [] = tt
nodes_unowing c (p ∷ pairs) = (refl, nodes_unowing (suc c) pairs)

nodes_cells : (c : ℕ) (pairs : List Pair) → map (λ x. x.cell) (nodes_from c pairs) ≡ numbers_from c (length pairs)
unfolding nodes_from numbers_from
nodes_cells c [] = refl
nodes_cells c (p ∷ pairs) = ap {B = List ℕ} (λ cs. c ∷ cs) (nodes_cells (suc c) pairs)

nodes_keys : (c : ℕ) (pairs : List Pair) → map (λ x. x.key) (nodes_from c pairs) ≡ map (λ p. p.key) pairs
unfolding nodes_from
nodes_keys c [] = refl
nodes_keys c (p ∷ pairs) = ap {B = List ℕ} (λ ks. p.key ∷ ks) (nodes_keys (suc c) pairs)

nodes_pairs : (c : ℕ) (pairs : List Pair) → map pair (nodes_from c pairs) ≡ pairs
unfolding nodes_from
nodes_pairs c [] = refl
nodes_pairs c (p ∷ pairs) = ap {B = List Pair} (λ r. p ∷ r) (nodes_pairs (suc c) pairs)

-- one pair more is one node more
pub nodes_snoc : (c : ℕ) (pairs : List Pair) (p : Pair) →
    nodes_from c (pairs ++ (p ∷ [])) ≡ nodes_from c pairs ++ (pair_node (c + length pairs) p ∷ [])
unfolding nodes_from
nodes_snoc c [] p = let e : c ≡ c + 0 = omega arith in ap {B = List Node} (λ i. pair_node i p ∷ []) e
nodes_snoc c (q ∷ pairs) p =
    let e : suc c + length pairs ≡ c + suc (length pairs) = omega arith in
    ap {B = List Node} (λ r. pair_node c q ∷ r) (nodes_snoc (suc c) pairs p ∙ ap {B = List Node} (λ i. nodes_from (suc c) pairs ++ (pair_node i p ∷ [])) e)

-- The next pair: its node comes last, its key is above all others, and a cell is free for it.
pub record NextPair (s : Settings) (pairs : List Pair) (p : Pair) : Type 0 where
  pub row_is : nodes_from 1 (pairs ++ (p ∷ [])) ≡ nodes_from 1 pairs ++ (pair_node (suc (length pairs)) p ∷ [])
  pub ascends : Asc 0 (nodes_from 1 pairs ++ (pair_node (suc (length pairs)) p ∷ []))
  pub positive : 0 < p.key
  pub most : p.key ≤ s.largest
  pub below : All (λ x. x.key < p.key) (nodes_from 1 pairs)
  pub room : suc (length pairs) < s.cells

pub next_pair : (s : Settings) (pairs : List Pair) (p : Pair) → keeps s (pairs ++ (p ∷ [])) ≡ true → NextPair s pairs p
next_pair s pairs p kept =
    let all = pairs ++ (p ∷ []) in
    let row = nodes_from 1 pairs in
    let x = pair_node (suc (length pairs)) p in
    let k = keepable s all kept in
    let room = k.room in
    let e : 1 + length pairs ≡ suc (length pairs) = omega arith in
    let is = nodes_snoc 1 pairs p ∙ ap {B = List Node} (λ c. row ++ (pair_node c p ∷ [])) e in
    let ascends : Asc 0 (row ++ (x ∷ [])) = subst (Asc 0) is (nodes_ascend 0 s.largest 1 all k.rises) in
    record {
      row_is = is;
      ascends = ascends;
      positive = (asc_right 0 row (x ∷ []) ascends).0;
      most =
          all_at (λ y. y.key ≤ s.largest) row x []
          (subst (All (λ y. y.key ≤ s.largest)) is (nodes_within 0 s.largest 1 all k.rises));
      below = asc_smaller 0 row x [] ascends;
      room = omega (arith, length-append pairs (p ∷ []));
    }

-- The state is in order

numbers_join : (i m n : ℕ) → numbers_from i m ++ numbers_from (i + m) n ≡ numbers_from i (m + n)
unfolding numbers_from
numbers_join i zero n =
    let e : i + 0 ≡ i = omega arith in
    let f : n ≡ 0 + n = omega arith in
    ap (λ j. numbers_from j n) e ∙ ap (numbers_from i) f
numbers_join i (suc m) n =
    let e : i + suc m ≡ suc i + m = omega arith in
    let f : suc (m + n) ≡ suc m + n = omega arith in
    ap {B = List ℕ} (λ j. i ∷ (numbers_from (suc i) m ++ numbers_from j n)) e
    ∙ ap {B = List ℕ} (λ r. i ∷ r) (numbers_join (suc i) m n) ∙ ap (numbers_from i) f

-- standing and free cells are those from 1 on
read_cells : (s : Settings) (pairs : List Pair) → length pairs < s.cells → cells_in (read_state s pairs) ≡ numbers_from 1 (s.cells - 1)
unfolding read_state
read_cells s pairs room =
    let n = length pairs in
    let rest = s.cells - suc n in
    let e : suc n ≡ 1 + n = omega arith in
    let f : n + rest ≡ s.cells - 1 = omega arith in
    ap₂ (λ cs i. cs ++ numbers_from i rest) (nodes_cells 1 pairs) e ∙ numbers_join 1 n rest ∙ ap (numbers_from 1) f

pub read_state_sound : (s : Settings) (pairs : List Pair) → keeps s pairs ≡ true → s.base ≡ base_of s.dimensions s.largest → Sound (read_state s pairs)
unfolding read_state fresh
read_state_sound s pairs kept base =
    let D = s.dimensions in
    let K = s.largest in
    let C = s.cells in
    let k = keepable s pairs kept in
    let cells = read_cells s pairs k.room in
    let set-up = fresh_sound D K C k.ranges in
    let ascends = nodes_ascend 0 K 1 pairs k.rises in
    record {
      ranges = ranges D K C k.ranges;
      base = base;
      ascends = ascends;
      keys = nodes_within 0 K 1 pairs k.rises;
      count = ap length cells ∙ set-up.count;
      range = subst (All (λ c. (0 < c) × (c < C))) (sym cells) set-up.range;
      once = subst (λ cs. All (λ c. occurrences c cs ≡ 1) cs) (sym cells) set-up.once;
      values = all_map (λ x live dead. absurd (let z : ◌≡◌ {A = ℕ} 0 1 = cc in omega arith)) (nodes_from 1 pairs) (nodes_live 1 pairs);
      debts = unowing_debts s.base D (nodes_from 1 pairs) (nodes_unowing 1 pairs);
      position = omega (arith, occurrences_here 0 0 (map (λ x. x.cell) (nodes_from 1 pairs)) refl);
      dead =
          all_map (λ x above low. absurd (omega (arith, above, low, position_head (read_state s pairs) refl))) (nodes_from 1 pairs)
          (asc_above 0 (nodes_from 1 pairs) ascends);
    }

pub read_unowing : (s : Settings) (pairs : List Pair) → All (λ x. x.owes ≡ false) (read_state s pairs).row
unfolding read_state
read_unowing s pairs = nodes_unowing 1 pairs

-- What the list then holds

-- where no node owes, no standing cell does
placed_unowing : {t : State} → Sound t → All (λ y. y.owes ≡ false) t.row → {x : ℕ} {p : Place} → Placed t x p → owed_at (picture t) x ≡ 0
placed_unowing v unowing {x} {p} here =
    place_owed v here ∙ ap (λ owes. cond owes (first_of p.later).cell 0) (placed_node here (λ y. y.owes ≡ false) refl unowing)

pub stands_unowing : (t : State) → Sound t → All (λ y. y.owes ≡ false) t.row → (x : ℕ) → 0 < occurrences x (0 ∷ map (λ y. y.cell) t.row) →
    owed_at (picture t) x ≡ 0
stands_unowing t v unowing x stands = placed_unowing v unowing (occurs_placed t x stands).1

pub read_list : (s : Settings) (pairs : List Pair) → keeps s pairs ≡ true → s.base ≡ base_of s.dimensions s.largest →
    ReadList (picture (read_state s pairs)) s pairs
unfolding read read_state
read_list s pairs kept base =
    let t = read_state s pairs in
    let v = read_state_sound s pairs kept base in
    let back = read_of_picture t v in
    record {
      list = picture_is_list t v;
      settings = ap (λ u. u.settings) back;
      live =
          ap (λ u. map pair (those (λ x. x.live) u.row)) back
          ∙ ap (map pair) (those_all (λ x. x.live) (nodes_from 1 pairs) (nodes_live 1 pairs))
          ∙ nodes_pairs 1 pairs;
      standing = ap (λ u. map (λ x. x.key) u.row) back ∙ nodes_keys 1 pairs;
      settled = λ x stands. placed_unowing v (nodes_unowing 1 pairs) (cell_standing t x stands).1;
      position = ap (λ u. u.position) back;
    }
