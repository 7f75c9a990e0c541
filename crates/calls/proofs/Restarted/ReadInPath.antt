-- What the code that reads goes by: of the state that the pairs so far make, the next key is above all; the node before it is the last, and
-- the next node's path is the last one's with the new cell from what the two keys share on.
use Rattle.std.specs.Prelude.{None}
use mathlib.Core.Path.{◌≡◌, refl, sym, ap, ◌∙◌, subst}
use mathlib.Core.Bool.{true}
use mathlib.Core.List.{List, [], ◌∷◌, ◌++◌, append-nil}
use Prim.Native.Nat.{ℕ, suc, ◌<◌}
use native.Mathlib.Omega.{arith}
use lib.Dec.{ltb}
use lib.ListN.{length}
use lib.Seq.{ext_get_or}
use borrow.Author.Tests.{le-ltb}
use Rattle.settings.specs.Numbers.{base_of}
use Rattle.settings.specs.declared.Settings.{Settings}
use Rattle.lists.specs.Lists.{those}
use Rattle.lists.proofs.Those.{those_none}
use Rattle.lists.proofs.All.{All, all_map}
use Rattle.files.specs.Files.{Pair, keeps}
use Rattle.files.proofs.Files.{keepable}
use Rattle.meaning.specs.Keys.{shared}
use Rattle.meaning.specs.Row.{Node, head_node, node_at, smaller_than}
use Rattle.meaning.specs.State.{State}
use Rattle.meaning.specs.Layer.Paths.{path_for, onward}
use Rattle.calls.specs.Layer.ReadState.{nodes_from, read_state, last_key}
use Rattle.meaning.proofs.Rows.Keys.{shared_same}
use Rattle.meaning.proofs.Pictures.State.{base_positive}
use Rattle.meaning.proofs.Rows.Places.{last_from}
use Rattle.meaning.proofs.Rows.Parent.{asc_last, last_greatest, first_front}
use Rattle.meaning.proofs.Walks.Smaller.{smaller_is}
use Rattle.meaning.proofs.Paths.Path.{path_for-length, path_for-at}
use Rattle.meaning.proofs.Paths.Path as path
use Rattle.calls.proofs.Restarted.ReadState.{keeps_left, pair_node, nodes_ascend, next_pair}
use Rattle.calls.proofs.Restarted.ReadIn.{node_absent, read_state_sound}

-- The last key

last_is : (a : Node) (c : ℕ) (pairs : List Pair) → (last_from a (nodes_from c pairs)).key ≡ last_key a.key pairs
unfolding nodes_from last_from last_key
last_is a c [] = refl
last_is a c (p ∷ pairs) = last_is (pair_node c p) (suc c) pairs

pub last_key_none : (below : ℕ) → last_key below [] ≡ below
unfolding last_key
last_key_none below = refl

pub last_key_snoc : (below : ℕ) (pairs : List Pair) (p : Pair) → last_key below (pairs ++ (p ∷ [])) ≡ p.key
unfolding last_key
last_key_snoc below [] p = refl
last_key_snoc below (q ∷ pairs) p = last_key_snoc q.key pairs p

-- the next pair's key is above it
pub next_above : (s : Settings) (pairs : List Pair) (p : Pair) → keeps s (pairs ++ (p ∷ [])) ≡ true → last_key 0 pairs < p.key
next_above s pairs p kept =
    let n = next_pair s pairs p kept in
    subst (λ k. k < p.key) (last_is head_node 1 pairs) (asc_last head_node (nodes_from 1 pairs) (pair_node (suc (length pairs)) p ∷ []) n.ascends).0

-- A key above it

-- all that stand are below the key: the next smaller is the last, none is above, and the key does not stand
pub record AboveAll (t : State) (last key : ℕ) : Type 0 where
  pub smaller : (smaller_than key t.row).key ≡ last
  pub none_above : those (λ x. ltb key x.key) t.row ≡ []
  pub absent : node_at key t.row ≡ None

pub read_state_next : (s : Settings) (pairs : List Pair) (key : ℕ) → keeps s pairs ≡ true → last_key 0 pairs < key →
    AboveAll (read_state s pairs) (last_key 0 pairs) key
unfolding read_state
read_state_next s pairs key kept above =
    let row = nodes_from 1 pairs in
    let last = last_is head_node 1 pairs in
    let below : All (λ x. x.key < key) row =
    all_map (λ x h. omega arith) row (last_greatest head_node row (nodes_ascend 0 s.largest 1 pairs (keepable s pairs kept).rises)) in
    record {
      smaller = ap (λ r. (smaller_than key r).key) (sym (append-nil row)) ∙ ap (λ x. x.key) (smaller_is key row [] below tt) ∙ last;
      none_above = those_none (λ x. ltb key x.key) row (all_map (λ x h. le-ltb key x.key (omega arith)) row below);
      absent = node_absent key row below;
    }

-- Paths

-- nodes that come later do not change the path of the last one
path_kept : (b D : ℕ) (row later : List Node) →
    path_for b D (row ++ later) (last_from head_node row).key ≡ path_for b D row (last_from head_node row).key
path_kept b D row later =
    let key = (last_from head_node row).key in
    let long = path_for-length b D (row ++ later) key in
    ext_get_or 0 (path_for b D (row ++ later) key) (path_for b D row key) (long ∙ sym (path_for-length b D row key))
    (λ i h.
    let l : i < D = omega arith in
    path_for-at b D (row ++ later) key i l
    ∙ first_front b D key (suc i) head_node row later (omega (arith, shared_same b D key))
    ∙ sym (path_for-at b D row key i l))

pub path_next : (s : Settings) (pairs : List Pair) (p : Pair) → keeps s (pairs ++ (p ∷ [])) ≡ true → s.base ≡ base_of s.dimensions s.largest →
    path_for s.base s.dimensions (nodes_from 1 (pairs ++ (p ∷ []))) p.key
    ≡ onward s.dimensions (path_for s.base s.dimensions (nodes_from 1 pairs) (last_key 0 pairs))
    (shared s.base s.dimensions (last_key 0 pairs) p.key) (suc (length pairs))
unfolding read_state
path_next s pairs p kept base =
    let b = s.base in
    let D = s.dimensions in
    let row = nodes_from 1 pairs in
    let n = next_pair s pairs p kept in
    let x = pair_node (suc (length pairs)) p in
    let pos = base_positive (read_state s pairs) (read_state_sound s pairs (keeps_left s pairs (p ∷ []) kept) base) in
    ap (λ r. path_for b D r p.key) n.row_is
    ∙ path.path_next b D pos row x [] n.ascends
    ∙ ap (λ words. onward D words (shared b D (last_from head_node row).key p.key) (suc (length pairs))) (path_kept b D row (x ∷ []))
    ∙ ap (λ key. onward D (path_for b D row key) (shared b D key p.key) (suc (length pairs))) (last_is head_node 1 pairs)
