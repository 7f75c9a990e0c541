-- Slips that look right, each shut out by a law of its own. The theorems of specs/Promises.antt shut them out too; these say it at the
-- definition itself, so that a definition that slips is refused here first.
use Rattle.std.specs.Prelude.{Some}
use mathlib.Core.Path.{◌≡◌, refl, ap}
use mathlib.Core.Bool.{true, false, cond, not}
use mathlib.Core.List.{List, [], ◌∷◌, ◌++◌, map}
use Prim.Native.Nat.{ℕ, ◌≤◌, ◌<◌}
use native.Mathlib.Decide.{ℕ_discrete}
use native.Mathlib.Omega.{arith}
use borrow.Author.Tests.{eq-eqb, ne_eqb, le-leb, lt-ltb}
use Rattle.lists.specs.Lists.{every}
use Rattle.meaning.specs.Row.{Node, node_at, smaller_than}
use Rattle.meaning.specs.State.{State, position_key}
use Rattle.meaning.specs.Picture.{picture}
use Rattle.answers.specs.Refusals.{accepted, refused}
use Rattle.answers.specs.declared.Refusal.TheVariants.{KeyLive}
use Rattle.meaning.specs.Words.{owed_at, low_at, high_at, link_at}
use Rattle.meaning.specs.Walk.{link_read}
use Rattle.meaning.specs.Operations.{looked, paid, position_after, added, revived, insert_at, dead_front, from_live, last_alone, swept}
use Rattle.meaning.specs.declared.Slot.{Slot}

-- Not by some leading coordinates: the node found for a key has that same key.
pub present_is_that_key : (key : ℕ) (x : Node) (row : List Node) → node_at key row ≡ Some x → x.key ≡ key
unfolding node_at
present_is_that_key key x [] e = absurd (let z : ◌≡◌ {A = ℕ} 0 1 = cc in omega arith)
present_is_that_key key x (y ∷ row) e = go (ℕ_discrete y.key key) (present_is_that_key key x row)
  where
    go : Dec (y.key ≡ key) → (node_at key row ≡ Some x → x.key ≡ key) → x.key ≡ key
    go (yes q) onward = let t : Some y ≡ Some x = rw (eq-eqb y.key key q) at e in (let u : y ≡ x = cc in rw (← u) q)
    go (no ne) onward = onward (rw (ne_eqb y.key key ne) at e)

-- Not the empty link of a cell that owes, which hides a whole branch: a link that a cell owes is read from the owed cell.
pub owed_link_is_read_there : (ws : List ℕ) (x d : ℕ) → (owed_at ws x ≡ 0 → ⊥) → low_at ws x ≤ d → d < high_at ws x → link_read ws x d ≡ link_at ws (owed_at ws x) d
unfolding link_read
owed_link_is_read_there ws x d owes l h = rw (ne_eqb (owed_at ws x) 0 owes, le-leb (low_at ws x) d l, lt-ltb d (high_at ws x) h) refl

-- Not to the new cell, which would never be taken, and no further back than the next smaller one: that becomes the position.
pub position_becomes_the_next_smaller :
    (s : State) (key value : ℕ) (t : Slot) → key ≤ position_key s → (added s key value t).position ≡ (smaller_than key s.row).cell
unfolding added position_after
position_becomes_the_next_smaller s key value t h = rw (le-leb key (position_key s) h) refl

-- Not refused by 5: a dead key is revived.
pub dead_key_is_revived : (ws : List ℕ) (s : State) (key value : ℕ) (x : Node) → x.live ≡ false →
    insert_at ws s key value (Some x) ≡ accepted key 0 (looked s key) (picture (revived s x value))
unfolding insert_at
dead_key_is_revived ws s key value x e =
    ap (λ t. cond t (refused (KeyLive key (looked s key)) ws) (accepted key 0 (looked s key) (picture (revived s x value)))) e

-- No branch is lost: what stands after a sweep owes nothing.
paid_owes_nothing : (row : List Node) → every (λ x. not x.owes) (map paid row) ≡ true
unfolding every
paid_owes_nothing [] = refl
paid_owes_nothing (x ∷ row) = paid_owes_nothing row

pub swept_owes_nothing : (s : State) → every (λ x. not x.owes) (swept s).row ≡ true
unfolding swept
swept_owes_nothing s = paid_owes_nothing (last_alone (dead_front s.row) ++ from_live s.row)
