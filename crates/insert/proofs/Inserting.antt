-- What insert does in two steps: value and mark of a standing cell, and the debts of parent and c.
use mathlib.Core.Path.{◌≡◌, refl}
use mathlib.Core.List.{List}
use Prim.Native.Nat.{ℕ, suc}
use native.Mathlib.Omega.{arith}
use borrow.Author.Tests.{eq-eqb, ne_eqb}
use Rattle.meaning.specs.Words.{word_index}
use Rattle.meaning.specs.Layer.Stores.{store, finish_words, write_node, paid_words}

-- value and mark, one after the other
pub node_written : (D : ℕ) (ws : List ℕ) (x value mark : ℕ) {first second : List ℕ} → first ≡ store D ws x 1 value → second ≡ store D first x 2 mark →
    second ≡ write_node D ws x value mark
node_written D ws x value mark e f =
    let next : word_index D x 2 ≡ suc (word_index D x 1) = omega arith in
    rw (f, e, next) refl

-- The two debts

pub paid_one : (D : ℕ) (ws : List ℕ) (parent c : ℕ) → c ≡ 0 → finish_words D ws parent ≡ paid_words D ws parent c
paid_one D ws parent c e = rw (eq-eqb c 0 e) refl

pub paid_two : (D : ℕ) (ws : List ℕ) (parent c : ℕ) → (c ≡ 0 → ⊥) → finish_words D (finish_words D ws parent) c ≡ paid_words D ws parent c
paid_two D ws parent c ne = rw (ne_eqb c 0 ne) refl
