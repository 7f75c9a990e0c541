-- An insert finishes what the parent owes, and then what c owes, the cell that had the new one's slot. The cells from which the two owe are
-- neither of them, nor are they the same one: so each debt is finished as if it were alone.
use mathlib.Core.Path.{◌≡◌, ap, subst}
use mathlib.Core.List.{List}
use Prim.Native.Nat.{ℕ, ◌≤◌, ◌<◌}
use native.Mathlib.Decide.{dec_lt}
use native.Mathlib.Omega.{arith}
use Rattle.meaning.specs.Words.{key_at, owed_at, low_at, high_at}
use Rattle.meaning.specs.Writes.{Unmoved}
use Rattle.meaning.specs.Sentences.{Standing, NextLarger, Settled, leads, leads_nowhere, below_dimension, AList}
use Rattle.meaning.proofs.BothWays.ConverseKeys.{larger_key, next_larger_of_one}

-- finishing cell n spares a cell that is neither n nor the one that n owes from
pub spared : (ws : List ℕ) (n x j : ℕ) → (0 < owed_at ws n → (x ≡ n → ⊥) × (x ≡ owed_at ws n → ⊥)) → Unmoved ws n x j
spared ws n x j apart o = ((λ e l h. (apart o).0 e), (λ d l h e. apart o))

module _ (ws : List ℕ) (a : AList ws) where
  -- a cell that is due links owes
  pub due_owes : (x d : ℕ) → Standing ws x → low_at ws x ≤ d → d < high_at ws x → 0 < owed_at ws x
  due_owes x d stands l h = at (dec_lt 0 (owed_at ws x))
    where
      at : Dec (0 < owed_at ws x) → 0 < owed_at ws x
      at (yes o) = o
      at (no o) = absurd (let nothing = (a.owes_nothing x stands (omega arith)).1 in omega arith)

  -- the cell that it owes from is the next one
  pub owed_next : (x : ℕ) → Standing ws x → 0 < owed_at ws x → NextLarger ws x (owed_at ws x)
  owed_next x stands o = (a.debts x stands o).owed

  pub owed_other : (x : ℕ) → Standing ws x → 0 < owed_at ws x → owed_at ws x ≡ x → ⊥
  owed_other x stands o e = let larger = (owed_next x stands o).larger in let same = ap (key_at ws) e in omega arith

-- Neither of two cells is the other, nor the cell from which the other owes, and they do not owe from the same one.
pub record DebtsApart (ws : List ℕ) (parent c : ℕ) : Type 0 where
  pub not_c : parent ≡ c → ⊥
  pub not_owed : parent ≡ owed_at ws c → ⊥
  pub owed_not_c : 0 < owed_at ws parent → owed_at ws parent ≡ c → ⊥
  pub owed_not_owed : 0 < owed_at ws parent → owed_at ws parent ≡ owed_at ws c → ⊥

module _ (ws : List ℕ) (a : AList ws) (parent p c : ℕ) (parent_stands : Standing ws parent) (c_stands : Standing ws c)
    (held : Settled ws parent p c) (o : 0 < owed_at ws c) where
  -- c is later than the parent
  parent_below : key_at ws parent < key_at ws c
  parent_below = at held (a.debts c c_stands o).not_head
    where
      at : {y : ℕ} → Settled ws parent p y → 0 < y → key_at ws parent < key_at ws y
      at {y} (leads e l larger least) some = larger_key ws a parent p y parent_stands larger
      at (leads_nowhere e l never) some = absurd (omega arith)
      at (below_dimension e l) some = absurd (omega arith)

  parent_not_c : parent ≡ c → ⊥
  parent_not_c e = let below = parent_below in let same = ap (key_at ws) e in omega arith

  -- a cell owed from owes nothing, and is the next one of one cell
  pub debts_apart : DebtsApart ws parent c
  debts_apart =
      record {
        not_c = parent_not_c;
        not_owed = λ e.
            let below = parent_below in
            let larger = (owed_next ws a c c_stands o).larger in
            let same = ap (key_at ws) e in
            omega arith;
        owed_not_c = λ m e. let nothing = (a.debts parent parent_stands m).owes_nothing in let same = ap (owed_at ws) e in omega arith;
        owed_not_owed = λ m e.
            parent_not_c (next_larger_of_one ws a parent c (owed_at ws c) parent_stands c_stands
            (subst (NextLarger ws parent) e (owed_next ws a parent parent_stands m)) (owed_next ws a c c_stands o));
      }
