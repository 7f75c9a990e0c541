-- What a cell of a list owes: nothing, if it is free; else by its place, links below D to the standing cell after it. So its debt can be
-- finished.
use Rattle.std.specs.Prelude.{Option, None, Some}
use mathlib.Core.Path.{◌≡◌, refl}
use mathlib.Core.Bool.{Bool, true, false, cond}
use mathlib.Core.List.{List}
use Prim.Native.Nat.{ℕ, ◌≤◌, ◌<◌}
use native.Mathlib.Omega.{arith}
use Rattle.settings.specs.declared.Settings.{Settings}
use Rattle.meaning.specs.Keys.{shared}
use Rattle.meaning.specs.Row.{first_of, Place, place_of}
use Rattle.meaning.specs.State.{State, places_of}
use Rattle.meaning.specs.Picture.{picture}
use Rattle.meaning.specs.Words.{low_at, high_at}
use Rattle.meaning.specs.Layer.Listed.{Listed}
use Rattle.meaning.proofs.Rows.Keys.{shared_le}
use Rattle.meaning.proofs.Pictures.State.{Sound, Debt}
use Rattle.meaning.proofs.Cells.Placed.{Placed, placed_has, place_low, place_high, free_cell_rest}
use Rattle.meaning.proofs.Cells.CellsWithin.{owed_within}
use Rattle.words.proofs.Listed.{on_listed}
use Rattle.finish.specs.Payable.{Payable}

-- numbers that stand only where there is a debt
debt_most : (owes : Bool) (n most : ℕ) → n ≤ most → cond owes n 0 ≤ most
debt_most true n most h = h
debt_most false n most h = omega arith

debt_rises : (owes : Bool) (m n : ℕ) → (owes ≡ true → m < n) → cond owes m 0 ≤ cond owes n 0
debt_rises true m n h = let k = h refl in omega arith
debt_rises false m n h = omega arith

module _ {t : State} (v : Sound t) where
  -- low and high of a cell
  low_high : (x : ℕ) → x < t.settings.cells → (low_at (picture t) x ≤ high_at (picture t) x) × (high_at (picture t) x ≤ t.settings.dimensions)
  low_high x h = at (place_of x (places_of t t.row)) refl
    where
      b : ℕ
      b = t.settings.base

      D : ℕ
      D = t.settings.dimensions

      at : (o : Option Place) → place_of x (places_of t t.row) ≡ o → (low_at (picture t) x ≤ high_at (picture t) x) × (high_at (picture t) x ≤ D)
      at None e =
          let low = free_cell_rest t x h e 4 (omega arith) (omega arith) in
          let high = free_cell_rest t x h e 5 (omega arith) (omega arith) in
          (omega arith, omega arith)
      at (Some p) e =
          let here : Placed t x p = record { found = e } in
          let debt = placed_has here (λ m. m.node.owes ≡ true → Debt b D m) v.debts in
          let share = shared b D p.node.key (first_of p.later).key in
          rw (place_low v here, place_high v here) (
            debt_rises p.node.owes p.dimension share (λ owes. (debt owes).lower),
            debt_most p.node.owes share D (shared_le b D p.node.key (first_of p.later).key),
          )

  pub payable : (x : ℕ) → x < t.settings.cells → Payable (picture t) t.settings x
  payable x h = record { cell = h; owed = owed_within t v x h; high = (low_high x h).1 }

-- On a list

pub listed_payable : {ws : List ℕ} {s : Settings} → Listed ws s → (x : ℕ) → x < s.cells → Payable ws s x
listed_payable = on_listed (λ t ws s. (x : ℕ) → x < s.cells → Payable ws s x) (λ t v. payable v)

pub listed_low : {ws : List ℕ} {s : Settings} → Listed ws s → (x : ℕ) → x < s.cells → low_at ws x ≤ high_at ws x
listed_low = on_listed (λ t ws s. (x : ℕ) → x < s.cells → low_at ws x ≤ high_at ws x) (λ t v x h. (low_high v x h).0)
