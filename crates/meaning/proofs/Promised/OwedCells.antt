-- Why 9 is retired: a cell that owes stands, and owes from the next standing one; and finishing what some cells owe keeps a list.
use mathlib.Core.Path.{◌≡◌, refl, sym, subst}
use mathlib.Core.Bool.{true}
use mathlib.Core.Logic.{inl, inr}
use Prim.Native.Nat.{ℕ, zero, suc, ◌+◌, ◌≤◌}
use native.Mathlib.Omega.{arith}
use Rattle.meaning.specs.State.{State}
use Rattle.meaning.specs.Picture.{picture}
use Rattle.meaning.specs.Reading.{is_list}
use Rattle.meaning.specs.Words.{mark_at, owed_at, cells_at, dimensions_at}
use Rattle.meaning.specs.Sentences.{Standing, AList}
use Rattle.meaning.specs.Operations.{finished, with_row}
use Rattle.meaning.specs.Promises.{OwedCellsStand, OwedCellsStandInSweep}
use Rattle.meaning.specs.Layer.SweepStores.{finish_all}
use Rattle.meaning.proofs.Pictures.State.{Sound}
use Rattle.meaning.proofs.Pictures.ReadBack.{picture_is_list}
use Rattle.meaning.proofs.Kept.KeepsFinish.{finished_sound}
use Rattle.meaning.proofs.Outcomes.{on_lists}
use Rattle.meaning.proofs.Written.SweepFinish.{finish_cell}
use Rattle.meaning.proofs.BothWays.Converse.{list_exactly_if}

pub owed_cells_stand : OwedCellsStand
owed_cells_stand ws e x below owes = at (mark_at ws x) refl
  where
    means : AList ws
    means = (list_exactly_if ws).0 e

    at : (m : ℕ) → mark_at ws x ≡ m → Standing ws (owed_at ws x)
    at zero f = let none = means.free_words x 3 (record { cell = below; mark = f }) (omega arith) (omega arith) in absurd (omega arith)
    at (suc zero) f = (means.debts x (record { cell = below; mark = inl f }) owes).owed.standing
    at (suc (suc zero)) f = (means.debts x (record { cell = below; mark = inr f }) owes).owed.standing
    at (suc (suc (suc m))) f = let most = means.marks x below in absurd (omega arith)

-- what n cells from x on owe is finished
finish_keeps : (n x : ℕ) (s : State) → Sound s → x + n ≤ s.settings.cells → is_list (finish_all s.settings.dimensions (picture s) x n) ≡ true
unfolding finish_all
finish_keeps zero x s v h = picture_is_list s v
finish_keeps (suc n) x s v h =
    subst (λ ws. is_list (finish_all s.settings.dimensions ws (suc x) n) ≡ true) (sym (finish_cell s v x (omega arith)))
    (finish_keeps n (suc x) (with_row s (finished x s.row)) (finished_sound s x v) (omega arith))

pub owed_cells_stand_in_sweep : OwedCellsStandInSweep
unfolding picture
owed_cells_stand_in_sweep ws e x n h =
    owed_cells_stand (finish_all (dimensions_at ws) ws x n)
    (on_lists (λ us. x + n ≤ cells_at us → is_list (finish_all (dimensions_at us) us x n) ≡ true) (λ s v. finish_keeps n x s v) ws e h)
