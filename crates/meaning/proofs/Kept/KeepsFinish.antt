-- Finishing keeps a state in order: it changes the debt of one node, and takes debts only away.
use mathlib.Core.Path.{◌≡◌, refl}
use mathlib.Core.Bool.{false}
use Prim.Native.Nat.{ℕ}
use Rattle.lists.proofs.All.{all_map}
use Rattle.meaning.specs.State.{State}
use Rattle.meaning.specs.Operations.{paid, finished, with_row}
use Rattle.meaning.proofs.Pictures.State.{Sound}
use Rattle.meaning.proofs.Rows.Places.{Keeping, on_cell, on_cell-cases, on_cell-keeping}
use Rattle.meaning.proofs.Kept.KeepsState.{changed_sound}

pub paid_keeping : (c : ℕ) → Keeping (on_cell c paid)
paid_keeping c = on_cell-keeping c paid (λ x. refl) (λ x. refl) (λ e. refl)

pub finished_sound : (s : State) (c : ℕ) → Sound s → Sound (with_row s (finished c s.row))
unfolding finished
finished_sound s c v =
    changed_sound s (on_cell c paid) s.position v (paid_keeping c)
    (λ x e. on_cell-cases (λ y. y.owes ≡ false) c paid x (λ here. refl) (λ other. e))
    (all_map (λ x h. on_cell-cases (λ y. y.live ≡ false → y.value ≡ 0) c paid x (λ here. h) (λ other. h)) s.row v.values)
    v.position
    (all_map (λ x h l. on_cell-cases (λ y. y.live ≡ false) c paid x (λ here. h l) (λ other. h l)) s.row v.dead)
