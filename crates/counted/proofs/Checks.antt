-- What becomes of the record after a call.
use mathlib.Core.Path.{◌≡◌, refl, ◌∙◌}
use mathlib.Core.Bool.{true, false}
use mathlib.Core.List.{List}
use Prim.Native.Nat.{ℕ}
use borrow.Author.Tests.{eq-eqb, ne_eqb}
use Rattle.answers.specs.declared.Answer.{Answer}
use Rattle.classes.specs.Classes.{classes_of}
use Rattle.counted.specs.Checked.{Renewed}

module _ {a : Answer} (ws before : List ℕ) where
  pub record_kept : (a.refusal ≡ 0 → ⊥) → Renewed a ws before a before
  record_kept ne = record { answer = refl; classes = rw (ne_eqb a.refusal 0 ne) refl }

  pub record_anew : a.refusal ≡ 0 → {after : List ℕ} → after ≡ classes_of ws → Renewed a ws before a after
  record_anew z full = record { answer = refl; classes = full ∙ rw (eq-eqb a.refusal 0 z) refl }
