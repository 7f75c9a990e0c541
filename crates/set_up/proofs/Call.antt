-- Each way out of set up has the outcome of the definition: what the checked constructor answers says whether the ranges hold.
use Rattle.std.specs.Prelude.{None, Option, Some}
use mathlib.Core.Path.{◌≡◌, refl, sym, ◌∙◌}
use mathlib.Core.List.{List}
use Prim.Native.Nat.{ℕ, ◌≤◌}
use native.Mathlib.Omega.{arith}
use lib.ListN.{length}
use borrow.Author.Tests.{ne_eqb}
use Rattle.settings.specs.Numbers.{length_of, most_dimensions, most_cells}
use Rattle.settings.specs.Checked.{checked_of}
use Rattle.settings.specs.declared.Settings.{Settings}
use Rattle.settings.proofs.Numbers.{ranges}
use Rattle.settings.proofs.Ranges.{checked_in}
use Rattle.answers.specs.declared.Answer.{Answer}
use Rattle.answers.specs.Refusals.{answer, Meets}
use Rattle.meaning.specs.Operations.{set_up_out, set_up_by}
use Rattle.meaning.proofs.Outcomes.{set_up_outcome}
use Rattle.set_up.specs.Fresh.{fresh_list}
use Rattle.set_up.proofs.Fresh.{fresh_picture}

module _ (D K C : ℕ) (checked : Option Settings) (is : checked ≡ checked_of D K C) where
  -- accepted settings keep the limits
  pub limits : {s : Settings} → checked ≡ Some s → (s.dimensions ≤ most_dimensions) × (s.cells ≤ most_cells)
  limits e =
      let r = checked_in D K C is e in
      let b = ranges D K C r.0 in
      rw r.1 (b.dimensions_most, b.cells_most)

  module _ (ws : List ℕ) (r : Answer) where
    pub out_of_range_meets : checked ≡ None → r ≡ answer 1 0 0 0 → Meets (set_up_out D K C ws) r ws
    unfolding set_up_out set_up_by
    out_of_range_meets e a = rw (← is, e) (record { answered = a; left = refl })

    pub wrong_length_meets :
        {s : Settings} → checked ≡ Some s → (length ws ≡ length_of s.dimensions s.cells → ⊥) → r ≡ answer 2 0 0 0 →
        Meets (set_up_out D K C ws) r ws
    unfolding set_up_out set_up_by
    wrong_length_meets {s} e differ a =
        rw (← is, e, ne_eqb (length ws) (length_of s.dimensions s.cells) differ, set_up_by) (record { answered = a; left = refl })

    pub fresh_meets :
        {s : Settings} (left : List ℕ) → checked ≡ Some s → length ws ≡ length_of s.dimensions s.cells → r ≡ answer 0 0 0 0 →
        left ≡ fresh_list s → Meets (set_up_out D K C ws) r left
    unfolding set_up_out
    fresh_meets left e long a written =
        let i = checked_in D K C is e in
        let b = ranges D K C i.0 in
        rw (set_up_outcome D K C ws i.0 (rw i.1 at long))
        (record { answered = a; left = written ∙ rw i.1 (sym (fresh_picture D K C (omega arith))) })
