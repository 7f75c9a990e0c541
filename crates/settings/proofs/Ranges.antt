-- What the checked constructor answers says whether the ranges hold, and which settings were accepted.
use Rattle.std.specs.Prelude.{None, Option, Some}
use mathlib.Core.Path.{◌≡◌, refl, sym, ◌∙◌}
use mathlib.Core.Bool.{Bool, true, false, cond}
use Prim.Native.Nat.{ℕ}
use native.Mathlib.Omega.{arith}
use Rattle.settings.specs.Numbers.{in_range}
use Rattle.settings.specs.Checked.{settings_of, checked_of}
use Rattle.settings.specs.declared.Settings.{Settings}

pub checked_out : (D K C : ℕ) {checked : Option Settings} → checked ≡ checked_of D K C → checked ≡ None → in_range D K C ≡ false
unfolding checked_of
checked_out D K C is e = at (in_range D K C) (sym is ∙ e)
  where
    at : (t : Bool) → cond t (Some (settings_of D K C)) None ≡ None → t ≡ false
    at true e = absurd (let z : ◌≡◌ {A = ℕ} 0 1 = cc in omega arith)
    at false e = refl

pub checked_in :
    (D K C : ℕ) {checked : Option Settings} {s : Settings} → checked ≡ checked_of D K C → checked ≡ Some s →
    (in_range D K C ≡ true) × (s ≡ settings_of D K C)
unfolding checked_of
checked_in D K C {s = s} is e = at (in_range D K C) (sym is ∙ e)
  where
    at : (t : Bool) → cond t (Some (settings_of D K C)) None ≡ Some s → (t ≡ true) × (s ≡ settings_of D K C)
    at true e = (refl, (cc))
    at false e = absurd (let z : ◌≡◌ {A = ℕ} 0 1 = cc in omega arith)
