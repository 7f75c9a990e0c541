-- What the check's answer says of the words, and for its callers.
use Rattle.std.specs.Prelude.{None, Some, Option}
use Rattle.std.proofs.lemmas.Option.{none-some, same_Some}
use mathlib.Core.Path.{◌≡◌, refl, sym, ◌∙◌, subst}
use mathlib.Core.Bool.{false}
use mathlib.Core.List.{List}
use Prim.Native.Nat.{ℕ}
use Rattle.settings.specs.declared.Settings.{Settings}
use Rattle.meaning.specs.Layer.Listed.{Listed}
use Rattle.meaning.specs.Reading.{settings_at, is_list, reading_of}
use Rattle.settings.specs.declared.Levels.{Levels}
use Rattle.is_list.specs.Verdict.{Decided}

-- What is answered

pub no_list_decided : {ws : List ℕ} {r : Option Levels} → r ≡ None → false ≡ is_list ws → Decided ws r
no_list_decided none not = record { none = λ e. sym not; listed = λ l e. absurd (none-some l (sym none ∙ e)) }

pub list_decided : {ws : List ℕ} {r : Option Levels} {l : Levels} → r ≡ Some l → Listed ws l.settings → Decided ws r
list_decided {ws} {r} {l} is listed =
    record { none = λ e. absurd (none-some l (sym e ∙ is)); listed = λ m e. subst (λ (n : Levels). Listed ws n.settings) (same_Some l m (sym is ∙ e)) listed }

-- What the words are read as
pub reading_none : (ws : List ℕ) → is_list ws ≡ false → reading_of ws ≡ None
unfolding reading_of
reading_none ws none = rw none refl

pub reading_listed : {ws : List ℕ} {s : Settings} → Listed ws s → reading_of ws ≡ Some s
unfolding reading_of
reading_listed h = rw (h.list, h.settings) refl
