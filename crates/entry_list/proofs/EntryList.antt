-- The numbers of the list of entries are in range, and it has the length for them.
use mathlib.Core.Path.{◌≡◌, refl, ◌∙◌, ap}
use mathlib.Core.Bool.{true}
use mathlib.Core.List.{List}
use Prim.Native.Nat.{ℕ}
use lib.ListN.{length}
use Rattle.answers.specs.Refusals.{Outcome, Meets, accepted}
use Rattle.meaning.specs.Operations.{fresh, set_up_out}
use Rattle.meaning.specs.Reading.{is_list}
use Rattle.answers.specs.declared.Answer.{Answer}
use Rattle.calls.proofs.Computing.{computing}
use Rattle.meaning.proofs.Outcomes.{set_up_outcome}
use Rattle.meaning.proofs.Pictures.ReadBack.{picture_is_list}
use Rattle.meaning.proofs.Kept.KeepsSetUp.{fresh_sound}
use Rattle.entry_list.specs.EntryList.{list_dimensions, list_largest, list_cells, list_words, fresh_words, BaseOfEntries}

numbers_accepted :
    (ws : List ℕ) → length ws ≡ list_words → set_up_out list_dimensions list_largest list_cells ws ≡ accepted 0 0 0 fresh_words
unfolding computing
numbers_accepted ws long = set_up_outcome list_dimensions list_largest list_cells ws refl long

pub base_of_entries_is_16 : BaseOfEntries
unfolding computing
base_of_entries_is_16 = refl

pub fresh_is_list : is_list fresh_words ≡ true
unfolding computing
fresh_is_list = picture_is_list (fresh list_dimensions list_largest list_cells) (fresh_sound list_dimensions list_largest list_cells refl)

pub set_up_fresh :
    (ws : List ℕ) {after : List ℕ} {r : Answer} → length ws ≡ list_words → Meets (set_up_out list_dimensions list_largest list_cells ws) r after → after ≡ fresh_words
set_up_fresh ws long met = met.left ∙ ap (λ (o : Outcome (List ℕ)). o.left) (numbers_accepted ws long)
