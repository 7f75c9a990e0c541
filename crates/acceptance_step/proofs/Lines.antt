-- The words of both engines fit what is held, and a line is done on them.
use Rattle.std.specs.Prelude.{Option, Some}
use mathlib.Core.Path.{◌≡◌, refl, sym, ap, ◌∙◌}
use mathlib.Core.Bool.{Bool, true, false, cond}
use mathlib.Core.List.{List}
use Prim.Native.Nat.{ℕ, ◌*◌, ◌-◌, ◌≤◌}
use native.Mathlib.Nat.{sub-zero, mul-le-mul, le_refl}
use native.Mathlib.Omega.{arith}
use lib.ListN.{length, take}
use lib.Seq.{length-take-le}
use Rattle.settings.specs.Numbers.{in_range, length_of, cell_words, most_dimensions, most_cells}
use Rattle.settings.specs.Checked.{checked_of}
use Rattle.settings.specs.declared.Settings.{Settings}
use Rattle.settings.proofs.Numbers.{ranges}
use Rattle.settings.proofs.Ranges.{checked_in}
use Rattle.trace.specs.Lines.{most_words}
use Rattle.trace_held.specs.Held.{cut_to, Held, Holds}
use Rattle.row.specs.Row.{row_length}
use Rattle.acceptance_step.specs.Lines.{Engines, engines_of, most_row_words, KindFits, list_length, row_length_for, altered_by, kind_reply, kind_leaves, KindMade}
use Rattle.acceptance_step.specs.Printed.{Room, held_in, answers_to, left_by, LineDone}
use Rattle.acceptance_step.specs.declared.Kind.{Kind}
use Rattle.acceptance_step.specs.declared.Kind.TheVariants.{SetUp, Make, Unreadable}
use Rattle.acceptance_step.specs.declared.Pair.{Pair}
use Rattle.acceptance_step.specs.declared.Sizes.{Sizes}
use Rattle.acceptance_step.specs.declared.Done.{Done}

-- settings that are accepted keep the limits
pub accepted_limits :
    (D K C : ℕ) {checked : Option Settings} {s : Settings} → checked ≡ checked_of D K C → checked ≡ Some s →
    (s.dimensions ≤ most_dimensions) × ((s.cells ≤ most_cells) × (1 ≤ s.cells))
accepted_limits D K C read e =
    let (range, is) = checked_in D K C read e in
    let r = ranges D K C range in
    rw is (r.dimensions_most, (r.cells_most, omega (arith, r.cells_least)))

-- a list that fits has a row that fits
row_fits : (D K C : ℕ) → in_range D K C ≡ true → length_of D C ≤ most_words → row_length C ≤ most_row_words
row_fits D K C range fits =
    let r = ranges D K C range in
    let wide : 8 ≤ cell_words D = omega (arith, r.dimensions_least) in
    let words : C * 8 ≤ C * cell_words D = mul-le-mul (le_refl C) wide in
    omega (arith, fits, words, r.dimensions_least)

pub list_within : (kind : Kind) (n : ℕ) → KindFits kind → n ≤ most_words → list_length kind n ≤ most_words
list_within (SetUp D K C) n fits h = at (in_range D K C) fits
  where
    at : (t : Bool) → (t ≡ true → length_of D C ≤ most_words) → cond t (length_of D C) n ≤ most_words
    at true fits = fits refl
    at false fits = h
list_within (Make operation) n fits h = h
list_within Unreadable n fits h = h

pub row_within : (kind : Kind) (n : ℕ) → KindFits kind → n ≤ most_row_words → row_length_for kind n ≤ most_row_words
row_within (SetUp D K C) n fits h = at (in_range D K C) refl
  where
    at : (t : Bool) → in_range D K C ≡ t → cond t (row_length C) n ≤ most_row_words
    at true e = row_fits D K C e (fits e)
    at false e = h
row_within (Make operation) n fits h = h
row_within Unreadable n fits h = h

-- what the line leaves its call: n words of the list and m of the row
module _
    (kind : Kind) {words keys : List ℕ} {sizes : Sizes} (room : Room words keys sizes) {long wide n m : ℕ} {altered altered-keys : List ℕ}
    (list-is : long ≡ list_length kind sizes.list) (row_is : wide ≡ row_length_for kind sizes.row)
    (holds : Holds (length words) altered n (cut_to long (take sizes.list words)))
    (holds-keys : Holds (length keys) altered-keys m (cut_to wide (take sizes.row keys))) where
  before : Engines
  before = held_in words keys sizes

  list_there : take (n - 0) altered ≡ (altered_by kind before).list
  unfolding before
  list_there =
      let held = room.words_held in
      let own : length (take sizes.list words) ≡ sizes.list = length-take-le sizes.list words (omega (arith, held.room, held.within)) in
      ap (λ (k : ℕ). take k altered) (sub-zero n) ∙ holds.is
      ∙ ap (λ (k : ℕ). cut_to k (take sizes.list words)) (list-is ∙ ap (list_length kind) (sym own))

  row_there : take (m - 0) altered-keys ≡ (altered_by kind before).row
  unfolding before
  row_there =
      let held = room.keys_held in
      let own : length (take sizes.row keys) ≡ sizes.row = length-take-le sizes.row keys (omega (arith, held.room, held.within)) in
      ap (λ (k : ℕ). take k altered-keys) (sub-zero m) ∙ holds-keys.is
      ∙ ap (λ (k : ℕ). cut_to k (take sizes.row keys)) (row_is ∙ ap (row_length_for kind) (sym own))

  pub line_done :
      {p : Pair} {called called-keys after after-keys : List ℕ} →
      KindMade kind (engines_of (take (n - 0) altered) (take (m - 0) altered-keys)) p (engines_of called called-keys) → Held most_words after n →
      take n after ≡ called → Held most_row_words after-keys m → take m after-keys ≡ called-keys →
      LineDone kind (held_in words keys sizes) after after-keys (record { list = n; row = m; answers = p })
  unfolding answers_to left_by before
  line_done made held first held-keys second =
      let there : engines_of (take (n - 0) altered) (take (m - 0) altered-keys) ≡ altered_by kind (held_in words keys sizes) =
      λ i. engines_of (list_there i) (row_there i) in
      let left = made.left ∙ ap (kind_leaves kind) there in
      record {
        words_are = record { held = held; is = first ∙ ap (λ (e : Engines). e.list) left };
        keys_are = record { held = held-keys; is = second ∙ ap (λ (e : Engines). e.row) left };
        answers_are = made.reply ∙ ap (kind_reply kind) there;
      }

-- what a line that is done leaves
pub line_leaves_lem :
    {kind : Kind} {before : Engines} {words keys : List ℕ} {r : Done} → LineDone kind before words keys r →
    held_in words keys (record { list = r.list; row = r.row }) ≡ left_by kind before
line_leaves_lem done = λ i. engines_of (done.words_are.is i) (done.keys_are.is i)
