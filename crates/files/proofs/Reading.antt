-- Each way out of the reading of a whole file answers what the bytes are read as: where a test fails, they pass not all tests of a file,
-- and past the last they do.
use Rattle.std.specs.Prelude.{None, Option, Some}
use mathlib.Core.Path.{◌≡◌, refl, sym, ap, ap₂, ◌∙◌}
use mathlib.Core.Bool.{Bool, true, false, false≢true}
use mathlib.Core.List.{List}
use Prim.Native.Nat.{ℕ, ◌+◌, ◌-◌, ◌≤◌, ◌<◌}
use native.Mathlib.Omega.{arith}
use lib.ListN.{length, take, drop}
use borrow.Rule.Slice.PartMut.{mid_of}
use Rattle.lists.specs.Lists.{same}
use Rattle.lists.proofs.Same.{same_refl, same_eq}
use Rattle.settings.specs.Numbers.{in_range, most_cells}
use Rattle.settings.specs.Checked.{checked_of}
use Rattle.settings.specs.declared.Settings.{Settings}
use Rattle.settings.proofs.Numbers.{ranges}
use Rattle.settings.proofs.Ranges.{checked_out, checked_in}
use Rattle.files.specs.Files.{count_width, entries_start, before, file_length, table_of, number_on, number_at, settings_in, width_in, count_in, pairs_from, pairs_in, rising, contents_of}
use Rattle.files.proofs.Numbers.{Bytes}
use Rattle.files.proofs.Parts.{part_read}
use Rattle.files.proofs.Table.{table_tag}
use Rattle.files.proofs.Files.{tested_length, tested_table, pairs_behind, written_again, no_file, a_file}

-- the bytes up to the pairs are there
pub too_short : (bytes : List ℕ) → length bytes < entries_start → contents_of bytes ≡ None
too_short bytes h = no_file bytes (λ t. omega (arith, h, tested_length bytes t))

pub no_number : (bytes : List ℕ) {width : ℕ} → width ≡ width_in bytes → length bytes < entries_start + width → contents_of bytes ≡ None
no_number bytes e h =
    no_file bytes (λ t. omega (arith, h, e, ap count_width (table_tag bytes (count_in bytes) (tested_table bytes t)), tested_length bytes t))

-- the number read from the part of so many bytes is the number of the pairs
pub number_in :
    (bytes : List ℕ) {width n : ℕ} → width ≡ width_in bytes → n ≡ number_on 0 (mid_of entries_start (entries_start + width - entries_start) bytes) →
    n ≡ count_in bytes
number_in bytes e is = is ∙ part_read bytes entries_start (width_in bytes) refl (ap (λ w. entries_start + w) e)

module _ (bytes : List ℕ) {checked : Option Settings} (read : checked ≡ checked_of (number_at 4 19 bytes) (number_at 4 23 bytes) (number_at 4 27 bytes)) where
  pub out_of_range : checked ≡ None → contents_of bytes ≡ None
  out_of_range e =
      no_file bytes (λ t. false≢true (sym (checked_out (number_at 4 19 bytes) (number_at 4 23 bytes) (number_at 4 27 bytes) read e) ∙ t.range))

  module _ {s : Settings} (accepted : checked ≡ Some s) where
    settings : (in_range (number_at 4 19 bytes) (number_at 4 23 bytes) (number_at 4 27 bytes) ≡ true) × (s ≡ settings_in bytes)
    settings = checked_in (number_at 4 19 bytes) (number_at 4 23 bytes) (number_at 4 27 bytes) read accepted

    cells : s.cells ≡ number_at 4 27 bytes
    cells = ap (λ (t : Settings). t.cells) settings.1

    -- a number of pairs that the cells have room for is below the most cells
    pub number_small : {n : ℕ} → n < s.cells → n < most_cells
    number_small h =
        omega (arith, h, cells, (ranges (number_at 4 19 bytes) (number_at 4 23 bytes) (number_at 4 27 bytes) settings.0).cells_most)

    module _ {n : ℕ} (is : n ≡ count_in bytes) where
      pub too_many : s.cells ≤ n → contents_of bytes ≡ None
      too_many h = no_file bytes (λ t. omega (arith, h, is, cells, t.few))

      pub wrong_length : {long : ℕ} → long ≡ file_length n → (length bytes ≡ long → ⊥) → contents_of bytes ≡ None
      wrong_length e differ = no_file bytes (λ t. differ (tested_length bytes t ∙ ap file_length (sym is) ∙ sym e))

      pub wrong_table : {right : Bool} → right ≡ same (table_of n) (take 19 bytes) → right ≡ false → contents_of bytes ≡ None
      wrong_table e fails =
          no_file bytes (λ t. false≢true (sym fails ∙ e ∙ rw (tested_table bytes t, is) (same_refl (table_of (count_in bytes)))))

      rises : {r : Bool} → take 19 bytes ≡ table_of (count_in bytes) → r ≡ rising 0 s.largest (pairs_from n (drop (before n) bytes)) →
          r ≡ rising 0 (number_at 4 23 bytes) (pairs_in bytes)
      rises table e =
          e ∙ ap₂ (λ m (t : Settings). rising 0 t.largest (pairs_from m (drop (before m) bytes))) is settings.1
          ∙ ap (rising 0 (number_at 4 23 bytes)) (sym (pairs_behind bytes table))

      pub not_rising : {r : Bool} → r ≡ rising 0 s.largest (pairs_from n (drop (before n) bytes)) → r ≡ false → contents_of bytes ≡ None
      not_rising e fails = no_file bytes (λ t. false≢true (sym fails ∙ rises (tested_table bytes t) e ∙ t.rise))

      pub all_right :
          {long : ℕ} {right r : Bool} → Bytes bytes → long ≡ file_length n → length bytes ≡ long → right ≡ same (table_of n) (take 19 bytes) →
          right ≡ true → n < s.cells → r ≡ rising 0 s.largest (pairs_from n (drop (before n) bytes)) → r ≡ true → contents_of bytes ≡ Some (s, n)
      all_right b long so-long table begun few rise risen =
          let begins : table_of n ≡ take 19 bytes = same_eq (table_of n) (take 19 bytes) (sym table ∙ begun) in
          let front : take 19 bytes ≡ table_of (count_in bytes) = sym begins ∙ ap table_of is in
          rw (settings.1, is) (
          a_file bytes (record {
            range = settings.0;
            few = omega (arith, few, is, cells);
            rise = sym (rises front rise) ∙ risen;
            is = written_again bytes b (so-long ∙ long ∙ ap file_length is) front;
          })
          )
