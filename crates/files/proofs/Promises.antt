-- The promises of files. Bytes that pass the tests are the file of what is read out of them; the file of what may be kept passes them,
-- since reading undoes writing.
use mathlib.Core.Path.{◌≡◌, refl, sym}
use mathlib.Core.Bool.{true}
use mathlib.Core.List.{List}
use Prim.Native.Nat.{ℕ, zero, suc, ◌*◌, ◌≤◌}
use native.Mathlib.Omega.{arith}
use lib.Dec.{ltb}
use lib.ListN.{length, drop, length-drop}
use borrow.Author.Tests.{lt-ltb}
use Rattle.lists.proofs.All.{All, all_every}
use Rattle.files.specs.Files.{before, number_at, settings_in, count_in, pairs_from, pairs_in, is_file}
use Rattle.files.specs.Promises.{Kept, FilesExactly, WrittenIsRead}
use Rattle.files.proofs.Numbers.{Bytes, bytes_drop}
use Rattle.files.proofs.Parts.{number_at_below}
use Rattle.files.proofs.Files.{tested, tested_length, tested_table, pairs_behind, file_keeps, file_bytes, settings_read, pairs_read, file_is_file, contents_read}

-- values that are read out of bytes have 32 bits
values_fit : (n : ℕ) (bytes : List ℕ) → Bytes bytes → 8 * n ≤ length bytes → All (λ p. ltb p.value 4294967296 ≡ true) (pairs_from n bytes)
unfolding pairs_from
values_fit zero bytes b h = tt
values_fit (suc n) bytes b h = (
  lt-ltb (number_at 4 4 bytes) 4294967296 (omega (arith, number_at_below bytes b 4 4 (omega arith))),
  values_fit n (drop 8 bytes) (bytes_drop 8 bytes b) (omega (arith, length-drop 8 bytes)),
)

read_kept : (bytes : List ℕ) → is_file bytes ≡ true → Kept (settings_in bytes) (pairs_in bytes)
read_kept bytes e =
    let t = tested bytes e in
    let b : Bytes bytes = rw (← t.is) (file_bytes (settings_in bytes) (pairs_in bytes)) in
    let n = count_in bytes in
    let rest = drop (before n) bytes in
    record {
      keeps_them = file_keeps bytes e;
      base = refl;
      values =
          rw (pairs_behind bytes (tested_table bytes t))
          (all_every (λ p. ltb p.value 4294967296) (pairs_from n rest)
          (values_fit n rest (bytes_drop (before n) bytes b) (omega (arith, length-drop (before n) bytes, tested_length bytes t))));
    }

pub files_exactly : FilesExactly
files_exactly bytes = (
  (λ e. record { settings = settings_in bytes; pairs = pairs_in bytes; kept = read_kept bytes e; is = sym (tested bytes e).is }),
  (λ f. rw f.is (file_is_file f.settings f.pairs f.kept)),
)

pub written_is_read : WrittenIsRead
written_is_read s pairs kept = (settings_read s pairs kept, (pairs_read s pairs kept, contents_read s pairs kept))
