-- A list over a restart: what is written is read again, as a list with the same takes; what is read was written; and a read list is one from
-- fresh.
use mathlib.Core.Path.{◌≡◌, refl, sym, ◌∙◌, ap, ap₂, subst}
use mathlib.Core.Bool.{true}
use mathlib.Core.List.{List, ◌++◌, map}
use Prim.Native.Nat.{ℕ, ◌≤◌}
use lib.ListN.{length, take, drop}
use lib.Seq.{take_at}
use borrow.Author.Tests.{eq-eqb}
use Rattle.settings.specs.Numbers.{length_of}
use Rattle.settings.specs.declared.Settings.{Settings}
use Rattle.files.specs.Files.{Pair, file_of, settings_in, pairs_in}
use Rattle.files.specs.Promises.{Kept}
use Rattle.files.proofs.Files.{keepable, file_keeps, file_written}
use Rattle.files.proofs.Promises.{written_is_read}
use Rattle.meaning.specs.Reading.{read, settings_at, is_list}
use Rattle.answers.specs.Refusals.{Outcome, accepted, answer}
use Rattle.calls.specs.Pairs.{live_pairs}
use Rattle.calls.specs.Saved.{FileLent, file_lent, write_out, read_out}
use Rattle.calls.specs.Calls.{operated, outcome, after_calls}
use Rattle.calls.specs.Promises.{ReadList, ReadIsFresh, ValuesFit, Restarted, WriteThenRead, FileIsWritten}
use Rattle.answers.specs.declared.Operation.TheVariants.{Insert, Finish}
use Rattle.meaning.proofs.Pictures.ReadBack.{list_sound}
use Rattle.meaning.proofs.Outcomes.{set_up_outcome}
use Rattle.calls.proofs.Restarted.Saved.{state_kept, list_length_lem, file_for, write_outcome, write_accepted, read_accepted, read_is_calls, read_gives_list}
use Rattle.calls.proofs.Booked.Book.{takes_in_turn}

-- What is written is read

list_kept : (ws : List ℕ) → is_list ws ≡ true → ValuesFit ws → Kept (settings_at ws) (live_pairs ws)
unfolding read
list_kept ws e fits = record { keeps_them = state_kept (read ws) (list_sound ws e); base = (list_sound ws e).base; values = fits }

-- a file of settings and pairs that may be kept is read
read_written : (s : Settings) (pairs : List Pair) (words : List ℕ) → Kept s pairs → length words ≡ length_of s.dimensions s.cells →
    (read_out (file_lent words (file_of s pairs))).answered ≡ answer 0 0 0 (length pairs)
unfolding read_out
read_written s pairs words kept exact =
    rw ((written_is_read s pairs kept).1.1, eq-eqb (length words) (length_of s.dimensions s.cells) exact) refl

module _ (lent : FileLent) (words : List ℕ) (fits : ValuesFit lent.words) (z : (write_out lent).answered.refusal ≡ 0) where
  s : Settings
  s = settings_at lent.words

  pairs : List Pair
  pairs = live_pairs lent.words

  kept : Kept s pairs
  unfolding s pairs
  kept = list_kept lent.words (write_accepted lent z).0 fits

  -- the bytes that the answer counts are the file
  written_file : take (write_out lent).answered.count (write_out lent).left.file ≡ file_for lent.words
  written_file =
      let a = write_accepted lent z in
      let file = file_for lent.words in
      ap (λ o. take o.answered.count o.left.file) (write_outcome lent a.0 a.1)
      ∙ take_at file (drop (length file) lent.file) (length file) refl

  read_again : (file : List ℕ) → file ≡ file_for lent.words → length words ≡ length lent.words →
      ((read_out (file_lent words file)).answered ≡ answer 0 0 0 (length pairs)) × ReadList (read_out (file_lent words file)).left.words s pairs
  unfolding s pairs
  read_again file e long =
      let is = file_for lent.words in
      let read = read_written s pairs words kept (long ∙ list_length_lem lent.words (write_accepted lent z).0) in
      let list = read_gives_list (file_lent words is) (ap (λ a. a.refusal) read) in
      let same = written_is_read s pairs kept in
      let us = (read_out (file_lent words is)).left.words in
      rw e (read, subst (λ t. ReadList us t pairs) same.0 (subst (ReadList us (settings_in is)) same.1.0 list))

-- so it is taken from as the one that was written
restarted : (ws us : List ℕ) → is_list ws ≡ true → ReadList us (settings_at ws) (live_pairs ws) → Restarted ws us
restarted ws us e list =
    record {
      list = list;
      takes_same = λ n. takes_in_turn us list.list n ∙ ap (take n) list.live ∙ sym (takes_in_turn ws e n);
    }

pub write_then_read : WriteThenRead
unfolding s pairs
write_then_read lent words fits z long =
    let again = read_again lent words fits z _ (written_file lent words fits z) long in
    (again.0, restarted lent.words _ (write_accepted lent z).0 again.1)

-- a list with these settings and pairs is written so
abbrev written_into : List ℕ → List ℕ → List ℕ → Outcome FileLent
written_into ws file bytes = accepted 0 0 (length bytes) (file_lent ws (bytes ++ drop (length bytes) file))

written_so : (ws file : List ℕ) (s : Settings) (pairs : List Pair) → ReadList ws s pairs → length (file_of s pairs) ≤ length file →
    write_out (file_lent ws file) ≡ written_into ws file (file_of s pairs)
written_so ws file s pairs list room =
    let same : file_for ws ≡ file_of s pairs = ap₂ file_of list.settings list.live in
    write_outcome (file_lent ws file) list.list (subst (λ f. length f ≤ length file) (sym same) room) ∙ ap (written_into ws file) same

pub file_is_written : FileIsWritten
file_is_written lent file z room =
    let same = file_written lent.file (read_accepted lent z).0 in
    let ws = (read_out lent).left.words in
    written_so ws file (settings_in lent.file) (pairs_in lent.file) (read_gives_list lent z)
    (subst (λ f. length f ≤ length file) (sym same) room)
    ∙ ap (written_into ws file) same

-- A read list is one from fresh

pub read_is_fresh : ReadIsFresh
unfolding after_calls outcome
read_is_fresh lent z =
    let a = read_accepted lent z in
    let s = settings_in lent.file in
    let pairs = pairs_in lent.file in
    record {
      D = s.dimensions;
      K = s.largest;
      C = s.cells;
      lent = lent.words;
      calls = map (λ p. operated (Insert p.key p.value)) pairs ++ map (λ p. operated (Finish p.key)) pairs;
      accepted =
          ap (λ o. o.answered.refusal) (
          set_up_outcome s.dimensions s.largest s.cells lent.words (keepable s pairs (file_keeps lent.file a.0)).ranges a.1
          );
      left = (read_is_calls lent z).1.0;
    }
