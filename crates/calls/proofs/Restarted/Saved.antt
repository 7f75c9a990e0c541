-- Write and read. What a list keeps may stand in a file, so that a file of it is read again; an accepted file is what writing gives. Reading is by
-- definition the calls that it stands for, and these leave the picture of the state that the file's pairs make (ReadIn.antt).
use Rattle.std.specs.Prelude.{None, Option, Some}
use mathlib.Core.Path.{◌≡◌, refl, sym, ◌∙◌, ap, subst}
use mathlib.Core.Bool.{Bool, true, false, ◌&&◌}
use mathlib.Core.List.{List, [], ◌∷◌, ◌++◌, map}
use Prim.Native.Nat.{ℕ, suc, ◌≤◌, ◌<◌}
use native.Mathlib.Decide.{ℕ_discrete, dec_le}
use native.Mathlib.Omega.{arith}
use lib.Dec.{leb, ltb}
use lib.ListN.{length, drop}
use borrow.Author.Tests.{eq-eqb, ne_eqb, lt-ltb, le-leb, lt-leb}
use Rattle.settings.specs.Numbers.{in_range, length_of}
use Rattle.settings.specs.declared.Settings.{Settings}
use Rattle.settings.proofs.Numbers.{in_range_lem}
use Rattle.lists.specs.Lists.{those}
use Rattle.lists.proofs.All.{All}
use Rattle.lists.proofs.Tests.{and_both, cond_has}
use Rattle.files.specs.Files.{Pair, file_of, settings_in, pairs_in, rising, keeps, is_file, contents_of}
use Rattle.files.proofs.Files.{file_keeps}
use Rattle.meaning.specs.Row.{Node}
use Rattle.meaning.specs.State.{State}
use Rattle.meaning.specs.Picture.{picture}
use Rattle.meaning.specs.Reading.{read, settings_at, is_list, reading_of}
use Rattle.answers.specs.Refusals.{Outcome, accepted, refused}
use Rattle.answers.specs.declared.Refusal.TheVariants.{WrongLength, NotAList, BadFile, NoRoom}
use Rattle.meaning.specs.Operations.{set_up_out}
use Rattle.calls.specs.Pairs.{live_pairs}
use Rattle.calls.specs.Saved.{FileLent, file_lent, written, write_on, write_out, inserted_all, finished_all, read_in, read_from, read_out}
use Rattle.calls.specs.Calls.{Made, operated, outcome, after_calls}
use Rattle.calls.specs.Promises.{file_calls, ReadIsCalls, ReadList, ReadGivesList}
use Rattle.calls.specs.Layer.ReadState.{read_state}
use Rattle.answers.specs.declared.Operation.TheVariants.{Insert, Finish}
use Rattle.meaning.proofs.Rows.AscendingRow.{Asc}
use Rattle.meaning.proofs.Pictures.State.{Sound}
use Rattle.meaning.proofs.Pictures.StateCells.{free_length}
use Rattle.meaning.proofs.Pictures.Picture.{picture_length}
use Rattle.meaning.proofs.Pictures.ReadBack.{list_is_picture}
use Rattle.calls.proofs.Booked.BookRow as rows
use Rattle.calls.proofs.Booked.BookRow.{pairs_live, pairs_dead}
use Rattle.calls.proofs.Restarted.ReadIn.{read_in_is, read_list}

-- What a list keeps

-- live pairs are no more than the nodes, ..
pairs_few : (row : List Node) → length (rows.pairs_in row) ≤ length row
unfolding those
pairs_few [] = omega arith
pairs_few (x ∷ row) = at x.live refl (pairs_few row)
  where
    at : (t : Bool) → x.live ≡ t → length (rows.pairs_in row) ≤ length row → length (rows.pairs_in (x ∷ row)) ≤ suc (length row)
    at true e h = rw (pairs_live x row e) (omega arith)
    at false e h = rw (pairs_dead x row e) (omega arith)

-- .. and their keys rise as the nodes' do
pairs_rise : (K below key : ℕ) (row : List Node) → below ≤ key → Asc key row → All (λ x. x.key ≤ K) row → rising below K (rows.pairs_in row) ≡ true
unfolding rising those
pairs_rise K below key [] h up all = refl
pairs_rise K below key (x ∷ row) h up all = at x.live refl (λ low le. pairs_rise K low x.key row le up.1 all.1)
  where
    above : below < x.key
    above = let l = up.0 in omega arith

    at : (t : Bool) → x.live ≡ t → ((low : ℕ) → low ≤ x.key → rising low K (rows.pairs_in row) ≡ true) → rising below K (rows.pairs_in (x ∷ row)) ≡ true
    at true e more =
        ap (rising below K) (pairs_live x row e)
        ∙ rw (lt-ltb below x.key above, le-leb x.key K all.0) (more x.key (omega arith))
    at false e more = ap (rising below K) (pairs_dead x row e) ∙ more below (omega arith)

pub state_kept : (s : State) → Sound s → keeps s.settings (rows.pairs_in s.row) ≡ true
unfolding keeps
state_kept s v =
    let D = s.settings.dimensions in
    let K = s.settings.largest in
    let C = s.settings.cells in
    let pairs = rows.pairs_in s.row in
    let few : length pairs < C = omega (arith, pairs_few s.row, free_length s v, v.ranges.cells_least) in
    and_both (in_range D K C && ltb (length pairs) C) (rising 0 K pairs)
    (and_both (in_range D K C) (ltb (length pairs) C) (in_range_lem D K C v.ranges) (lt-ltb (length pairs) C few))
    (pairs_rise K 0 0 s.row (omega arith) v.ascends v.keys)

pub list_length_lem : (ws : List ℕ) → is_list ws ≡ true → length ws ≡ length_of (settings_at ws).dimensions (settings_at ws).cells
unfolding read
list_length_lem ws e = ap length (sym (list_is_picture ws e)) ∙ picture_length (read ws)

-- Write, case by case

-- the file of a list
abbrev pub file_for : List ℕ → List ℕ
file_for ws = file_of (settings_at ws) (live_pairs ws)

pub write_outcome_not_a_list : (lent : FileLent) → is_list lent.words ≡ false → write_out lent ≡ refused NotAList lent
unfolding write_out reading_of
write_outcome_not_a_list lent e = rw e refl

write_on_list : (lent : FileLent) → is_list lent.words ≡ true → write_out lent ≡ written lent (file_for lent.words)
unfolding write_out reading_of
write_on_list lent e = rw e refl

pub write_outcome_no_room : (lent : FileLent) → is_list lent.words ≡ true → length lent.file < length (file_for lent.words) →
    write_out lent ≡ refused NoRoom lent
write_outcome_no_room lent e h = write_on_list lent e ∙ rw (lt-leb (length (file_for lent.words)) (length lent.file) h) refl

pub write_outcome : (lent : FileLent) → is_list lent.words ≡ true → length (file_for lent.words) ≤ length lent.file →
    let file = file_for lent.words in
    write_out lent ≡ accepted 0 0 (length file) (file_lent lent.words (file ++ drop (length file) lent.file))
write_outcome lent e h = write_on_list lent e ∙ rw (le-leb (length (file_for lent.words)) (length lent.file) h) refl

pub room_cases : {R : Type 0} (lent : FileLent) → (length lent.file < length (file_for lent.words) → R) →
    (length (file_for lent.words) ≤ length lent.file → R) → R
room_cases {R} lent small enough = at (dec_le (length (file_for lent.words)) (length lent.file))
  where
    at : Dec (length (file_for lent.words) ≤ length lent.file) → R
    at (yes h) = enough h
    at (no h) = small (omega arith)

-- an accepted write was of a list, with room
pub write_accepted : (lent : FileLent) → (write_out lent).answered.refusal ≡ 0 →
    (is_list lent.words ≡ true) × (length (file_for lent.words) ≤ length lent.file)
write_accepted lent z = at (is_list lent.words) refl
  where
    at : (t : Bool) → is_list lent.words ≡ t → (is_list lent.words ≡ true) × (length (file_for lent.words) ≤ length lent.file)
    at false e = absurd (omega (arith, z, ap (λ o. o.answered.refusal) (write_outcome_not_a_list lent e)))
    at true e =
        room_cases lent (λ h. absurd (omega (arith, z, ap (λ o. o.answered.refusal) (write_outcome_no_room lent e h)))) (λ h. (e, h))

-- a write keeps the words, accepted or not
pub write_keeps_words : (lent : FileLent) → (write_out lent).left.words ≡ lent.words
unfolding write_out
write_keeps_words lent = at (reading_of lent.words)
  where
    at : (reading : Option Settings) → (write_on lent reading).left.words ≡ lent.words
    at (Some s) = cond_has (λ (o : Outcome FileLent). o.left.words ≡ lent.words) (leb (length (file_of s (live_pairs lent.words))) (length lent.file)) _ _ refl refl
    at None = refl

-- Read, case by case

-- the buffer has the length that the file asks for
abbrev pub RightLength : FileLent → Type 0
RightLength lent = length lent.words ≡ length_of (settings_in lent.file).dimensions (settings_in lent.file).cells

pub read_outcome_bad_file : (lent : FileLent) → is_file lent.file ≡ false → read_out lent ≡ refused BadFile lent
unfolding read_out contents_of
read_outcome_bad_file lent e = rw e refl

read_of_file : (lent : FileLent) → is_file lent.file ≡ true → read_out lent ≡ read_from lent (Some (settings_in lent.file, length (pairs_in lent.file)))
unfolding read_out contents_of
read_of_file lent e = rw e refl

pub read_outcome_wrong_length : (lent : FileLent) → is_file lent.file ≡ true → (RightLength lent → ⊥) → read_out lent ≡ refused WrongLength lent
read_outcome_wrong_length lent e ne =
    let s = settings_in lent.file in
    read_of_file lent e ∙ rw (ne_eqb (length lent.words) (length_of s.dimensions s.cells) ne) refl

pub read_outcome : (lent : FileLent) → is_file lent.file ≡ true → RightLength lent →
    let pairs = pairs_in lent.file in
    read_out lent ≡ accepted 0 0 (length pairs) (file_lent (read_in (settings_in lent.file) pairs lent.words) lent.file)
read_outcome lent e exact =
    let s = settings_in lent.file in
    read_of_file lent e ∙ rw (eq-eqb (length lent.words) (length_of s.dimensions s.cells) exact) refl

pub read_cases : {R : Type 0} (lent : FileLent) → (is_file lent.file ≡ false → R) → (is_file lent.file ≡ true → (RightLength lent → ⊥) → R) →
    (is_file lent.file ≡ true → RightLength lent → R) → R
read_cases {R} lent bad wrong good =
    let s = settings_in lent.file in at (is_file lent.file) refl (ℕ_discrete (length lent.words) (length_of s.dimensions s.cells))
  where
    at : (t : Bool) → is_file lent.file ≡ t → Dec (RightLength lent) → R
    at false e d = bad e
    at true e (no ne) = wrong e ne
    at true e (yes exact) = good e exact

-- an accepted read was of a file, into a buffer of its length
pub read_accepted : (lent : FileLent) → (read_out lent).answered.refusal ≡ 0 → (is_file lent.file ≡ true) × RightLength lent
read_accepted lent z =
    read_cases lent
    (λ e. absurd (omega (arith, z, ap (λ o. o.answered.refusal) (read_outcome_bad_file lent e))))
    (λ e ne. absurd (omega (arith, z, ap (λ o. o.answered.refusal) (read_outcome_wrong_length lent e ne))))
    (λ e exact. (e, exact))

-- Reading is the calls that it stands for

inserted_calls : (pairs : List Pair) (calls : List Made) (ws : List ℕ) →
    after_calls (map (λ p. operated (Insert p.key p.value)) pairs ++ calls) ws ≡ after_calls calls (inserted_all pairs ws)
unfolding after_calls inserted_all outcome
inserted_calls [] calls ws = refl
inserted_calls (p ∷ pairs) calls ws = inserted_calls pairs calls _

finished_calls : (pairs : List Pair) (ws : List ℕ) → after_calls (map (λ p. operated (Finish p.key)) pairs) ws ≡ finished_all pairs ws
unfolding after_calls finished_all outcome
finished_calls [] ws = refl
finished_calls (p ∷ pairs) ws = finished_calls pairs _

read_calls : (s : Settings) (pairs : List Pair) (ws : List ℕ) → read_in s pairs ws ≡ after_calls (file_calls s pairs) ws
unfolding read_in after_calls outcome
read_calls s pairs ws =
    let fresh = (set_up_out s.dimensions s.largest s.cells ws).left in
    sym (inserted_calls pairs (map (λ p. operated (Finish p.key)) pairs) fresh ∙ finished_calls pairs (inserted_all pairs fresh))

pub read_is_calls : ReadIsCalls
read_is_calls lent z =
    let a = read_accepted lent z in
    let o = read_outcome lent a.0 a.1 in (
      ap (λ o. o.answered) o,
      (
        ap (λ o. o.left.words) o ∙ read_calls (settings_in lent.file) (pairs_in lent.file) lent.words,
        ap (λ o. o.left.file) o,
      ),
    )

-- .. and leaves the picture of the state that the pairs make
pub read_leaves : (lent : FileLent) → is_file lent.file ≡ true → RightLength lent →
    (read_out lent).left.words ≡ picture (read_state (settings_in lent.file) (pairs_in lent.file))
read_leaves lent e exact =
    ap (λ o. o.left.words) (read_outcome lent e exact)
    ∙ read_in_is (settings_in lent.file) (pairs_in lent.file) lent.words (file_keeps lent.file e) refl exact

pub read_gives_list : ReadGivesList
read_gives_list lent z =
    let a = read_accepted lent z in
    let s = settings_in lent.file in
    let pairs = pairs_in lent.file in
    subst (λ ws. ReadList ws s pairs) (sym (read_leaves lent a.0 a.1)) (read_list s pairs (file_keeps lent.file a.0) refl)
