-- A list's book, what each call does to it, and what each call answers by it. Crate book says this of the five operations; here are the calls beside
-- them: set up, record, write and read.
use Rattle.settings.specs.declared.Settings.{Settings}
use Rattle.std.specs.Prelude.{true, cond, List, [], ◌∷◌, map, ℕ, eqb, leb, length, None, Option, Some}
use Rattle.settings.specs.Numbers.{in_range, length_of}
use Rattle.lists.specs.Lists.{those}
use Rattle.answers.specs.declared.Answer.{Answer}
use Rattle.answers.specs.Refusals.{answer, answer_of}
use Rattle.answers.specs.declared.Refusal.TheVariants.{OutOfRange, WrongLength, BadFile, NoRoom}
use Rattle.answers.specs.declared.Operation.{Operation}
use Rattle.answers.specs.declared.Operation.TheVariants.{Insert, Find, Finish, Take, Sweep}
use Rattle.book.specs.Book.{StandingKey, standing_key, Book, operation_book}
use Rattle.files.specs.Files.{Pair, file_length, contents_of}
use Rattle.meaning.specs.Row.{Node}
use Rattle.meaning.specs.State.{position_key}
use Rattle.meaning.specs.Reading.{read}
use Rattle.meaning.specs.Words.{largest_at, cells_at}
use Rattle.calls.specs.Records.{Asked, nothing, insertion}
use Rattle.calls.specs.Effects.{Effect, keeping, inserting, taking, sweeping, renewing, asked_in, effect}
use Rattle.calls.specs.Calls.{Made}
use Rattle.calls.specs.declared.Call.TheVariants.{SetUp, Operate, Record, Write, Read}
use Rattle.calls.specs.declared.Call.{Call}

-- what a book tells of a standing cell
abbrev pub standing_key_of : Node → StandingKey
standing_key_of x = standing_key x.key x.value x.live

-- A list's book: its largest key and cells, its standing keys in ascending order, the position's key.
abbrev pub book_of : List ℕ → Book
book_of ws = record { largest = largest_at ws; cells = cells_at ws; row = map standing_key_of (read ws).row; position = position_key (read ws) }

-- a list made anew: the pairs are live and all that stands, the position is the head
abbrev pub renewed_book : ℕ → ℕ → List Pair → Book
renewed_book K C pairs = record { largest = K; cells = C; row = map (λ p. standing_key p.key p.value true) pairs; position = 0 }

-- what a call of this effect does
unfoldable pub booked_by : Effect → Book → Book
booked_by keeping k = k
booked_by (inserting key value) k = (operation_book (Insert key value) k).left
booked_by taking k = (operation_book Take k).left
booked_by sweeping k = (operation_book Sweep k).left
booked_by (renewing K C pairs) k = renewed_book K C pairs

-- what a call on a buffer of `long` words does
abbrev pub booked : Made → ℕ → Book → Book
booked made long k = booked_by (effect made long) k

-- what a sequence of calls does
unfoldable pub booked_all : List Made → ℕ → Book → Book
booked_all [] long k = k
booked_all (made ∷ calls) long k = booked_all calls long (booked made long k)

-- What a call answers, but for looked and the links moved, which are no matter of the book: 0 stands for them.

abbrev pub uncounted : Answer → Answer
uncounted a = answer a.refusal a.key a.value 0

abbrev pub without_search : Operation → Answer → Answer
without_search (Insert key value) a = uncounted a
without_search (Find key) a = uncounted a
without_search (Finish key) a = uncounted a
without_search Take a = a
without_search Sweep a = a

-- .. a record looks as the insert does that it asks for
abbrev pub call_without_search : Call → Answer → Answer
call_without_search (SetUp D K C) a = a
call_without_search (Operate operation) a = without_search operation a
call_without_search Record a = uncounted a
call_without_search Write a = a
call_without_search Read a = a

-- What each call answers so, with the refusals in the order of Refusals 1; 3 is no list's.

-- set up: 1, then 2
abbrev pub set_up_reply : ℕ → ℕ → ℕ → ℕ → Answer
set_up_reply D K C long = cond (in_range D K C) (cond (eqb long (length_of D C)) (answer 0 0 0 0) (answer_of WrongLength)) (answer_of OutOfRange)

-- a record: what the insert that it asks for answers
abbrev pub asked_reply : Asked → Book → Answer
asked_reply (nothing refusal) k = uncounted (answer_of refusal)
asked_reply (insertion key number) k = (operation_book (Insert key number) k).answered

-- a write: the length of the file of what is live; 12 if the lent bytes are fewer
abbrev pub write_reply : ℕ → ℕ → Answer
write_reply file room = cond (leb file room) (answer 0 0 0 file) (answer_of NoRoom)

-- a read: the number of keys read; 11 if the bytes are no file, 2 if the buffer has not its length
abbrev pub read_reply : Option (Settings × ℕ) → ℕ → Answer
read_reply (Some (s, n)) long = cond (eqb long (length_of s.dimensions s.cells)) (answer 0 0 0 n) (answer_of WrongLength)
read_reply None long = answer_of BadFile

-- any call on a list of `long` words, where a record asks for this and these bytes are lent
unfoldable pub reply_to_call : Call → Asked → List ℕ → ℕ → Book → Answer
reply_to_call (SetUp D K C) asked bytes long k = set_up_reply D K C long
reply_to_call (Operate operation) asked bytes long k = (operation_book operation k).answered
reply_to_call Record asked bytes long k = asked_reply asked k
reply_to_call Write asked bytes long k = write_reply (file_length (length (those (λ x. x.live) k.row))) (length bytes)
reply_to_call Read asked bytes long k = read_reply (contents_of bytes) long

abbrev pub reply_to : Made → ℕ → Book → Answer
reply_to made long k = reply_to_call made.call (asked_in made) made.bytes long k
