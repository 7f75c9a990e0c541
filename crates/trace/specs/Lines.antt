-- What a line of a trace asks for: no more words, and no more bytes, than can be held.
use Rattle.std.specs.Prelude.{ℕ, ◌≤◌}
use Rattle.trace.specs.declared.Kind.{Kind}
use Rattle.trace.specs.declared.Kind.TheVariants.{Fresh, Make, Put, Length, Bytes, Add, PutByte, Last, Unreadable}

-- the most words and the most bytes that are held
abbrev pub most_words : ℕ
most_words = 155670

abbrev pub most_held : ℕ
most_held = 40000

-- the number of words that a line asks for, and 0 where it asks for none
abbrev pub length_in : Kind → ℕ
length_in (Fresh n call) = n
length_in (Make call) = 0
length_in (Put index value) = 0
length_in (Length n) = n
length_in (Bytes n) = 0
length_in Add = 0
length_in (PutByte index value) = 0
length_in (Last number) = 0
length_in Unreadable = 0

-- .. and of bytes
abbrev pub bytes_in : Kind → ℕ
bytes_in (Fresh n call) = 0
bytes_in (Make call) = 0
bytes_in (Put index value) = 0
bytes_in (Length n) = 0
bytes_in (Bytes n) = n
bytes_in Add = 0
bytes_in (PutByte index value) = 0
bytes_in (Last number) = 0
bytes_in Unreadable = 0

-- a line asks for no more than can be held
abbrev pub Fits : Kind → Type 0
Fits kind = (length_in kind ≤ most_words) × (bytes_in kind ≤ most_held)
