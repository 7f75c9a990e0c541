-- The call that a line of a trace makes on what is held, and what it is answered.
use Rattle.answers.specs.declared.Answer.{Answer}
use Rattle.std.specs.Prelude.{◌≡◌, None, Option, Some}
use Rattle.answers.specs.Refusals.{answer_of}
use Rattle.answers.specs.declared.Refusal.TheVariants.{LineNotReadable}
use Rattle.calls.specs.Records.{Lent}
use Rattle.calls.specs.Calls.{outcome}
use Rattle.trace.specs.declared.Kind.{Kind}
use Rattle.trace.specs.declared.Kind.TheVariants.{Fresh, Make, Put, Length, Bytes, Add, PutByte, Last, Unreadable}

-- what a line is answered; P, L, B, H, Q and O make no call
abbrev pub reply_of : Kind → Lent → Option Answer
reply_of (Fresh n call) lent = Some (outcome call lent).answered
reply_of (Make call) lent = Some (outcome call lent).answered
reply_of (Put index value) lent = None
reply_of (Length n) lent = None
reply_of (Bytes n) lent = None
reply_of Add lent = None
reply_of (PutByte index value) lent = None
reply_of (Last number) lent = None
reply_of Unreadable lent = Some (answer_of LineNotReadable)

-- what is held after the call
abbrev pub after_call : Kind → Lent → Lent
after_call (Fresh n call) lent = (outcome call lent).left
after_call (Make call) lent = (outcome call lent).left
after_call (Put index value) lent = lent
after_call (Length n) lent = lent
after_call (Bytes n) lent = lent
after_call Add lent = lent
after_call (PutByte index value) lent = lent
after_call (Last number) lent = lent
after_call Unreadable lent = lent

-- A line's call was made: its reply, and what is held after it.
pub record Called (kind : Kind) (lent : Lent) (r : Option Answer) (after : Lent) : Type 0 where
  pub reply : r ≡ reply_of kind lent
  pub left : after ≡ after_call kind lent
