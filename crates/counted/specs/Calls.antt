-- Sequences of counted calls, batches among them, as a host makes them on a list and its class record.
use Rattle.std.specs.Prelude.{List, [], ◌∷◌, ℕ}
use Rattle.answers.specs.Refusals.{Outcome}
use Rattle.calls.specs.Records.{Lent}
use Rattle.calls.specs.Calls.{Made, lending}
use Rattle.calls.specs.Batch.{BatchLent, batch_lent}
use Rattle.counted.specs.Counted.{Beside, beside, counted_out, counted_batch_out}

-- The words of a list and its class record, which the host keeps from call to call.
abbrev pub CountedList : Type 0
CountedList = Beside (List ℕ)

-- A counted call as a host makes it, with whatever else it lends.
pub data CountedMade : Type 0 where
  single : Made → CountedMade
  batched : (calls answers : List ℕ) → CountedMade

-- the outcome of a call, and of a batch, as it is made on them
abbrev pub made_on_counted : Made → CountedList → Outcome (Beside Lent)
made_on_counted made p = counted_out made.call (beside (lending made p.lent) p.classes)

abbrev pub batch_on_counted : List ℕ → List ℕ → CountedList → Outcome (Beside BatchLent)
batch_on_counted calls answers p = counted_batch_out calls (beside (batch_lent p.lent answers) p.classes)

-- the words and the record that a call leaves
unfoldable pub after_counted : CountedMade → CountedList → CountedList
after_counted (single made) p = beside (made_on_counted made p).left.lent.words (made_on_counted made p).left.classes
after_counted (batched calls answers) p = beside (batch_on_counted calls answers p).left.lent.words (batch_on_counted calls answers p).left.classes

-- .. and those that a sequence of calls leaves
unfoldable pub after_all_counted : List CountedMade → CountedList → CountedList
after_all_counted [] p = p
after_all_counted (made ∷ calls) p = after_all_counted calls (after_counted made p)
