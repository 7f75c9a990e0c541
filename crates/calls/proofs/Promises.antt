-- The promises of specs/Promises.antt, each proved.
use mathlib.Core.Path.{◌∙◌, sym, ap}
use mathlib.Core.Bool.{cond}
use borrow.Author.Tests.{eq-eqb}
use Rattle.answers.specs.Refusals.{Outcome}
use Rattle.meaning.specs.Operations.{insert_out}
use Rattle.calls.specs.Records.{Lent, asked_out}
use Rattle.calls.specs.Promises.{ListsStayLists, CallsKeepLists, CallsKeepSettings, RefusedAltersNothing, LookedIsWalk}
use Rattle.calls.specs.Promises.{TakesInTurn, TakesEnd, CallsAreBooked}
use Rattle.calls.specs.Promises.{AnswersAreBooked, OneOutcome, RecordIsInsert, LastIsValue, BatchIsCalls, RefusedBatchAltersNothing, BatchRefusals}
use Rattle.calls.specs.Promises.{OwedCellsStandFromFresh, NineIsRetired, RunPasses, RunPassesAtMost, RunWithInsertsPasses}
use Rattle.calls.specs.Promises.{ReadIsCalls, ReadGivesList, ReadIsFresh, WriteThenRead, FileIsWritten}
use Rattle.answers.proofs.Refusals.{table}
use Rattle.meaning.proofs.Promises.{lists_count_walks, owed_cells_stand}
use Rattle.calls.proofs.Ends as ends
use Rattle.calls.proofs.Ends.{record_asks, accepted_on_list}
use Rattle.calls.proofs.Booked.Book as book
use Rattle.calls.proofs.Batch as batch
use Rattle.calls.proofs.Runs as runs
use Rattle.calls.proofs.Restarted.Saved as saved
use Rattle.calls.proofs.Restarted.Restart as restart

pub one_outcome : OneOutcome
one_outcome Lent o r s one other m n = (m.answered ∙ sym n.answered, m.left ∙ sym n.left)

pub looked_is_walk : LookedIsWalk
looked_is_walk ws fresh = lists_count_walks ws (book.lists_stay_lists ws fresh)

-- Records

pub record_is_insert : RecordIsInsert
record_is_insert lent e key number asks =
    let o = record_asks lent e ∙ ap (asked_out lent) asks in
    (ap (λ (p : Outcome Lent). p.answered) o, ap (λ (p : Outcome Lent). p.left.words) o)

pub last_is_value : LastIsValue
last_is_value lent key number asks z =
    let o = record_asks lent (accepted_on_list lent z) ∙ ap (asked_out lent) asks in
    let y = sym (ap (λ (p : Outcome Lent). p.answered.refusal) o) ∙ z in
    ap (λ (p : Outcome Lent). p.left.last) o ∙ ap (λ t. cond t number lent.last) (eq-eqb (insert_out lent.words key number).answered.refusal 0 y)

-- Promises whose law is stated elsewhere, of lists already.

pub lists_stay_lists : ListsStayLists
lists_stay_lists = book.lists_stay_lists

pub calls_keep_lists : CallsKeepLists
calls_keep_lists = book.calls_keep_lists

pub calls_keep_settings : CallsKeepSettings
calls_keep_settings = book.calls_keep_settings

pub batch_is_calls : BatchIsCalls
batch_is_calls = batch.batch_is_calls

pub refused_batch_alters_nothing : RefusedBatchAltersNothing
refused_batch_alters_nothing = batch.refused_batch_alters_nothing

pub batch_refusals : BatchRefusals
batch_refusals = batch.batch_refusals

pub owed_cells_stand_from_fresh : OwedCellsStandFromFresh
owed_cells_stand_from_fresh ws from = owed_cells_stand ws (lists_stay_lists ws from)

pub nine_is_retired : NineIsRetired
nine_is_retired = (λ r. (table r).1, (ends.call_never_nine, batch.batch_never_nine))

pub run_passes : RunPasses
run_passes = runs.run_passes

pub run_passes_at_most : RunPassesAtMost
run_passes_at_most = runs.run_passes_at_most

pub run_with_inserts_passes : RunWithInsertsPasses
run_with_inserts_passes = runs.run_with_inserts_passes

pub read_is_calls : ReadIsCalls
read_is_calls = saved.read_is_calls

pub read_gives_list : ReadGivesList
read_gives_list = saved.read_gives_list

pub read_is_fresh : ReadIsFresh
read_is_fresh = restart.read_is_fresh

pub write_then_read : WriteThenRead
write_then_read = restart.write_then_read

pub file_is_written : FileIsWritten
file_is_written = restart.file_is_written

pub refused_alters_nothing : RefusedAltersNothing
refused_alters_nothing = ends.refused_alters_nothing

pub takes_in_turn : TakesInTurn
takes_in_turn = book.takes_in_turn

pub takes_end : TakesEnd
takes_end = book.takes_end

pub calls_are_booked : CallsAreBooked
calls_are_booked = book.calls_are_booked

pub answers_are_booked : AnswersAreBooked
answers_are_booked = book.answers_are_booked
