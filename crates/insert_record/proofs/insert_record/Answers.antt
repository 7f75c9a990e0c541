-- `insert_record::insert_record` meets its contract: a note that is none, and a number that does not fit, are refused; else the key is inserted.
use mathlib.Core.Path.{refl}
use borrow.Author.Tests.{eq-eqb, ne_eqb}
use borrow.Author.Rules.{rules}
use native.Mathlib.Omega.{arith}
use Rattle.insert_record.proofs.Asked.{note_within, no_note_asks, outside_asks, note_asks_lem, refused_meets, inserted_meets}
use Rattle.insert_record.proofs.insert_record.Goals as goal

pub returns-in_default : goal.returns-in_default
returns-in_default c =
    let last = c.args.last.now in
    refused_meets c.requires.0 c.args.logged last (no_note_asks last c.in_default.is) c.refused.ensures

pub full_number-requires : goal.full_number-requires
full_number-requires c = omega (arith, (note_within c.in-Some.is c.requires.1).number)

pub returns-in_default-full_number : goal.returns-in_default-full_number
returns-in_default-full_number c =
    let last = c.args.last.now in
    refused_meets c.requires.0 c.args.logged last
    (outside_asks last c.in-Some.is c.full_number.ensures c.in_default-full_number.is) c.refused-in_default-full_number.ensures

pub key-requires : goal.key-requires
key-requires c = (note_within c.in-Some.is c.requires.1).entry

pub insert-answer-requires : goal.insert-answer-requires
insert-answer-requires c = c.requires.0

pub returns-then-answer-eq0 : goal.returns-then-answer-eq0
returns-then-answer-eq0 c =
    let last = c.args.last.now in
    inserted_meets c.requires.0 c.args.logged last
    (note_asks_lem last c.in-Some.is c.full_number.ensures c.in-Some-full_number.is c.key.ensures)
    c.insert-answer.ensures (rw (eq-eqb c.insert-answer.result.refusal 0 (search rules)) refl)

pub returns-else-answer-eq0 : goal.returns-else-answer-eq0
returns-else-answer-eq0 c =
    let last = c.args.last.now in
    inserted_meets c.requires.0 c.args.logged last
    (note_asks_lem last c.in-Some.is c.full_number.ensures c.in-Some-full_number.is c.key.ensures)
    c.insert-answer.ensures (rw (ne_eqb c.insert-answer.result.refusal 0 (search rules)) refl)
