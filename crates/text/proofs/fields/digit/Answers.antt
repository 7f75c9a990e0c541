-- `text::fields::digit` meets its contract: a byte that is no digit ends the number, and so does a digit after a single 0.
use mathlib.Core.Path.{refl, sym, ◌∙◌}
use borrow.Author.Rules.{rules}
use Rattle.text.specs.Answers.{digit_on}
use Rattle.text.proofs.Numerals.{none_on, first_is, zero_ends, further_is}
use Rattle.text.proofs.fields.digit.Goals as goal

pub returns-then-not-is_ascii_digit : goal.returns-then-not-is_ascii_digit
returns-then-not-is_ascii_digit c =
    let a = c.args in none_on a.most a.byte a.begun (sym c.is_ascii_digit.ensures.value ∙ c.if-not-is_ascii_digit.true)

pub returns-in-NoDigit : goal.returns-in-NoDigit
returns-in-NoDigit c =
    let a = c.args in
    rw c.in-NoDigit.is (c.up_to.ensures ∙ first_is a.most a.byte (sym c.is_ascii_digit.ensures.value ∙ c.if-not-is_ascii_digit.false))

pub returns-in-Value-eq0 : goal.returns-in-Value-eq0
returns-in-Value-eq0 c = let a = c.args in rw c.in-Value-eq0.is (zero_ends a.most a.byte c.in-Value-eq0.field-0 (search rules))

pub returns-in-Value : goal.returns-in-Value
returns-in-Value c =
    let a = c.args in
    rw c.in-Value.is
    (c.up_to-in-Value.ensures ∙ further_is a.most a.byte c.in-Value.n (search rules) (sym c.is_ascii_digit.ensures.value ∙ c.if-not-is_ascii_digit.false))

pub returns-in-NoNumber : goal.returns-in-NoNumber
unfolding digit_on
returns-in-NoNumber c = rw c.in-NoNumber.is refl
