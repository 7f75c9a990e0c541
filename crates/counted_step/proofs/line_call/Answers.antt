-- `counted_step::line_call` meets its contract, by the case of the line.
use Rattle.std.specs.Prelude.{Some}
use mathlib.Core.Path.{refl, ap}
use Rattle.answers.specs.declared.Answer.{Answer}
use Rattle.counted_step.proofs.line_call.Goals as goal

pub returns-in-Listed : goal.returns-in-Listed
returns-in-Listed c =
    let made = c.kind_call.ensures in
    rw c.in-Listed.is (record { reply = made.reply; left = made.left })

pub returns-in-ClassWords : goal.returns-in-ClassWords
returns-in-ClassWords c = rw c.in-ClassWords.is (record { reply = refl; left = refl })

pub returns-in-ClassWord : goal.returns-in-ClassWord
returns-in-ClassWord c = rw c.in-ClassWord.is (record { reply = refl; left = refl })

pub returns-in-Class : goal.returns-in-Class
returns-in-Class c = rw c.in-Class.is (record { reply = ap (λ (a : Answer). Some a) c.counted_class.ensures.answered; left = refl })
