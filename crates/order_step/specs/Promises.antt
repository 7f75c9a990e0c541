-- What is promised of the program's lines: Entries 4.
use Rattle.std.specs.Prelude.{◌≡◌, true, List, ℕ}
use Rattle.settings.specs.Numbers.{most_largest}
use Rattle.text.specs.Lines.{Handed}
use Rattle.text.specs.Parts.{after_all}
use Rattle.meaning.specs.Words.{largest_at}
use Rattle.meaning.specs.Reading.{is_list}
use Rattle.report.specs.Answered.{leaving}
use Rattle.order_step.specs.Step.{line_outcome}

-- From a list with the largest K, as the program's is when it is set up, no line is answered 4, whatever lines came before it: every
-- entry has a key.
abbrev pub NeverFour : Type 0
NeverFour =
    (before : List Handed) (h : Handed) (ws : List ℕ) → is_list ws ≡ true → largest_at ws ≡ most_largest →
    (line_outcome h (after_all (leaving line_outcome) ws before)).answered.refusal ≡ 4 → ⊥
