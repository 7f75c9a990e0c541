-- What is asked one after the other: each is answered by its outcome on what those before it leave, and what is printed for it is refusal,
-- key, value and count of its own answer, and a line feed.
use Rattle.std.specs.Prelude.{◌≡◌, List, ℕ, ◌≤◌, length, take}
use Rattle.answers.specs.Refusals.{Outcome}
use Rattle.text.specs.Lines.{line_feed}
use Rattle.text.specs.Parts.{after_all, given_by_all}
use Rattle.report.specs.Report.{answer_text}

module _ {H S : Type 0} (outcome : H → S → Outcome S) where
  abbrev pub leaving : S → H → S
  leaving s h = (outcome h s).left

  abbrev pub printing : S → H → List ℕ
  printing s h = answer_text (outcome h s).answered line_feed

  -- Bytes are what is printed for these, which took a state from something to this.
  pub record TextOf (bytes : List ℕ) (hs : List H) (after : S) : Type 0 where
    pub before : S
    pub left : after ≡ after_all leaving before hs
    pub is : bytes ≡ given_by_all leaving printing before hs

  -- These were answered: this is left, and the first r bytes of `out` are what is printed.
  pub record Answered (hs : List H) (before after : S) (out : List ℕ) (r : ℕ) : Type 0 where
    pub left : after ≡ after_all leaving before hs
    pub text : take r out ≡ given_by_all leaving printing before hs
    pub within : r ≤ length out
