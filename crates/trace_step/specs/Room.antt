-- The arrays in which the words and the bytes stand, and what is held of them.
use Rattle.std.specs.Prelude.{List, ℕ, take}
use Rattle.calls.specs.Records.{Lent, lent_of}
use Rattle.trace.specs.Lines.{most_words, most_held}
use Rattle.trace_held.specs.Held.{Held}
use Rattle.trace_step.specs.declared.Sizes.{Sizes}

-- so many words and bytes are held
pub record Room (words bytes : List ℕ) (sizes : Sizes) : Type 0 where
  pub words_held : Held most_words words sizes.used
  pub bytes_held : Held most_held bytes sizes.filled

-- what is held
abbrev pub held_in : List ℕ → List ℕ → ℕ → Sizes → Lent
held_in words bytes last sizes = lent_of (take sizes.used words) (take sizes.filled bytes) last
