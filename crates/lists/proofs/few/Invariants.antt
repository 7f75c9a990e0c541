-- `lists::few` meets its contract: before a word the bits are those of the words before it.
use Rattle.lists.specs.Zeros.{ZeroFrom}
use Rattle.lists.proofs.few.Given as goal

abbrev pub invariant-loop-word : goal.invariant-loop-word
invariant-loop-word l = ZeroFrom l.part 0 l.word-index l.bits
