-- `words::word` meets its contract: the place lies inside, and what is read there is the word of the definition.
use native.Mathlib.Omega.{arith}
use Rattle.words.proofs.Shaped.{index_inside, word_is}
use Rattle.words.proofs.word.Goals as goal

pub bounds-list-i : goal.bounds-list-i
bounds-list-i c =
    omega (arith, c.word_index-i.ensures, index_inside c.requires.0 c.requires.1)

pub returns : goal.returns
returns c =
    word_is c.requires.0 c.args.x c.args.j c.word_index-i.ensures.0
