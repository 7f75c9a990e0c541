-- `words::store` meets its contract: the place lies inside and behind the settings, so that the shape stays.
use mathlib.Core.Path.{refl}
use borrow.Author.Rules.{rules}
use Rattle.words.proofs.Shaped.{index_inside, store_shaped}
use Rattle.words.proofs.store.Goals as goal

pub bounds-list-at : goal.bounds-list-at
bounds-list-at c = rw c.word_index-at.ensures.0 (index_inside c.requires.0 (search rules))

pub returns : goal.returns
returns c =
    rw c.word_index-at.ensures.0 (refl, store_shaped c.requires.0 c.args.x c.args.j c.args.v)
