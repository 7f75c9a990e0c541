-- `words::word_index` meets its contract: the index is the one of the definition, and it is small, as it lies inside a list, and
-- no list has more words than the largest one.
use mathlib.Core.Path.{refl}
use native.Mathlib.Omega.{arith}
use Rattle.words.proofs.Shaped.{index_small}
use Rattle.words.proofs.word_index.Goals as goal

pub overflow_mul-result : goal.overflow_mul-result
overflow_mul-result c =
    let pre = c.requires in
    rw c.cell_words.ensures (omega (arith, index_small pre.0 pre.1.0 pre.1.1))

pub overflow_add-result-2 : goal.overflow_add-result-2
overflow_add-result-2 c =
    let pre = c.requires in
    rw c.cell_words.ensures (omega (arith, index_small pre.0 pre.1.0 pre.1.1))

pub overflow_add-result-3 : goal.overflow_add-result-3
overflow_add-result-3 c =
    let pre = c.requires in
    rw c.cell_words.ensures (omega (arith, index_small pre.0 pre.1.0 pre.1.1))

pub returns : goal.returns
returns c =
    let pre = c.requires in
    rw c.cell_words.ensures (refl, omega (arith, index_small pre.0 pre.1.0 pre.1.1))
