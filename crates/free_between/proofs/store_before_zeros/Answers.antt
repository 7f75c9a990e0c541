-- `free_between::store_before_zeros` meets its contract: the part lent is the rest of the cell.
use mathlib.Core.Path.{refl}
use mathlib.Core.List.{◌∷◌}
use Prim.Native.Nat.{suc, ◌-◌}
use lib.ListN.{replicate}
use Rattle.settings.specs.Numbers.{cell_words}
use Rattle.words.proofs.Shaped.{stores_shaped}
use Rattle.free_between.proofs.Between.{rest_written}
use Rattle.free_between.proofs.store_before_zeros.Goals as goal

pub returns : goal.returns
returns c =
    let a = c.args in
    rw (rest_written c.store.ensures.1 c.requires.1 c.word_index-start.ensures.0 c.cell_words.ensures refl a.list.now a.v
    c.store.ensures.0 (c.fill.ensures.after (λ y e. e)))
    (refl, stores_shaped c.requires.0 a.x a.j (a.v ∷ replicate (cell_words a.s.dimensions - suc a.j) 0))
