-- `samples::edge_text` meets its contract: set up is called on words that are all LEFT, and its own answer and words are put.
use native.Mathlib.Omega.{arith}
use lib.ListN.{length}
use Rattle.samples.proofs.Printed.{edge_put}
use Rattle.samples.proofs.edge_text.Goals as goal

pub returns : goal.returns
returns c =
    let put = c.put_checked.ensures in
    let a = c.args in
    edge_put a.d a.k a.c (length a.part.now)
    (c.fill.ensures.after (λ y e. e)) c.mdlist_set_up-a.ensures put.0 (omega (arith, put.1))
