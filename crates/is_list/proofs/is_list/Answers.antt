-- `is_list::is_list` meets its contract: where the header is no list's, the words are none; else the tests of the cells decide.
use mathlib.Core.Path.{◌∙◌, sym}
use Rattle.is_list.proofs.Ends.{headed, not_headed, refuse}
use Rattle.is_list.proofs.Answered.{no_list_decided, list_decided}
use Rattle.is_list.proofs.is_list.Goals as goal

pub returns-in_err-header : goal.returns-in_err-header
returns-in_err-header c =
    let l = c.args.list.now in
    no_list_decided c.from_residual.ensures (refuse l (λ a. not_headed l c.header.ensures c.in_err-header.was a.header))

pub of-levels-requires : goal.of-levels-requires
of-levels-requires c = let h = headed c.header.ensures c.in_ok-header.was in (h.shaped.dimensions_most, (h.base, h.power))
