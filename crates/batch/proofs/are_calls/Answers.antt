-- `batch::are_calls` meets its contract: the kinds of the whole calls are tested, and no words are left.
use mathlib.Core.Path.{◌≡◌, ap, ◌∙◌}
use Prim.Native.Nat.{◌%◌}
use lib.ListN.{length}
use borrow.Author.Rules.{rules}
use borrow.Author.Tests.{tests}
use Rattle.std.specs.List.{list_all}
use Rattle.std.proofs.lemmas.Iterator.{YieldsList-from_slice}
use Rattle.std.proofs.lemmas.Iterator.Search.{all_from_yields_List}
use Rattle.batch.proofs.Calls.{has_kind, all_kinds, some_left}
use Rattle.batch.proofs.are_calls.Goals as goal

pub returns-then-is_empty : goal.returns-then-is_empty
returns-then-is_empty c =
    let chunks = c.as_chunks in
    let none : length c.args.calls.now % 3 ≡ 0 = search (rules, tests) in
    all_from_yields_List has_kind _ _ c.all.result c.all.ensures.ran (YieldsList-from_slice chunks.result.0.now cc) (λ x b q k. search (rules, tests))
    ∙ ap (list_all has_kind) chunks.ensures.front
    ∙ all_kinds c.args.calls.now none

pub returns-else-is_empty : goal.returns-else-is_empty
returns-else-is_empty c = c.if-is_empty.false ∙ some_left c.args.calls.now (λ e. search (rules, tests))
