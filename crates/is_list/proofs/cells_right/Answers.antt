-- `is_list::cells_right` meets its contract: where a test refuses, the account does not accept the words, and so they are no list; past the
-- tests the chain of free cells decides.
use mathlib.Core.Path.{◌≡◌, refl, ap, ◌∙◌}
use native.Mathlib.Omega.{arith}
use lib.ListN.{get_or}
use borrow.Author.Tests.{not-false}
use Rattle.account.specs.declared.Seen.{Seen}
use Rattle.account.specs.Tree.{chain_right, seen_all}
use Rattle.account.specs.Loop.{verdict}
use Rattle.account.proofs.AcceptedTests.{head_right_lem}
use Rattle.cell_tests.proofs.Tests.{fails, holds}
use Rattle.is_list.proofs.Ends.{Headed, headed, refuse, chain_decides, head_last, all_seen}
use Rattle.is_list.proofs.InOrder.{verdict_right, verdict_same}
use Rattle.is_list.proofs.cells_right.Goals as goal

pub head_right-requires : goal.head_right-requires
head_right-requires c =
    let header : Headed c.args.list.now c.args.levels.now.settings = headed refl c.requires in
    (header.shaped, header.cells)

pub returns-then-not-head_right : goal.returns-then-not-head_right
returns-then-not-head_right c = refuse c.args.list.now (λ a. fails c.head_right.ensures c.if-not-head_right.true-raw a.head)

pub at_head-start-requires : goal.at_head-start-requires
at_head-start-requires c =
    let header : Headed c.args.list.now c.args.levels.now.settings = headed refl c.requires in
    (header.shaped, header.cells)

pub returns-then-not-start : goal.returns-then-not-start
returns-then-not-start c =
    refuse c.args.list.now (λ a. fails (ap (λ (t : Seen). t.right) c.at_head-start.ensures.0) c.if-not-start.true a.start)

pub read-seen-requires : goal.read-seen-requires
read-seen-requires c =
    let header : Headed c.args.list.now c.args.levels.now.settings = headed refl c.requires in
    let head = holds c.head_right.ensures c.if-not-head_right.false-raw in
    let start = c.at_head-start in
    record {
      shaped = header.shaped;
      within = start.ensures.1;
      right = not-false start.result.right c.if-not-start.false;
      head = head_last c.args.list.now start.ensures.0;
      unowing = (head_right_lem c.args.list.now head).owed;
    }

pub returns-then-not-seen : goal.returns-then-not-seen
returns-then-not-seen c =
    let header : Headed c.args.list.now c.args.levels.now.settings = headed refl c.requires in
    let head = holds c.head_right.ensures c.if-not-head_right.false-raw in
    let start = c.at_head-start in
    let seen : verdict c.read-seen.result ≡ verdict (seen_all c.args.list.now) =
    c.read-seen.ensures ∙ ap verdict (all_seen header head start.ensures.0 (not-false start.result.right c.if-not-start.false)) in
    let l = c.args.list.now in
    refuse l (λ a. fails (verdict_right c.read-seen.result (seen_all l) seen) c.if-not-seen.true a.right)

pub returns-then-not-seen-2 : goal.returns-then-not-seen-2
returns-then-not-seen-2 c =
    let header : Headed c.args.list.now c.args.levels.now.settings = headed refl c.requires in
    let head = holds c.head_right.ensures c.if-not-head_right.false-raw in
    let start = c.at_head-start in
    let seen : verdict c.read-seen.result ≡ verdict (seen_all c.args.list.now) =
    c.read-seen.ensures ∙ ap verdict (all_seen header head start.ensures.0 (not-false start.result.right c.if-not-start.false)) in
    let same : c.read-seen.result ≡ seen_all c.args.list.now =
    verdict_same c.read-seen.result (seen_all c.args.list.now) seen (not-false c.read-seen.result.right c.if-not-seen.false) in
    refuse c.args.list.now (λ a. fails (ap (λ (t : Seen). t.reached) same) c.if-not-seen-2.true a.reached)

pub bounds-list-4 : goal.bounds-list-4
bounds-list-4 c =
    let header : Headed c.args.list.now c.args.levels.now.settings = headed refl c.requires in
    omega (arith, header.shaped.long)

pub chain_right-requires : goal.chain_right-requires
chain_right-requires c =
    let header : Headed c.args.list.now c.args.levels.now.settings = headed refl c.requires in
    header.shaped

pub returns : goal.returns
returns c =
    let header : Headed c.args.list.now c.args.levels.now.settings = headed refl c.requires in
    let head = holds c.head_right.ensures c.if-not-head_right.false-raw in
    let start = c.at_head-start in
    let seen : verdict c.read-seen.result ≡ verdict (seen_all c.args.list.now) =
    c.read-seen.ensures ∙ ap verdict (all_seen header head start.ensures.0 (not-false start.result.right c.if-not-start.false)) in
    let same : c.read-seen.result ≡ seen_all c.args.list.now =
    verdict_same c.read-seen.result (seen_all c.args.list.now) seen (not-false c.read-seen.result.right c.if-not-seen.false) in
    let chain : c.chain_right.result ≡ chain_right c.args.list.now (seen_all c.args.list.now).left (get_or c.args.list.now 4 0) =
    c.chain_right.ensures ∙ ap (λ (t : Seen). chain_right c.args.list.now t.left (get_or c.args.list.now 4 0)) same in
    chain_decides c.args.list.now header.right head
    (holds (ap (λ (t : Seen). t.right) c.at_head-start.ensures.0) c.if-not-start.false)
    (holds (ap (λ (t : Seen). t.right) same) c.if-not-seen.false) (holds (ap (λ (t : Seen). t.reached) same) c.if-not-seen-2.false)
    chain
