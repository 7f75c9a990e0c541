-- `free_between::drop_front` meets its contract: each call writes what the definition has in its place, and the chain is still there when
-- its cells become free.
use mathlib.Core.Path.{◌∙◌}
use native.Mathlib.Omega.{arith}
use lib.ListN.{length-map}
use Rattle.meaning.specs.Reading.{read}
use Rattle.meaning.specs.Operations.{freed_by}
use Rattle.words.proofs.Listed.{listed_shaped}
use Rattle.free_between.proofs.Drops.{drops}
use Rattle.free_between.proofs.Chain.{chain_ready, front_dropped, head_redrawn}
use Rattle.free_between.proofs.drop_front.Goals as goal

pub leading_zeros-z-requires : goal.leading_zeros-z-requires
leading_zeros-z-requires c =
    let d = c.requires in
    (listed_shaped d.paid.listed, (drops d).keyed)

pub take_links-requires : goal.take_links-requires
take_links-requires c =
    let d = c.requires in
    let drop = (drops d).dropping in
    (c.chain_between-chained.ensures.0.shaped, (drop.cell, (drop.least, d.target.path_in)))

pub relink_head-requires : goal.relink_head-requires
relink_head-requires c =
    let d = c.requires in
    let drop = (drops d).dropping in
    (c.take_links.ensures.1, (omega (arith, drop.cell), omega (arith, drop.inside, c.leading_zeros-z.ensures)))

pub free_chained-requires : goal.free_chained-requires
free_chained-requires c =
    let e = c.relink_head.ensures in (
      e.1,
      chain_ready c.requires c.leading_zeros-z.ensures c.chain_between-chained.ensures c.take_links.ensures.0 e.0,
    )

pub onward-path-requires : goal.onward-path-requires
onward-path-requires c =
    omega (arith, c.head_path.ensures.1, (drops c.requires).dropping.inside, c.leading_zeros-z.ensures)

pub returns : goal.returns
returns c =
    let z = c.leading_zeros-z in
    let chained = c.chain_between-chained.ensures in
    let head = c.head_path.ensures in
    let way = head_redrawn head.0 head.1 c.onward-path.ensures in (
      front_dropped c.requires z.ensures chained c.take_links.ensures.0 c.relink_head.ensures.0 c.free_chained.ensures.0 way
          c.write_path.ensures.0,
      chained.0.count ∙ length-map (freed_by (read c.args.list.now).row) (λ x. x.cell),
    )
