use Rattle.std.proofs.Common.{ap, ◌∙◌}
use Rattle.dwz_layout.specs.declared.known.SpaceRow.{SpaceRow}
use Rattle.dwz_layout.specs.declared.walk.Origin.TheVariants.{Chained, Imported, Read}
use Rattle.dwz_layout.specs.Entries.{root_of, slot}
use Rattle.dwz_layout.specs.Known.{space_at}
use Rattle.dwz_layout.proofs.WalkLemmas.{alone_is}
use Rattle.dwz_layout.proofs.walk.first_of.Goals as goal

pub returns-in-Root : goal.returns-in-Root
returns-in-Root c =
    rw c.in-Root.is (alone_is c.args.known.now (slot c.args.item.now.depth (root_of c.args.sort)) c.alone.result.slot c.alone.result.run
    (c.alone.ensures.slot ∙ ap (slot c.args.item.now.depth) c.root_origin.ensures) c.alone.ensures.run)

pub returns-in-Space : goal.returns-in-Space
returns-in-Space c =
    let s = space_at c.args.known.now c.in-Space.space in
    rw c.in-Space.is (alone_is c.args.known.now (slot c.args.item.now.depth (Read s.row)) c.alone-in-Space.result.slot c.alone-in-Space.result.run
    (c.alone-in-Space.ensures.slot ∙ ap (λ (x : SpaceRow). slot c.args.item.now.depth (Read x.row)) c.space.ensures) c.alone-in-Space.ensures.run)

pub returns-in-InChain : goal.returns-in-InChain
returns-in-InChain c =
    rw c.in-InChain.is (alone_is c.args.known.now (slot c.args.item.now.depth (Chained c.in-InChain.chain c.in-InChain.space)) c.alone-in-InChain.result.slot c.alone-in-InChain.result.run
    c.alone-in-InChain.ensures.slot c.alone-in-InChain.ensures.run)

pub returns-in-Import : goal.returns-in-Import
returns-in-Import c =
    rw c.in-Import.is (alone_is c.args.known.now (slot c.args.item.now.depth (Imported c.in-Import.part)) c.alone-in-Import.result.slot c.alone-in-Import.result.run c.alone-in-Import.ensures.slot
    c.alone-in-Import.ensures.run)
