use Rattle.std.proofs.Common.{ap, arith, subst, ℕ}
use Rattle.dwz_graph.specs.declared.index.Starts.{Starts}
use Rattle.dwz_unit.specs.Rows.{units_of}
use Rattle.dwz_layout_numbers.specs.Owned.{IsOwned}
use Rattle.dwz_layout_numbers.proofs.OwnerSteps.{adds_all, adds_more, owned_is}
use Rattle.dwz_layout_numbers.proofs.owners.put_owners.Goals as goal

pub loop-entry-preserved : goal.loop-entry-preserved
loop-entry-preserved c =
    let plan = c.args.plan.now in
    let parts = c.args.numbers.now.parts.items in
    let olds = c.args.numbers.now.olds.items in
    let first = c.args.index.now.starts.unit in
    let raw = units_of c.args.units.now in
    let i = c.loop-entry.entry in
    let o = c.owned_behind-owned.result in
    let is : IsOwned plan parts olds first o =
    subst (λ (n : ℕ). IsOwned plan parts olds n o) (ap (λ (s : Starts). s.unit) c.starts-first.ensures) c.owned_behind-owned.ensures.number in
    record {
      owned = c.owned_behind-owned.ensures.number;
      adds = λ names index. adds_more plan parts olds first raw names c.args.index.now c.args.owners.now.items
          c.loop-entry.owners.items c.push.new.self.items i o.number index c.requires.index (omega (arith, c.loop-entry-test.true, c.entries-entry-end.ensures))
          (c.loop-entry.invariant.adds names index)
          (λ s row kept got there old.
          owned_is plan parts olds first raw i c.entry-unit.result o s row kept c.top_of-top.result is c.owned_behind-owned.ensures.unit c.owned_behind-owned.ensures.top c.entry-unit.ensures.entry
          (c.top_of-top.ensures names s index got) there old)
          c.in_ok-push.ensures.items;
    }

pub returns : goal.returns
returns c = λ names index. adds_all c.args.plan.now c.args.numbers.now.parts.items c.args.numbers.now.olds.items c.args.index.now.starts.unit
    (units_of c.args.units.now) names c.args.index.now c.args.owners.now.items c.loop-entry.owners.items c.loop-entry.entry
    index c.requires.index (omega (arith, c.loop-entry-test.false, c.entries-entry-end.ensures)) (c.loop-entry.invariant.adds names index)
