use Rattle.std.proofs.Common.{◌≡◌, ℕ, Option, Some, subst, sym}
use Rattle.dwz_reuse.specs.Puts.{PutsIf}
use Rattle.dwz_reuse.proofs.ValueUnits.{put_one}
use Rattle.dwz_reuse.proofs.value_edges.put_edge.Goals as goal

pub returns-in_ok-push : goal.returns-in_ok-push
returns-in_ok-push c = subst (λ (o : Option ℕ). PutsIf c.args.unit (λ n. o ≡ Some n) c.args.edges.now.items c.push.new.self.items) (sym c.in-Some.is)
    (put_one c.args.unit c.in-Some.value c.args.edges.now.items c.push.new.self.items c.in_ok-push.ensures.items)
