use Rattle.std.proofs.Common.{None, subst}
use Rattle.dwz_layout.specs.Maps.{Puts}
use Rattle.dwz_layout.proofs.MapLemmas.{was_put}
use Rattle.dwz_layout.proofs.codes.Codes.forget.Goals as goal

pub returns : goal.returns
returns c =
    let old = c.args.self.now.by_key in
    subst (λ w. Puts old c.remove.new.self w None) c.as_slice.ensures.value (was_put c.as_slice.result.now old c.remove.new.self None c.remove.ensures.updates)
