use Rattle.std.proofs.Common.{◌∙◌, Some, subst}
use Rattle.dwz_layout.specs.Maps.{Puts}
use Rattle.dwz_layout.proofs.MapLemmas.{was_put}
use Rattle.dwz_layout.proofs.codes.Codes.keep.Goals as goal

pub returns-clause-ok : goal.returns-clause-ok
returns-clause-ok c =
    let key = c.in_ok-key.ensures.items ∙ c.as_slice.ensures.value in
    let old = c.args.self.now.by_key in
    subst (λ w. Puts old c.insert.new.self w (Some c.args.code)) key
    (was_put c.in_ok-key.key.items old c.insert.new.self (Some c.args.code) c.in_ok-insert.ensures.updates)
