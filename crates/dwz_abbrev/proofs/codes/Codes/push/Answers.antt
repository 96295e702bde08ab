use Rattle.std.proofs.Common.{refl, arith}
use Rattle.dwz_abbrev.proofs.PlaceLemmas.{counted_more, got_new, got_old, stored_more}
use Rattle.dwz_abbrev.proofs.codes.Codes.push.Goals as goal

pub returns-then-code-place-clause-ok : goal.returns-then-code-place-clause-ok
returns-then-code-place-clause-ok c = λ codes leads at is_new. counted_more c.args.self.now codes c.args.code c.args.place leads at is_new _ (omega arith) (omega arith) refl (λ q. refl)

pub returns-in_ok-insert-clause-ok : goal.returns-in_ok-insert-clause-ok
returns-in_ok-insert-clause-ok c = λ codes leads at is_new.
    let updates = c.in_ok-insert.ensures.updates in
    stored_more c.args.self.now codes c.args.code c.args.place leads at is_new _ refl (got_new c.args.self.now.others c.insert.new.self c.args.code c.args.place updates)
    (λ q other. got_old c.args.self.now.others c.insert.new.self c.args.code c.args.place q updates other)
