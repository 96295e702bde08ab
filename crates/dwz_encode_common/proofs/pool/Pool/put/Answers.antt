use Rattle.std.proofs.Common.{List, ℕ, ap, ◌∙◌}
use Rattle.dwz_def_encoding.specs.Placing.{with_common_text}
use Rattle.dwz_encode_common.proofs.PoolNumbers.{same_with}
use Rattle.dwz_encode_common.proofs.pool.Pool.put.Goals as goal

pub returns : goal.returns
returns c =
    c.in_ok-number.ensures.ok ∙ same_with c.self.inside.texts c.args.text.now
    ∙ ap (λ (w : List (List ℕ)). with_common_text w c.args.text.now) c.self.view_is
