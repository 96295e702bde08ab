use Rattle.std.proofs.Common.{ap, ◌∙◌}
use Rattle.dwz_encode_common.proofs.SectionBytes.{all_names, is_there, next_name}
use Rattle.dwz_encode_common.proofs.pool.Pool.names.Goals as goal
use Rattle.dwz_encode_common.proofs.pool.Pool.names.Goals.{in-Some+in_ok-to_vec+in_ok-push, in_default}

pub loop-number-preserved : goal.loop-number-preserved
loop-number-preserved c =
    elim c.match-text.branch [
      | in-Some+in_ok-to_vec+in_ok-push w ↦
          next_name c.self.inside.texts c.args.self.now c.loop-number.number w.in-Some.text.now w.new.result c.loop-number.names.items
          c.match-text.names.items c.self.view_is w.in-Some.ensures (w.new.ensures ∙ w.in_ok-to_vec.ensures.items_if_clones_equal (λ x y e. e))
          (ap (λ (v : _). v.items) w.names-is ∙ w.in_ok-push.ensures.items) c.loop-number.invariant
      | in_default w ↦
          absurd (is_there c.self.inside.texts c.loop-number.number c.len-number-end.result c.len-number-end.ensures.count c.loop-number-test.true
          w.in_default.ensures)
    ]

pub returns : goal.returns
returns c =
    c.new-2.ensures
    ∙ all_names c.self.inside.texts c.args.self.now c.loop-number.number c.len-number-end.result c.loop-number.names.items c.self.view_is
    c.len-number-end.ensures.count c.loop-number-test.false c.loop-number.invariant
