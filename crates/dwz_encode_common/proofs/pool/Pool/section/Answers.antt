use Rattle.std.proofs.Common.{◌++◌, List, ℕ, ap, arith, ◌∙◌}
use Rattle.dwz_def_encoding.specs.Placing.{texts_bytes}
use Rattle.dwz_encode_common.proofs.SectionBytes.{all_texts, is_there, next_text, section_size}
use Rattle.dwz_encode_common.proofs.pool.Pool.section.Goals as goal
use Rattle.dwz_encode_common.proofs.pool.Pool.section.Goals.{in-Some+in_ok-extend_from_slice+in_ok-push, in_default}

pub loop-number-init : goal.loop-number-init
loop-number-init c = ap (λ (w : List ℕ). w ++ texts_bytes c.args.self.now) c.in_ok-out.ensures.items

pub loop-number-preserved : goal.loop-number-preserved
loop-number-preserved c =
    elim c.match-text.branch [
      | in-Some+in_ok-extend_from_slice+in_ok-push w ↦
          next_text c.self.inside.texts c.args.self.now c.loop-number.number w.in-Some.text.now c.loop-number.out.items c.match-text.out.items
          w.extend_from_slice.new.self.items c.self.view_is w.in-Some.ensures w.in_ok-extend_from_slice.ensures.items
          (ap (λ (v : _). v.items) w.out-is ∙ w.in_ok-push.ensures.items) c.loop-number.invariant
      | in_default w ↦
          absurd (is_there c.self.inside.texts c.loop-number.number c.len-number-end.result c.len-number-end.ensures.count c.loop-number-test.true
          w.in_default.ensures)
    ]

pub returns-clause-bytes : goal.returns-clause-bytes
returns-clause-bytes c =
    all_texts c.self.inside.texts c.args.self.now c.loop-number.number c.len-number-end.result c.loop-number.out.items c.self.view_is
    c.len-number-end.ensures.count c.loop-number-test.false c.loop-number.invariant

pub returns-clause-few : goal.returns-clause-few
returns-clause-few c =
    let size = section_size c.self.inside.texts c.args.self.now c.loop-number.out.items c.self.view_is
    (all_texts c.self.inside.texts c.args.self.now c.loop-number.number c.len-number-end.result c.loop-number.out.items c.self.view_is
    c.len-number-end.ensures.count c.loop-number-test.false c.loop-number.invariant) in
    omega (arith, size, c.size-size.ensures, c.if-size-ge-PLACES.false)
