use Rattle.std.proofs.Common.{◌≡◌, ◌∷◌, ◌++◌, [], length, map, ap, arith, refl, ◌∙◌}
use Rattle.std.proofs.lemmas.Result.{err_from_is_err_and}
use Rattle.dwz_unit.specs.Spans.{part_of}
use Rattle.dwz_unit.proofs.FlatLemmas.{parts_more, parts_pushed}
use Rattle.dwz_unit.proofs.flat_rows.FlatRows.push.Goals as goal

pub returns-in_err-push-clause-err : goal.returns-in_err-push-clause-err
returns-in_err-push-clause-err g c =
    let p = err_from_is_err_and c.from_residual-in_err-push.result c.from_residual-in_err-push.ensures.1 in
    rw p.1
    (ap (map (part_of c.extend_from_slice.new.self.items)) c.in_err-push.ensures.items
    ∙ ap (λ w. map (part_of w) c.self.inside.spans.items) c.in_ok-extend_from_slice.ensures.items
    ∙ parts_more c.self.inside.items.items c.args.list.now c.self.inside.spans.items c.self.invariant ∙ c.self.view_is)

pub returns-clause-ok : goal.returns-clause-ok
returns-clause-ok g c =
    let first : c.len-first.result ≡ length c.self.inside.items.items = omega (arith, c.len-first.ensures, c.self.inside.items.ok.0) in
    parts_pushed c.self.inside.items.items c.args.list.now c.extend_from_slice.new.self.items c.self.inside.spans.items c.push.new.self.items c.len-first.result _ c.self.invariant first refl
    c.in_ok-extend_from_slice.ensures.items c.in_ok-push.ensures.items
    ∙ ap (λ w. w ++ c.args.list.now ∷ []) c.self.view_is
