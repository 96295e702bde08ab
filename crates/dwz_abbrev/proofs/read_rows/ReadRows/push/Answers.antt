use Rattle.std.proofs.Common.{◌≡◌, List, [], ◌∷◌, ◌++◌, None, sym, ap, subst, ◌∙◌}
use Rattle.dwz_abbrev.specs.declared.read_decl.ReadDecl.{ReadDecl}
use Rattle.dwz_abbrev.specs.Places.{place_of}
use Rattle.dwz_abbrev.specs.ReadViews.{read_codes}
use Rattle.dwz_abbrev.proofs.BehindLemmas.{led_more, led_same, read_length}
use Rattle.dwz_abbrev.proofs.PlaceLemmas.{taken_back}
use Rattle.dwz_abbrev.proofs.read_rows.ReadRows.push.Goals as goal

pub invariant_of-self-in-Ok : goal.invariant_of-self-in-Ok
invariant_of-self-in-Ok c =
    let decls = c.self.inside.decls.items in
    let is_new = subst (λ (ds : List ReadDecl). place_of (read_codes ds) c.args.decl.code ≡ None) (sym c.self.view_is) c.requires in
    led_more c.self.inside.codes c.push-2.new.self decls c.push.new.self.items c.args.decl c.self.invariant c.in_ok-push.ensures.items is_new
    (c.in-Ok.ensures.ok (read_codes decls) c.self.invariant.leads (c.len-place.ensures ∙ c.self.inside.decls.ok.0 ∙ sym (read_length decls)) is_new)

pub invariant_of-self-in-Err : goal.invariant_of-self-in-Err
invariant_of-self-in-Err c =
    let decls = c.self.inside.decls.items in
    led_same c.self.inside.codes c.push-2.new.self decls c.truncate.new.self.items c.self.invariant
    (taken_back decls c.push.new.self.items c.truncate.new.self.items c.args.decl c.len-place.result (c.len-place.ensures ∙ c.self.inside.decls.ok.0) c.in_ok-push.ensures.items c.truncate.ensures.items)
    (c.in-Err.ensures.err (read_codes decls) c.self.invariant.leads)

pub returns-in-Ok-clause-ok : goal.returns-in-Ok-clause-ok
returns-in-Ok-clause-ok c = c.in_ok-push.ensures.items ∙ ap (λ (t : List ReadDecl). t ++ c.args.decl ∷ []) c.self.view_is

pub returns-in-Err-clause-err : goal.returns-in-Err-clause-err
returns-in-Err-clause-err c =
    let decls = c.self.inside.decls.items in
    taken_back decls c.push.new.self.items c.truncate.new.self.items c.args.decl c.len-place.result (c.len-place.ensures ∙ c.self.inside.decls.ok.0) c.in_ok-push.ensures.items c.truncate.ensures.items ∙ c.self.view_is
