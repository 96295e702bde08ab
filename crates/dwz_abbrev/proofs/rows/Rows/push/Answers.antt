use Rattle.std.proofs.Common.{◌≡◌, List, [], ◌∷◌, ◌++◌, None, sym, ap, subst, ◌∙◌}
use Rattle.std.proofs.lemmas.List.{map_push}
use Rattle.dwz_def_reading.specs.Abbrevs.{Declaration, find_decl}
use Rattle.dwz_abbrev.specs.declared.decl.Decl.{Decl}
use Rattle.dwz_abbrev.specs.Places.{Leads, codes_of}
use Rattle.dwz_abbrev.specs.Views.{decl_view, views}
use Rattle.dwz_abbrev.proofs.PlaceLemmas.{codes_length, none_of, pushed, taken_back}
use Rattle.dwz_abbrev.proofs.rows.Rows.push.Goals as goal

pub invariant_of-self-in-Ok : goal.invariant_of-self-in-Ok
invariant_of-self-in-Ok c =
    let rows = c.self.inside.decls.items in
    let is_new = subst (λ (t : List Declaration). find_decl t c.args.decl.code ≡ None) (sym c.self.view_is) c.requires in
    pushed rows c.push.new.self.items c.args.decl c.push-2.new.self c.in_ok-push.ensures.items
    (c.in-Ok.ensures.ok (codes_of (views rows)) c.self.invariant (c.len-place.ensures ∙ c.self.inside.decls.ok.0 ∙ sym (codes_length rows)) (none_of (views rows) c.args.decl.code is_new))

pub invariant_of-self-in-Err : goal.invariant_of-self-in-Err
invariant_of-self-in-Err c =
    let rows = c.self.inside.decls.items in
    let same = taken_back rows c.push.new.self.items c.truncate.new.self.items c.args.decl c.len-place.result (c.len-place.ensures ∙ c.self.inside.decls.ok.0) c.in_ok-push.ensures.items c.truncate.ensures.items in
    subst (λ (ds : List Decl). Leads c.push-2.new.self (codes_of (views ds))) (sym same) (c.in-Err.ensures.err (codes_of (views rows)) c.self.invariant)

pub returns-in-Ok-clause-ok : goal.returns-in-Ok-clause-ok
returns-in-Ok-clause-ok c = ap views c.in_ok-push.ensures.items ∙ map_push decl_view c.self.inside.decls.items c.args.decl ∙ ap (λ (t : List Declaration). t ++ decl_view c.args.decl ∷ []) c.self.view_is

pub returns-in-Err-clause-err : goal.returns-in-Err-clause-err
returns-in-Err-clause-err c =
    let rows = c.self.inside.decls.items in
    ap views (taken_back rows c.push.new.self.items c.truncate.new.self.items c.args.decl c.len-place.result (c.len-place.ensures ∙ c.self.inside.decls.ok.0) c.in_ok-push.ensures.items c.truncate.ensures.items) ∙ c.self.view_is
