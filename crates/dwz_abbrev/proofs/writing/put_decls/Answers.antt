use Rattle.std.proofs.Common.{◌≡◌, ◌+◌, ◌++◌, ◌∷◌, [], ◌∙◌, List, ℕ, ap, drop, sym}
use Rattle.dwz_def_reading.specs.Abbrevs.{declaration_bytes, table_bytes}
use Rattle.dwz_abbrev.specs.declared.decl.Decl.{Decl}
use Rattle.dwz_abbrev.specs.Views.{decl_view, views}
use Rattle.dwz_abbrev.proofs.WriteLemmas.{begins_on, end_one, one_more, table_all, table_more}
use Rattle.dwz_abbrev.proofs.writing.put_decls.Goals as goal

pub loop-decl-preserved : goal.loop-decl-preserved
loop-decl-preserved c =
    let decls = c.args.decls.now in
    let i = c.loop-decl.decl-index in
    let d = c.decl-item.result in
    let out = c.loop-decl.out.items in
    let old = c.args.out.now.items in
    let so_far = c.loop-decl.invariant in
    let rest = table_bytes (views (drop (i + 1) decls)) in
    let here : table_bytes (views (drop i decls)) ≡ declaration_bytes (decl_view d) ++ rest = table_more decls i d c.loop-decl-test.true ∙ ap (λ (x : Decl). declaration_bytes (decl_view x) ++ rest)
    (sym c.decl-item.is) in (
      begins_on old out c.put_decl.new.out.items so_far.0 c.put_decl.ensures.begins,
      one_more out c.put_decl.new.out.items old (declaration_bytes (decl_view d)) rest (table_bytes (views decls)) c.in_ok-put_decl.ensures.ok (ap (λ (w : List ℕ). out ++ w) (sym here) ∙ so_far.1),
    )

pub returns-clause-ok : goal.returns-clause-ok
returns-clause-ok c =
    let decls = c.args.decls.now in
    let out = c.loop-decl.out.items in
    end_one c.put_end.result c.put_end.new.out.items out c.args.out.now.items (0 ∷ []) (table_bytes (views decls)) c.put_end.ensures.ok
    (ap (λ (w : List ℕ). out ++ w) (sym (table_all decls c.loop-decl.decl-index c.loop-decl-test.false)) ∙ c.loop-decl.invariant.1)
