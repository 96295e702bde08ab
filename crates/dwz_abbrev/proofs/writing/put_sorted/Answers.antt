use Rattle.std.proofs.Common.{◌≡◌, ◌++◌, ◌∷◌, ◌∙◌, [], List, ℕ, ap, sym}
use Rattle.std.specs.Borrow.{Bor}
use Rattle.dwz_def_reading.specs.Abbrevs.{by_code, declaration_bytes, table_bytes}
use Rattle.dwz_abbrev.specs.declared.decl.Decl.{Decl}
use Rattle.dwz_abbrev.specs.Views.{decl_view, lent_views, views}
use Rattle.dwz_abbrev.proofs.WriteLemmas.{begins_on, end_one, lent_all, lent_more, one_more}
use Rattle.dwz_abbrev.proofs.writing.put_sorted.Goals as goal

pub loop-decl-preserved : goal.loop-decl-preserved
loop-decl-preserved c =
    let out = c.loop-decl.out.items in
    let old = c.args.out.now.items in
    let d = c.in-Some.decl.now in
    let rest = c.next.new.self in
    let here : table_bytes (lent_views c.loop-decl.decl-iterator) ≡ declaration_bytes (decl_view d.now) ++ table_bytes (lent_views rest) =
    ap (λ (ds : List (Bor Decl)). table_bytes (lent_views ds)) c.in-Some.ensures.steps ∙ lent_more d rest in (
      begins_on old out c.put_decl.new.out.items c.loop-decl.invariant.0 c.put_decl.ensures.begins,
      one_more out c.put_decl.new.out.items old (declaration_bytes (decl_view d.now)) (table_bytes (lent_views rest)) (table_bytes (by_code (views c.args.decls.now))) c.in_ok-put_decl.ensures.ok
          (ap (λ (w : List ℕ). out ++ w) (sym here) ∙ c.loop-decl.invariant.1),
    )

pub returns-clause-ok : goal.returns-clause-ok
returns-clause-ok c =
    let out = c.loop-decl.out.items in
    let none : table_bytes (lent_views c.loop-decl.decl-iterator) ≡ 0 ∷ [] = ap (λ (ds : List (Bor Decl)). table_bytes (lent_views ds)) c.in-None.ensures.steps.0 ∙ lent_all in
    end_one c.put_end.result c.put_end.new.out.items out c.args.out.now.items (0 ∷ []) (table_bytes (by_code (views c.args.decls.now))) c.put_end.ensures.ok
    (ap (λ (w : List ℕ). out ++ w) (sym none) ∙ c.loop-decl.invariant.1)
