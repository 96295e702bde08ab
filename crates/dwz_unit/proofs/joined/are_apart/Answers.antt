use Rattle.std.proofs.Common.{◌≡◌, List, Option, None, Some, false, get_or, take, sym, subst, ◌∙◌}
use Rattle.std.proofs.lemmas.List.{take_all, take_more}
use Rattle.std.proofs.lemmas.List.Elements.{All-map, All-push}
use Rattle.std.specs.Prelude.{All, is_some}
use Rattle.dwz_def_reading.specs.Abbrevs.{Declaration, find_decl}
use Rattle.dwz_abbrev.specs.declared.read_decl.ReadDecl.{ReadDecl}
use Rattle.dwz_abbrev.specs.ReadViews.{read_view}
use Rattle.dwz_model.specs.declared.place.Pair.{Pair}
use Rattle.dwz_unit.specs.declared.numbered.Numbered.{Numbered}
use Rattle.dwz_unit.specs.Found.{Finds, all_pairs}
use Rattle.dwz_unit.specs.TableViews.{table_views}
use Rattle.dwz_unit.specs.Tails.{whole_tables, tail_in}
use Rattle.dwz_unit.proofs.joined.are_apart.Goals as goal

none_found : (o : Option Numbered) (decls : List (List Pair)) (found : Option Declaration) → is_some o ≡ false → Finds decls found o → found ≡ None
none_found None decls found none is = is
none_found (Some d) decls found none is = absurd cc

-- where there is no declaration
abbrev no_decl : ReadDecl
no_decl = record { code = 0; first = 0; count = 0; tag = 0; children = false }

pub loop-decl-preserved : goal.loop-decl-preserved
loop-decl-preserved c =
    let d = get_or c.args.decls.now c.loop-decl.decl-index no_decl in
    let rest = tail_in (whole_tables (table_views c.args.row.now c.args.reads.now)) c.args.tail in
    let P : ReadDecl → Type 0 = λ e. find_decl rest e.code ≡ None in
    let none = none_found c.find_past.result (all_pairs (table_views c.args.row.now c.args.reads.now)) (find_decl rest d.code) (sym c.is_some.ensures ∙ c.if-is_some.false) c.find_past.ensures in
    let more = take_more c.args.decls.now c.loop-decl.decl-index no_decl c.loop-decl-test.true in
    rw more (All-push P (take c.loop-decl.decl-index c.args.decls.now) d c.loop-decl.invariant none)

pub returns : goal.returns
returns c = λ yes.
    let P : Declaration → Type 0 = λ d. find_decl (tail_in (whole_tables (table_views c.args.row.now c.args.reads.now)) c.args.tail) d.code ≡ None in
    All-map P (read_view c.args.row.now) c.args.decls.now (subst (All (λ (d : ReadDecl). P (read_view c.args.row.now d))) (take_all c.loop-decl.decl-index c.args.decls.now c.loop-decl-test.false) c.loop-decl.invariant)
