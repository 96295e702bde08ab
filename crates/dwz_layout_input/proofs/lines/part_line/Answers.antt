use Rattle.std.proofs.Common.{◌≡◌, ◌∙◌, ℕ, Option, Some, false, true, length, map, ap, sym, subst}
use Rattle.std.specs.List.{list_any}
use Rattle.dwz_def_tops.specs.Spots.{Top, units_of}
use Rattle.dwz_graph.proofs.FileCounts.{files_many}
use Rattle.dwz_graph.specs.Files.{docs_of}
use Rattle.dwz_def_images.specs.Moves.{line_attrs}
use Rattle.dwz_layout_order.specs.Orders.{ShowsLine}
use Rattle.dwz_layout.specs.declared.order.Sort.TheVariants.{Partial as PartialSort}
use Rattle.dwz_plan.specs.declared.plan.Partial.{Partial}
use Rattle.dwz_layout_input.specs.Roots.{path_in}
use Rattle.dwz_layout_input.specs.Steps.{AreTops}
use Rattle.dwz_layout_input.proofs.PartLemmas.{first_got, first_says, have_line, home_cases, no_line, some_first, tops_are, without}
use Rattle.dwz_layout_input.proofs.lines.part_line.Goals as goal

pub returns-in_err-first : goal.returns-in_err-first
returns-in_err-first c = λ contents p knows one homes shown. absurd (
    some_first (docs_of contents) p one c.as_slice-list.result.now (c.as_slice-list.ensures ∙ ap (λ (w : Partial). w.tops) shown) c.in_err-first.ensures)

pub returns-in_err-line : goal.returns-in_err-line
returns-in_err-line c = λ contents p knows one homes shown. (
    let got = first_got (docs_of contents) p one c.as_slice-list.result.now c.in_ok-first.first (c.as_slice-list.ensures ∙ ap (λ (w : Partial). w.tops) shown)
    c.in_ok-first.ensures in
    subst (λ (o : Option ℕ). ShowsLine (PartialSort o) (line_attrs (units_of (docs_of contents)) p)) (sym c.from_residual-in_err-line.ensures)
    (without contents c.args.files.now c.args.indexes.now c.args.tops.now knows p one (c.in_err-line.ensures contents _ knows got)))

pub returns-then-not-any_top_numbers_file : goal.returns-then-not-any_top_numbers_file
returns-then-not-any_top_numbers_file c = λ contents p knows one homes shown. (
    let docs = docs_of contents in
    let list : c.as_slice-list.result.now ≡ map (λ (t : Top). t.number) p.tops = c.as_slice-list.ensures ∙ ap (λ (w : Partial). w.tops) shown in
    let got = first_got docs p one c.as_slice-list.result.now c.in_ok-first.first list c.in_ok-first.ensures in
    let says = first_says docs p one (Some c.in_ok-line.line) (c.in_ok-line.ensures contents _ knows got) in
    let are = subst (AreTops (units_of docs) p.tops) (sym list) (tops_are docs p one) in
    let paths : list_any path_in p.tops ≡ false = c.any_top_numbers_file.ensures contents p.tops c.in_ok-line.line knows are
    (have_line docs p one (Some c.in_ok-line.line) says) ∙ c.if-not-any_top_numbers_file.true in
    no_line (units_of docs) p paths)

pub returns-then-part-files : goal.returns-then-part-files
returns-then-part-files c = λ contents p knows one homes shown. (
    let docs = docs_of contents in
    let list : c.as_slice-list.result.now ≡ map (λ (t : Top). t.number) p.tops = c.as_slice-list.ensures ∙ ap (λ (w : Partial). w.tops) shown in
    let got = first_got docs p one c.as_slice-list.result.now c.in_ok-first.first list c.in_ok-first.ensures in
    let says = first_says docs p one (Some c.in_ok-line.line) (c.in_ok-line.ensures contents _ knows got) in
    let are = subst (AreTops (units_of docs) p.tops) (sym list) (tops_are docs p one) in
    let paths : list_any path_in p.tops ≡ true = c.any_top_numbers_file.ensures contents p.tops c.in_ok-line.line knows are
    (have_line docs p one (Some c.in_ok-line.line) says) ∙ c.if-not-any_top_numbers_file.false in
    let many = files_many contents c.args.files.now knows.kept in
    (home_cases docs p one (length c.args.files.now) c.args.part.now.file many (ap (λ (w : Partial). w.file) shown) homes c.in_ok-line.line says paths).0 c.if-part-files.true)

pub returns : goal.returns
returns c = λ contents p knows one homes shown. (
    let docs = docs_of contents in
    let list : c.as_slice-list.result.now ≡ map (λ (t : Top). t.number) p.tops = c.as_slice-list.ensures ∙ ap (λ (w : Partial). w.tops) shown in
    let got = first_got docs p one c.as_slice-list.result.now c.in_ok-first.first list c.in_ok-first.ensures in
    let says = first_says docs p one (Some c.in_ok-line.line) (c.in_ok-line.ensures contents _ knows got) in
    let are = subst (AreTops (units_of docs) p.tops) (sym list) (tops_are docs p one) in
    let paths : list_any path_in p.tops ≡ true = c.any_top_numbers_file.ensures contents p.tops c.in_ok-line.line knows are
    (have_line docs p one (Some c.in_ok-line.line) says) ∙ c.if-not-any_top_numbers_file.false in
    let many = files_many contents c.args.files.now knows.kept in
    (home_cases docs p one (length c.args.files.now) c.args.part.now.file many (ap (λ (w : Partial). w.file) shown) homes c.in_ok-line.line says paths).1 c.if-part-files.false)
