use Rattle.std.proofs.Common.{List, ℕ, Vec, Global, Bor, Option, [], ◌∷◌, ap, get_or, length, map, ◌≡◌, ◌∙◌, arith}
use Rattle.std.specs.Option.{option_map}
use Rattle.std.proofs.lemmas.List.{length-map}
use Rattle.std.proofs.lemmas.Result.{err_from_is_err_and}
use Rattle.dwz_graph.specs.Files.{FilesRead}
use Rattle.dwz_run.proofs.OneExpanded.{files_unread, new_refused, new_written, sections_refused}
use Rattle.dwz_run.proofs.expanded.written_on.Goals as goal

abbrev contents : List (Vec ℕ Global) → List (List ℕ)
contents files = map (λ (v : Vec ℕ Global). v.items) files

one_content : (files : List (Vec ℕ Global)) → length files ≡ 1 → length (contents files) ≡ 1
one_content files one = length-map files (λ (v : Vec ℕ Global). v.items) ∙ one

first_content : (files : List (Vec ℕ Global)) → length files ≡ 1 → (v : Vec ℕ Global) → v ≡ get_or files 0 v → v.items ≡ get_or (contents files) 0 []
first_content [] one v is = absurd (omega (arith, one))
first_content (w ∷ files) one v is = ap (λ (x : Vec ℕ Global). x.items) is

abbrev shared : Option (Bor (List ℕ)) → Option (List ℕ)
shared common = option_map (λ (b : Bor (List ℕ)). b.now) common

pub returns-in_err-graph : goal.returns-in_err-graph
returns-in_err-graph c =
    let p = err_from_is_err_and c.from_residual.result c.from_residual.ensures.1 in
    rw (p.1, p.2)
    (files_unread c.args.options.now (shared c.args.common) (contents c.args.files.now) (one_content c.args.files.now c.requires.one) c.in_err-graph.field-0.0 c.in_err-graph.ensures.answers)

pub returns-in_err-sections : goal.returns-in_err-sections
returns-in_err-sections c =
    let p = err_from_is_err_and c.from_residual-in_err-sections.result c.from_residual-in_err-sections.ensures.1 in
    let r = c.in_ok-graph.graph in
    rw (p.1, p.2)
    (sections_refused c.args.options.now (shared c.args.common) (contents c.args.files.now) (one_content c.args.files.now c.requires.one) r
    (ap (λ (w : FilesRead). w.back) c.in_ok-graph.ensures.contents) (ap (λ (w : FilesRead). w.common) c.in_ok-graph.ensures.contents) c.in_err-sections.field-0.0 c.in_err-sections.ensures)

pub returns-in_err-new : goal.returns-in_err-new
returns-in_err-new c =
    let p = err_from_is_err_and c.from_residual-in_err-new.result c.from_residual-in_err-new.ensures.1 in
    let r = c.in_ok-graph.graph in
    let content : c.as_slice-old.result.now ≡ get_or (contents c.args.files.now) 0 [] =
    c.as_slice-old.ensures.value ∙ first_content c.args.files.now c.requires.one c.index-files-0.result c.index-files-0.is in
    rw (p.1, p.2)
    (new_refused c.args.options.now (shared c.args.common) (contents c.args.files.now) (one_content c.args.files.now c.requires.one) r
    (ap (λ (w : FilesRead). w.back) c.in_ok-graph.ensures.contents) (ap (λ (w : FilesRead). w.common) c.in_ok-graph.ensures.contents) c.in_ok-sections.sections c.in_ok-sections.ensures
    c.as_slice-old.result.now content (λ (v : Vec ℕ Global). v.items) c.in_err-new.field-0.0 c.in_err-new.ensures)

pub returns : goal.returns
returns c =
    let r = c.in_ok-graph.graph in
    let content : c.as_slice-old.result.now ≡ get_or (contents c.args.files.now) 0 [] =
    c.as_slice-old.ensures.value ∙ first_content c.args.files.now c.requires.one c.index-files-0.result c.index-files-0.is in
    new_written c.args.options.now (shared c.args.common) (contents c.args.files.now) (one_content c.args.files.now c.requires.one) r
    (ap (λ (w : FilesRead). w.back) c.in_ok-graph.ensures.contents) (ap (λ (w : FilesRead). w.common) c.in_ok-graph.ensures.contents) c.in_ok-sections.sections c.in_ok-sections.ensures
    c.as_slice-old.result.now content (λ (v : Vec ℕ Global). v.items) c.in_ok-new.new c.in_ok-new.ensures c.in_ok-output_with.field-0 c.in_ok-output_with.ensures.is c.in_ok-output_with.ensures.said
