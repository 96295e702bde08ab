use Rattle.std.proofs.Common.{◌≡◌, ℕ, Bool, false, List, get_or, length, sym, ap, subst, ◌∙◌}
use Rattle.dwz_def_output.specs.declared.new_file.NewFile.{NewFile}
use Rattle.dwz_def_output.specs.NewFiles.{IsNewFileBy}
use Rattle.dwz_def_readback.specs.Files.{imports_common}
use Rattle.dwz_law_layout.specs.Facts.{common, move, run, units}
use Rattle.dwz_run_files.proofs.FileImports.{imports_are}
use Rattle.dwz_run_files.specs.Works.{HaveUnitPlaces}
use Rattle.dwz_run_files.proofs.sections.new_file.Goals as goal

pub sections_of-requires-clause-moved : goal.sections_of-requires-clause-moved
sections_of-requires-clause-moved g c κs within = (let r = c.requires.work in (r.0, r.1, c.moved_file-moved.ensures.moved r.0 r.1 r.2 r.3))

pub sections_of-requires-clause-many : goal.sections_of-requires-clause-many
sections_of-requires-clause-many g c κs within = ap (λ (v : List ℕ). length v) c.as_slice.ensures.value ∙ c.in_ok-units_at.ensures.many

pub narrow_fault-requires-clause-moved : goal.narrow_fault-requires-clause-moved
narrow_fault-requires-clause-moved g c = (let r = c.requires.work in (r.0, r.1, c.moved_file-moved.ensures.moved r.0 r.1 r.2 r.3))

pub narrow_fault-requires-clause-many : goal.narrow_fault-requires-clause-many
narrow_fault-requires-clause-many g c = ap (λ (v : List ℕ). length v) c.as_slice-2.ensures.value ∙ c.in_ok-units_at.ensures.many

pub returns : goal.returns
returns g c beside f is has =
    let m = c.moved_file-moved.result in
    let moved = c.moved_file-moved.ensures.moved beside f is has in
    let begin = c.in_ok-units_at.ensures.places beside f moved in
    let first = subst (HaveUnitPlaces f m) (sym c.as_slice.ensures.value) begin in
    let second = subst (HaveUnitPlaces f m) (sym c.as_slice-2.ensures.value) begin in
    let imports = c.is_importing-imports.ensures ∙ ap (λ (flags : List Bool). get_or flags c.args.number false) c.as_slice-3.ensures.value
    ∙ imports_are f c.args.work.now is c.args.number c.args.rank has in
    let new : NewFile = record {
      sections = c.in_ok-sections.sections;
      narrow = c.in_ok-narrow.narrow;
      imports = c.is_importing-imports.result;
    } in
    let made : IsNewFileBy (common f) (run f) m.number new = record {
      moves = moved.moves;
      sections = c.in_ok-sections.ensures beside f moved first;
      narrow = c.in_ok-narrow.ensures beside f moved second;
      imports = subst (λ (k : ℕ). c.is_importing-imports.result ≡ imports_common (move f) (units f) k) (sym c.moved_file-moved.ensures.number)
          imports;
    } in
    subst (λ (k : ℕ). IsNewFileBy (common f) (run f) k new) c.moved_file-moved.ensures.number made
