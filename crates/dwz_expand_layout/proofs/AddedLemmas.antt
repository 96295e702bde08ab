-- Both passes, call by call: what was added so far.
use Rattle.std.proofs.Common.{◌≡◌, List, [], ◌∷◌, ◌++◌, sym, ap, ◌∙◌}
use Rattle.std.proofs.lemmas.List.Sums.{fold_push}
use Rattle.dwz_expand_layout.specs.declared.entries.NewKind.{NewKind}
use Rattle.dwz_expand_layout.specs.Entries.{NewLine, UnitLines}
use Rattle.dwz_expand_layout.specs.Laid.{Laying, Made, begun, ended, laying_in, laying_of, nothing_laid, with_line, with_unit}
use Rattle.dwz_expand_layout.specs.Written.{Writing, nothing_written, with_entry, with_header, with_written, writing_in, writing_of}

abbrev pub unit_lines : NewKind → List NewLine → UnitLines
unit_lines kind lines = record { kind = kind; lines = lines }

-- ---- the first pass

pub laying_begun : (units : List UnitLines) (kind : NewKind) (old new : Laying) → old ≡ laying_of units → new ≡ begun old kind → new ≡ laying_in units kind []
laying_begun units kind old new so is = is ∙ ap (λ (l : Laying). begun l kind) so

pub laying_added : (units : List UnitLines) (kind : NewKind) (lines : List NewLine) (e : NewLine) (old new : Laying) → old ≡ laying_in units kind lines → new ≡ with_line old e
    → new ≡ laying_in units kind (lines ++ e ∷ [])
laying_added units kind lines e old new so is = is ∙ ap (λ (l : Laying). with_line l e) so ∙ sym (fold_push with_line (begun (laying_of units) kind) lines e)

pub laying_ended : (units : List UnitLines) (kind : NewKind) (lines : List NewLine) (old new : Laying) → old ≡ laying_in units kind lines → new ≡ ended old
    → new ≡ laying_of (units ++ unit_lines kind lines ∷ [])
laying_ended units kind lines old new so is = is ∙ ap (λ (l : Laying). ended l) so ∙ sym (fold_push with_unit nothing_laid units (unit_lines kind lines))

-- ---- the second pass

module _ (made : Made) where
  pub writing_begun : (units : List UnitLines) (kind : NewKind) (old new : Writing) → old ≡ writing_of made units → new ≡ with_header old kind → new ≡ writing_in made units kind []
  writing_begun units kind old new so is = is ∙ ap (λ (w : Writing). with_header w kind) so

  pub writing_added : (units : List UnitLines) (kind : NewKind) (lines : List NewLine) (e : NewLine) (old new : Writing) → old ≡ writing_in made units kind lines → new ≡ with_entry old e
      → new ≡ writing_in made units kind (lines ++ e ∷ [])
  writing_added units kind lines e old new so is = is ∙ ap (λ (w : Writing). with_entry w e) so ∙ sym (fold_push with_entry (with_header (writing_of made units) kind) lines e)

  -- nothing is to be done where a unit ends
  pub writing_ended : (units : List UnitLines) (kind : NewKind) (lines : List NewLine) (old : Writing) → old ≡ writing_in made units kind lines
      → old ≡ writing_of made (units ++ unit_lines kind lines ∷ [])
  writing_ended units kind lines old so = so ∙ sym (fold_push with_written (nothing_written made) units (unit_lines kind lines))
