-- Imports as relations.
use Rattle.std.proofs.Common.{◌≡◌, ℕ, false, List, [], ◌∷◌, refl, ap, subst, inl, eq-eqb, eqb-true}
use Rattle.dwz_def_reading.specs.Documents.{DwUnit}
use Rattle.dwz_def_reading.specs.Lists.{In}
use Rattle.dwz_def_tops.specs.Shown.{unit_keys}
use Rattle.dwz_def_expand.specs.ExpandLaws.{IsTest}
use Rattle.dwz_def_expand.specs.Source.{imported_by, imported_in, once}
use Rattle.dwz_def_expand.proofs.ChildrenLemmas.{imported_from, in_imported, in_once, no_parts, none_imported, once_from}
use Rattle.dwz_def_expand.proofs.SourceLemmas.{unit_one}
use Rattle.dwz_imports.specs.ImportLaws.{ImportedLaw, ImportsNoneLaw}
use Rattle.dwz_imports.specs.Imports.{is_some_unit, same}

test : IsTest same
test = record { yes = λ p q e. eqb-true p q e; no = λ p. eq-eqb p p refl }

none_there : (vs : List (DwUnit ℕ)) → is_some_unit vs ≡ false → vs ≡ []
none_there [] e = refl
none_there (v ∷ vs) e = absurd cc

pub imports_none : ImportsNoneLaw
imports_none units e = (
  λ none. none_imported same test units e (none_there (imported_by same units e) none),
  λ none. ap is_some_unit (no_parts same test units e none),
)

pub imported : ImportedLaw
unfolding unit_keys
imported units f numbers apart are v = (
  λ h. imported_from same test units f v (once_from same test units (imported_in same units f) v h),
  λ h.
      let o = in_once same test units (imported_in same units f) v (in_imported same test units f h.0 v h.1 h.2) in
      let i = imported_from same test units f o.one (once_from same test units (imported_in same units f) o.one o.there) in
      let one : o.one ≡ v = unit_one units apart o.one v i.2.unit h.2.unit v.at (inl o.at) (inl refl) in
      subst (λ (w : DwUnit ℕ). In w (once same (imported_in same units f))) one o.there,
)
