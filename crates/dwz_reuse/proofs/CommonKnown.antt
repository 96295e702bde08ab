-- From the common file of a graph to what is asked of it, and back to what reading the files gives.
use Rattle.std.proofs.Common.{◌≡◌, ℕ, List, [], ◌∷◌, Result, Ok, Err, Option, Some, map, refl, sym, ap, subst, ◌∙◌}
use Rattle.std.specs.Prelude.{IfOk}
use Rattle.dwz_def_reading.proofs.FileLemmas.{file_agrees_by}
use Rattle.dwz_def_reading.proofs.MeaningUnits.{units_agree}
use Rattle.dwz_def_reading.specs.Documents.{Doc, DwUnit, unit_map}
use Rattle.dwz_def_reading.specs.Files.{ReadsBy, no_files_before}
use Rattle.dwz_def_reading.specs.Finished.{BesideDocs, beside_meaning, rule_of_common}
use Rattle.dwz_def_reading.specs.Meanings.{Around}
use Rattle.dwz_def_reading.specs.Meant.{units_meaning}
use Rattle.dwz_def_reading.specs.Places.{Place}
use Rattle.dwz_def_reading.specs.Rules.{ReadingRule}
use Rattle.dwz_def_reading.specs.Units.{RawUnit}
use Rattle.dwz_def_taken.specs.Beside.{offsets_doc, reused_of}
use Rattle.dwz_def_taken.specs.Takes.{IsFixed, IsFixedOf}
use Rattle.dwz_def_taken.specs.declared.fixed.Fixed.{Fixed}
use Rattle.dwz_graph.specs.ByRule.{doc_placed}
use Rattle.dwz_graph.specs.Files.{AreKept, HasCommon, docs_of}
use Rattle.dwz_graph.specs.declared.file.File.{File}
use Rattle.dwz_reuse.specs.Read.{CommonReadLaw}
use Rattle.dwz_reuse.specs.Placed.{BesideLaw, PlacedLaw, SaysCommon}
use Rattle.dwz_reuse.proofs.BesideSaid.{CommonPlaced, same_offsets}
use Rattle.dwz_reuse.specs.Beside.{IsReadBeside}
use Rattle.dwz_unit.specs.Rows.{units_of}

-- the roots are at the same offsets where these stand for places
roots_offsets : (units : List (DwUnit Place)) → map (λ u. u.root.at) (map (unit_map (λ p. p.at)) units) ≡ map (λ u. u.root.at.at) units
roots_offsets [] = refl
roots_offsets (u ∷ units) = ap (λ (w : List ℕ). u.root.at.at ∷ w) (roots_offsets units)

module _ (number : ℕ) (bytes : List ℕ) (f : File) (has : HasCommon number (Some bytes) (Some f)) (contents : List (List ℕ)) (files : List File) (kept : AreKept contents files) (read : CommonReadLaw)
    (placed : PlacedLaw) where
  abbrev raw : List RawUnit
  raw = units_of f.units

  pub record Known : Type 0 where
    pub doc : Doc ℕ
    pub is : IsReadBeside contents f doc
    pub says : SaysCommon number no_files_before bytes raw doc

  pub known : Known
  known =
      let o = read number bytes f has in
      record { doc = o.0; is = record { read = o.1; placed = placed contents files number no_files_before bytes raw o.0 kept o.2 }; says = o.2 }

  -- whatever says where the roots stand says it of what was read beside the files
  pub fixed_of : (by_places : CommonPlaced) (beside : BesideLaw) (said : BesideDocs) → beside_meaning bytes contents ≡ Ok said → (fixed : Fixed)
      → ((around : Around Place) (units : List (DwUnit Place)) → ((n : ℕ) → (around.place n).at ≡ n) → units_meaning around raw ≡ Ok units → fixed.roots ≡ map (λ u. u.root.at.at) units)
      → ((doc : Doc ℕ) → IsReadBeside contents f doc → IsFixed (reused_of (docs_of contents) doc) fixed) → IsFixedOf said fixed
  fixed_of by_places beside said e fixed roots lists =
      let k = known in
      let rule : ReadingRule Place = rule_of_common number in
      let shown : Doc Place = doc_placed rule bytes raw k.doc in
      let same = beside contents files number bytes raw k.doc said kept k.says e in
      let reads : ReadsBy rule no_files_before bytes raw shown = ((file_agrees_by rule no_files_before bytes).ok (raw, shown)).0 (by_places number no_files_before bytes raw k.doc k.says) in
      let means = ((units_agree (rule.around bytes raw) raw).ok shown.units).1 reads.means in
      let both : offsets_doc shown ≡ offsets_doc said.common = same_offsets number no_files_before bytes raw k.doc k.says ∙ sym same.1 in
      record {
        roots = roots (rule.around bytes raw) shown.units (λ n. refl) means ∙ sym (roots_offsets shown.units) ∙ ap (λ (d : Doc ℕ). map (λ u. u.root.at) d.units) both ∙ roots_offsets said.common.units;
        lists = subst (λ (d : List (Doc ℕ)). IsFixed (reused_of d (offsets_doc said.common)) fixed) (sym same.0)
            (subst (λ (d : Doc ℕ). IsFixed (reused_of (docs_of contents) d) fixed) (sym same.1) (lists k.doc k.is));
      }

  -- so it is of an answer, if there is one
  pub fixed_if : {E : Type 0} (by_places : CommonPlaced) (beside : BesideLaw) (said : BesideDocs) → beside_meaning bytes contents ≡ Ok said → (answer : Result Fixed E)
      → ((around : Around Place) (units : List (DwUnit Place)) → ((n : ℕ) → (around.place n).at ≡ n) → units_meaning around raw ≡ Ok units
      → IfOk answer (λ fixed. fixed.roots ≡ map (λ u. u.root.at.at) units))
      → ((doc : Doc ℕ) → IsReadBeside contents f doc → IfOk answer (IsFixed (reused_of (docs_of contents) doc))) → IfOk answer (IsFixedOf said)
  fixed_if by_places beside said e (Ok fixed) roots lists = fixed_of by_places beside said e fixed roots lists
  fixed_if by_places beside said e (Err x) roots lists = tt

pub some_common : (number : ℕ) (o : Option (List ℕ)) (bytes : List ℕ) (p : Option File) (f : File) → o ≡ Some bytes → p ≡ Some f → HasCommon number o p → HasCommon number (Some bytes) (Some f)
some_common number o bytes p f e q h = subst (λ (w : Option File). HasCommon number (Some bytes) w) q (subst (λ (w : Option (List ℕ)). HasCommon number w p) e h)
