-- Which facts files have over a common file that stands, by what is planned of them.
use Rattle.std.specs.Prelude.{◌≡◌, ℕ, ◌∷◌, ◌++◌, ◌<◌, ◌^◌, [], List, Ok, length}
use Rattle.dwz_def_reading.specs.Documents.{Doc}
use Rattle.dwz_def_reading.specs.Meanings.{Around}
use Rattle.dwz_def_reading.specs.Meant.{units_meaning}
use Rattle.dwz_def_tops.specs.Spots.{file_numbers}
use Rattle.dwz_def_images.specs.Units.{common_units}
use Rattle.dwz_def_taken.specs.Beside.{compile_doc, reused_of}
use Rattle.dwz_def_taken.specs.Laws.{ArePlacedOver}
use Rattle.dwz_def_taken.specs.Over.{move_over}
use Rattle.dwz_def_taken.specs.Takes.{IsFixed, free_rule}
use Rattle.dwz_graph.specs.Files.{docs_of}
use Rattle.dwz_graph.specs.Index.{Index}
use Rattle.dwz_layout_input.specs.declared.planned.PlannedFiles.{PlannedFiles}
use Rattle.dwz_layout_input.specs.PlannedOver.{ArePlannedOver}
use Rattle.dwz_graph.specs.AllNames.{all_names}
use Rattle.dwz_layout_numbers.specs.Owners.{AreUnitNumbers}
use Rattle.dwz_law_layout.specs.Beside.{Over, Standing}
use Rattle.dwz_law_layout.specs.Facts.{RunFacts, docs, move, units, written}
use Rattle.dwz_law_layout.specs.CommonRows.{AreCommonRows}
use Rattle.dwz_law_layout.specs.OverLaws.{AreOver}
use Rattle.dwz_layout_input.specs.Settled.{AreStored}

-- the facts are of files with these contents and indexes over that common file, of what is taken of it, and of their plan
pub record AreFactsOver (contents : List (List ℕ)) (indexes : List Index) (p : PlannedFiles) (s : Standing) (f : RunFacts (Over s)) : Type 0
  where
    pub contents_are : f.contents ≡ contents
    pub indexes_are : f.indexes ≡ indexes
    pub rule_is : f.rule ≡ free_rule (reused_of (docs_of contents) s.doc) s.fixed
    pub plan_is : f.planned ≡ p.plan
    pub placed : ArePlacedOver (docs_of contents) s.doc
    pub fixed : IsFixed (reused_of (docs_of contents) s.doc) s.fixed
    pub planned : ArePlannedOver (docs_of contents) s.doc s.fixed p

-- the common file stands as it was read, and so do its names; its entries and those of the files are few
pub record StandsSo (s : Standing) (docs : List (Doc ℕ)) : Type 0 where
  pub stands : s.file.units ≡ common_units (move_over (reused_of docs s.doc) s.fixed (file_numbers 0 docs))
  pub around : Around ℕ
  pub means : units_meaning around s.file.raw ≡ Ok s.doc.units
  pub rows : AreCommonRows s docs
  pub few : length (all_names (docs ++ compile_doc s.doc ∷ [])) < 2 ^ 32

-- facts of stored files over it and of their plan, whose units are numbered, are facts over it
abbrev pub AreOverLaw : Type 0
AreOverLaw =
    (contents : List (List ℕ)) (indexes : List Index) (p : PlannedFiles) (s : Standing) (f : RunFacts (Over s))
    → AreFactsOver contents indexes p s f → AreStored f → StandsSo s (docs f)
    → AreUnitNumbers (move f) (units f) (written f) f.commons f.parts f.olds → AreOver s f
