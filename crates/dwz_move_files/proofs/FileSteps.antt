-- What is marked of one file, from what its slices hold.
use Rattle.std.proofs.Common.{◌≡◌, ℕ, true, Bool, List, map, Option, Some, sym, ap, subst, ◌∙◌}
use Rattle.std.specs.List.{list_any}
use Rattle.dwz_def_tops.specs.Alike.{any_attr, is_in, names_in_unit}
use Rattle.dwz_def_tops.specs.Spots.{EntryName}
use Rattle.dwz_def_reading.specs.Lists.{In}
use Rattle.dwz_def_reading.specs.Units.{RawUnit, entries_in}
use Rattle.dwz_graph.specs.declared.file.File.{File}
use Rattle.dwz_graph.specs.Index.{Index}
use Rattle.dwz_def_reading.specs.Documents.{Doc, unit_map}
use Rattle.dwz_def_reading.specs.Files.{around_of}
use Rattle.dwz_def_plan.specs.Plan.{pinned_in}
use Rattle.dwz_graph.specs.ListOperand.{ListOperand}
use Rattle.dwz_graph.specs.Parts.{AreParted}
use Rattle.dwz_graph.specs.Resolved.{AreEntries}
use Rattle.dwz_move.specs.Known.{KnowsRefs, in_unit, tops_of_refs}
use Rattle.dwz_move.specs.Marked.{Marks, MarksIf, expression_names, expression_pins}
use Rattle.dwz_unit.specs.Rows.{units_of as raw_units}
use Rattle.dwz_graph.specs.Across.{IsFileAmong, file_units, name_at}
use Rattle.dwz_move_files.specs.Lists.{entries_of, uleb_tops}
use Rattle.dwz_move_files.proofs.FileMarks.{entries_low, names_all, pins_all}
use Rattle.dwz_move_files.proofs.MarkSteps.{marks_then}

module _ (contents : List (List ℕ)) (file : ℕ) (bytes : List ℕ) (f : File) (x : Index) (is : IsFileAmong contents file bytes f x) where
  abbrev raw : List RawUnit
  raw = raw_units f.units

  abbrev doc : Doc ℕ
  doc = is.kept.read.doc

  abbrev name : ℕ → EntryName
  name = name_at x.starts doc

  pub knows_at : (refs starts : List ℕ) (into : List (Option ℕ)) → refs ≡ f.resolved.refs.items → starts ≡ f.resolved.starts.items → into ≡ tops_of_refs name raw refs
      → KnowsRefs (around_of bytes raw) raw name f.resolved.refs.items starts into
  knows_at refs starts into r s i = record {
    parted = subst (λ (w : List ℕ). AreParted (around_of bytes raw) raw (entries_in raw) f.resolved.refs.items w) (sym s) is.kept.read.parts;
    entries = is.kept.read.within;
    into_are = i ∙ ap (tops_of_refs name raw) r;
  }

  pub refs_low : (refs : List ℕ) → refs ≡ f.resolved.refs.items → AreEntries raw refs
  refs_low refs r = subst (AreEntries raw) (sym r) is.kept.read.within

  pub rows_low : (rows : List ListOperand) → rows ≡ f.resolved.operands.items → AreEntries raw (entries_of rows)
  rows_low rows e = subst (λ (w : List ListOperand). AreEntries raw (entries_of w)) (sym e) (entries_low contents file bytes f x is)

  pub file_any : (rows : List ListOperand) → rows ≡ f.resolved.operands.items → (old mid new : List Bool)
      → MarksIf (λ t. list_any (in_unit (any_attr (expression_names t))) (map (unit_map name) doc.units) ≡ true) old mid → Marks (tops_of_refs name raw (entries_of rows)) mid new
      → MarksIf (λ t. list_any (names_in_unit t) (file_units x.starts file doc) ≡ true) old new
  file_any rows e old mid new a b =
      marks_then (λ t. list_any (in_unit (any_attr (expression_names t))) (map (unit_map name) doc.units) ≡ true) (λ t. In (Some t) (tops_of_refs name raw (entries_of f.resolved.operands.items)))
      (λ t. list_any (names_in_unit t) (file_units x.starts file doc) ≡ true) old mid new a
      (subst (λ (w : List ListOperand). Marks (tops_of_refs name raw (entries_of w)) mid new) e b) (names_all contents file bytes f x is)

  pub file_uleb : (rows : List ListOperand) → rows ≡ f.resolved.operands.items → (old mid new : List Bool)
      → MarksIf (λ t. list_any (in_unit (any_attr (expression_pins t))) (map (unit_map name) doc.units) ≡ true) old mid → Marks (uleb_tops rows (tops_of_refs name raw (entries_of rows))) mid new
      → MarksIf (λ t. list_any (pinned_in (is_in t)) (file_units x.starts file doc) ≡ true) old new
  file_uleb rows e old mid new a b =
      marks_then (λ t. list_any (in_unit (any_attr (expression_pins t))) (map (unit_map name) doc.units) ≡ true)
      (λ t. In (Some t) (uleb_tops f.resolved.operands.items (tops_of_refs name raw (entries_of f.resolved.operands.items))))
      (λ t. list_any (pinned_in (is_in t)) (file_units x.starts file doc) ≡ true) old mid new a
      (subst (λ (w : List ListOperand). Marks (uleb_tops w (tops_of_refs name raw (entries_of w))) mid new) e b) (pins_all contents file bytes f x is)
