-- What is kept of a file that was read by a rule, as it is asked for of a file whose entries are copied.
use Rattle.std.proofs.Common.{◌≡◌, ℕ, ◌≤◌, ◌^◌, List, length, Option, Some, Ok, sym, subst, slice_get, ◌∙◌}
use Rattle.dwz_def_reading.specs.Documents.{DwUnit}
use Rattle.dwz_def_reading.specs.Entries.{RawAttr}
use Rattle.dwz_def_reading.specs.Files.{Limits}
use Rattle.dwz_def_reading.specs.LineTables.{FileTable}
use Rattle.dwz_def_reading.specs.Meanings.{Around, Common, all_places, scope_of, without_siblings}
use Rattle.dwz_def_reading.specs.Meant.{units_meaning}
use Rattle.dwz_def_reading.specs.NamedLists.{list_of_attr}
use Rattle.dwz_def_reading.specs.Rules.{ReadingRule}
use Rattle.dwz_def_reading.specs.Units.{RawUnit, entries_in}
use Rattle.dwz_def_reading.proofs.FileLemmas.{file_agrees_by}
use Rattle.dwz_def_reading.proofs.MeaningUnits.{units_agree}
use Rattle.dwz_def_output.specs.Refusals.{operands_of_attr}
use Rattle.dwz_def_expand.specs.OneFile.{named_in_attr}
use Rattle.dwz_def_expand.specs.Refusals.{Where}
use Rattle.dwz_unit.specs.declared.mode.FileKind.{FileKind}
use Rattle.dwz_unit.specs.Rows.{EntryRow, rows_of, units_of}
use Rattle.dwz_graph.specs.declared.file.File.{File}
use Rattle.dwz_graph.specs.ByRule.{IsReadBy}
use Rattle.dwz_graph.specs.Parts.{AreParted, HaveLines}
use Rattle.dwz_graph.specs.Surroundings.{AreAmong, sources_view}
use Rattle.dwz_graph.proofs.IndexRoom.{entries_within}
use Rattle.dwz_check_labels.specs.Files.{AreHeres, texts_in}
use Rattle.dwz_check_labels.specs.FilesSaid.{around_given}
use Rattle.dwz_expand_passes.specs.declared.files.SourceFile.{SourceFile}
use Rattle.dwz_expand_passes.specs.Files.{IsFileReady, KnowsFile, StandSo, around_beside, raw_in}
use Rattle.dwz_expand.specs.OneKnown.{IsSourceOf}

-- its parts
pub record Kept : Type 0 where
  pub around : Around ℕ
  pub raw : List RawUnit
  pub refs : List ℕ
  pub starts : List ℕ
  pub tables : List FileTable
  pub lines : List (Option ℕ)

abbrev pub kept_of : File → Option (Common ℕ) → Kept
kept_of f common = record {
  around = around_given f common;
  raw = units_of f.units;
  refs = f.resolved.refs.items;
  starts = f.resolved.starts.items;
  tables = f.resolved.tables.items;
  lines = f.resolved.lines.items;
}

abbrev pub kept_in : SourceFile → Option (Common ℕ) → Kept
kept_in s common = record {
  around = around_beside s common;
  raw = raw_in s;
  refs = s.refs.now;
  starts = s.starts.now;
  tables = s.tables.now;
  lines = s.lines.now;
}

pub kept_same : (f : File) (strs : List ℕ) (s : SourceFile) (common : Option (Common ℕ)) → IsSourceOf f strs s → kept_of f common ≡ kept_in s common
kept_same f strs s common h = sym (λ i. record {
  around = record { sources = sources_view (h.sections i); all = all_places (units_of (h.units i)); place = λ n. n; common = common };
  raw = units_of (h.units i);
  refs = h.refs i;
  starts = h.starts i;
  tables = h.tables i;
  lines = h.lines i;
})

-- ---- what is known of them

pub record KeptSays (k : Kept) (said : List (DwUnit ℕ)) : Type 0 where
  pub means : units_meaning k.around k.raw ≡ Ok said
  pub among : AreAmong k.around.common k.raw k.refs
  pub parts : AreParted k.around k.raw (entries_in k.raw) k.refs k.starts
  pub line_rows : HaveLines k.around k.raw (length k.raw) k.tables k.lines
  pub few : entries_in k.raw ≤ 2 ^ 28

abbrev pub KeptStand : Kept → (ℕ → ℕ) → Where ℕ → Type 0
KeptStand k place stands =
    (i : ℕ) (row : EntryRow) (u : RawUnit) → slice_get (rows_of k.raw) i ≡ Some row → slice_get k.raw row.unit ≡ Some u
    → (index : ℕ) (a : RawAttr) → slice_get (without_siblings row.entry.attrs) index ≡ Some a
    → (stands.value (place row.entry.at) index ≡ a.at)
    × ((n : ℕ) → stands.named (place row.entry.at) index n ≡ named_in_attr (list_of_attr (scope_of k.around u) a) (operands_of_attr (scope_of k.around u) a) n a.at)

pub kept_says : (rule : ReadingRule ℕ) (kind : FileKind) (l : Limits) (number : ℕ) (bytes : List ℕ) (f : File) (r : IsReadBy rule kind l number bytes f) (common : Option (Common ℕ))
    → rule.around bytes (units_of f.units) ≡ around_given f common → KeptSays (kept_of f common) r.doc.units
kept_says rule kind l number bytes f r common same =
    let raw = units_of f.units in
    let reads = ((file_agrees_by rule l bytes).ok (raw, r.doc)).0 r.means in
    record {
      means = subst (λ (a : Around ℕ). units_meaning a raw ≡ Ok r.doc.units) same (((units_agree (rule.around bytes raw) raw).ok r.doc.units).1 reads.means);
      among = subst (λ (a : Around ℕ). AreAmong a.common raw f.resolved.refs.items) same r.within;
      parts = subst (λ (a : Around ℕ). AreParted a raw (entries_in raw) f.resolved.refs.items f.resolved.starts.items) same r.parts;
      line_rows = subst (λ (a : Around ℕ). HaveLines a raw (length raw) f.resolved.tables.items f.resolved.lines.items) same r.lines;
      few = entries_within rule l bytes raw r.doc r.means;
    }

module _ (f : File) (strs : List ℕ) (s : SourceFile) (is : IsSourceOf f strs s) (common : Option (Common ℕ)) where
  pub source_ready : (said : List (DwUnit ℕ)) → KeptSays (kept_in s common) said → IsFileReady s
  source_ready said k = record {
    heres = subst (λ u. AreHeres (units_of u) s.heres.now) (sym is.units) is.heres;
    starts = k.parts.many;
    lines = k.line_rows.many;
  }

  pub source_knows : (said : List (DwUnit ℕ)) → texts_in common ≡ strs → KeptSays (kept_in s common) said → KnowsFile s (around_beside s common) said
  source_knows said texts k = record { texts = texts ∙ sym is.texts_are; means = k.means; among = k.among; parts = k.parts; lines = k.line_rows }

  pub source_stands : (place : ℕ → ℕ) (stands : Where ℕ) → KeptStand (kept_of f common) place stands → StandSo s (around_beside s common) place stands
  source_stands place stands h = subst (λ (k : Kept). KeptStand k place stands) (kept_same f strs s common is) h

  pub source_says : (said : List (DwUnit ℕ)) → KeptSays (kept_of f common) said → KeptSays (kept_in s common) said
  source_says said h = subst (λ (k : Kept). KeptSays k said) (kept_same f strs s common is) h
