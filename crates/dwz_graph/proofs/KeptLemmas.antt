-- The files of a graph, from what was read of each.
use Rattle.std.proofs.Common.{◌≡◌, ℕ, ◌^◌, ◌<◌, ◌≤◌, List, [], length, Some, None, Result, Ok, Err, refl, sym, ap, subst, ◌∙◌, arith}
use Rattle.dwz_model.specs.declared.fault.Fault.{Fault}
use Rattle.dwz_model.specs.declared.fault.GraphErr.{GraphErr}
use Rattle.dwz_def_reading.specs.Documents.{Doc}
use Rattle.dwz_def_reading.specs.Files.{Limits, file_meaning_by, files_meaning, limits_after, longest_file, no_files_before}
use Rattle.dwz_def_reading.specs.Finished.{beside_meaning, common_read, rule_of_back}
use Rattle.dwz_def_reading.specs.Meanings.{Sources, all_places}
use Rattle.dwz_def_reading.specs.Units.{RawUnit}
use Rattle.dwz_def_reading.proofs.FileLemmas.{file_agrees_by}
use Rattle.dwz_graph.specs.declared.file.File.{File}
use Rattle.dwz_graph.specs.declared.rule.Beside.{Beside}
use Rattle.dwz_graph.specs.ByRule.{IsReadBy, back_rule, common_rule, numbered_rule}
use Rattle.dwz_graph.specs.Files.{AreBack, AreBehind, AreKept, AreReadFrom, FilesFail, Leaves, docs_of}
use Rattle.dwz_graph.specs.Index.{Index}
use Rattle.dwz_graph.specs.Indexed.{AreIndexes, first_starts}
use Rattle.dwz_unit.specs.declared.mode.FileKind.TheVariants.{Common}
use Rattle.dwz_unit.specs.Rows.{Source, units_of}
use Rattle.dwz_graph.proofs.BesideLemmas.{beside_files_fail, beside_is, common_says}
use Rattle.dwz_graph.proofs.EnoughRoom.{none_leave_more, read_before}
use Rattle.dwz_graph.proofs.IndexRoom.{entries_within}
use Rattle.dwz_graph_resolve.proofs.PlaceLemmas.{places_are, places_many}

-- none are given
pub none_kept : (contents : List (List ℕ)) (files : List File) → contents ≡ [] → files ≡ [] → AreKept contents files
none_kept contents files none empty =
    subst (λ (fs : List File). AreKept contents fs) (sym empty) (subst (λ (xs : List (List ℕ)). AreKept xs []) (sym none) (record { end = no_files_before; are = refl }))

-- and they have no indexes
pub none_indexed : (contents : List (List ℕ)) (indexes : List Index) → contents ≡ [] → indexes ≡ [] → AreIndexes (docs_of contents) indexes
unfolding docs_of files_meaning
none_indexed contents indexes none empty =
    subst (λ (xs : List Index). AreIndexes (docs_of contents) xs) (sym empty)
    (subst (λ (cs : List (List ℕ)). AreIndexes (docs_of cs) []) (sym none) (record { end = first_starts; are = refl }))

-- none may have been written
pub none_back : (contents : List (List ℕ)) (files : List File) → contents ≡ [] → files ≡ [] → AreBack None contents files
none_back contents files none empty =
    subst (λ (fs : List File). AreBack None contents fs) (sym empty) (subst (λ (xs : List (List ℕ)). AreBack None xs []) (sym none) (record { end = no_files_before; are = refl }))

-- and none beside a common file
pub none_beside : (bytes : List ℕ) (raw : List RawUnit) (doc : Doc ℕ) (contents : List (List ℕ)) (files : List File) → file_meaning_by common_rule no_files_before bytes ≡ Ok (raw, doc) → contents ≡ []
    → files ≡ [] → AreBack (Some bytes) contents files
none_beside bytes raw doc contents files means none empty =
    subst (λ (fs : List File). AreBack (Some bytes) contents fs) (sym empty)
    (subst (λ (xs : List (List ℕ)). AreBack (Some bytes) xs []) (sym none) (raw, doc, means, record { end = limits_after no_files_before bytes raw; are = refl }))

-- files that are read behind a common file are read as well behind none
pub kept_behind : (bytes : List ℕ) (raw : List RawUnit) (contents : List (List ℕ)) (files : List File) → AreReadFrom (limits_after no_files_before bytes raw) contents files → AreKept contents files
kept_behind bytes raw contents files h =
    let r = read_before (limits_after no_files_before bytes raw) no_files_before 0 contents files h.end (none_leave_more bytes raw) h.are in
    record { end = r.0; are = r.1 }

-- what others see of a common file
pub record IsSeen (bytes : List ℕ) (f : File) (c : Beside) : Type 0 where
  pub bytes_are : c.bytes.now ≡ bytes
  pub units : c.part.units.now ≡ f.units
  pub strs : c.part.strs ≡ f.sections.strs

-- the rule by which files are read beside it
pub seen_rule : (n : ℕ) (bytes : List ℕ) (f : File) (c : Beside) (files : List (List ℕ)) → IsSeen bytes f c → IsReadBy common_rule Common no_files_before n bytes f → (k : ℕ)
    → numbered_rule (rule_of_back (Some (common_read files bytes (units_of f.units))) k) ≡ back_rule (Some c)
seen_rule n bytes f c files s r =
    beside_is c (common_read files bytes (units_of f.units)) s.bytes_are (ap (λ (u : Source). units_of u) s.units)
    (ap (λ (t : _). t.bytes.now) s.strs ∙ ap (λ (w : Sources). w.strs) r.sections)

pub common_known : (n : ℕ) (bytes : List ℕ) (f : File) (c : Beside) → IsSeen bytes f c → IsReadBy common_rule Common no_files_before n bytes f → length (all_places (units_of c.part.units.now)) ≤ 2 ^ 28
common_known n bytes f c s r =
    let raw = units_of f.units in
    let few = entries_within common_rule no_files_before bytes raw r.doc r.means in
    let many = places_many raw in
    let same = ap (λ (w : List ℕ). length w) (places_are raw) in
    subst (λ (u : Source). length (all_places (units_of u)) ≤ 2 ^ 28) (sym s.units) (omega (arith, few, many, same))

pub short_bytes : (l : Limits) (bytes : List ℕ) (raw : List RawUnit) (doc : Doc ℕ) → file_meaning_by common_rule l bytes ≡ Ok (raw, doc) → length bytes < 2 ^ 32
unfolding longest_file
short_bytes l bytes raw doc e = (let r = ((file_agrees_by common_rule l bytes).ok (raw, doc)).0 e in let size = r.size.file in omega (arith, size))

abbrev units_or_none : Result (List RawUnit × Doc ℕ) Fault → List RawUnit
units_or_none (Ok x) = x.0
units_or_none (Err f) = []

-- what a common file leaves is what it leaves by its units
pub leaves_by : (l : Limits) (bytes : List ℕ) (raw : List RawUnit) (doc : Doc ℕ) → Leaves bytes l → file_meaning_by common_rule no_files_before bytes ≡ Ok (raw, doc) → l ≡ limits_after no_files_before bytes raw
leaves_by l bytes raw doc h e = h.left ∙ ap (λ (w : Result (List RawUnit × Doc ℕ) Fault). limits_after no_files_before bytes (units_or_none w)) (sym h.means ∙ e)

-- files behind it that are refused
pub behind_fails : (e : GraphErr) (files : List (List ℕ)) (bytes : List ℕ) (l : Limits) → Leaves bytes l → FilesFail e (files_meaning l 0 files) → FilesFail e (beside_meaning bytes files)
behind_fails e files bytes l h is =
    beside_files_fail e files bytes h.units _ (common_says files bytes h.units h.doc h.means) (subst (λ (k : Limits). FilesFail e (files_meaning k 0 files)) h.left is)

-- and files behind it that were read
pub behind_kept : (files : List (List ℕ)) (bytes : List ℕ) (l : Limits) (items : List File) → Leaves bytes l → AreReadFrom l files items → AreBehind bytes files items
behind_kept files bytes l items h are = record {
  units = h.units;
  doc = h.doc;
  means = h.means;
  are = subst (λ (k : Limits). AreReadFrom k files items) h.left are;
}
