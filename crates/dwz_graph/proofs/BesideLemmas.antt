-- What files say beside a common file, from what each says.
use Rattle.std.proofs.Common.{◌≡◌, ℕ, ◌+◌, ◌^◌, true, List, [], length, Some, None, Result, Ok, Err, refl, sym, ap, subst, ◌∙◌}
use Rattle.dwz_model.specs.declared.fault.Fault.{Fault}
use Rattle.dwz_model.specs.declared.fault.GraphErr.{GraphErr}
use Rattle.dwz_model.specs.declared.fault.GraphErr.TheVariants.{NoMemory as NoMemoryFor, Refused as RefusedOf}
use Rattle.dwz_model.specs.declared.fault.Refusal.{Refusal}
use Rattle.dwz_def_reading.specs.Reading.{◌>>=◌}
use Rattle.dwz_def_reading.specs.Documents.{Doc}
use Rattle.dwz_def_reading.specs.ElfFaults.{read_back}
use Rattle.dwz_def_reading.specs.Files.{file_meaning_by, files_meaning, limits_after, no_files_before, refused_in, section_of, sources_of}
use Rattle.dwz_def_reading.specs.Finished.{BesideDocs, FinishedDocs, GivenCommon, beside_docs, beside_meaning, common_meaning, common_read, file_sup_fault, files_meaning_by, finished_docs, finished_meaning, rule_of_back}
use Rattle.dwz_def_reading.specs.Finished.{rule_of_common}
use Rattle.dwz_def_reading.specs.Meanings.{all_places}
use Rattle.dwz_def_reading.specs.Modes.{of_back}
use Rattle.dwz_def_reading.specs.Places.{Place}
use Rattle.dwz_def_reading.specs.Units.{RawUnit}
use Rattle.dwz_graph.specs.declared.rule.Beside.{Beside}
use Rattle.dwz_graph.specs.ByRule.{back_rule, common_rule, doc_placed, numbered_rule}
use Rattle.dwz_graph.specs.Files.{FilesFail, beside_or_none, finished_or_none, said_beside, said_finished}
use Rattle.dwz_graph.proofs.FilesBy.{Alike, alike_fails, alike_ok, files_placed}
use Rattle.dwz_graph.proofs.PlacedFiles.{meaning_placed, means_placed, placed}
use Rattle.dwz_unit.specs.Rows.{units_of}

-- ---- the rules, where numbers stand for places

pub common_is : (n : ℕ) → numbered_rule (rule_of_common n) ≡ common_rule
common_is n = refl

pub alone_is : (n : ℕ) → numbered_rule (rule_of_back None n) ≡ back_rule None
alone_is n = refl

pub beside_is : (c : Beside) (g : GivenCommon) → c.bytes.now ≡ g.bytes → units_of c.part.units.now ≡ g.units → c.part.strs.bytes.now ≡ section_of g.bytes 3 → (n : ℕ)
    → numbered_rule (rule_of_back (Some g) n) ≡ back_rule (Some c)
beside_is c g bytes units strs n = λ i. record {
  manner = read_back;
  sup_fault = file_sup_fault (Some (sym bytes i));
  mode = of_back true;
  around = λ b raw. record {
    sources = sources_of b;
    all = all_places raw;
    place = λ (k : ℕ). k;
    common = Some (record { entries = all_places (sym units i); place = λ (k : ℕ). 2 ^ 32 + k; strs = sym strs i });
  };
}

-- ---- the common file

one_alike : (n : ℕ) (bytes : List ℕ) (r : Result (List RawUnit × Doc ℕ) Fault) → Alike (refused_in n r) (refused_in n (placed (rule_of_common n) bytes r))
one_alike n bytes (Ok x) = tt
one_alike n bytes (Err f) = refl

pub common_fails : (e : GraphErr) (files : List (List ℕ)) (bytes : List ℕ) → FilesFail e (refused_in (length files) (file_meaning_by common_rule no_files_before bytes))
    → FilesFail e (common_meaning files bytes)
common_fails e files bytes is =
    let n = length files in
    subst (λ (q : Result (List RawUnit × Doc Place) Fault). FilesFail e (refused_in n q)) (sym (meaning_placed (rule_of_common n) (λ b raw. refl) no_files_before bytes))
    (alike_fails e (refused_in n (file_meaning_by common_rule no_files_before bytes)) (refused_in n (placed (rule_of_common n) bytes (file_meaning_by common_rule no_files_before bytes)))
    (one_alike n bytes (file_meaning_by common_rule no_files_before bytes)) is)

pub common_says : (files : List (List ℕ)) (bytes : List ℕ) (raw : List RawUnit) (doc : Doc ℕ) → file_meaning_by common_rule no_files_before bytes ≡ Ok (raw, doc)
    → common_meaning files bytes ≡ Ok (raw, doc_placed (rule_of_common (length files)) bytes raw doc)
common_says files bytes raw doc e = ap (refused_in (length files)) (means_placed (rule_of_common (length files)) (λ b raw. refl) no_files_before bytes raw doc e)

-- ---- files by themselves beside it

pub beside_common_fails : (e : GraphErr) (files : List (List ℕ)) (bytes : List ℕ) → FilesFail e (common_meaning files bytes) → FilesFail e (beside_meaning bytes files)
unfolding beside_meaning
beside_common_fails NoMemoryFor files bytes is = tt
beside_common_fails (RefusedOf r) files bytes is =
    ap (λ (q : Result (List RawUnit × Doc Place) Refusal). q >>= λ x. files_meaning (limits_after no_files_before bytes x.0) 0 files >>= beside_docs x.1) is

pub beside_files_fail : (e : GraphErr) (files : List (List ℕ)) (bytes : List ℕ) (raw : List RawUnit) (doc : Doc Place) → common_meaning files bytes ≡ Ok (raw, doc)
    → FilesFail e (files_meaning (limits_after no_files_before bytes raw) 0 files) → FilesFail e (beside_meaning bytes files)
unfolding beside_meaning
beside_files_fail NoMemoryFor files bytes raw doc common is = tt
beside_files_fail (RefusedOf r) files bytes raw doc common is =
    ap (λ (q : Result (List RawUnit × Doc Place) Refusal). q >>= λ x. files_meaning (limits_after no_files_before bytes x.0) 0 files >>= beside_docs x.1) common
    ∙ ap (λ (q : Result (List (Doc ℕ)) Refusal). q >>= beside_docs doc) is

or_beside : (r : Result BesideDocs Refusal) (said : BesideDocs) → r ≡ Ok said → r ≡ Ok (beside_or_none r)
or_beside (Ok x) said e = refl
or_beside (Err f) said e = absurd cc

pub beside_says : (files : List (List ℕ)) (bytes : List ℕ) (raw : List RawUnit) (doc : Doc Place) (docs : List (Doc ℕ)) → common_meaning files bytes ≡ Ok (raw, doc)
    → files_meaning (limits_after no_files_before bytes raw) 0 files ≡ Ok docs → beside_meaning bytes files ≡ Ok (said_beside (record { common = Some bytes; given = files; back = [] }))
unfolding beside_meaning said_beside
beside_says files bytes raw doc docs common is = or_beside (beside_meaning bytes files) (record { common = doc; docs = docs })
    (ap (λ (q : Result (List RawUnit × Doc Place) Refusal). q >>= λ x. files_meaning (limits_after no_files_before bytes x.0) 0 files >>= beside_docs x.1) common
    ∙ ap (λ (q : Result (List (Doc ℕ)) Refusal). q >>= beside_docs doc) is)

-- ---- files that may have been written

or_finished : (r : Result FinishedDocs Refusal) (said : FinishedDocs) → r ≡ Ok said → r ≡ Ok (finished_or_none r)
or_finished (Ok x) said e = refl
or_finished (Err f) said e = absurd cc

-- without a common file
pub alone_fails : (e : GraphErr) (files : List (List ℕ)) → FilesFail e (files_meaning_by (λ (k : ℕ). back_rule None) no_files_before 0 files) → FilesFail e (finished_meaning None files)
unfolding finished_meaning
alone_fails NoMemoryFor files is = tt
alone_fails (RefusedOf r) files is =
    ap (λ (q : Result (List (Doc Place)) Refusal). q >>= finished_docs None)
    (alike_fails (RefusedOf r) (files_meaning_by (λ (k : ℕ). back_rule None) no_files_before 0 files) (files_meaning_by (rule_of_back None) no_files_before 0 files)
    (files_placed (back_rule None) (rule_of_back None) alone_is (λ n b raw. refl) no_files_before 0 files) is)

pub alone_says : (files : List (List ℕ)) (docs : List (Doc ℕ)) → files_meaning_by (λ (k : ℕ). back_rule None) no_files_before 0 files ≡ Ok docs
    → finished_meaning None files ≡ Ok (said_finished (record { common = None; given = []; back = files }))
unfolding finished_meaning said_finished
alone_says files docs is =
    let r = alike_ok (files_meaning_by (λ (k : ℕ). back_rule None) no_files_before 0 files) (files_meaning_by (rule_of_back None) no_files_before 0 files) docs
    (files_placed (back_rule None) (rule_of_back None) alone_is (λ n b raw. refl) no_files_before 0 files) is in
    or_finished (finished_meaning None files) (record { common = None; docs = r.0 }) (ap (λ (q : Result (List (Doc Place)) Refusal). q >>= finished_docs None) r.1)

-- beside one
abbrev finished_behind : List (List ℕ) → List ℕ → List RawUnit × Doc Place → Result FinishedDocs Refusal
finished_behind files bytes x = files_meaning_by (rule_of_back (Some (common_read files bytes x.0))) (limits_after no_files_before bytes x.0) 0 files >>= finished_docs (Some x.1)

pub finished_common_fails : (e : GraphErr) (files : List (List ℕ)) (bytes : List ℕ) → FilesFail e (common_meaning files bytes) → FilesFail e (finished_meaning (Some bytes) files)
unfolding finished_meaning
finished_common_fails NoMemoryFor files bytes is = tt
finished_common_fails (RefusedOf r) files bytes is = ap (λ (q : Result (List RawUnit × Doc Place) Refusal). q >>= finished_behind files bytes) is

module _ (files : List (List ℕ)) (bytes : List ℕ) (raw : List RawUnit) (doc : Doc Place) (c : Beside) (same : (n : ℕ) → numbered_rule (rule_of_back (Some (common_read files bytes raw)) n) ≡ back_rule (Some c))
    (common : common_meaning files bytes ≡ Ok (raw, doc)) where
  files_alike : Alike (files_meaning_by (λ (k : ℕ). back_rule (Some c)) (limits_after no_files_before bytes raw) 0 files)
      (files_meaning_by (rule_of_back (Some (common_read files bytes raw))) (limits_after no_files_before bytes raw) 0 files)
  files_alike = files_placed (back_rule (Some c)) (rule_of_back (Some (common_read files bytes raw))) same (λ n b units. refl) (limits_after no_files_before bytes raw) 0 files

  pub finished_files_fail : (e : GraphErr) → FilesFail e (files_meaning_by (λ (k : ℕ). back_rule (Some c)) (limits_after no_files_before bytes raw) 0 files)
      → FilesFail e (finished_meaning (Some bytes) files)
  unfolding finished_meaning
  finished_files_fail NoMemoryFor is = tt
  finished_files_fail (RefusedOf r) is =
      ap (λ (q : Result (List RawUnit × Doc Place) Refusal). q >>= finished_behind files bytes) common
      ∙ ap (λ (q : Result (List (Doc Place)) Refusal). q >>= finished_docs (Some doc))
      (alike_fails (RefusedOf r) (files_meaning_by (λ (k : ℕ). back_rule (Some c)) (limits_after no_files_before bytes raw) 0 files)
      (files_meaning_by (rule_of_back (Some (common_read files bytes raw))) (limits_after no_files_before bytes raw) 0 files) files_alike is)

  pub finished_says : (docs : List (Doc ℕ)) → files_meaning_by (λ (k : ℕ). back_rule (Some c)) (limits_after no_files_before bytes raw) 0 files ≡ Ok docs
      → finished_meaning (Some bytes) files ≡ Ok (said_finished (record { common = Some bytes; given = []; back = files }))
  unfolding finished_meaning said_finished
  finished_says docs is =
      let r = alike_ok (files_meaning_by (λ (k : ℕ). back_rule (Some c)) (limits_after no_files_before bytes raw) 0 files)
      (files_meaning_by (rule_of_back (Some (common_read files bytes raw))) (limits_after no_files_before bytes raw) 0 files) docs files_alike is in
      or_finished (finished_meaning (Some bytes) files) (record { common = Some doc; docs = r.0 })
      (ap (λ (q : Result (List RawUnit × Doc Place) Refusal). q >>= finished_behind files bytes) common ∙ ap (λ (q : Result (List (Doc Place)) Refusal). q >>= finished_docs (Some doc)) r.1)
