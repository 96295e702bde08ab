-- Files that read behind a common file read by themselves as well, say the same, and are stored the same.
use Rattle.std.proofs.Common.{◌≡◌, ℕ, ◌≤◌, Bool, false, List, [], ◌∷◌, get_or, refl, sym, ap, ◌∙◌, arith, Result}
use Rattle.dwz_model.specs.declared.fault.Refusal.{Refusal}
use Rattle.dwz_def_reading.specs.Documents.{Doc}
use Rattle.dwz_def_reading.specs.Entries.{given}
use Rattle.dwz_def_reading.specs.Files.{IsForMachine, Limits, ReadAll, Reads, limits_after, machine_of, no_files_before}
use Rattle.dwz_def_reading.specs.Units.{RawUnit}
use Rattle.dwz_def_reading.proofs.FileLemmas.{file_agrees, files_agree}
use Rattle.dwz_def_reading.proofs.RoomLemmas.{units_fit}
use Rattle.dwz_def_output.specs.Written.{raws, stored_behind, stored_of}
use Rattle.dwz_graph.specs.Files.{docs_of, or_none}
use Rattle.dwz_graph.proofs.SpacesFew.{few_entries}
use Rattle.dwz_run_files.proofs.FilesStored.{raws_step}

-- the one leave at least as much as the others
pub record LeaveMore (l m : Limits) : Type 0 where
  pub bytes : l.bytes ≤ m.bytes
  pub entries : l.entries ≤ m.entries
  pub machine : (k : ℕ) → IsForMachine l.machine k → IsForMachine m.machine k

pub none_leave_more : (b : List ℕ) (raw : List RawUnit) → LeaveMore (limits_after no_files_before b raw) no_files_before
none_leave_more b raw = record { bytes = omega arith; entries = omega arith; machine = λ k h. tt }

reads_more : (l m : Limits) (b : List ℕ) (raw : List RawUnit) (doc : Doc ℕ) → LeaveMore l m → Reads l b raw doc → Reads m b raw doc
reads_more l m b raw doc more r =
    let few = few_entries l b raw doc (((file_agrees l b).ok (raw, doc)).1 r) in
    let size = r.size.files in
    let bytes = more.bytes in
    let entries = more.entries in
    record {
      size = record { file = r.size.file; files = omega (arith, size, bytes) };
      elf = r.elf;
      same_machine = more.machine (machine_of b) r.same_machine;
      sup = r.sup;
      spelled = units_fit m.entries _ (given l.entries) 0 0 raw 0 _ (omega (arith, few, entries)) r.spelled;
      means = r.means;
      machine = r.machine;
      ranges = r.ranges;
      lists = r.lists;
    }

more_after : (l m : Limits) (b : List ℕ) (raw : List RawUnit) → LeaveMore l m → LeaveMore (limits_after l b raw) (limits_after m b raw)
more_after l m b raw more =
    let bytes = more.bytes in
    let entries = more.entries in
    record { bytes = omega (arith, bytes); entries = omega (arith, entries); machine = λ k h. h }

-- where others leave more
pub read_more : (l m : Limits) (files : List (List ℕ)) (docs : List (Doc ℕ)) → LeaveMore l m → ReadAll l files docs
    → ReadAll m files docs × (raws l files ≡ raws m files)
unfolding raws
read_more l m [] [] more all = (tt, refl)
read_more l m [] (d ∷ docs) more all = absurd all
read_more l m (b ∷ files) [] more all = absurd all
read_more l m (b ∷ files) (d ∷ docs) more all =
    let here = reads_more l m b all.0 d more all.1 in
    let rest = read_more (limits_after l b all.0) (limits_after m b all.0) files docs (more_after l m b all.0 more) all.2 in (
      (all.0, here, rest.0),
      raws_step l b files all.0 d (((file_agrees l b).ok (all.0, d)).1 all.1)
          ∙ ap (λ (w : List (List RawUnit)). all.0 ∷ w) rest.1
          ∙ sym (raws_step m b files all.0 d (((file_agrees m b).ok (all.0, d)).1 here)),
    )

pub docs_read : (contents : List (List ℕ)) (docs : List (Doc ℕ)) → ReadAll no_files_before contents docs → docs_of contents ≡ docs
unfolding docs_of
docs_read contents docs all =
    ap (λ (r : Result (List (Doc ℕ)) Refusal). or_none r) (((files_agree no_files_before 0 contents).ok docs).1 all)

pub stored_same : (l : Limits) (contents : List (List ℕ)) (flags : List Bool) → raws l contents ≡ raws no_files_before contents
    → stored_behind l contents flags ≡ stored_of contents flags
stored_same l contents flags same = λ i. record {
  bytes = λ file. get_or contents file [];
  raw = λ file. get_or (same i) file [];
  prunes = λ file. get_or flags file false;
}
