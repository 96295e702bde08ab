-- The documents of files that are kept, by their numbers; and that these are few.
use Rattle.std.proofs.Common.{◌≡◌, ℕ, zero, suc, ◌<◌, ◌≤◌, ◌^◌, List, [], ◌∷◌, length, Some, slice_get, Ok, refl, sym, ap, ◌∙◌, inl, inr, arith}
use Rattle.std.specs.List.{slice_index_or}
use Rattle.dwz_model.specs.declared.fault.Reason.TheVariants.{NotElf}
use Rattle.dwz_def_reading.specs.Documents.{Doc}
use Rattle.dwz_def_reading.specs.ElfFaults.{file_fault}
use Rattle.dwz_def_reading.specs.Files.{Limits, file_meaning, files_meaning, limits_after, longest_files, no_files_before}
use Rattle.dwz_def_reading.specs.Units.{RawUnit}
use Rattle.dwz_def_reading.proofs.FileLemmas.{file_agrees}
use Rattle.dwz_def_reading.proofs.ListFacts.{got_below, got_there, item_got}
use Rattle.dwz_graph.specs.declared.file.File.{File}
use Rattle.dwz_graph.specs.Files.{AreKept, AreRead, HasFile, IsRead, docs_of}
use Rattle.dwz_graph.proofs.FileLemmas.{files_few}
use Rattle.dwz_graph.proofs.GraphLemmas.{file_there, files_read, same_raw, step}
use Rattle.dwz_unit.specs.Rows.{units_of}
use Rattle.dwz_graph.proofs.FileWalk.{later_docs}

-- ---- the documents behind one

pub first_doc : (l : Limits) (n : ℕ) (b : List ℕ) (contents : List (List ℕ)) (raw : List RawUnit) (doc : Doc ℕ) (docs : List (Doc ℕ)) → file_meaning l b ≡ Ok (raw, doc)
    → files_meaning l n (b ∷ contents) ≡ Ok docs
    → (rest : List (Doc ℕ)) × (files_meaning (limits_after l b raw) (suc n) contents ≡ Ok rest) × (doc ∷ rest ≡ docs)
first_doc l n b contents raw doc docs m e = later_docs doc (files_meaning (limits_after l b raw) (suc n) contents) docs (sym (step l n b raw doc contents m) ∙ e)

-- ---- the document of the file with a number

has_doc : (l : Limits) (n : ℕ) (contents : List (List ℕ)) (k : ℕ) (m : Limits) (bytes : List ℕ) (raw : List RawUnit) (doc : Doc ℕ) (docs : List (Doc ℕ)) → HasFile l contents k m bytes raw doc
    → files_meaning l n contents ≡ Ok docs → slice_get docs k ≡ Some doc
has_doc l n [] k m bytes raw doc docs h e = absurd h
has_doc l n (b ∷ contents) zero m bytes raw doc docs h e =
    let r = first_doc l n b contents raw doc docs h.2 e in
    ap (λ (w : List (Doc ℕ)). slice_get w 0) (sym r.2)
has_doc l n (b ∷ contents) (suc k) m bytes raw doc docs h e =
    let r = first_doc l n b contents h.0 h.1 docs h.2 e in
    ap (λ (w : List (Doc ℕ)). slice_get w (suc k)) (sym r.2) ∙ has_doc (limits_after l b h.0) (suc n) contents k m bytes raw doc r.0 h.3 r.1

-- the file at an index, as goals write it
pub at_index : (files : List File) (k : ℕ) (f : File) → k < length files → f ≡ slice_index_or files k f → slice_get files k ≡ Some (slice_index_or files k f)
at_index files k f lt is = item_got files k f lt is ∙ ap Some is

-- the file with a number, as it is kept
pub record IsFileOf (contents : List (List ℕ)) (k : ℕ) (f : File) : Type 0 where
  pub limits : Limits
  pub bytes : List ℕ
  pub content : slice_get contents k ≡ Some bytes
  pub read : IsRead limits k bytes f
  pub there : HasFile no_files_before contents k limits bytes (units_of f.units) read.doc
  pub doc_is : slice_get (docs_of contents) k ≡ Some read.doc

pub file_of : (contents : List (List ℕ)) (files : List File) (k : ℕ) (f : File) → AreKept contents files → slice_get files k ≡ Some f → IsFileOf contents k f
file_of contents files k f kept got =
    let many = files_few contents files kept in
    let lt = got_below files k f got in
    let b = got_there contents k (omega arith) in
    let t = file_there no_files_before 0 contents files kept.end k k b.0 f (omega arith) kept.are b.1 got in
    record {
      limits = t.limits;
      bytes = b.0;
      content = b.1;
      read = t.read;
      there = t.there;
      doc_is = has_doc no_files_before 0 contents k t.limits b.0 (units_of f.units) t.read.doc (docs_of contents) t.there (files_read contents files kept.end kept.are);
    }

-- it says the same, however it is asked for
pub same_file : (contents : List (List ℕ)) (k : ℕ) (f g : File) → IsFileOf contents k f → IsFileOf contents k g → units_of f.units ≡ units_of g.units
same_file contents k f g a b = (same_raw no_files_before contents k a.limits b.limits a.bytes b.bytes (units_of f.units) (units_of g.units) a.read.doc b.read.doc a.there b.there).1

-- ---- how many files there are

-- a file that is read has bytes
some_bytes : (l : Limits) (bytes : List ℕ) (raw : List RawUnit) (doc : Doc ℕ) → file_meaning l bytes ≡ Ok (raw, doc) → (1 ≤ length bytes) × (length bytes ≤ l.bytes)
some_bytes l bytes raw doc e =
    let r = ((file_agrees l bytes).ok (raw, doc)).0 e in
    let header : length bytes < 64 → ⊥ = λ lt. r.elf (file_fault NotElf (length bytes)) (inl (inr (refl, lt))) in
    (by (length bytes) header, r.size.files) where
      by : (n : ℕ) → (n < 64 → ⊥) → 1 ≤ n
      by zero h = absurd (h (omega arith))
      by (suc n) h = omega arith

all_short : (l : Limits) (n : ℕ) (contents : List (List ℕ)) (files : List File) (left : Limits) → AreRead l n contents files left → length files ≤ l.bytes
all_short l n [] [] left h = omega arith
all_short l n [] (y ∷ files) left h = absurd h
all_short l n (b ∷ contents) [] left h = absurd h
all_short l n (b ∷ contents) (y ∷ files) left h =
    let own = some_bytes l b (units_of y.units) h.0.doc h.0.means in
    let some = own.0 in
    let within = own.1 in
    let more = all_short (limits_after l b (units_of y.units)) (suc n) contents files left h.1 in
    omega arith

-- there are fewer files than numbers of 32 bits
pub files_small : (contents : List (List ℕ)) (files : List File) → AreKept contents files → length files < 2 ^ 32
unfolding longest_files
files_small contents files kept = let few = all_short no_files_before 0 contents files kept.end kept.are in omega arith
