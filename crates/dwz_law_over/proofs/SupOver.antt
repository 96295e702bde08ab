-- Nothing is wrong with the `.debug_sup` of what was written over a finished common file; and which files have it.
use Rattle.std.proofs.Common.{◌≡◌, ◌||◌, ◌++◌, ℕ, ◌+◌, Bool, true, false, List, Some, None, length, unwrap_or, refl, sym, ap, ◌∙◌}
use Rattle.std.specs.Prelude.{if◌then◌else◌}
use Rattle.std.specs.Option.{is_some}
use Rattle.dwz_def_reading.specs.Documents.{Doc}
use Rattle.dwz_def_reading.specs.ElfReading.{elf_of}
use Rattle.dwz_def_reading.specs.Files.{debug_abbrev, debug_info, section_of}
use Rattle.dwz_def_reading.specs.Finished.{file_sup_fault, has_sup, is_of_file}
use Rattle.dwz_def_reading.specs.Lists.{Each, Nth}
use Rattle.dwz_def_reading.specs.Supplementary.{sup_bytes}
use Rattle.dwz_def_reading.specs.Texts.{NoZero}
use Rattle.dwz_def_reading.specs.Values.{AreBytes}
use Rattle.dwz_def_reading.proofs.SoundFiles.{reads_sound}
use Rattle.dwz_def_reading.proofs.SupLemmas.{sup_again}
use Rattle.dwz_sup.proofs.LengthLemmas.{sum_len}
use Rattle.dwz_def_images.specs.Units.{changes}
use Rattle.dwz_def_readback.specs.Files.{CommonFile, Run, imports_common}
use Rattle.dwz_def_readback.proofs.StillPlaces.{nth_number}
use Rattle.dwz_def_output.specs.FilesAfter.{bytes_by, changes_after_by, file_after_by, order_of, sum_of, sup_after_by}
use Rattle.dwz_def_output.proofs.FilesRead.{content_bytes}
use Rattle.dwz_def_output.proofs.RebuiltLemmas.{same_there}
use Rattle.dwz_def_taken.specs.Beside.{offsets_doc}
use Rattle.dwz_def_over.specs.Over.{OverFiles, run_over, stands}
use Rattle.dwz_def_over.specs.Written.{CanBeWrittenOver, IsAnew, file_over, sup_over}
use Rattle.dwz_def_over.proofs.AllOver.{changed, file_free, read, sections_free, tied_over}
use Rattle.dwz_def_over.proofs.FilesOver.{can_be_made, has_sup as sup_is}
use Rattle.dwz_def_over.proofs.PlacedOver.{placed_over}
use Rattle.dwz_law_cross.proofs.ReadLemmas.{none_there}
use Rattle.dwz_law_cross.proofs.SupLemmas.{if_not, if_there, of_file, sum_good, sup_long}
use Rattle.dwz_law_over.specs.SupOverLaws.{NamesOverLaw, SupOverLaw, TakesOverLaw}
use Rattle.dwz_law_over.proofs.ImportsOver.{still_imports_none, taker_imports, taker_of}

module _ (name : List ℕ) (o : OverFiles) (are : Each AreBytes o.contents) (w : CanBeWrittenOver name o) where
  abbrev r : Run
  r = run_over o

  abbrev cf : CommonFile
  cf = stands o

  sum_long : length (sum_of o.common) ≡ 32
  sum_long = sum_len (debug_info o.common ++ section_of o.common 3 ++ debug_abbrev o.common)

  module _ (file : ℕ) (c : IsAnew o file) where
    abbrev was : List ℕ
    was = (run_over o).input.bytes file

    abbrev out : List ℕ
    out = file_over name o file

    -- just those have it that import from the common file
    imports_there : has_sup out ≡ imports_common r.move r.units file
    unfolding file_after_by
    imports_there =
        let d = changed name o are w file c.1 in
        let can = can_be_made name cf r file d.doc d.read (content_bytes o.contents are file) d.some c.1 (sections_free name o are w file c.0) (file_free name o are w file c.0) in
        let none : has_sup was ≡ false = none_there was (reads_sound d.read.limits was (r.input.raw file) d.doc d.read.reads) in
        same_there was (changes_after_by cf name r file) (order_of (elf_of was)) can 9 ∙ ap (λ (b : Bool). b || is_some (sup_after_by cf name r file)) none ∙ by (imports_common r.move r.units file)
      where
        by : (b : Bool) → is_some (if b then Some (sup_bytes (sup_over name o)) else None) ≡ b
        by true = refl
        by false = refl

    imports_good : NoZero name → imports_common r.move r.units file ≡ true → file_sup_fault (Some o.common) out ≡ None
    imports_good no_zero imports =
        let d = changed name o are w file c.1 in
        let has = sup_is name cf r file d.doc d.read (content_bytes o.contents are file) d.some c.1 (sections_free name o are w file c.0) (file_free name o are w file c.0) in
        let s = sup_over name o in
        let is : section_of out 9 ≡ sup_bytes (sup_over name o) = has ∙ ap (λ (b : Bool). unwrap_or (if b then Some (sup_bytes (sup_over name o)) else None) (section_of was 9)) imports in
        let long : length (section_of out 9) ≡ length name + 37 = ap length is ∙ sup_long (sup_over name o) sum_long in
        if_there o.common out
        (sum_good is_of_file (sum_of o.common) (section_of out 9) s refl (of_file (section_of out 9) s refl sum_long long)
        (sup_again (section_of out 9) s (tied_over name o are w no_zero file c imports)))

    file_good : NoZero name → file_sup_fault (Some o.common) out ≡ None
    file_good no_zero = by (imports_common r.move r.units file) refl where
      by : (b : Bool) → imports_common r.move r.units file ≡ b → file_sup_fault (Some o.common) out ≡ None
      by true e = imports_good no_zero e
      by false e = if_not o.common out (imports_there ∙ e)

  -- ---- every file

  module _ (file : ℕ) (doc : Doc ℕ) (nth : Nth 0 o.said.docs file doc) where
    none_before : has_sup (r.input.bytes file) ≡ false
    none_before =
        let f = read name o are w file doc nth in
        none_there (r.input.bytes file) (reads_sound f.limits (r.input.bytes file) (r.input.raw file) doc f.reads)

    names_it : has_sup (bytes_by (changes r.move r.units file) (r.input.bytes file) (file_over name o file)) ≡ imports_common r.move r.units file
    names_it = by (changes r.move r.units file) refl where
      by : (b : Bool) → changes r.move r.units file ≡ b → has_sup (bytes_by b (r.input.bytes file) (file_over name o file)) ≡ imports_common r.move r.units file
      by true e = imports_there file (nth_number 0 o.said.docs file doc nth, e)
      by false e = none_before ∙ sym (still_imports_none o.said.docs (offsets_doc o.said.common) o.fixed (placed_over o are w.read) w.read.taken.lists file e)

pub sup_over_good : SupOverLaw
sup_over_good name o are w no_zero file c = file_good name o are w file c no_zero

pub names_over : NamesOverLaw
names_over name o are w file doc nth = (none_before name o are w file doc nth, names_it name o are w file doc nth)

pub takes_over : TakesOverLaw
takes_over o are is file =
    let docs = o.said.docs in
    let common = offsets_doc o.said.common in
    let placed = placed_over o are is in (
      (λ e. let t = taker_of docs common o.fixed placed is.taken.lists file e in record { unit = t.unit; part = t.part; takes = t.takes; of_file = t.of_file }),
      (λ t. taker_imports docs common o.fixed placed is.taken.lists file (record { unit = t.unit; part = t.part; takes = t.takes; of_file = t.of_file })),
    )
