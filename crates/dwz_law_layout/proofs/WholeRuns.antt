-- The units of a file after, with the forms of their values, say what they are written for: what was read is carried, and what roots say
-- of bases stands.
use Rattle.std.proofs.Common.{◌≡◌, ℕ, ◌<◌, ◌^◌, Bool, true, false, length, refl, sym, ap, subst, inl, inr, arith, List}
use Rattle.dwz_def_reading.specs.Lists.{Each, In}
use Rattle.dwz_def_reading.proofs.ListFacts.{in_map}
use Rattle.dwz_def_reading.specs.Documents.{Doc}
use Rattle.dwz_def_tops.specs.Alike.{IsAlike, TopScope}
use Rattle.dwz_def_tops.specs.Shown.{units_keys}
use Rattle.dwz_def_images.specs.Homes.{IsChoice, Rule}
use Rattle.dwz_def_reading.specs.Files.{sources_of}
use Rattle.dwz_def_reading.specs.Meanings.{Sources}
use Rattle.dwz_def_tops.specs.Lists.{NoneTwice, Nth}
use Rattle.dwz_def_tops.proofs.Members.{nth_in}
use Rattle.dwz_def_tops.specs.Spots.{EntryName, FileUnit, file_numbers, units_of}
use Rattle.dwz_def_images.specs.After.{ArePlaced, Replaces}
use Rattle.dwz_def_tops.specs.UnitNames.{name_of_place}
use Rattle.dwz_def_reading.specs.Places.{at_file}
use Rattle.dwz_def_images.specs.Units.{all_units, out_units, units_of_file}
use Rattle.dwz_def_images.proofs.FileLemmas.{files_same, replaced}
use Rattle.dwz_def_encoding.specs.Bases.{bases_in}
use Rattle.dwz_def_encoding.specs.Carried.{BasesStand, CarriedUnit, From, OfFile, OperandsStand}
use Rattle.dwz_def_encoding.specs.Meant.{UnitsSay, all_entry_keys}
use Rattle.dwz_def_encoding.specs.Placing.{texts_bytes}
use Rattle.dwz_def_encoding.proofs.Chosen.{units_good}
use Rattle.dwz_def_encoding.proofs.Rising.{entries_are_keys}
use Rattle.dwz_def_encoding.proofs.SameLemmas.{spots_same}
use Rattle.dwz_def_readback.specs.AllFiles.{AreRead}
use Rattle.dwz_def_readback.specs.Back.{WasReadFrom, run_of}
use Rattle.dwz_def_readback.specs.Files.{formed_by}
use Rattle.dwz_def_readback.specs.Files.{Run, Stored, common_fitted, common_out, file_forms, file_out, files_out, formed, imports_common, lists_named, origin_in, shared_if, sources, tells, texts}
use Rattle.dwz_def_readback.proofs.BasesLemmas.{out_bases}
use Rattle.dwz_def_readback.proofs.FewTexts.{read_few}
use Rattle.dwz_def_readback.proofs.HomeLemmas.{top_file}
use Rattle.dwz_def_readback.proofs.LineLemmas.{local_roots, part_bases}
use Rattle.dwz_def_readback.proofs.NameLemmas.{common_entries, file_once, file_there, fitted_entries, fitted_names, not_common, run_once}
use Rattle.dwz_def_readback.proofs.NamedOperands.{IsTold, files_read}
use Rattle.dwz_def_readback.proofs.OutOperands.{out_operands}
use Rattle.dwz_def_readback.proofs.OutsCarried.{out_carried}
use Rattle.dwz_def_readback.proofs.ReadOperands.{file_read, lists_in, reading}
use Rattle.dwz_def_readback.proofs.ReadPlaces.{read_from}
use Rattle.dwz_def_readback.proofs.CommonLemmas.{common_within}
use Rattle.dwz_def_readback.proofs.FilesSound.{all_sound}
use Rattle.dwz_def_readback.proofs.WithinLemmas.{within}
use Rattle.dwz_def_readback.proofs.AllLemmas.{WasRead, files_carried}
use Rattle.dwz_def_readback.proofs.StillPlaces.{number_nth}
use Rattle.dwz_def_readback.specs.Sound.{FewTexts}
use Rattle.dwz_law_layout.specs.Whole.{WholeLaw}
use Rattle.dwz_law_layout.proofs.NoUnits.{no_entry}

-- ---- the units before

module _ (scope : TopScope) (docs : List (Doc ℕ)) (rule : Rule) (placed : Each (λ doc. ArePlaced doc.units) docs) (is : IsAlike scope (units_of docs) rule.alike)
    (choice : IsChoice (units_of docs) rule) (input : Stored) (are : AreRead input docs) where
  abbrev r : Run
  r = run_of rule docs input

  apart : NoneTwice (units_keys (all_units r.move r.units r.files))
  apart = (files_same scope docs rule placed is choice).apart

  abbrev of_file : ℕ → From
  of_file file = OfFile (sources_of (input.bytes file))

  was_read : (file : ℕ) (doc : Doc ℕ) → Nth 0 docs file doc → WasReadFrom (sources_of (input.bytes file)) doc.units
  was_read file doc nth = (let o = are file doc nth in read_from o.limits (input.bytes file) (input.raw file) doc o.reads o.are_bytes)

  whole : Replaces (units_of docs) r.move (all_units r.move (units_of docs) (file_numbers 0 docs))
  whole = replaced scope docs rule placed is choice

  unit_read : (i : ℕ) (u : FileUnit EntryName) → Nth 0 (units_of docs) i u → WasRead of_file u
  unit_read i u nth = files_carried of_file 0 0 0 docs (λ file doc at. (was_read file doc at).carried) u (nth_in 0 (units_of docs) i u nth)

  file_origins : (file : ℕ) (i : ℕ) (u : FileUnit EntryName) → Nth 0 (units_of docs) i u → u.file ≡ file
      → CarriedUnit (OfFile (sources r file)) (bases_in u.unit) u.unit
  file_origins file i u nth of =
      subst (λ (n : ℕ). CarriedUnit (OfFile (sources_of (input.bytes n))) (bases_in u.unit) u.unit) of (unit_read i u nth)

  file_operands : (file : ℕ)
      → Each (λ v. CarriedUnit (OfFile (sources r file)) (origin_in r.move (units_of docs) v.at) v) (out_units r.move (units_of docs) file)
      → Each (OperandsStand (tells r file)) (out_units r.move (units_of docs) file)
  file_operands file carried =
      let name : ℕ → EntryName = λ n. name_of_place docs (at_file file n) in
      out_operands scope (units_of docs) rule is choice (file_numbers 0 docs) whole.old whole.held file
      (tells r file) name (λ unit n. refl)
      (λ k k_in. subst (In k) (sym (fitted_entries r file)) k_in) (OfFile (sources r file)) carried
      (λ i u nth of.
      (let told : IsTold (sources_of (input.bytes u.file)) (input.raw u.file) (λ n. name_of_place docs (at_file u.file n))
      (reading (sources r file).lists (lists_named r file) name (all_entry_keys (units_of_file file (units_of docs)))) = record {
        lists = ap (λ (x : ℕ). (sources_of (input.bytes x)).lists) (sym of);
        named = ap (λ (x : ℕ). lists_in (sources_of (input.bytes x)) (input.raw x)) (sym of);
        name = λ unit n. ap (λ (x : ℕ). name_of_place docs (at_file x n)) (sym of);
      } in
      files_read input.bytes input.raw 0 0 0 docs
      (λ k d at. file_read (sources_of (input.bytes k)) (input.raw k) d.units (are k d at).reads.means) u
      (nth_in 0 (units_of docs) i u nth) _ told
      (λ k k_in. subst (λ (n : ℕ). In k (all_entry_keys (units_of_file n (units_of docs)))) of k_in)))

  file_bases : (file : ℕ) → Each (BasesStand (file_forms r file)) (out_units r.move (units_of docs) file)
  file_bases file = out_bases r file whole.old
      (λ n part nth home. part_bases (OfFile (sources r file)) scope (units_of docs) rule is choice
      (file_numbers 0 docs) whole.old whole.held (λ x. x ≡ file) (file_origins file) n part nth
      (top_file scope (units_of docs) rule is choice (file_numbers 0 docs) file n part nth home) file home
      (file_forms r file).texts (file_forms r file).shared (file_forms r file).paths
      (file_forms r file).offsets)

  -- the texts that a file shares are those of the common file
  shared_few : FewTexts r → (b : Bool) → length (texts_bytes (shared_if b (texts r))) < 2 ^ 32
  unfolding texts_bytes
  shared_few few true = few.strs
  shared_few few false = omega arith

  file_few : (file : ℕ) → In file (file_numbers 0 docs) → length (sources r file).strs < 2 ^ 32
  file_few file there =
      (let o = number_nth 0 docs file there in let read = are file o.0 o.1 in
      read_few read.limits (input.bytes file) (input.raw file) o.0 read.reads 3)

  pub formed_say : FewTexts r → (file : ℕ) → In file (file_numbers 0 docs) → UnitsSay (tells r file) (formed r file)
  unfolding formed_by
  formed_say few file there =
      let names = fitted_names r file in
      let carried = out_carried (OfFile (sources r file)) scope (units_of docs) rule is choice
      (file_numbers 0 docs) whole.old whole.held file (file_origins file)
      (local_roots (OfFile (sources r file)) scope (units_of docs) rule is choice
      (file_numbers 0 docs) whole.old whole.held (λ x. x ≡ file) (file_origins file) file refl) in
      (units_good (file_forms r file) spots_same (OfFile (sources r file)) (tells r file) (out_units r.move (units_of docs) file)
      (fitted_entries r file)
      (subst NoneTwice names (file_once (files_out r) (run_once r apart) (file_out r file) (file_there r file there))) carried
      (within scope docs rule placed is choice input file)
      (λ k common own. not_common r apart file there k (entries_are_keys (common_fitted r) k common)
      (subst (In k) (sym names) own)) (
        file_few file there,
        λ s a of. record {
          strs = ap (λ (x : Sources). x.strs) (sym of);
          line_strs = ap (λ (x : Sources). x.line_strs) (sym of);
          offsets = ap (λ (x : Sources). x.offsets) (sym of);
          line = ap (λ (x : Sources). x.line) (sym of);
          slots = ap (λ (x : Sources). x.offsets) (sym of);
        },
        record { strs = refl; few = shared_few few (imports_common r.move (units_of docs) file) },
      ) (file_bases file) (file_operands file carried)).1

-- ---- all

pub whole_runs : WholeLaw
whole_runs scope docs rule placed is choice input =
    let same = files_same scope docs rule placed is choice in
    record {
      apart = same.apart;
      entries = λ u s there key e. no_entry docs rule placed u s there key e;
      mains = same.mains;
      shared = common_entries (run_of rule docs input);
      closed = λ file. within scope docs rule placed is choice input file;
      common = common_within scope docs rule placed is choice input;
      common_sound = λ are few. all_sound scope docs input are rule is choice few (common_out (run_of rule docs input)) (inl refl);
      sound = λ are few file there. all_sound scope docs input are rule is choice few (file_out (run_of rule docs input) file)
          (inr (in_map (file_out (run_of rule docs input)) file (file_numbers 0 docs) there));
      say = λ are few file there. formed_say scope docs rule placed is choice input are few file there;
    }
