-- Files that read can be written over a finished common file, where operands have room.
use Rattle.std.proofs.Common.{◌≡◌, ℕ, Bool, true, false, List, Option, None, refl, sym, ap, subst}
use Rattle.dwz_def_reading.specs.Lists.{Each, In}
use Rattle.dwz_def_reading.specs.Documents.{Doc, DwUnit}
use Rattle.dwz_def_reading.specs.Entries.{given}
use Rattle.dwz_def_reading.specs.Files.{around_of, debug_abbrev, debug_info, sources_of}
use Rattle.dwz_def_reading.specs.Meanings.{Common as CommonGiven, Sources, text_sections_of}
use Rattle.dwz_def_tops.specs.Spots.{EntryName, FileUnit, file_numbers, units_of}
use Rattle.dwz_def_tops.specs.Lists.{Nth}
use Rattle.dwz_def_tops.proofs.Members.{each_more, nth_in}
use Rattle.dwz_def_images.specs.After.{ArePlaced, AreOld}
use Rattle.dwz_def_tops.specs.UnitNames.{name_of_place}
use Rattle.dwz_def_reading.specs.Places.{Place, at_file}
use Rattle.dwz_def_images.specs.Units.{changes, out_units, units_of_file}
use Rattle.dwz_def_encoding.specs.Bases.{bases_in}
use Rattle.dwz_def_encoding.specs.Carried.{BasesStand, CarriedUnit, From, OfFile, OperandsStand, ClosedIn}
use Rattle.dwz_def_encoding.specs.Fitting.{UnitHasRoom}
use Rattle.dwz_def_encoding.specs.Meant.{all_entry_keys}
use Rattle.dwz_def_encoding.specs.Pruned.{StaysIn, UnitStays, known_slots, slots_or_none}
use Rattle.dwz_def_encoding.proofs.Renumbered.{room_renumbered}
use Rattle.dwz_def_encoding.proofs.Staying.{units_stay, units_too}
use Rattle.dwz_def_reading.specs.Pruning.{new_number}
use Rattle.dwz_def_reading.proofs.OffsetLemmas.{slots_again}
use Rattle.dwz_def_readback.specs.Prunable.{IsPrunable}
use Rattle.dwz_def_readback.proofs.FewTexts.{read_few}
use Rattle.dwz_def_readback.specs.AllFiles.{AreRead, SaysStill}
use Rattle.dwz_def_readback.specs.Back.{IsReady, WasReadFrom, CanWriteBy, CommonReady, FileOverBy, run_by}
use Rattle.dwz_def_readback.specs.Files.{uses_by, fitted_by, formed_by, Run, Stored, file_forms, lists_named, origin_in, sources, CommonFile, file_forms_by, fitted_if_by, places_by, tells_by}
use Rattle.dwz_def_readback.proofs.BasesLemmas.{out_bases}
use Rattle.dwz_def_readback.proofs.ReadMode.{units_again, wider}
use Rattle.dwz_def_readback.proofs.NamedOperands.{IsTold, files_read}
use Rattle.dwz_def_readback.proofs.ReadOperands.{file_read, lists_in, reading}
use Rattle.dwz_def_reading.specs.Shared.{NoneShared}
use Rattle.dwz_def_reading.proofs.ElfBackLemmas.{back_by_itself}
use Rattle.dwz_def_readback.proofs.ReadPlaces.{read_from}
use Rattle.dwz_def_readback.proofs.RangeLemmas.{named_at, stand_after}
use Rattle.dwz_def_readback.proofs.StillLists.{still_none}
use Rattle.dwz_def_readback.proofs.StillMeans.{units_there}
use Rattle.dwz_def_readback.proofs.StillPlaces.{number_nth}
use Rattle.dwz_def_taken.specs.Laws.{ArePlacedOver}
use Rattle.dwz_def_taken.specs.declared.fixed.Fixed.{Fixed}
use Rattle.dwz_def_taken.specs.Takes.{IsFixed}
use Rattle.dwz_def_readback.proofs.AllLemmas.{Read, WasRead, all_placed, files_carried}
use Rattle.dwz_def_readback.proofs.NameLemmas.{fitted_entries_by}
use Rattle.dwz_def_over.proofs.LocalParts.{local_file, local_part}
use Rattle.dwz_def_over.proofs.LinesOver.{local_roots_over, part_bases}
use Rattle.dwz_def_taken.specs.Over.{move_over}
use Rattle.dwz_def_taken.proofs.NamesOver.{named_over}
use Rattle.dwz_def_over.proofs.OperandsOver.{operands_over}
use Rattle.dwz_def_over.proofs.OutsOver.{out_carried_over}
use Rattle.dwz_def_taken.proofs.KeptOwn.{over_apart}
use Rattle.dwz_def_taken.specs.Beside.{reused_of}

-- in a file that is prunable they were read so that they stay where texts move
abbrev from_if : Bool → Sources → From
from_if true sources = StaysIn sources (known_slots sources.offsets)
from_if false sources = OfFile sources

prunable_stays : (bytes : List ℕ) (units : List (DwUnit ℕ)) → Each (λ v. CarriedUnit (OfFile (sources_of bytes)) (bases_in v) v) units → IsPrunable bytes units
    → Each (λ v. CarriedUnit (StaysIn (sources_of bytes) (known_slots (sources_of bytes).offsets)) (bases_in v) v) units
prunable_stays bytes units carried is =
    let places : is.places ≡ known_slots (sources_of bytes).offsets = sym (ap slots_or_none (slots_again (sources_of bytes).offsets is.places is.slots)) in
    units_too (sources_of bytes) (known_slots (sources_of bytes).offsets) units carried
    (subst (λ (w : List ℕ). Each (UnitStays (text_sections_of (sources_of bytes)) (sources_of bytes).line w) units) places is.units)

module _ (docs : List (Doc ℕ)) (common : Doc ℕ) (fixed : Fixed) (p : ArePlacedOver docs common) (fx : IsFixed (reused_of docs common) fixed) (input : Stored) (are : AreRead input docs)
    (cf : CommonFile) where
  abbrev r : Run
  r = run_by (move_over (reused_of docs common) fixed (file_numbers 0 docs)) docs input

  old : AreOld (units_of docs)
  old = (named_over docs common p).own

  was_read : (file : ℕ) (doc : Doc ℕ) → Nth 0 docs file doc → WasReadFrom (sources_of (input.bytes file)) doc.units
  was_read file doc nth = (let o = are file doc nth in read_from o.limits (input.bytes file) (input.raw file) doc o.reads o.are_bytes)

  abbrev of_file : ℕ → From
  of_file file = OfFile (sources_of (input.bytes file))

  abbrev stays_in : ℕ → From
  stays_in file = from_if (input.prunes file) (sources_of (input.bytes file))

  stays_read : Read stays_in 0 docs
  stays_read file doc nth = by (input.prunes file) refl where
    by : (b : Bool) → input.prunes file ≡ b → Each (λ v. CarriedUnit (from_if b (sources_of (input.bytes file))) (bases_in v) v) doc.units
    by true e = prunable_stays (input.bytes file) doc.units (was_read file doc nth).carried ((are file doc nth).prunable.0 e)
    by false e = (was_read file doc nth).carried

  placed : Each (λ doc. ArePlaced doc.units) docs
  placed = all_placed 0 docs (λ file doc nth. (was_read file doc nth).placed)

  unit_read : (i : ℕ) (u : FileUnit EntryName) → Nth 0 (units_of docs) i u → WasRead of_file u
  unit_read i u nth = files_carried of_file 0 0 0 docs (λ file doc at. (was_read file doc at).carried) u (nth_in 0 (units_of docs) i u nth)

  unit_stays : (file : ℕ) → input.prunes file ≡ true → (i : ℕ) (u : FileUnit EntryName) → Nth 0 (units_of docs) i u → u.file ≡ file
      → CarriedUnit (StaysIn (sources r file) (known_slots (sources r file).offsets)) (bases_in u.unit) u.unit
  unit_stays file prunes i u nth same =
      subst (λ (b : Bool). CarriedUnit (from_if b (sources r file)) (bases_in u.unit) u.unit) prunes
      (subst (λ (n : ℕ). CarriedUnit (stays_in n) (bases_in u.unit) u.unit) same (files_carried stays_in 0 0 0 docs stays_read u (nth_in 0 (units_of docs) i u nth)))

  file_origins : (file : ℕ) (i : ℕ) (u : FileUnit EntryName) → Nth 0 (units_of docs) i u → u.file ≡ file → CarriedUnit (OfFile (sources r file)) (bases_in u.unit) u.unit
  file_origins file i u nth of_file = subst (λ (n : ℕ). CarriedUnit (OfFile (sources_of (input.bytes n))) (bases_in u.unit) u.unit) of_file (unit_read i u nth)

  pub file_operands : (file : ℕ) → Each (λ v. CarriedUnit (OfFile (sources r file)) (origin_in r.move r.units v.at) v) (out_units r.move r.units file)
      → Each (OperandsStand (tells_by cf r file)) (out_units r.move r.units file)
  file_operands file carried =
      let name : ℕ → EntryName = λ n. name_of_place docs (at_file file n) in
      operands_over docs common fixed p fx file (tells_by cf r file) name (λ unit n. refl) (λ k k_in. subst (In k) (sym (fitted_entries_by cf r file)) k_in)
      (OfFile (sources r file)) carried
      (λ i u nth of_file.
      (let told : IsTold (sources_of (input.bytes u.file)) (input.raw u.file) (λ n. name_of_place docs (at_file u.file n))
      (reading (sources r file).lists (lists_named r file) name (all_entry_keys (units_of_file file (units_of docs)))) = record {
        lists = ap (λ (x : ℕ). (sources_of (input.bytes x)).lists) (sym of_file);
        named = ap (λ (x : ℕ). lists_in (sources_of (input.bytes x)) (input.raw x)) (sym of_file);
        name = λ unit n. ap (λ (x : ℕ). name_of_place docs (at_file x n)) (sym of_file);
      } in
      files_read input.bytes input.raw 0 0 0 docs (λ k d at. file_read (sources_of (input.bytes k)) (input.raw k) d.units (are k d at).reads.means) u (nth_in 0 (units_of docs) i u nth) _ told
      (λ k k_in. subst (λ (n : ℕ). In k (all_entry_keys (units_of_file n (units_of docs)))) of_file k_in)))

  -- no list of a file shares a byte with an operand of another
  file_lists : (file : ℕ) → In file r.files → NoneShared (lists_named r file)
  file_lists file there = (let o = number_nth 0 docs file there in (are file o.0 o.1).reads.lists)

  pub file_bases : (file : ℕ) → Each (BasesStand (file_forms_by cf r file)) (out_units r.move r.units file)
  file_bases file =
      each_more (BasesStand (file_forms r file)) (BasesStand (file_forms_by cf r file)) (out_units r.move r.units file) (λ v b. record { own = b.own; root = b.root; below = b.below })
      (out_bases r file old
      (λ n part nth home.
      (let l = local_part docs common fixed p fx file n part nth home in
      part_bases docs common fixed p fx (OfFile (sources r file)) (λ x. x ≡ file) (file_origins file) n part nth l (local_file docs common fixed p fx n part l file home) file home (file_forms r file).texts
      (file_forms r file).shared (file_forms r file).paths (file_forms r file).offsets)))

  -- room for operands is that before texts are pruned
  formed_room : (file : ℕ) → Each (UnitHasRoom (places_by cf r)) (fitted_by cf r file) → Each (UnitHasRoom (places_by cf r)) (formed_by cf r file)
  unfolding fitted_by
  formed_room file room = by (input.prunes file) room where
    by : (b : Bool) → Each (UnitHasRoom (places_by cf r)) (fitted_if_by b cf r file) → Each (UnitHasRoom (places_by cf r)) (formed_by cf r file)
    by true room = room_renumbered (new_number (sources r file).strs (uses_by cf r file)) (places_by cf r) (formed_by cf r file) room
    by false room = room

  -- the units of one that is prunable stay so
  file_stay : (file : ℕ) → input.prunes file ≡ true → Each (UnitStays (text_sections_of (sources r file)) (sources r file).line (known_slots (sources r file).offsets)) (formed_by cf r file)
  unfolding formed_by
  file_stay file prunes =
      let from : From = StaysIn (sources r file) (known_slots (sources r file).offsets) in
      units_stay (file_forms_by cf r file) (sources r file) (known_slots (sources r file).offsets) refl (out_units r.move r.units file)
      (out_carried_over docs common fixed p fx from file (unit_stays file prunes) (local_roots_over docs common fixed p fx from (λ x. x ≡ file) (unit_stays file prunes) file refl)) (file_bases file)

  pub file_carried_over : (file : ℕ) → Each (λ v. CarriedUnit (OfFile (sources r file)) (origin_in r.move r.units v.at) v) (out_units r.move r.units file)
  file_carried_over file = out_carried_over docs common fixed p fx (OfFile (sources r file)) file (file_origins file)
      (local_roots_over docs common fixed p fx (OfFile (sources r file)) (λ x. x ≡ file) (file_origins file) file refl)

  module _ (over : (file : ℕ) → In file r.files → changes r.move r.units file ≡ true → FileOverBy cf r file)
      (within : (file : ℕ) → ClosedIn (tells_by cf r file) (out_units r.move r.units file)) (ready : CommonReady cf r) where
    file_ready : (file : ℕ) → In file r.files → changes r.move r.units file ≡ true → IsReady (OfFile (sources r file)) (file_forms_by cf r file) (tells_by cf r file) (places_by cf r) (out_units r.move r.units file)
    unfolding formed_by
    file_ready file there changed = record {
      carried = file_carried_over file;
      closed = within file;
      over = record {
        bases = file_bases file;
        lists = file_lists file there;
        operands = file_operands file (file_carried_over file);
        room = formed_room file (over file there changed);
      };
    }

    pub can_write_over : CanWriteBy cf r
    can_write_over = record {
      apart = over_apart docs common fixed p fx;
      file = file_ready;
      few = λ file there. (let o = number_nth 0 docs file there in let read = are file o.0 o.1 in read_few read.limits (input.bytes file) (input.raw file) o.0 read.reads 3);
      stay = λ file there changed prunes. file_stay file prunes;
      units = λ file there.
          (let o = number_nth 0 docs file there in
          stand_after r old file (sources_of (input.bytes file)) _ o.0.units (are file o.0 o.1).reads.means (λ v v_in. named_at 0 0 0 docs file o.0 o.1 v v_in));
      common = ready;
    }

  -- a file by itself says the same with a common file
  pub still_says_over : (given_common : Option (CommonGiven Place)) (file : ℕ) (doc : Doc ℕ) → Nth 0 docs file doc → SaysStill given_common file (input.bytes file) doc
  still_says_over given_common file doc nth =
      let o = are file doc nth in
      record {
        raw = input.raw file;
        says = record {
          elf = λ f b. o.reads.elf f (back_by_itself (input.bytes file) f b);
          mode = wider (given o.limits.entries);
          whole = refl;
          partial = refl;
          forms = refl;
          spelled = units_again (debug_abbrev (input.bytes file)) (given o.limits.entries) refl (input.raw file) 0 0 (debug_info (input.bytes file)) o.reads.spelled;
          ranges = o.reads.ranges;
          lists = still_none (sources_of (input.bytes file)) _ (at_file file) given_common (λ n. n) None (input.raw file) o.reads.lists;
          means = units_there (at_file file) given_common (around_of (input.bytes file) (input.raw file)) refl (input.raw file) doc.units o.reads.means;
        };
      }
