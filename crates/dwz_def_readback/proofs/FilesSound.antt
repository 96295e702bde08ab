-- All that is read of files and moves is sound as it is written: values are carried, and what roots say of bases stands.
use Rattle.std.proofs.Common.{◌≡◌, Bool, true, false, List, ◌∷◌, refl, sym, ap, subst, arith, inl, inr, ◌<◌, ◌^◌, length, ℕ, []}
use Rattle.dwz_def_tops.specs.Alike.{IsAlike, TopScope}
use Rattle.dwz_def_tops.specs.Spots.{EntryName, FileUnit, PartialOf, Top, file_numbers, named, units_of}
use Rattle.dwz_def_readback.proofs.BasesLemmas.{out_bases}
use Rattle.dwz_def_readback.proofs.CommonLemmas.{common_within}
use Rattle.dwz_def_readback.proofs.FewTexts.{read_few}
use Rattle.dwz_def_readback.proofs.FreeOperands.{UnitAsksNone, asks_operands, home_asks}
use Rattle.dwz_def_readback.proofs.HomeLemmas.{parts_from, top_file}
use Rattle.dwz_def_readback.proofs.LineLemmas.{common_bases, local_roots, part_bases}
use Rattle.dwz_def_readback.proofs.NameLemmas.{common_entries, common_names, common_there, file_once, file_there, fitted_entries, fitted_names, not_common, run_once}
use Rattle.dwz_def_readback.proofs.NamedOperands.{IsTold, files_read}
use Rattle.dwz_def_readback.proofs.OriginLemmas.{part_origin}
use Rattle.dwz_def_readback.proofs.OutOperands.{out_operands}
use Rattle.dwz_def_readback.proofs.OutsCarried.{new_carried, out_carried, part_spaces}
use Rattle.dwz_def_readback.proofs.PathLemmas.{paths_carried}
use Rattle.dwz_def_readback.proofs.ReadOperands.{file_read, lists_in, reading}
use Rattle.dwz_def_readback.proofs.ReadPlaces.{read_from}
use Rattle.dwz_def_readback.proofs.WithinLemmas.{within}
use Rattle.dwz_def_readback.specs.AllFiles.{AreRead}
use Rattle.dwz_def_readback.specs.Back.{WasReadFrom, run_of}
use Rattle.dwz_def_readback.specs.Files.{fitted_by, formed_by}
use Rattle.dwz_def_readback.specs.Files.{Run, Stored, common_fitted, common_forms, common_out, file_forms, file_out, files_out, fitted, fitted_if, formed, imports_common, lists_named, origin_in, paths}
use Rattle.dwz_def_readback.specs.Files.{shared, shared_if, sources, tells, tells_common, texts, uses}
use Rattle.dwz_def_readback.proofs.AllLemmas.{WasRead, all_placed, common_roots, files_carried}
use Rattle.dwz_def_readback.proofs.StillPlaces.{number_nth}
use Rattle.dwz_def_reading.specs.Lists.{Each, In}
use Rattle.dwz_def_reading.specs.Trees.{End, Entry}
use Rattle.dwz_def_reading.specs.Documents.{Attr, Doc, DwUnit, Entries, Node}
use Rattle.dwz_def_reading.specs.Files.{sources_of}
use Rattle.dwz_def_reading.specs.Meanings.{Sources}
use Rattle.dwz_def_reading.specs.Shared.{NoneShared, operands_in_lists}
use Rattle.dwz_def_images.proofs.PartRows.{part_is as part_row_is}
use Rattle.dwz_def_images.specs.Homes.{Common, IsChoice, Rule}
use Rattle.dwz_def_images.specs.IsPlan.{Has, OfTop}
use Rattle.dwz_def_images.proofs.FileLemmas.{files_same, replaced}
use Rattle.dwz_def_images.proofs.HeldLemmas.{row_found}
use Rattle.dwz_def_images.specs.After.{ArePlaced, FilesSame, Replaces}
use Rattle.dwz_def_tops.specs.UnitNames.{name_of_place}
use Rattle.dwz_def_reading.specs.Places.{at_file}
use Rattle.dwz_def_images.specs.Units.{all_units, common_units, out_units, partial_units, units_of_file}
use Rattle.dwz_def_tops.proofs.Members.{each_more, each_of, in_map_from, nth_in}
use Rattle.dwz_def_tops.specs.Lists.{NoneTwice, Nth}
use Rattle.dwz_def_tops.specs.Shown.{units_keys}
use Rattle.dwz_def_readback.proofs.NewNumbers.{new_sound}
use Rattle.dwz_def_readback.specs.Sound.{FewTexts}
use Rattle.dwz_def_encoding.proofs.Chosen.{units_good}
use Rattle.dwz_def_encoding.proofs.PoolLemmas.{paths_texts, units_paths, units_texts}
use Rattle.dwz_def_encoding.proofs.Rising.{entries_are_keys}
use Rattle.dwz_def_encoding.proofs.SameLemmas.{spots_same}
use Rattle.dwz_def_encoding.specs.Bases.{Bases, bases_in}
use Rattle.dwz_def_encoding.specs.Carried.{BasesStand, CarriedAttr, CarriedEntries, CarriedNode, CarriedUnit, From, OfAny, OfFile, OperandsStand}
use Rattle.dwz_def_encoding.specs.Meant.{all_entry_keys}
use Rattle.dwz_def_encoding.specs.Placing.{FileOut, texts_bytes}
use Rattle.dwz_def_encoding.specs.Sound.{SoundUnit}

-- ---- what was read in a file was read in some file

module _ {K : Type 0} (from : From) (origin : Bases) where
  any_attr : (a : Attr K) → CarriedAttr from origin a → CarriedAttr OfAny origin a
  any_attr a (inl c) = inl (record { was_read = c.was_read; file = tt; unit = c.unit; stored = c.stored; built = c.built })
  any_attr a (inr r) = inr r

  any_attrs : (attrs : List (Attr K)) → Each (CarriedAttr from origin) attrs → Each (CarriedAttr OfAny origin) attrs
  any_attrs [] h = tt
  any_attrs (a ∷ attrs) h = (any_attr a h.0, any_attrs attrs h.1)

  any_node : (e : Node K) → CarriedNode from origin e → CarriedNode OfAny origin e
  any_node e h = record { some_tag = h.some_tag; tag_fits = h.tag_fits; attrs = any_attrs e.attrs h.attrs }

  any_entries : (g : Entries K) → CarriedEntries from origin g → CarriedEntries OfAny origin g
  any_entries End h = tt
  any_entries (Entry e children next) h = (any_node e h.0, any_entries children h.1, any_entries next h.2)

  any_unit : (u : DwUnit K) → CarriedUnit from origin u → CarriedUnit OfAny origin u
  any_unit u h = record { kind = h.kind; main = h.main; root = any_node u.root h.root; below = any_entries u.below h.below }

-- ---- location lists

none_named : NoneShared []
unfolding operands_in_lists
none_named place shared = shared.1

module _ (scope : TopScope) (docs : List (Doc ℕ)) (input : Stored) (are : AreRead input docs) (rule : Rule) (is : IsAlike scope (units_of docs) rule.alike)
    (choice : IsChoice (units_of docs) rule) where
  abbrev r : Run
  r = run_of rule docs input

  abbrev of_file : ℕ → From
  of_file file = OfFile (sources_of (input.bytes file))

  was_read : (file : ℕ) (doc : Doc ℕ) → Nth 0 docs file doc → WasReadFrom (sources_of (input.bytes file)) doc.units
  was_read file doc nth = (let o = are file doc nth in read_from o.limits (input.bytes file) (input.raw file) doc o.reads o.are_bytes)

  placed : Each (λ doc. ArePlaced doc.units) docs
  placed = all_placed 0 docs (λ file doc nth. (was_read file doc nth).placed)

  together : FilesSame scope docs rule (file_numbers 0 docs)
  together = files_same scope docs rule placed is choice

  whole : Replaces (units_of docs) r.move (all_units r.move r.units r.files)
  whole = replaced scope docs rule placed is choice

  unit_read : (i : ℕ) (u : FileUnit EntryName) → Nth 0 (units_of docs) i u → WasRead of_file u
  unit_read i u nth = files_carried of_file 0 0 0 docs (λ file doc at. (was_read file doc at).carried) u (nth_in 0 (units_of docs) i u nth)

  file_origins : (file : ℕ) (i : ℕ) (u : FileUnit EntryName) → Nth 0 (units_of docs) i u → u.file ≡ file → CarriedUnit (OfFile (sources r file)) (bases_in u.unit) u.unit
  file_origins file i u nth of_file = subst (λ (n : ℕ). CarriedUnit (OfFile (sources_of (input.bytes n))) (bases_in u.unit) u.unit) of_file (unit_read i u nth)

  file_operands : (file : ℕ) → Each (λ v. CarriedUnit (OfFile (sources r file)) (origin_in r.move r.units v.at) v) (out_units r.move r.units file)
      → Each (OperandsStand (tells r file)) (out_units r.move r.units file)
  file_operands file carried =
      let name : ℕ → EntryName = λ n. name_of_place docs (at_file file n) in
      out_operands scope (units_of docs) rule is choice r.files whole.old whole.held file (tells r file) name (λ unit n. refl) (λ k k_in. subst (In k) (sym (fitted_entries r file)) k_in)
      (OfFile (sources r file)) carried
      (λ i u nth of_file.
      (let told : IsTold (sources_of (input.bytes u.file)) (input.raw u.file) (λ n. name_of_place docs (at_file u.file n))
      (reading (sources r file).lists (lists_named r file) name (all_entry_keys (units_of_file file (units_of docs)))) = record {
        lists = ap (λ (x : ℕ). (sources_of (input.bytes x)).lists) (sym of_file);
        named = ap (λ (x : ℕ). lists_in (sources_of (input.bytes x)) (input.raw x)) (sym of_file);
        name = λ unit n. ap (λ (x : ℕ). name_of_place docs (at_file x n)) (sym of_file);
      } in
      files_read input.bytes input.raw 0 0 0 docs (λ k d at. file_read (sources_of (input.bytes k)) (input.raw k) d.units (are k d at).reads.means) u (nth_in 0 (units_of docs) i u nth) _ told
      (λ k k_in. subst (λ (n : ℕ). In k (all_entry_keys (units_of_file n (units_of docs)))) of_file k_in)))

  file_bases : (file : ℕ) → Each (BasesStand (file_forms r file)) (out_units r.move r.units file)
  file_bases file = out_bases r file whole.old
      (λ n part nth home. part_bases (OfFile (sources r file)) scope (units_of docs) rule is choice r.files whole.old whole.held (λ x. x ≡ file) (file_origins file) n part nth
      (top_file scope (units_of docs) rule is choice r.files file n part nth home) file home (file_forms r file).texts (file_forms r file).shared (file_forms r file).paths (file_forms r file).offsets)

  common_carried : Each (λ u. CarriedUnit OfAny (origin_in r.move r.units u.at) u) (common_units r.move)
  unfolding common_units
  common_carried = each_of (λ u. CarriedUnit OfAny (origin_in r.move r.units u.at) u) (partial_units r.move Common 0 r.move.parts) (λ v there.
      (let o = parts_from r.move Common 0 r.move.parts v there in
      let holds : (names : List (List ℕ)) (t : Top) → Has names (OfTop t) (r.move.rows o.number) → In t o.part.tops = λ names t has.
      (((part_row_is o.number o.part).tops_are names t).0 (subst (Has names (OfTop t)) (row_found rule (units_of docs) r.files o.number o.part o.nth) has)).0 in
      subst (λ (u : DwUnit EntryName). CarriedUnit OfAny (origin_in r.move r.units u.at) u) o.is
      (new_carried OfAny (units_of docs) r.move whole.old whole.held (λ x. Unit {0}) (λ i u nth file. any_unit (OfFile (sources_of (input.bytes u.file))) (bases_in u.unit) u.unit (unit_read i u nth))
      o.number o.part o.nth (origin_in r.move r.units (PartialOf o.number)) (common_roots rule (units_of docs) r.files o.number o.part o.nth o.home_is)
      (part_spaces OfAny scope (units_of docs) rule is choice r.files o.number o.part o.nth
      (λ t in_part i u nth of. any_unit (OfFile (sources_of (input.bytes u.file))) (bases_in u.unit) u.unit (unit_read i u nth)))
      (part_origin scope (units_of docs) rule is choice r.files o.number o.part o.nth)
      (λ names t there in_part. tt) holds)))

  any_origins : (i : ℕ) (u : FileUnit EntryName) → Nth 0 (units_of docs) i u → Unit {0} → CarriedUnit OfAny (bases_in u.unit) u.unit
  any_origins i u nth of = any_unit (OfFile (sources_of (input.bytes u.file))) (bases_in u.unit) u.unit (unit_read i u nth)

  bases_common : Each (BasesStand (common_forms r)) (common_units r.move)
  unfolding common_units
  bases_common = each_of (BasesStand (common_forms r)) (partial_units r.move Common 0 r.move.parts) (λ v there.
      (let o = parts_from r.move Common 0 r.move.parts v there in
      subst (BasesStand (common_forms r)) o.is (common_bases OfAny scope (units_of docs) rule is choice r.files whole.old whole.held (λ x. Unit {0}) any_origins o.number o.part o.nth (λ t in_part. tt)
      o.home_is (texts r) [] (paths r) [])))

  common_asks : Each UnitAsksNone (common_units r.move)
  unfolding common_units
  common_asks = home_asks scope (units_of docs) rule is choice r.files whole.held Common OfAny common_carried

  pub run_apart : NoneTwice (units_keys (all_units r.move r.units r.files))
  run_apart = together.apart

  -- ---- the common file, and files

  common_sound : FewTexts r → Each SoundUnit (common_fitted r)
  unfolding common_fitted
  common_sound few = (units_good (common_forms r) spots_same OfAny (tells_common r) (common_units r.move) (common_entries r)
      (subst NoneTwice (common_names r) (file_once (files_out r) (run_once r together.apart) (common_out r) (common_there r))) common_carried (common_within scope docs rule placed is choice input)
      (λ k there. absurd there) (
        few.strs,
        record {
          strs = refl;
          texts = units_texts [] (common_units r.move);
          line = refl;
          few = few.lines;
          are_texts = paths_texts (common_units r.move) (paths_carried OfAny (common_forms r).origin (common_units r.move) common_carried);
          paths = units_paths [] (common_units r.move);
        },
      ) bases_common (each_more UnitAsksNone (OperandsStand (tells_common r)) (common_units r.move) (asks_operands (tells_common r)) common_asks)).0

  -- the texts that a file shares are those of the common file
  shared_few : FewTexts r → (b : Bool) → length (texts_bytes (shared_if b (texts r))) < 2 ^ 32
  unfolding texts_bytes
  shared_few few true = few.strs
  shared_few few false = omega arith

  file_few : (file : ℕ) → In file r.files → length (sources r file).strs < 2 ^ 32
  file_few file there = (let o = number_nth 0 docs file there in let read = are file o.0 o.1 in read_few read.limits (input.bytes file) (input.raw file) o.0 read.reads 3)

  formed_sound : FewTexts r → (file : ℕ) → In file r.files → Each SoundUnit (formed r file)
  unfolding formed_by
  formed_sound few file there =
      let names = fitted_names r file in
      let carried = out_carried (OfFile (sources r file)) scope (units_of docs) rule is choice r.files whole.old whole.held file (file_origins file)
      (local_roots (OfFile (sources r file)) scope (units_of docs) rule is choice r.files whole.old whole.held (λ x. x ≡ file) (file_origins file) file refl) in
      (units_good (file_forms r file) spots_same (OfFile (sources r file)) (tells r file) (out_units r.move r.units file) (fitted_entries r file)
      (subst NoneTwice names (file_once (files_out r) (run_once r together.apart) (file_out r file) (file_there r file there))) carried (within scope docs rule placed is choice input file)
      (λ k common own. not_common r together.apart file there k (entries_are_keys (common_fitted r) k common) (subst (In k) (sym names) own)) (
        file_few file there,
        λ s a of. record {
          strs = ap (λ (x : Sources). x.strs) (sym of);
          line_strs = ap (λ (x : Sources). x.line_strs) (sym of);
          offsets = ap (λ (x : Sources). x.offsets) (sym of);
          line = ap (λ (x : Sources). x.line) (sym of);
          slots = ap (λ (x : Sources). x.offsets) (sym of);
        },
        record { strs = refl; few = shared_few few (imports_common r.move r.units file) },
      ) (file_bases file) (file_operands file carried)).0

  file_sound : FewTexts r → (file : ℕ) → In file r.files → Each SoundUnit (fitted r file)
  unfolding fitted_by
  file_sound few file there = by (input.prunes file) where
    by : (b : Bool) → Each SoundUnit (fitted_if b r file)
    by true = new_sound (sources r file).strs (uses r file) (file_few file there) (formed r file) (formed_sound few file there)
    by false = formed_sound few file there

  -- all units of all files are sound
  pub all_sound : FewTexts r → (f : FileOut EntryName) → In f (files_out r) → Each SoundUnit f.units
  all_sound few f (inl e) = subst (λ (g : FileOut EntryName). Each SoundUnit g.units) e (common_sound few)
  all_sound few f (inr there) =
      let o = in_map_from (file_out r) f r.files there in
      subst (λ (g : FileOut EntryName). Each SoundUnit g.units) o.is (file_sound few o.source o.there)
