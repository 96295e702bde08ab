-- All files that read can be written, and read back together.
use Rattle.std.proofs.Common.{◌≡◌, ℕ, suc, Bool, true, false, List, [], ◌∷◌, map, Option, Some, None, refl, sym, ap, subst, arith, inl, inr}
use Rattle.dwz_def_reading.specs.Lists.{Each, In}
use Rattle.dwz_def_reading.specs.Trees.{End, Entry}
use Rattle.dwz_def_reading.specs.Documents.{Attr, Doc, DwUnit, Entries, Node, unit_map}
use Rattle.dwz_def_reading.specs.Entries.{given}
use Rattle.dwz_def_reading.specs.Files.{around_of, debug_abbrev, debug_info, sources_of}
use Rattle.dwz_def_reading.specs.Meanings.{Common as CommonFile, Sources, text_sections_of}
use Rattle.dwz_def_tops.specs.Alike.{IsAlike, TopScope}
use Rattle.dwz_def_tops.specs.Spots.{EntryName, FileUnit, PartialOf, Top, file_numbers, in_file, named, named_files, spot_in, spots_from, units_of}
use Rattle.dwz_def_tops.specs.Lists.{Nth}
use Rattle.dwz_def_tops.proofs.Members.{each_more, each_of, nth_in}
use Rattle.dwz_def_images.specs.Homes.{Common, Home, IsChoice, Rule}
use Rattle.dwz_def_images.specs.Moves.{line_attrs, line_in, names_path, plan, root_in_part}
use Rattle.dwz_def_images.specs.Plan.{PartialUnit}
use Rattle.dwz_def_images.specs.IsPlan.{Has, OfTop}
use Rattle.dwz_def_images.proofs.PartRows.{part_is as part_row_is}
use Rattle.dwz_def_images.specs.After.{ArePlaced, FilesSame, Replaces}
use Rattle.dwz_def_tops.specs.UnitNames.{name_of_place}
use Rattle.dwz_def_reading.specs.Places.{Place, at_file}
use Rattle.dwz_def_images.specs.Units.{all_units, changes, common_units, out_units, partial_units, units_of_file}
use Rattle.dwz_def_images.proofs.FileLemmas.{files_same, replaced}
use Rattle.dwz_def_images.proofs.HeldLemmas.{part_found, row_found}
use Rattle.dwz_def_encoding.specs.Bases.{Bases, bases_in}
use Rattle.dwz_def_encoding.specs.Carried.{BasesStand, CarriedAttr, CarriedEntries, CarriedNode, CarriedUnit, From, OfAny, OfFile, OperandsStand}
use Rattle.dwz_def_encoding.specs.Fitting.{UnitHasRoom}
use Rattle.dwz_def_encoding.specs.Meant.{all_entry_keys}
use Rattle.dwz_def_encoding.specs.Placing.{FitsSections, fit_units}
use Rattle.dwz_def_encoding.specs.Pruned.{StaysIn, UnitStays, known_slots, slots_or_none}
use Rattle.dwz_def_encoding.proofs.Renumbered.{room_renumbered}
use Rattle.dwz_def_encoding.proofs.Staying.{units_stay, units_too}
use Rattle.dwz_def_reading.specs.Pruning.{new_number}
use Rattle.dwz_def_reading.proofs.OffsetLemmas.{slots_again}
use Rattle.dwz_def_reading.proofs.ListFacts.{in_cases}
use Rattle.dwz_def_readback.specs.Prunable.{IsPrunable}
use Rattle.dwz_def_readback.proofs.FewTexts.{read_few}
use Rattle.dwz_def_encoding.proofs.CarriedMaps.{unit_carried}
use Rattle.dwz_def_readback.specs.AllFiles.{AllBack, AreMade, AreOver, AreRead, CommonMade, CommonSays, ReadBack, SaysStill, given_if}
use Rattle.dwz_def_readback.proofs.CarriedRoots.{RootsCarried}
use Rattle.dwz_def_readback.specs.Back.{AreAtOld, CanWrite, IsPlacing, IsReady, SaysPlaced, WasReadFrom, run_of}
use Rattle.dwz_def_readback.specs.Files.{fitted_by, formed_by}
use Rattle.dwz_def_readback.specs.Files.{HasSections, Run, Stored, common_forms, file_forms, fitted, fitted_if, formed, lists_named, origin_in, paths, places, sections_of, sources, tells, tells_common, texts}
use Rattle.dwz_def_readback.specs.Files.{uses}
use Rattle.dwz_def_readback.proofs.BasesLemmas.{out_bases}
use Rattle.dwz_def_readback.proofs.CommonLemmas.{common_within}
use Rattle.dwz_def_readback.proofs.FreeOperands.{UnitAsksNone, asks_operands, asks_room, home_asks}
use Rattle.dwz_def_readback.proofs.HomeLemmas.{parts_from, top_file}
use Rattle.dwz_def_readback.proofs.LineLemmas.{common_bases, local_roots, part_bases}
use Rattle.dwz_def_readback.proofs.NameLemmas.{fitted_entries}
use Rattle.dwz_def_readback.proofs.OutOperands.{out_operands}
use Rattle.dwz_def_readback.proofs.OriginLemmas.{bases_mapped, part_origin}
use Rattle.dwz_def_readback.proofs.OutsCarried.{new_carried, out_carried, part_spaces}
use Rattle.dwz_def_readback.proofs.ReadMode.{units_again, wider}
use Rattle.dwz_def_readback.proofs.NamedOperands.{IsTold, files_read}
use Rattle.dwz_def_readback.proofs.ReadOperands.{file_read, lists_in, reading}
use Rattle.dwz_def_reading.specs.Shared.{NoneShared, operands_in_lists}
use Rattle.dwz_def_reading.proofs.ElfBackLemmas.{back_by_itself}
use Rattle.dwz_def_readback.proofs.ReadPlaces.{read_from}
use Rattle.dwz_def_readback.proofs.SameLemmas.{same_back}
use Rattle.dwz_def_readback.proofs.SaysLemmas.{alone_back, common_back, file_back, ranges_back}
use Rattle.dwz_def_readback.proofs.RangeLemmas.{named_at, stand_after}
use Rattle.dwz_def_readback.proofs.StillLists.{still_none}
use Rattle.dwz_def_readback.proofs.StillMeans.{units_there}
use Rattle.dwz_def_readback.proofs.StillPlaces.{back_old, back_place, back_placing, number_nth}
use Rattle.dwz_def_readback.proofs.WithinLemmas.{within}

-- ---- what was read in a file was read in some file

module _ {K : Type 0} (from : From) (origin : Bases) where
  any_attr : (a : Attr K) → CarriedAttr from origin a → CarriedAttr OfAny origin a
  any_attr a (inl c) = inl (record { was_read = c.was_read; file = tt; unit = c.unit; stored = c.stored; built = c.built })
  any_attr a (inr r) = inr r

  any_attrs : (attrs : List (Attr K)) → Each (CarriedAttr from origin) attrs → Each (CarriedAttr OfAny origin) attrs
  any_attrs [] h = tt
  any_attrs (a ∷ attrs) h = (any_attr a h.0, any_attrs attrs h.1)

  any_node : (e : Node K) → CarriedNode from origin e → CarriedNode OfAny origin e
  any_node e h = record { some_tag = h.some_tag; tag_fits = h.tag_fits; attrs = any_attrs e.attrs h.attrs }

  any_entries : (g : Entries K) → CarriedEntries from origin g → CarriedEntries OfAny origin g
  any_entries End h = tt
  any_entries (Entry e children next) h = (any_node e h.0, any_entries children h.1, any_entries next h.2)

  any_unit : (u : DwUnit K) → CarriedUnit from origin u → CarriedUnit OfAny origin u
  any_unit u h = record { kind = h.kind; main = h.main; root = any_node u.root h.root; below = any_entries u.below h.below }

-- ---- the units before

-- the units of each file were read so
abbrev pub WasRead : (ℕ → From) → FileUnit EntryName → Type 0
WasRead from u = CarriedUnit (from u.file) (bases_in u.unit) u.unit

pub file_carried : (from : ℕ → From) (file : ℕ) (f : ℕ → EntryName) (some : List (DwUnit ℕ)) → Each (λ v. CarriedUnit (from file) (bases_in v) v) some → (u : FileUnit EntryName)
    → In u (map (in_file file) (map (unit_map f) some)) → WasRead from u
file_carried from file f [] are u there = absurd there
file_carried from file f (v ∷ some) are u (inl e) =
    subst (WasRead from) e (subst (λ (b : Bases). CarriedUnit (from file) b (unit_map f v)) (sym (bases_mapped f v)) (unit_carried (from file) (bases_in v) f v are.0))
file_carried from file f (v ∷ some) are u (inr r) = file_carried from file f some are.1 u r

abbrev pub Read : (ℕ → From) → ℕ → List (Doc ℕ) → Type 0
Read from own docs = (file : ℕ) (doc : Doc ℕ) → Nth own docs file doc → Each (λ v. CarriedUnit (from file) (bases_in v) v) doc.units

pub files_carried : (from : ℕ → From) (own unit top : ℕ) (docs : List (Doc ℕ)) → Read from own docs → (u : FileUnit EntryName) → In u (named_files own unit top docs) → WasRead from u
unfolding named_files
files_carried from own unit top [] read u there = absurd there
files_carried from own unit top (doc ∷ docs) read u there = elim (in_cases u (map (in_file own) (named unit top doc.units)) _ there) [
  | inl a ↦ file_carried from own (spot_in (spots_from unit top doc.units)) doc.units (read own doc (inl (refl, refl))) u a
  | inr b ↦ files_carried from (suc own) _ _ docs (λ file d nth. read file d (inr nth)) u b
]

pub all_placed : (own : ℕ) (docs : List (Doc ℕ)) → ((file : ℕ) (doc : Doc ℕ) → Nth own docs file doc → ArePlaced doc.units) → Each (λ doc. ArePlaced doc.units) docs
all_placed own [] read = tt
all_placed own (doc ∷ docs) read = (read own doc (inl (refl, refl)), all_placed (suc own) docs (λ file d nth. read file d (inr nth)))

-- in a file that is prunable they were read so that they stay where texts move
abbrev from_if : Bool → Sources → From
from_if true sources = StaysIn sources (known_slots sources.offsets)
from_if false sources = OfFile sources

prunable_stays : (bytes : List ℕ) (units : List (DwUnit ℕ)) → Each (λ v. CarriedUnit (OfFile (sources_of bytes)) (bases_in v) v) units → IsPrunable bytes units
    → Each (λ v. CarriedUnit (StaysIn (sources_of bytes) (known_slots (sources_of bytes).offsets)) (bases_in v) v) units
prunable_stays bytes units carried is =
    let places : is.places ≡ known_slots (sources_of bytes).offsets = sym (ap slots_or_none (slots_again (sources_of bytes).offsets is.places is.slots)) in
    units_too (sources_of bytes) (known_slots (sources_of bytes).offsets) units carried
    (subst (λ (w : List ℕ). Each (UnitStays (text_sections_of (sources_of bytes)) (sources_of bytes).line w) units) places is.units)

-- ---- the root of a partial unit of the common file

pub common_root : (units : List (FileUnit EntryName)) (origin : Bases) (part : PartialUnit) → part.home ≡ Common → Each (CarriedAttr OfAny origin) (line_attrs units part)
unfolding line_attrs
common_root units origin part home = by (names_path part) where
  by : (b : Bool) → Each (CarriedAttr OfAny origin) (elim b as (λ _. List (Attr EntryName)) [ true ↦ line_in units part.home part.tops ∷ [] | false ↦ [] ])
  by true = (
    subst (λ (h : Home). CarriedAttr OfAny origin (line_in units h part.tops)) (sym home)
        (inr (inr (record { name = refl; form = refl; place = 0; raw = refl; fits = omega arith; value = refl }))),
    tt,
  )
  by false = tt

pub common_roots : (rule : Rule) (units : List (FileUnit EntryName)) (files : List ℕ) → RootsCarried OfAny (plan rule units files) units Common
common_roots rule units files n part nth home =
    let m = plan rule units files in
    subst (λ (o : Option PartialUnit). Each (CarriedAttr OfAny (origin_in m units (PartialOf n))) (root_in_part units o)) (sym (part_found 0 m.parts n n part nth (omega arith)))
    (common_root units (origin_in m units (PartialOf n)) part home)

-- ---- location lists

none_named : NoneShared []
unfolding operands_in_lists
none_named place shared = shared.1

-- ---- all files

module _ (scope : TopScope) (docs : List (Doc ℕ)) (input : Stored) (are : AreRead input docs) (rule : Rule) (is : IsAlike scope (units_of docs) rule.alike) (choice : IsChoice (units_of docs) rule)
    (over : AreOver (run_of rule docs input)) where
  abbrev r : Run
  r = run_of rule docs input

  was_read : (file : ℕ) (doc : Doc ℕ) → Nth 0 docs file doc → WasReadFrom (sources_of (input.bytes file)) doc.units
  was_read file doc nth = (let o = are file doc nth in read_from o.limits (input.bytes file) (input.raw file) doc o.reads o.are_bytes)

  abbrev of_file : ℕ → From
  of_file file = OfFile (sources_of (input.bytes file))

  abbrev stays_in : ℕ → From
  stays_in file = from_if (input.prunes file) (sources_of (input.bytes file))

  stays_read : Read stays_in 0 docs
  stays_read file doc nth = by (input.prunes file) refl where
    by : (b : Bool) → input.prunes file ≡ b → Each (λ v. CarriedUnit (from_if b (sources_of (input.bytes file))) (bases_in v) v) doc.units
    by true e = prunable_stays (input.bytes file) doc.units (was_read file doc nth).carried ((are file doc nth).prunable.0 e)
    by false e = (was_read file doc nth).carried

  placed : Each (λ doc. ArePlaced doc.units) docs
  placed = all_placed 0 docs (λ file doc nth. (was_read file doc nth).placed)

  together : FilesSame scope docs rule (file_numbers 0 docs)
  together = files_same scope docs rule placed is choice

  whole : Replaces (units_of docs) r.move (all_units r.move r.units r.files)
  whole = replaced scope docs rule placed is choice

  unit_read : (i : ℕ) (u : FileUnit EntryName) → Nth 0 (units_of docs) i u → WasRead of_file u
  unit_read i u nth = files_carried of_file 0 0 0 docs (λ file doc at. (was_read file doc at).carried) u (nth_in 0 (units_of docs) i u nth)

  unit_stays : (file : ℕ) → input.prunes file ≡ true → (i : ℕ) (u : FileUnit EntryName) → Nth 0 (units_of docs) i u → u.file ≡ file
      → CarriedUnit (StaysIn (sources r file) (known_slots (sources r file).offsets)) (bases_in u.unit) u.unit
  unit_stays file prunes i u nth same =
      subst (λ (b : Bool). CarriedUnit (from_if b (sources r file)) (bases_in u.unit) u.unit) prunes
      (subst (λ (n : ℕ). CarriedUnit (stays_in n) (bases_in u.unit) u.unit) same (files_carried stays_in 0 0 0 docs stays_read u (nth_in 0 (units_of docs) i u nth)))

  file_origins : (file : ℕ) (i : ℕ) (u : FileUnit EntryName) → Nth 0 (units_of docs) i u → u.file ≡ file → CarriedUnit (OfFile (sources r file)) (bases_in u.unit) u.unit
  file_origins file i u nth of_file = subst (λ (n : ℕ). CarriedUnit (OfFile (sources_of (input.bytes n))) (bases_in u.unit) u.unit) of_file (unit_read i u nth)

  file_operands : (file : ℕ) → Each (λ v. CarriedUnit (OfFile (sources r file)) (origin_in r.move r.units v.at) v) (out_units r.move r.units file)
      → Each (OperandsStand (tells r file)) (out_units r.move r.units file)
  file_operands file carried =
      let name : ℕ → EntryName = λ n. name_of_place docs (at_file file n) in
      out_operands scope (units_of docs) rule is choice r.files whole.old whole.held file (tells r file) name (λ unit n. refl) (λ k k_in. subst (In k) (sym (fitted_entries r file)) k_in)
      (OfFile (sources r file)) carried
      (λ i u nth of_file.
      (let told : IsTold (sources_of (input.bytes u.file)) (input.raw u.file) (λ n. name_of_place docs (at_file u.file n))
      (reading (sources r file).lists (lists_named r file) name (all_entry_keys (units_of_file file (units_of docs)))) = record {
        lists = ap (λ (x : ℕ). (sources_of (input.bytes x)).lists) (sym of_file);
        named = ap (λ (x : ℕ). lists_in (sources_of (input.bytes x)) (input.raw x)) (sym of_file);
        name = λ unit n. ap (λ (x : ℕ). name_of_place docs (at_file x n)) (sym of_file);
      } in
      files_read input.bytes input.raw 0 0 0 docs (λ k d at. file_read (sources_of (input.bytes k)) (input.raw k) d.units (are k d at).reads.means) u (nth_in 0 (units_of docs) i u nth) _ told
      (λ k k_in. subst (λ (n : ℕ). In k (all_entry_keys (units_of_file n (units_of docs)))) of_file k_in)))

  -- no list of a file shares a byte with an operand of another
  file_lists : (file : ℕ) → In file r.files → NoneShared (lists_named r file)
  file_lists file there = (let o = number_nth 0 docs file there in (are file o.0 o.1).reads.lists)

  file_bases : (file : ℕ) → Each (BasesStand (file_forms r file)) (out_units r.move r.units file)
  file_bases file = out_bases r file whole.old
      (λ n part nth home. part_bases (OfFile (sources r file)) scope (units_of docs) rule is choice r.files whole.old whole.held (λ x. x ≡ file) (file_origins file) n part nth
      (top_file scope (units_of docs) rule is choice r.files file n part nth home) file home (file_forms r file).texts (file_forms r file).shared (file_forms r file).paths (file_forms r file).offsets)

  -- room for operands is that before texts are pruned
  formed_room : (file : ℕ) → Each (UnitHasRoom (places r)) (fitted r file) → Each (UnitHasRoom (places r)) (formed r file)
  unfolding fitted_by
  formed_room file room = by (input.prunes file) room where
    by : (b : Bool) → Each (UnitHasRoom (places r)) (fitted_if b r file) → Each (UnitHasRoom (places r)) (formed r file)
    by true room = room_renumbered (new_number (sources r file).strs (uses r file)) (places r) (formed r file) room
    by false room = room

  -- the units of one that is prunable stay so
  file_stay : (file : ℕ) → input.prunes file ≡ true → Each (UnitStays (text_sections_of (sources r file)) (sources r file).line (known_slots (sources r file).offsets)) (formed r file)
  unfolding formed_by
  file_stay file prunes =
      let from : From = StaysIn (sources r file) (known_slots (sources r file).offsets) in
      units_stay (file_forms r file) (sources r file) (known_slots (sources r file).offsets) refl (out_units r.move r.units file)
      (out_carried from scope (units_of docs) rule is choice r.files whole.old whole.held file (unit_stays file prunes)
      (local_roots from scope (units_of docs) rule is choice r.files whole.old whole.held (λ x. x ≡ file) (unit_stays file prunes) file refl)) (file_bases file)

  file_ready : (file : ℕ) → In file r.files → changes r.move r.units file ≡ true → IsReady (OfFile (sources r file)) (file_forms r file) (tells r file) (places r) (out_units r.move r.units file)
  unfolding formed_by
  file_ready file there changed =
      let carried = out_carried (OfFile (sources r file)) scope (units_of docs) rule is choice r.files whole.old whole.held file (file_origins file)
      (local_roots (OfFile (sources r file)) scope (units_of docs) rule is choice r.files whole.old whole.held (λ x. x ≡ file) (file_origins file) file refl) in
      record {
        carried = carried;
        closed = within scope docs rule placed is choice input file;
        over = record {
          bases = file_bases file;
          lists = file_lists file there;
          operands = file_operands file carried;
          room = formed_room file (over file there changed);
        };
      }

  common_carried : Each (λ u. CarriedUnit OfAny (origin_in r.move r.units u.at) u) (common_units r.move)
  unfolding common_units
  common_carried = each_of (λ u. CarriedUnit OfAny (origin_in r.move r.units u.at) u) (partial_units r.move Common 0 r.move.parts) (λ v there.
      (let o = parts_from r.move Common 0 r.move.parts v there in
      let holds : (names : List (List ℕ)) (t : Top) → Has names (OfTop t) (r.move.rows o.number) → In t o.part.tops = λ names t has.
      (((part_row_is o.number o.part).tops_are names t).0 (subst (Has names (OfTop t)) (row_found rule (units_of docs) r.files o.number o.part o.nth) has)).0 in
      subst (λ (u : DwUnit EntryName). CarriedUnit OfAny (origin_in r.move r.units u.at) u) o.is
      (new_carried OfAny (units_of docs) r.move whole.old whole.held (λ x. Unit {0}) (λ i u nth file. any_unit (OfFile (sources_of (input.bytes u.file))) (bases_in u.unit) u.unit (unit_read i u nth))
      o.number o.part o.nth (origin_in r.move r.units (PartialOf o.number)) (common_roots rule (units_of docs) r.files o.number o.part o.nth o.home_is)
      (part_spaces OfAny scope (units_of docs) rule is choice r.files o.number o.part o.nth
      (λ t in_part i u nth of. any_unit (OfFile (sources_of (input.bytes u.file))) (bases_in u.unit) u.unit (unit_read i u nth)))
      (part_origin scope (units_of docs) rule is choice r.files o.number o.part o.nth)
      (λ names t there in_part. tt) holds)))

  any_origins : (i : ℕ) (u : FileUnit EntryName) → Nth 0 (units_of docs) i u → Unit {0} → CarriedUnit OfAny (bases_in u.unit) u.unit
  any_origins i u nth of = any_unit (OfFile (sources_of (input.bytes u.file))) (bases_in u.unit) u.unit (unit_read i u nth)

  bases_common : Each (BasesStand (common_forms r)) (common_units r.move)
  unfolding common_units
  bases_common = each_of (BasesStand (common_forms r)) (partial_units r.move Common 0 r.move.parts) (λ v there.
      (let o = parts_from r.move Common 0 r.move.parts v there in
      subst (BasesStand (common_forms r)) o.is (common_bases OfAny scope (units_of docs) rule is choice r.files whole.old whole.held (λ x. Unit {0}) any_origins o.number o.part o.nth (λ t in_part. tt)
      o.home_is (texts r) [] (paths r) [])))

  common_asks : Each UnitAsksNone (common_units r.move)
  unfolding common_units
  common_asks = home_asks scope (units_of docs) rule is choice r.files whole.held Common OfAny common_carried

  common_room : Each (UnitHasRoom (places r)) (fit_units (common_forms r) (common_units r.move))
  common_room = asks_room (common_forms r) (places r) (common_units r.move) common_asks

  pub can_write : CanWrite r
  can_write = record {
    apart = together.apart;
    file = file_ready;
    few = λ file there. (let o = number_nth 0 docs file there in let read = are file o.0 o.1 in read_few read.limits (input.bytes file) (input.raw file) o.0 read.reads 3);
    stay = λ file there changed prunes. file_stay file prunes;
    units = λ file there.
        (let o = number_nth 0 docs file there in
        stand_after r whole.old file (sources_of (input.bytes file)) _ o.0.units (are file o.0 o.1).reads.means (λ v v_in. named_at 0 0 0 docs file o.0 o.1 v v_in));
    common = record {
      carried = common_carried;
      closed = common_within scope docs rule placed is choice input;
      over = record {
        bases = bases_common;
        lists = none_named;
        operands = each_more UnitAsksNone (OperandsStand (tells_common r)) (common_units r.move) (asks_operands (tells_common r)) common_asks;
        room = common_room;
      };
    };
  }

  -- a file by itself says the same with a common file
  still_says : (common : Option (CommonFile Place)) (file : ℕ) (doc : Doc ℕ) → Nth 0 docs file doc → SaysStill common file (input.bytes file) doc
  still_says common file doc nth =
      let o = are file doc nth in
      record {
        raw = input.raw file;
        says = record {
          elf = λ f b. o.reads.elf f (back_by_itself (input.bytes file) f b);
          mode = wider (given o.limits.entries);
          whole = refl;
          partial = refl;
          forms = refl;
          spelled = units_again (debug_abbrev (input.bytes file)) (given o.limits.entries) refl (input.raw file) 0 0 (debug_info (input.bytes file)) o.reads.spelled;
          ranges = o.reads.ranges;
          lists = still_none (sources_of (input.bytes file)) _ (at_file file) common (λ n. n) None (input.raw file) o.reads.lists;
          means = units_there (at_file file) common (around_of (input.bytes file) (input.raw file)) refl (input.raw file) doc.units o.reads.means;
        };
      }

  module _ (g : EntryName → Place) (ok : IsPlacing r g) (old : AreAtOld r g docs) (output : ℕ → List ℕ) where
    common_says : (common : Option (List ℕ)) → CommonMade r common → CommonSays r g common
    common_says None made = made
    common_says (Some bytes) made = common_back r can_write g ok bytes made.0 made.1

    file_says : (common : Option (List ℕ)) → CommonMade r common → (says : CommonSays r g common) (file : ℕ) → In file r.files → changes r.move r.units file ≡ true → HasSections r file (output file)
        → FitsSections (sections_of r file) → SaysPlaced r g (given_if r g common says) file (output file) (fitted r file)
    file_says None made says file there changed has small = alone_back r can_write g ok (output file) made file there changed has small
    file_says (Some bytes) made says file there changed has small = file_back r can_write g ok (output file) bytes made.0 made.1 says file there changed has small

    back_all : (common : Option (List ℕ)) → AreMade r output common → AllBack scope docs rule input output common g
    back_all common made =
        let given = given_if r g common (common_says common made.common) in
        let says = λ (file : ℕ) (there : In file r.files) (changed : changes r.move r.units file ≡ true). file_says common made.common (common_says common made.common) file there changed
        (made.file file there changed)
        (made.file_fits file there changed) in
        record {
          common = common_says common made.common;
          file = says;
          ranges = λ file there changed. ranges_back r can_write g ok given (output file) file there changed (made.file file there changed) (made.file_fits file there changed)
              (says file there changed);
          still = λ file doc nth. still_says given file doc nth;
          same = same_back scope docs rule placed is choice input g ok old;
        }

  pub all_back : (output : ℕ → List ℕ) (common : Option (List ℕ)) → AreMade r output common → ReadBack scope docs rule input output common
  all_back output common made =
      let g = back_place scope docs rule placed is choice input in
      let ok = back_placing scope docs rule placed is choice input in
      let old = back_old scope docs rule placed is choice input in
      record { place = g; placing = ok; old = old; back = back_all g ok old output common made }
