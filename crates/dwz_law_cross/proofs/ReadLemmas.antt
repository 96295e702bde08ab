-- A file that was given is read as one that may have been written.
use Rattle.std.proofs.Common.{◌≡◌, ◌≢◌, ℕ, ℤ, ◌+◌, ◌<◌, ◌≤◌, Bool, true, false, List, [], ◌∷◌, ◌==◌, Option, Some, None, length, refl, sym, ap, subst, ◌∙◌, arith}
use Rattle.std.specs.Prelude.{◌&&◌, ◌||◌}
use Rattle.std.specs.Option.{is_some}
use Rattle.std.proofs.lemmas.Bool.{eqb-true}
use Rattle.dwz_def_reading.specs.Forms.{form_rows}
use Rattle.dwz_def_reading.specs.Rows.{shape_of}
use Rattle.dwz_def_reading.specs.Lists.{Each}
use Rattle.dwz_def_reading.specs.Pair.{Pair}
use Rattle.dwz_def_reading.specs.ElfFaults.{by_itself}
use Rattle.dwz_def_reading.specs.ElfHeaders.{headers_in}
use Rattle.dwz_def_reading.specs.ElfNames.{name_table, sections_in}
use Rattle.dwz_def_reading.specs.ElfReading.{elf_fault, section_range}
use Rattle.dwz_def_reading.specs.Entries.{Mode, RawAttr, RawEntry, SpellsAttrs, SpellsEntry, SpellsFront, UnitContext, given, root_position}
use Rattle.dwz_def_reading.specs.Files.{ReadsBy, around_of, debug_abbrev, debug_info, sources_of}
use Rattle.dwz_def_reading.specs.Finished.{GivenCommon, file_sup_fault, has_sup, rule_of_back}
use Rattle.dwz_def_reading.specs.Meanings.{all_places}
use Rattle.dwz_def_reading.specs.Modes.{forms_of_back, forms_with, of_back}
use Rattle.dwz_def_reading.specs.Places.{at_file}
use Rattle.dwz_def_reading.specs.Trees.{EachEntry, End, Entry, Forest, IfChildren, Position, SpellsForest, behind, first_below, size}
use Rattle.dwz_def_reading.specs.Units.{CompileUnit, PartialUnit, RawKind, RawUnit, SpellsUnit, SpellsUnits, TypeUnit, entries_in, entry_count, is_read, kind_by, kind_of, root_tag, unit_type}
use Rattle.dwz_def_reading.specs.Values.{Raw, SpellsShape, constant_of, written_rows}
use Rattle.dwz_def_reading.proofs.ElfBackLemmas.{back_by_itself}
use Rattle.dwz_def_reading.proofs.SoundFiles.{reads_sound}
use Rattle.dwz_def_readback.proofs.StillLists.{still_none}
use Rattle.dwz_def_readback.proofs.StillMeans.{units_there}
use Rattle.dwz_def_output.proofs.FaultLemmas.{no_faults}
use Rattle.dwz_def_output.proofs.NameLemmas.{no_range, no_sup}
use Rattle.dwz_def_expand.proofs.AloneLemmas.{row_later}
use Rattle.dwz_def_expand.proofs.AgainLemmas.{EntryMay, KindMay, UnitMay, UnitsMay, units_again}
use Rattle.dwz_law_cross.specs.ReadLaws.{GivenLaw, doc_in, given_of}

-- ---- forms

pub same_shape : (form : ℕ) → form ≢ 0x1c → form ≢ 0x1d → shape_of written_rows form ≡ shape_of form_rows form
same_shape form a b =
    let x : (0x1c == form) ≡ false = row_later 0x1c form (0x1c == form) refl a in
    let y : (0x1d == form) ≡ false = row_later 0x1d form (0x1d == form) refl b in
    rw (x, y) refl

-- a form that is read leads to no common file
not_sup : (form : ℕ) (n : ℤ) (bytes : List ℕ) (raw : Raw) → SpellsShape (shape_of form_rows form) n bytes raw → (form ≢ 0x1c) × (form ≢ 0x1d)
unfolding form_rows
not_sup form n bytes raw is = (
  (λ e. subst (λ (f : ℕ). SpellsShape (shape_of form_rows f) n bytes raw) e is),
  (λ e. subst (λ (f : ℕ). SpellsShape (shape_of form_rows f) n bytes raw) e is),
)

with_too : (sup : Bool) (form : ℕ) → form ≢ 0x1c → form ≢ 0x1d → shape_of (forms_with sup) form ≡ shape_of form_rows form
with_too true form a b = same_shape form a b
with_too false form a b = refl

abbrev IsWhole : RawKind → Type 0
IsWhole kind = kind ≢ PartialUnit

forms_too : (sup : Bool) (kind : RawKind) → IsWhole kind → (root : Bool) (form : ℕ) → form ≢ 0x1c → form ≢ 0x1d → shape_of (forms_of_back sup (root_tag kind) root) form ≡ shape_of form_rows form
forms_too sup kind whole true form a b = with_too sup form a b
forms_too sup CompileUnit whole false form a b = with_too sup form a b
forms_too sup (TypeUnit s t) whole false form a b = with_too sup form a b
forms_too sup PartialUnit whole false form a b = absurd (whole refl)

-- ---- entries

abbrev has : RawEntry → Bool
has e = e.children

module _ (sup : Bool) (before_room room : ℕ) (kind : RawKind) (whole : IsWhole kind) (c : UnitContext) (same : c.mode ≡ given before_room) where
  abbrev May : Position → RawEntry → Type 0
  May = EntryMay (given before_room) (of_back sup room) (root_tag kind)

  attrs_may : (root : Bool) (pairs : List Pair) (attrs : List RawAttr) (start : ℕ) (bytes : List ℕ) → SpellsAttrs form_rows pairs attrs start bytes
      → Each (λ a. shape_of (forms_of_back sup (root_tag kind) root) a.pair.form ≡ shape_of form_rows a.pair.form) attrs
  attrs_may root [] [] start bytes is = tt
  attrs_may root (pair ∷ pairs) (a ∷ attrs) start bytes is =
      let o = not_sup pair.form (constant_of pair) is.first_bytes a.raw is.first.value in
      let e : a.pair ≡ pair = is.first.same in (
        subst (λ (p : Pair). shape_of (forms_of_back sup (root_tag kind) root) p.form ≡ shape_of form_rows p.form) (sym e) (forms_too sup kind whole root pair.form o.0 o.1),
        attrs_may root pairs attrs _ is.second_bytes is.second,
      )
  attrs_may root [] (a ∷ attrs) start bytes is = absurd is
  attrs_may root (pair ∷ pairs) [] start bytes is = absurd is

  entry_may : (p : Position) (e : RawEntry) (start : ℕ) (bytes : List ℕ) → SpellsEntry c p e start bytes → p.before < room → May p e
  entry_may p e start bytes is fits =
      let b = is.parts in
      record {
        depth = subst (λ (o : Mode). p.depth ≤ o.depth) same is.stands.depth;
        room = fits;
        forms = attrs_may (p.depth == 1) is.decl.pairs e.attrs (start + length b.first_bytes) b.second_bytes
            (subst (λ (o : Mode). SpellsAttrs (o.forms c.root_tag (p.depth == 1)) is.decl.pairs e.attrs (start + length b.first_bytes) b.second_bytes) same b.second);
      }

  if_may : (flag : Bool) (f : Forest RawEntry) (p : Position) (bytes : List ℕ) (Spelled : Type 0) → (Spelled → EachEntry May p f) → IfChildren flag f Spelled bytes → EachEntry May p f
  if_may true f p bytes Spelled to is = to is
  if_may false f p bytes Spelled to is = subst (λ (g : Forest RawEntry). EachEntry May p g) (sym is.0) tt

  list_may : (f : Forest RawEntry) (p : Position) (start : ℕ) (bytes : List ℕ) → SpellsForest has (SpellsFront c) f p start bytes → p.before + size f ≤ room → EachEntry May p f
  list_may End p start bytes is fits = tt
  list_may (Entry e children next) p start bytes is fits = (
    entry_may p e start is.first_bytes is.first (omega (arith, fits)),
    if_may e.children children (first_below p) is.second_bytes _ (λ q. list_may children (first_below p) (start + length is.first_bytes) is.second_bytes q (omega (arith, fits))) is.second,
    list_may next (behind p children) (start + length is.first_bytes + length is.second_bytes) is.third_bytes is.third (omega (arith, fits)),
  )

-- ---- units

whole_kind : (entries : ℕ) (kind : RawKind) (bytes : List ℕ) → kind ≡ kind_of bytes → is_read (given entries) (unit_type bytes) ≡ true → IsWhole kind
whole_kind entries kind bytes of_kind is e = by (unit_type bytes == 1) (unit_type bytes == 2) (unit_type bytes == 3) refl refl refl is (sym of_kind ∙ e) where
  by : (a b c : Bool) → (unit_type bytes == 1) ≡ a → (unit_type bytes == 2) ≡ b → (unit_type bytes == 3) ≡ c → ((true && (a || b)) || (false && c)) ≡ true → kind_by b c bytes ≡ PartialUnit → ⊥
  by a true c x y z i k = cc
  by true false true x y z i k =
      let one : unit_type bytes ≡ 1 = eqb-true (unit_type bytes) 1 x in
      let three : unit_type bytes ≡ 3 = eqb-true (unit_type bytes) 3 z in omega (arith, one, three)
  by true false false x y z i k = cc
  by false false c x y z i k = cc

kind_may : (sup : Bool) (room : ℕ) (kind : RawKind) → KindMay (of_back sup room) kind
kind_may sup room CompileUnit = refl
kind_may sup room (TypeUnit s t) = refl
kind_may sup room PartialUnit = refl

abbrev AreWhole : List RawUnit → Type 0
AreWhole units = Each (λ u. IsWhole u.kind) units

module _ (abbrevs : List ℕ) (sup : Bool) (before_room room : ℕ) where
  unit_may : (before : ℕ) (u : RawUnit) (start : ℕ) (bytes : List ℕ) → SpellsUnit abbrevs (given before_room) before u start bytes → before + entry_count u ≤ room → IsWhole u.kind
      → UnitMay (given before_room) (of_back sup room) before u
  unit_may before u start bytes is fits whole =
      let t = is.is_tree in
      let same = is.is_context.same_mode in
      record {
        kind = kind_may sup room u.kind;
        entries = (
          entry_may sup before_room room u.kind whole is.context same (root_position before) u.root _ _ t.first (omega (arith, fits)),
          if_may sup before_room room u.kind whole is.context same u.root.children u.below (first_below (root_position before)) t.second_bytes _
              (λ q. list_may sup before_room room u.kind whole is.context same u.below (first_below (root_position before)) _ t.second_bytes q (omega (arith, fits))) t.second,
        );
      }

  pub units_may : (units : List RawUnit) (before start : ℕ) (bytes : List ℕ) → SpellsUnits abbrevs (given before_room) before units start bytes → before + entries_in units ≤ room
      → AreWhole units × UnitsMay (given before_room) (of_back sup room) before units
  unfolding entries_in
  units_may [] before start bytes is fits = (tt, tt)
  units_may (u ∷ units) before start bytes is fits =
      let more = units_may units (before + entry_count u) (start + length is.first_bytes) is.second_bytes is.second (omega (arith, fits)) in
      let whole = whole_kind before_room u.kind is.first.header is.first.is_header.of_kind is.first.is_header.unit_type in
      ((whole, more.0), (unit_may before u start is.first_bytes is.first (omega (arith, fits)) whole, more.1))

-- ---- `.debug_sup` isn't there

pub none_there : (bytes : List ℕ) → elf_fault bytes ≡ None → has_sup bytes ≡ false
unfolding section_range
none_there bytes none = ap is_some (no_range 9 (sections_in bytes) (no_sup (sections_in bytes) (name_table bytes) [] (headers_in bytes) (no_faults by_itself bytes none).kept))

pub by_none : (common : Option (List ℕ)) (bytes : List ℕ) → has_sup bytes ≡ false → file_sup_fault common bytes ≡ None
unfolding file_sup_fault
by_none common bytes e = rw e refl

-- ---- the file

pub given_reads : GivenLaw
given_reads common number l m bytes units doc r room = by common where
  fits : entries_in units ≤ m.entries
  fits = room.entries

  none : has_sup bytes ≡ false
  none = none_there bytes (reads_sound l bytes units doc r)

  may : (sup : Bool) → UnitsMay (given l.entries) (of_back sup m.entries) 0 units
  may sup = (units_may (debug_abbrev bytes) sup l.entries m.entries units 0 0 (debug_info bytes) r.spelled (omega (arith, fits))).1

  by : (common : Option GivenCommon) → ReadsBy (rule_of_back common number) m bytes units (doc_in number doc)
  by None = record {
    size = room.size;
    elf = λ f h. r.elf f (back_by_itself bytes f h);
    same_machine = room.machine;
    sup = by_none None bytes none;
    spelled = units_again (debug_abbrev bytes) (given l.entries) (of_back false m.entries) units 0 0 (debug_info bytes) r.spelled (may false);
    means = units_there (at_file number) None (around_of bytes units) refl units doc.units r.means;
    machine = r.machine;
    ranges = r.ranges;
    lists = still_none (sources_of bytes) (all_places units) (at_file number) None (λ n. n) None units r.lists;
  }
  by (Some c) = record {
    size = room.size;
    elf = λ f h. r.elf f (back_by_itself bytes f h);
    same_machine = room.machine;
    sup = by_none (Some c.bytes) bytes none;
    spelled = units_again (debug_abbrev bytes) (given l.entries) (of_back true m.entries) units 0 0 (debug_info bytes) r.spelled (may true);
    means = units_there (at_file number) (given_of (Some c)) (around_of bytes units) refl units doc.units r.means;
    machine = r.machine;
    ranges = r.ranges;
    lists = still_none (sources_of bytes) (all_places units) (at_file number) (given_of (Some c)) (λ n. n) None units r.lists;
  }
