-- Where no operand of a file is too narrow, the units that are written of it have room for their operands.
use Rattle.std.proofs.Common.{◌≡◌, ℕ, suc, ◌+◌, Bool, true, false, List, [], ◌∷◌, length, map, refl, sym, ap, subst, ◌∙◌, inl, inr, arith, eq-eqb, ne_eqb}
use Rattle.dwz_def_reading.specs.Lists.{Each, In}
use Rattle.dwz_def_reading.specs.Pruning.{new_number}
use Rattle.dwz_def_reading.proofs.ListFacts.{in_cases}
use Rattle.dwz_def_reading.specs.Documents.{Attr, Doc, DwUnit, attr_map, unit_map}
use Rattle.dwz_def_reading.specs.Files.{sources_of}
use Rattle.dwz_def_reading.specs.Classes.{Class}
use Rattle.dwz_def_reading.specs.Shared.{ListOperand}
use Rattle.dwz_def_tops.specs.Lists.{Nth}
use Rattle.dwz_def_tops.proofs.Members.{each_append, each_in, each_more, each_of, each_split, nth_in}
use Rattle.dwz_def_tops.specs.Alike.{IsAlike, TopScope}
use Rattle.dwz_def_tops.specs.Spots.{EntryName, FileUnit, in_file, named, named_files, spot_in, spots_from, tops_among, units_of}
use Rattle.dwz_def_images.specs.Homes.{IsChoice, Local, Rule}
use Rattle.dwz_def_images.specs.Moves.{Move, image_in}
use Rattle.dwz_def_images.specs.Plan.{import_attr}
use Rattle.dwz_def_images.specs.After.{ArePlaced, Replaces}
use Rattle.dwz_def_tops.specs.UnitNames.{name_from, name_of_place}
use Rattle.dwz_def_reading.specs.Places.{at_file}
use Rattle.dwz_def_images.specs.Units.{all_units, kept_unit, kept_units, out_units, partial_units}
use Rattle.dwz_def_images.proofs.FileLemmas.{replaced}
use Rattle.dwz_def_encoding.specs.Bases.{Bases, bases_in}
use Rattle.dwz_def_encoding.specs.Carried.{CarriedUnit, From, OfFile}
use Rattle.dwz_def_encoding.specs.Fitting.{HasRoom, HasRoomAs, UnitHasRoom}
use Rattle.dwz_def_encoding.specs.Writing.{Numbering}
use Rattle.dwz_def_encoding.proofs.CarriedMaps.{unit_carried}
use Rattle.dwz_def_encoding.proofs.FormsKnown.{import_class}
use Rattle.dwz_def_encoding.proofs.Renumbered.{renumbered_room}
use Rattle.dwz_def_readback.specs.AllFiles.{AreRead}
use Rattle.dwz_def_readback.specs.Back.{FileOver, WasReadFrom, run_of}
use Rattle.dwz_def_readback.specs.Files.{fitted_by, formed_by, Run, Stored, file_forms, fitted, fitted_if, formed, name_after, origin_in, places, sources, uses}
use Rattle.dwz_def_readback.proofs.AttrLemmas.{attrs_in, attrs_mapped, kept_attrs}
use Rattle.dwz_def_readback.proofs.FreeOperands.{AsksNone, UnitAsksNone, entries_more, home_asks}
use Rattle.dwz_def_readback.proofs.HomeLemmas.{kept_from}
use Rattle.dwz_def_readback.proofs.LineLemmas.{local_roots}
use Rattle.dwz_def_readback.proofs.OriginLemmas.{bases_mapped}
use Rattle.dwz_def_readback.proofs.OutsCarried.{out_carried}
use Rattle.dwz_def_readback.proofs.ReadPlaces.{read_from}
use Rattle.dwz_def_readback.proofs.NamedOperands.{later_file}
use Rattle.dwz_def_output.specs.Contents.{listed}
use Rattle.dwz_def_output.specs.Refusals.{spoken}
use Rattle.dwz_def_output.proofs.RoomFormed.{attr_named, fitted_room, unit_named}
use Rattle.dwz_def_output.proofs.RoomRead.{RoomFor, file_room}

-- ---- a named unit is one of a document

record NamedFrom (own unit top : ℕ) (docs : List (Doc ℕ)) (u : FileUnit EntryName) : Type 0 where
  doc : Doc ℕ
  nth : Nth own docs u.file doc
  names : ℕ → EntryName
  old : DwUnit ℕ
  there : In old doc.units
  is : unit_map names old ≡ u.unit
  same : (p : ℕ) → name_from own unit top docs (at_file u.file p) ≡ names p

record InBlock (file : ℕ) (names : ℕ → EntryName) (units : List (DwUnit ℕ)) (u : FileUnit EntryName) : Type 0 where
  file_is : u.file ≡ file
  old : DwUnit ℕ
  there : In old units
  is : unit_map names old ≡ u.unit

in_block : (file : ℕ) (names : ℕ → EntryName) (units : List (DwUnit ℕ)) (u : FileUnit EntryName) → In u (map (in_file file) (map (unit_map names) units)) → InBlock file names units u
in_block file names [] u there = absurd there
in_block file names (v ∷ units) u (inl e) = record { file_is = ap (λ (w : FileUnit EntryName). w.file) (sym e); old = v; there = inl refl; is = ap (λ (w : FileUnit EntryName). w.unit) e }
in_block file names (v ∷ units) u (inr r) = (let b = in_block file names units u r in record { file_is = b.file_is; old = b.old; there = inr b.there; is = b.is })

named_from : (own unit top : ℕ) (docs : List (Doc ℕ)) (u : FileUnit EntryName) → In u (named_files own unit top docs) → NamedFrom own unit top docs u
unfolding named_files name_from
named_from own unit top [] u there = absurd there
named_from own unit top (doc ∷ docs) u there =
    let f = spot_in (spots_from unit top doc.units) in
    let name : Bool → ℕ → EntryName = λ b p. elim b as (λ _. EntryName) [ true ↦ f p | false ↦ name_from (suc own) (unit + length doc.units) (top + tops_among doc.units) docs (at_file u.file p) ] in
    elim (in_cases u (map (in_file own) (named unit top doc.units)) (named_files (suc own) (unit + length doc.units) (top + tops_among doc.units) docs) there) [
      | inl a ↦
          (let b = in_block own f doc.units u a in
          record {
            doc = doc;
            nth = inl (sym b.file_is, refl);
            names = f;
            old = b.old;
            there = b.there;
            is = b.is;
            same = λ p. ap (λ (t : Bool). name t p) (eq-eqb own u.file (sym b.file_is));
          })
      | inr b ↦
          (let o = named_from (suc own) (unit + length doc.units) (top + tops_among doc.units) docs u b in
          let later = later_file (suc own) (unit + length doc.units) (top + tops_among doc.units) docs u b in
          record {
            doc = o.doc;
            nth = inr o.nth;
            names = o.names;
            old = o.old;
            there = o.there;
            is = o.is;
            same = λ p. ap (λ (t : Bool). name t p) (ne_eqb own u.file (λ e. omega (arith, e, later))) ∙ o.same p;
          })
    ]

-- ---- all files

module _ (scope : TopScope) (docs : List (Doc ℕ)) (input : Stored) (are : AreRead input docs) (rule : Rule) (is : IsAlike scope (units_of docs) rule.alike)
    (choice : IsChoice (units_of docs) rule) where
  abbrev r : Run
  r = run_of rule docs input

  abbrev m : Move
  m = r.move

  was_read : (file : ℕ) (doc : Doc ℕ) → Nth 0 docs file doc → WasReadFrom (sources_of (input.bytes file)) doc.units
  was_read file doc nth = (let o = are file doc nth in read_from o.limits (input.bytes file) (input.raw file) doc o.reads o.are_bytes)

  placed_from_on : (own : ℕ) (some : List (Doc ℕ)) → ((file : ℕ) (doc : Doc ℕ) → Nth own some file doc → ArePlaced doc.units) → Each (λ doc. ArePlaced doc.units) some
  placed_from_on own [] read = tt
  placed_from_on own (doc ∷ some) read = (read own doc (inl (refl, refl)), placed_from_on (suc own) some (λ file d nth. read file d (inr nth)))

  whole : Replaces (units_of docs) m (all_units m r.units r.files)
  whole = replaced scope docs rule (placed_from_on 0 docs (λ file doc nth. (was_read file doc nth).placed)) is choice

  -- ---- units before

  module _ (i : ℕ) (u : FileUnit EntryName) (nth : Nth 0 (units_of docs) i u) where
    before : NamedFrom 0 0 0 docs u
    before = named_from 0 0 0 docs u (nth_in 0 (units_of docs) i u nth)

    origin : CarriedUnit (OfFile (sources_of (input.bytes u.file))) (bases_in u.unit) u.unit
    origin =
        let b = before in
        let from : From = OfFile (sources_of (input.bytes u.file)) in
        let old = each_in (λ v. CarriedUnit from (bases_in v) v) b.old b.doc.units (was_read u.file b.doc b.nth).carried b.there in
        subst (λ (v : DwUnit EntryName). CarriedUnit from (bases_in v) v) b.is
        (subst (λ (x : Bases). CarriedUnit from x (unit_map b.names b.old)) (sym (bases_mapped b.names b.old)) (unit_carried from (bases_in b.old) b.names b.old old))

  module _ (file : ℕ) where
    origins : (i : ℕ) (u : FileUnit EntryName) → Nth 0 (units_of docs) i u → u.file ≡ file → CarriedUnit (OfFile (sources r file)) (bases_in u.unit) u.unit
    origins i u nth of_file = subst (λ (n : ℕ). CarriedUnit (OfFile (sources_of (input.bytes n))) (bases_in u.unit) u.unit) of_file (origin i u nth)

    carried : Each (λ v. CarriedUnit (OfFile (sources r file)) (origin_in m r.units v.at) v) (out_units m r.units file)
    carried =
        out_carried (OfFile (sources r file)) scope (units_of docs) rule is choice r.files whole.old whole.held file origins
        (local_roots (OfFile (sources r file)) scope (units_of docs) rule is choice r.files whole.old whole.held (λ x. x ≡ file) origins file refl)

    -- the numbers of places after, and of names before
    abbrev by_place : Numbering ℕ
    by_place = record { place = λ p. (places r).place (name_after r file p) }

    abbrev by_name : Numbering EntryName
    by_name = record { place = λ s. (places r).place (image_in m s) }

    module _ (spoken_room : (o : ListOperand) → In o (spoken r file) → RoomFor by_place o) (listed_room : (o : ListOperand) → In o (listed r file) → RoomFor by_place o) where
      doc_room : (doc : Doc ℕ) → Nth 0 docs file doc → Each (UnitHasRoom by_place) doc.units
      doc_room doc nth = file_room by_place (sources_of (input.bytes file)) (input.raw file) doc.units spoken_room listed_room (are file doc nth).reads.means

      before_room : (i : ℕ) (u : FileUnit EntryName) → Nth 0 (units_of docs) i u → u.file ≡ file → UnitHasRoom by_name u.unit
      before_room i u nth of_file =
          let b = before i u nth in
          let at : Nth 0 docs file b.doc = subst (λ (n : ℕ). Nth 0 docs n b.doc) of_file b.nth in
          let old = each_in (UnitHasRoom by_place) b.old b.doc.units (doc_room b.doc at) b.there in
          let same : (p : ℕ) → by_place.place p ≡ by_name.place (b.names p) = λ p.
          ap (λ (s : EntryName). (places r).place (image_in m s)) (ap (λ (n : ℕ). name_of_place docs (at_file n p)) (sym of_file) ∙ b.same p) in
          subst (UnitHasRoom by_name) b.is (unit_named by_place by_name b.names same b.old old)

      -- ---- units after

      kept_room : (i : ℕ) (u : FileUnit EntryName) → Nth 0 (units_of docs) i u → u.file ≡ file → UnitHasRoom (places r) (kept_unit m (units_of docs) i u)
      kept_room i u nth of_file =
          let room = before_room i u nth of_file in
          let stays : by_name.place u.unit.at ≡ (places r).place u.unit.at =
          ap (λ (s : EntryName). (places r).place (image_in m s)) (whole.old.units_named i u nth).unit ∙ ap (λ (s : EntryName). (places r).place s) (sym (whole.old.units_named i u nth).unit) in
          let P : Attr EntryName → Type 0 = HasRoom (places r) ((places r).place u.unit.at) in
          let one : (a : Attr EntryName) → HasRoom by_name (by_name.place u.unit.at) a → HasRoom (places r) ((places r).place u.unit.at) (attr_map (image_in m) a) = λ a h.
          subst (λ (p : ℕ). HasRoom (places r) p (attr_map (image_in m) a)) stays (attr_named by_name (places r) (image_in m) (λ s. refl) (by_name.place u.unit.at) a h) in (
            attrs_mapped P (image_in m) u.unit.root.attrs (λ a there. one a (each_in (HasRoom by_name (by_name.place u.unit.at)) a u.unit.root.attrs room.0 there)),
            kept_attrs P (units_of docs) m i u nth
                (λ d below a there. one a (each_in (HasRoom by_name (by_name.place u.unit.at)) a d.attrs (attrs_in (HasRoom by_name (by_name.place u.unit.at)) u.unit.below room.1 d below) there))
                (λ n. subst (λ (c : Class). HasRoomAs c (places r) ((places r).place u.unit.at) (import_attr n)) (sym import_class) tt),
          )

      out_room : Each (UnitHasRoom (places r)) (out_units m (units_of docs) file)
      unfolding out_units
      out_room =
          let new = partial_units m (Local file) 0 m.parts in
          let olds = kept_units m (units_of docs) file 0 (units_of docs) in
          let each = each_split (λ v. CarriedUnit (OfFile (sources r file)) (origin_in m r.units v.at) v) new olds carried in
          let asks = home_asks scope (units_of docs) rule is choice r.files whole.held (Local file) (OfFile (sources r file)) each.0 in
          each_append (UnitHasRoom (places r)) new olds
          (each_more UnitAsksNone (UnitHasRoom (places r)) new
          (λ v a. (
            each_more AsksNone (HasRoom (places r) ((places r).place v.at)) v.root.attrs (λ b h. h.room (places r) ((places r).place v.at)) a.0,
            entries_more AsksNone (HasRoom (places r) ((places r).place v.at)) (λ b h. h.room (places r) ((places r).place v.at)) v.below a.1,
          )) asks)
          (each_of (UnitHasRoom (places r)) olds (λ v there.
          (let o = kept_from m (units_of docs) file 0 (units_of docs) v there in subst (UnitHasRoom (places r)) o.is (kept_room o.number o.unit o.nth o.file_is))))

      formed_room : Each (UnitHasRoom (places r)) (formed r file)
      unfolding formed_by
      formed_room = fitted_room (file_forms r file) (places r) (out_units m (units_of docs) file) out_room

      pub over : FileOver r file
      unfolding fitted_by
      over = by (input.prunes file) where
        by : (b : Bool) → Each (UnitHasRoom (places r)) (fitted_if b r file)
        by true = renumbered_room (new_number (sources r file).strs (uses r file)) (places r) (formed r file) formed_room
        by false = formed_room
