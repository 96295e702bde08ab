-- A file before a run and after it are read, and mean the same.
use Rattle.std.proofs.Common.{◌≡◌, ℕ, ◌+◌, Bool, true, false, List, [], ◌∷◌, Option, Some, None, refl, sym, ap, subst, ◌∙◌, arith}
use Rattle.dwz_def_reading.specs.Lists.{Each, In, Nth}
use Rattle.dwz_def_reading.specs.Documents.{Compile, Doc, DwUnit, OfType, Partial}
use Rattle.dwz_def_reading.specs.Files.{Limits, ReadsBy, debug_abbrev, debug_info, limits_after, machine_of, no_files_before}
use Rattle.dwz_def_reading.specs.Finished.{FinishedDocs, GivenCommon, ReadFinished, around_in, given_by, has_sup, rule_of_back, rule_of_common}
use Rattle.dwz_def_reading.specs.Entries.{given}
use Rattle.dwz_def_reading.specs.Meanings.{Around, Common, MeanUnits, MeansKind, scope_of}
use Rattle.dwz_def_reading.specs.Places.{Place, at_file}
use Rattle.dwz_def_reading.specs.Texts.{NoZero}
use Rattle.dwz_def_reading.specs.Units.{CompileUnit, PartialUnit, RawKind, RawUnit, TypeUnit}
use Rattle.dwz_def_reading.specs.Values.{AreBytes}
use Rattle.dwz_def_reading.proofs.SoundFiles.{reads_sound}
use Rattle.dwz_def_tops.specs.Alike.{IsAlike, TopScope}
use Rattle.dwz_def_tops.specs.Deciding.{alike_test}
use Rattle.dwz_def_tops.specs.Spots.{EntryName, units_of}
use Rattle.dwz_def_tops.proofs.AlikeLaws.{alike_decides}
use Rattle.dwz_def_images.specs.Homes.{IsChoice}
use Rattle.dwz_def_images.proofs.GainLemmas.{gain_choice}
use Rattle.dwz_def_images.specs.After.{ArePlaced}
use Rattle.dwz_def_images.specs.Units.{changes}
use Rattle.dwz_def_images.proofs.FileLemmas.{replaced}
use Rattle.dwz_def_encoding.specs.Meant.{placed_units}
use Rattle.dwz_def_readback.specs.AllFiles.{AreRead, FileReads, ReadBack, given_if}
use Rattle.dwz_def_readback.specs.Back.{SaysUnits}
use Rattle.dwz_def_readback.specs.Files.{Run, fitted, imports_common, places}
use Rattle.dwz_def_readback.proofs.AllLemmas.{all_placed}
use Rattle.dwz_def_readback.proofs.ReadMode.{units_again, wider}
use Rattle.dwz_def_readback.proofs.ReadPlaces.{read_from}
use Rattle.dwz_def_readback.proofs.SameLemmas.{numbers_in}
use Rattle.dwz_def_readback.proofs.StillPlaces.{nth_number}
use Rattle.dwz_def_output.specs.FilesAfter.{bytes_after, bytes_by, common_bytes, file_after}
use Rattle.dwz_def_output.specs.Written.{CanBeWritten, common_under, rule_under, run_under, stored_of}
use Rattle.dwz_def_output.proofs.AllMade.{are, read_back}
use Rattle.dwz_def_cross.specs.CrossSame.{CrossSame}
use Rattle.dwz_def_limits.specs.Within.{AreWithinLimits, StoresUnits}
use Rattle.dwz_law_cross.specs.BesideLaws.{new_units, shared_units}
use Rattle.dwz_law_cross.specs.CheckLaws.{SaySame}
use Rattle.dwz_law_cross.specs.FinishedLaws.{AloneLaw, FinishedLaw, NamesLaw, SaidSame, SaidSameAlone}
use Rattle.dwz_law_cross.specs.PairLaws.{with_common}
use Rattle.dwz_law_cross.specs.StandLaws.{StandSo}
use Rattle.dwz_law_cross.specs.SupLaws.{AreGood}
use Rattle.dwz_law_cross.specs.ReadLaws.{HasRoom, doc_in}
use Rattle.dwz_law_cross.proofs.AllStand as stand
use Rattle.dwz_law_cross.proofs.AloneLemmas.{moved_alone, still_alone}
use Rattle.dwz_law_cross.proofs.ByItself.{by_itself}
use Rattle.dwz_law_cross.proofs.CheckLemmas.{all_partial, checks, common_says, moved_to}
use Rattle.dwz_law_cross.proofs.Machines.{common_machine, new_machine, old_machine}
use Rattle.dwz_law_cross.proofs.OwnFiles.{stays_alone}
use Rattle.dwz_law_cross.proofs.ReadLemmas.{by_none, given_reads, none_there}
use Rattle.dwz_law_cross.proofs.RenumberLemmas.{placed_then, says_renumbered}
use Rattle.dwz_law_cross.proofs.StandLemmas.{common_reads, written_reads}
use Rattle.dwz_law_cross.proofs.StayLemmas as still
use Rattle.dwz_law_cross.proofs.SupLemmas.{imports_there, sup_good}

-- ---- units that mean partial ones are partial

raws_partial : {P : Type 0} (around : Around P) (raw : List RawUnit) (units : List (DwUnit P)) → MeanUnits around raw units → Each (λ u. u.kind ≡ Partial) units → Each (λ u. u.kind ≡ PartialUnit) raw
raws_partial around [] [] means partial = tt
raws_partial around [] (v ∷ units) means partial = absurd means
raws_partial around (u ∷ raw) [] means partial = absurd means
raws_partial {P} around (u ∷ raw) (v ∷ units) means partial = (by u.kind means.0.kind, raws_partial around raw units means.1 partial.1) where
  by : (k : RawKind) → MeansKind (scope_of around u) k v.kind → k ≡ PartialUnit
  by PartialUnit h = refl
  by CompileUnit h = absurd (let no_ : Partial ≡ Compile = sym partial.0 ∙ h in cc)
  by (TypeUnit signature type_offset) h = absurd (let no_ : Partial ≡ OfType signature (around.place (u.at + type_offset)) = sym partial.0 ∙ h.1 in cc)

-- ---- limits

pub stores : {common : Option (Common Place)} {number : ℕ} {bytes : List ℕ} {raw : List RawUnit} {units : List (DwUnit Place)} → SaysUnits common number bytes raw units → StoresUnits bytes raw
stores says = record { mode = says.mode; whole = says.whole; partial = says.partial; forms = says.forms; spelled = says.spelled }

pub record TwoRooms (l : Limits) (a b : List ℕ) (x y : List RawUnit) : Type 0 where
  pub first : HasRoom l a x
  pub second : HasRoom (limits_after l a x) b y

pub two_rooms : (a b : List ℕ) (x y : List RawUnit) → AreWithinLimits (a ∷ b ∷ []) → StoresUnits a x → StoresUnits b y → machine_of b ≡ machine_of a → TwoRooms no_files_before a b x y
two_rooms a b x y within p q same =
    let each = within.each in
    let bytes = within.bytes in
    let entries = within.entries (x ∷ y ∷ []) (p, (q, tt)) in
    record {
      first = record { size = record { file = each.0; files = omega (arith, bytes) }; machine = tt; entries = omega (arith, entries) };
      second = record { size = record { file = each.1.0; files = omega (arith, bytes) }; machine = same; entries = omega (arith, entries) };
    }

pub record ThreeRooms (a b c : List ℕ) (x y z : List RawUnit) : Type 0 where
  pub first : HasRoom no_files_before a x
  pub more : TwoRooms (limits_after no_files_before a x) b c y z

pub three_rooms : (a b c : List ℕ) (x y z : List RawUnit) → AreWithinLimits (a ∷ b ∷ c ∷ []) → StoresUnits a x → StoresUnits b y → StoresUnits c z → machine_of b ≡ machine_of a
    → machine_of c ≡ machine_of b
    → ThreeRooms a b c x y z
three_rooms a b c x y z within p q s same also =
    let each = within.each in
    let bytes = within.bytes in
    let entries = within.entries (x ∷ y ∷ z ∷ []) (p, (q, (s, tt))) in
    record {
      first = record { size = record { file = each.0; files = omega (arith, bytes) }; machine = tt; entries = omega (arith, entries) };
      more = record {
        first = record { size = record { file = each.1.0; files = omega (arith, bytes) }; machine = same; entries = omega (arith, entries) };
        second = record { size = record { file = each.1.1.0; files = omega (arith, bytes) }; machine = also; entries = omega (arith, entries) };
      };
    }

-- ---- the files of a run

module _ (scope : TopScope) (name : List ℕ) (contents : List (List ℕ)) (docs : List (Doc ℕ)) (prunes : List Bool) (bytes : Each AreBytes contents) (written : CanBeWritten scope name contents docs
    prunes) where
  abbrev r : Run
  r = run_under scope contents docs prunes

  reads : AreRead (stored_of contents prunes) docs
  reads = are scope name contents docs prunes bytes written

  placed : Each (λ doc. ArePlaced doc.units) docs
  placed = all_placed 0 docs (λ file doc nth.
      let o = reads file doc nth in
      (read_from o.limits (r.input.bytes file) (r.input.raw file) doc o.reads o.are_bytes).placed)

  alike : IsAlike scope (units_of docs) (rule_under scope docs).alike
  alike = alike_decides scope (units_of docs)

  choice : IsChoice (units_of docs) (rule_under scope docs)
  choice = gain_choice scope (units_of docs) (alike_test scope (units_of docs)) (alike_decides scope (units_of docs))

  abbrev Back : Option (List ℕ) → Type 0
  Back o = ReadBack scope docs (rule_under scope docs) (stored_of contents prunes) (file_after name r) o

  back : Back (common_under scope r)
  back = read_back scope name contents docs prunes bytes written

  module _ (file : ℕ) (doc : Doc ℕ) (nth : Nth 0 docs file doc) where
    abbrev was : List ℕ
    was = r.input.bytes file

    abbrev now : List ℕ
    now = file_after name r file

    there : In file r.files
    there = nth_number 0 docs file doc nth

    own : FileReads was (r.input.raw file) (r.input.prunes file) doc
    own = reads file doc nth

    -- as it is stored
    own_stores : StoresUnits was (r.input.raw file)
    own_stores = record {
      mode = wider (given own.limits.entries);
      whole = refl;
      partial = refl;
      forms = refl;
      spelled = units_again (debug_abbrev was) (given own.limits.entries) refl (r.input.raw file) 0 0 (debug_info was) own.reads.spelled;
    }

    no_sup : has_sup was ≡ false
    no_sup = none_there was (reads_sound own.limits was (r.input.raw file) doc own.reads)

    -- it is read with any number, beside a common file or without one
    was_reads : (common : Option GivenCommon) (number : ℕ) (l : Limits) → HasRoom l was (r.input.raw file) → ReadsBy (rule_of_back common number) l was (r.input.raw file) (doc_in number doc)
    was_reads common number l room = given_reads common number own.limits l was (r.input.raw file) doc own.reads room

    abbrev same_machine : machine_of was ≡ machine_of (r.input.bytes 0)
    same_machine = old_machine scope name contents docs prunes bytes written file doc nth

    stands : StandSo scope name r
    stands = stand.stand_so scope name contents docs prunes bytes written

    apart : file ≡ r.common → ⊥
    apart e = (let less = numbers_in 0 docs file there in omega (arith, e, less))

    -- ---- beside the common file

    module _ (no_zero : NoZero name) (is_common : common_under scope r ≡ Some (common_bytes r)) where
      abbrev common : List ℕ
      common = common_bytes r

      good : AreGood name r
      good = sup_good scope name contents docs prunes bytes written no_zero

      back_with : Back (Some common)
      back_with = subst Back is_common back

      abbrev With : List ℕ → Type 0
      With new = (said : FinishedDocs) × ReadFinished (Some common) (was ∷ new ∷ []) said × SaidSame said

      from_first : machine_of was ≡ machine_of common
      from_first = same_machine ∙ sym (common_machine scope name contents docs prunes bytes written)

      abbrev given_common : List RawUnit → GivenCommon
      given_common raw = record { number = 2; bytes = common; units = raw }

      -- the common file as it is read
      module _ (raw : List RawUnit) (shared : List (DwUnit Place)) (says : SaysUnits None 2 common raw shared) (partial : Each (λ u. u.kind ≡ Partial) shared) where
        abbrev common_doc : Doc Place
        common_doc = record { machine = machine_of common; units = shared }

        common_read_so : HasRoom no_files_before common raw → ReadsBy (rule_of_common 2) no_files_before common raw common_doc
        common_read_so room =
            common_reads 2 no_files_before common raw shared says room good.common (raws_partial (around_in None 2 common raw) raw shared says.means partial)
            (stands.common is_common None 2 raw shared says)

        moved_with : changes r.move r.units file ≡ true → (same : SaySame (Some (given_by 2 common raw)) shared 0 1 doc was now) → AreWithinLimits (common ∷ was ∷ now ∷ []) → With now
        moved_with changed same within =
            let rooms = three_rooms common was now raw (r.input.raw file) same.new_raw within (stores says) own_stores (stores same.new_says) from_first
            (new_machine scope name contents docs prunes bytes written file doc nth there changed) in
            let l = limits_after no_files_before common raw in
            let given = Some (given_common raw) in
            let new_doc : Doc Place = record { machine = machine_of now; units = same.new_units } in (
              record { common = Some common_doc; docs = doc_in 0 doc ∷ new_doc ∷ [] },
              (
                raw,
                common_doc,
                refl,
                common_read_so rooms.first,
                (
                  r.input.raw file,
                  was_reads given 0 l rooms.more.first,
                  (
                    same.new_raw,
                    written_reads given 1 (limits_after l was (r.input.raw file)) now same.new_raw same.new_units same.new_says rooms.more.second (good.file file there changed)
                        (stands.file file there changed (Some (given_by 2 common raw)) 1 same.new_raw same.new_units same.new_says),
                    tt,
                  ),
                ),
              ),
              record { common = common_doc; old = doc_in 0 doc; new = new_doc; are = refl; same = same.same },
            )

        still_with : CrossSame (with_common (doc_in 0 doc).units shared) (with_common (doc_in 1 doc).units shared) → AreWithinLimits (common ∷ was ∷ was ∷ []) → With was
        still_with same within =
            let rooms = three_rooms common was was raw (r.input.raw file) (r.input.raw file) within (stores says) own_stores own_stores from_first refl in
            let l = limits_after no_files_before common raw in
            let given = Some (given_common raw) in (
              record { common = Some common_doc; docs = doc_in 0 doc ∷ doc_in 1 doc ∷ [] },
              (
                raw,
                common_doc,
                refl,
                common_read_so rooms.first,
                (
                  r.input.raw file,
                  was_reads given 0 l rooms.more.first,
                  (r.input.raw file, was_reads given 1 (limits_after l was (r.input.raw file)) rooms.more.second, tt),
                ),
              ),
              record { common = common_doc; old = doc_in 0 doc; new = doc_in 1 doc; are = refl; same = same },
            )

      moved : changes r.move r.units file ≡ true → AreWithinLimits (common ∷ was ∷ now ∷ []) → With now
      moved changed within =
          let m = checks scope docs (rule_under scope docs) placed alike choice (stored_of contents prunes) (file_after name r) (Some common) back_with file doc nth changed 0 1 2 (λ e. cc)
          (λ e. cc) in
          moved_with m.0 m.1 m.2 m.3 changed m.4 within

      stayed : changes r.move r.units file ≡ false → AreWithinLimits (common ∷ was ∷ was ∷ []) → With was
      stayed stays within =
          let g = back_with.place in
          let c = back_with.back.common in
          let at : EntryName → Place = λ k. moved_to file 1 2 (g k) in
          still_with c.raw (shared_units r at) (common_says r g file 1 2 apart common c) (all_partial r at)
          (still.same scope docs (rule_under scope docs) placed alike choice (stored_of contents prunes) file doc nth stays 0 1 2 (λ e. cc) (λ e. cc) g back_with.placing back_with.old) within

      with_it : AreWithinLimits (common ∷ was ∷ bytes_after name r file ∷ []) → With (bytes_after name r file)
      with_it within = by (changes r.move r.units file) refl within where
        by : (b : Bool) → changes r.move r.units file ≡ b → AreWithinLimits (common ∷ was ∷ bytes_by b was now ∷ []) → With (bytes_by b was now)
        by true e w = moved e w
        by false e w = stayed e w

    -- ---- without it

    abbrev Alone : List ℕ → Type 0
    Alone new = (said : FinishedDocs) × ReadFinished None (was ∷ new ∷ []) said × SaidSameAlone said

    module _ (imports : imports_common r.move r.units file ≡ false) where
      abbrev to : Place → Place
      to p = at_file 1 p.at

      moved_by_itself : changes r.move r.units file ≡ true → AreWithinLimits (was ∷ now ∷ []) → Alone now
      moved_by_itself changed within =
          let g = back.place in
          let given = given_if r g (common_under scope r) back.back.common in
          let says = back.back.file file there changed in
          let own_says = by_itself given file now says.raw (placed_units (places r) g (fitted r file)) says.says
          (stands.alone file there changed imports given file says.raw (placed_units (places r) g (fitted r file)) says.says) in
          let at : EntryName → Place = λ k. to (g k) in
          let new_says = subst (λ (w : List (DwUnit Place)). SaysUnits None 1 now says.raw w) (placed_then (places r) g to (fitted r file))
          (says_renumbered to None None file 1 now says.raw (placed_units (places r) g (fitted r file)) (λ n. refl) tt own_says) in
          let rooms = two_rooms was now (r.input.raw file) says.raw within own_stores (stores new_says) (new_machine scope name contents docs prunes bytes written file doc nth there changed) in
          let new_doc : Doc Place = record { machine = machine_of now; units = new_units r at file } in
          let none = by_none None now (imports_there scope name contents docs prunes bytes written file there changed ∙ imports) in (
            record { common = None; docs = doc_in 0 doc ∷ new_doc ∷ [] },
            (
              refl,
              (
                r.input.raw file,
                was_reads None 0 no_files_before rooms.first,
                (
                  says.raw,
                  written_reads None 1 (limits_after no_files_before was (r.input.raw file)) now says.raw (new_units r at file) new_says rooms.second none
                      (stands.alone file there changed imports None 1 says.raw (new_units r at file) new_says),
                  tt,
                ),
              ),
            ),
            record {
              old = doc_in 0 doc;
              new = new_doc;
              are = refl;
              same = moved_alone scope docs (rule_under scope docs) placed alike choice (stored_of contents prunes) file doc nth imports 0 1 at
                  (λ k h. ap to (sym (back.placing.written file there changed k h)));
            },
          )

      still_by_itself : changes r.move r.units file ≡ false → AreWithinLimits (was ∷ was ∷ []) → Alone was
      still_by_itself stays within =
          let rooms = two_rooms was was (r.input.raw file) (r.input.raw file) within own_stores own_stores refl in (
            record { common = None; docs = doc_in 0 doc ∷ doc_in 1 doc ∷ [] },
            (
              refl,
              (
                r.input.raw file,
                was_reads None 0 no_files_before rooms.first,
                (r.input.raw file, was_reads None 1 (limits_after no_files_before was (r.input.raw file)) rooms.second, tt),
              ),
            ),
            record {
              old = doc_in 0 doc;
              new = doc_in 1 doc;
              are = refl;
              same = still_alone scope docs (rule_under scope docs) placed alike choice (stored_of contents prunes) file doc nth imports 0 1 stays back.place back.old;
            },
          )

      without_it : AreWithinLimits (was ∷ bytes_after name r file ∷ []) → Alone (bytes_after name r file)
      without_it within = by (changes r.move r.units file) refl within where
        by : (b : Bool) → changes r.move r.units file ≡ b → AreWithinLimits (was ∷ bytes_by b was now ∷ []) → Alone (bytes_by b was now)
        by true e w = moved_by_itself e w
        by false e w = still_by_itself e w

    names_it : has_sup (bytes_after name r file) ≡ imports_common r.move r.units file
    names_it = by (changes r.move r.units file) refl where
      by : (b : Bool) → changes r.move r.units file ≡ b → has_sup (bytes_by b was now) ≡ imports_common r.move r.units file
      by true e = imports_there scope name contents docs prunes bytes written file there e
      by false e =
          (let whole = replaced scope docs (rule_under scope docs) placed alike choice in
          no_sup ∙ sym (stays_alone scope (units_of docs) (rule_under scope docs) alike choice r.files whole.old whole.held file e))

pub finished : FinishedLaw
finished scope name contents docs prunes bytes written no_zero is_common file doc nth within = with_it scope name contents docs prunes bytes written file doc nth no_zero is_common within

pub finished_alone : AloneLaw
finished_alone scope name contents docs prunes bytes written file doc nth imports within = without_it scope name contents docs prunes bytes written file doc nth imports within

pub names_sup : NamesLaw
names_sup scope name contents docs prunes bytes written file doc nth =
    (no_sup scope name contents docs prunes bytes written file doc nth, names_it scope name contents docs prunes bytes written file doc nth)
