-- In a unit of its own file each text of an entry, and the name of a space, stands where it did, or in the common file.
use Rattle.std.proofs.Common.{◌≡◌, ℕ, zero, suc, ◌+◌, Bool, true, false, List, [], ◌∷◌, length, map, None, Option, Some, slice_get, refl, sym, ap, subst, ◌∙◌, arith}
use Rattle.std.specs.Option.{option_map_or}
use Rattle.std.specs.Prelude.{slice_index, slice_index_or}
use Rattle.std.proofs.lemmas.Option.{get_or_from_slice_get}
use Rattle.dwz_def_reading.specs.Units.{RawUnit}
use Rattle.dwz_def_reading.proofs.ListFacts.{got_map}
use Rattle.dwz_def_reading.specs.Documents.{Attr, Node, node_map}
use Rattle.dwz_def_reading.specs.Classes.{OfConstant, OfTextBySlot, OfTextInLineStr, OfTextInStr, Class, class_of, names_file}
use Rattle.dwz_graph.specs.Resolved.{sources_view}
use Rattle.dwz_def_tops.specs.Spaces.{space_text}
use Rattle.dwz_def_tops.specs.Spots.{EntryName, name_of}
use Rattle.dwz_unit.specs.Rows.{EntryRow, rows_of, units_of as raw_units}
use Rattle.dwz_graph.specs.declared.file.File.{File}
use Rattle.dwz_graph.specs.Index.{Index}
use Rattle.dwz_graph.specs.EntryCounts.{starts_from}
use Rattle.dwz_def_encoding.specs.Placing.{CommonUnit, NewUnit, OldUnit, UnitForms, UnitRole, as_constant, as_file, fit_as}
use Rattle.dwz_def_readback.specs.Files.{shared_if, texts_by}
use Rattle.dwz_layout.specs.declared.known.FileRows.{FileRows}
use Rattle.dwz_layout.specs.declared.known.ValueCounts.{ValueCounts}
use Rattle.dwz_layout.specs.declared.known.EntryTable.{EntryTable}
use Rattle.dwz_layout.specs.declared.known.Row.{Row}
use Rattle.dwz_layout.specs.declared.known.SpaceRow.{SpaceRow}
use Rattle.dwz_layout.specs.declared.known.TextAt.{TextAt}
use Rattle.dwz_layout.specs.Entries.{row}
use Rattle.dwz_layout.specs.Known.{no_firsts, no_space, no_text, space_at, text_at, text_held}
use Rattle.dwz_law_layout.specs.Knows.{EachFrom, FileRead, IsRead, IsText, firsts_at, is_placed, name_attr, texts_in}
use Rattle.dwz_law_layout.specs.Beside.{Beside}
use Rattle.dwz_law_layout.specs.Facts.{AreFacts, HasFile, RunFacts, common, file_read, run}
use Rattle.dwz_law_layout.specs.Listed.{AreListed, AreRows, TextsAt, firsts_from, none_before, space_entries, space_rows}
use Rattle.dwz_law_layout.proofs.Walks.{each_from, rows_at}
use Rattle.dwz_encode_texts.specs.TextLaws.{unshared}
use Rattle.dwz_encode_common.specs.Gathered.{text_by, text_said}
use Rattle.dwz_encode_common.specs.Placed.{file_places, name_at, name_place, said_in, shares_in, space_placed}
use Rattle.dwz_encode_common.specs.Shared.{placed_text, shared_or}
use Rattle.dwz_encode_common.specs.SharedLaws.{HasTexts, SharedNamesLaw, SharedTextsLaw, is_common_entry, makes_common}
use Rattle.dwz_encode_common.specs.Stored.{row_name, row_texts}
use Rattle.dwz_encode_common.proofs.EntryPlaces.{HasPlaces, has_places, meant, placed_in, row_many, texts_meant}
use Rattle.dwz_encode_common.proofs.NameSteps.{name_there}
use Rattle.dwz_encode_common.proofs.StoredTexts.{name_stored, row_stored}
use Rattle.dwz_encode_common.proofs.SharedTexts.{placed_law, shared_law}
use Rattle.dwz_encode_common.proofs.WithLists.{firsts_kept, text_with}

each_got : {X : Type 0} (P : ℕ → X → Type 0) (n : ℕ) (xs : List X) → EachFrom P n xs → (j : ℕ) (x : X) → slice_get xs j ≡ Some x → P (n + j) x
each_got P n [] h j x e = absurd cc
each_got {X} P n (y ∷ xs) h zero x e =
    let same : y ≡ x = cc in
    let here : n ≡ n + 0 = omega arith in
    subst (λ (m : ℕ). P m x) here (subst (P n) same h.0)
each_got {X} P n (y ∷ xs) h (suc j) x e =
    let far : n + 1 + j ≡ n + suc j = omega arith in
    subst (λ (m : ℕ). P m x) far (each_got P (n + 1) xs h.1 j x e)

-- ---- lists

pub rows_long : {beside : Beside} (f : RunFacts beside) (files : List File) (indexes : List Index) (starts : List ℕ) (texts : List (List TextAt)) (rows : List FileRows)
    → AreRows f files indexes starts texts rows → length rows ≡ length files
rows_long f [] [] [] [] [] h = refl
rows_long f [] [] [] [] (r ∷ rows) h = absurd h
rows_long f [] [] [] (t ∷ texts) rows h = absurd h
rows_long f [] [] (s ∷ starts) texts rows h = absurd h
rows_long f [] (y ∷ indexes) starts texts rows h = absurd h
rows_long f (x ∷ files) [] starts texts rows h = absurd h
rows_long f (x ∷ files) (y ∷ indexes) [] texts rows h = absurd h
rows_long f (x ∷ files) (y ∷ indexes) (s ∷ starts) [] rows h = absurd h
rows_long f (x ∷ files) (y ∷ indexes) (s ∷ starts) (t ∷ texts) [] h = absurd h
rows_long f (x ∷ files) (y ∷ indexes) (s ∷ starts) (t ∷ texts) (r ∷ rows) h = ap suc (rows_long f files indexes starts texts rows h.1)

-- the space with a number
pub record HasSpace (spaces : List SpaceRow) (s : ℕ) (r : Row) : Type 0 where
  pub space : SpaceRow
  pub is : slice_get spaces s ≡ Some space
  pub row_is : space.row ≡ r

space_got : (rows : List Row) (own commons : List TextAt) → length own ≡ length rows → length commons ≡ length rows → (s : ℕ) (r : Row)
    → slice_get rows s ≡ Some r → HasSpace (space_rows rows own commons) s r
space_got [] own commons p q s r e = absurd cc
space_got (x ∷ rows) [] commons p q s r e = absurd (omega arith)
space_got (x ∷ rows) (t ∷ own) [] p q s r e = absurd (omega arith)
space_got (x ∷ rows) (t ∷ own) (c ∷ commons) p q zero r e =
    let same : x ≡ r = cc in
    record { space = record { row = x; text = t; common = c }; is = refl; row_is = same }
space_got (x ∷ rows) (t ∷ own) (c ∷ commons) p q (suc s) r e =
    let g = space_got rows own commons (omega arith) (omega arith) s r e in
    record { space = g.space; is = g.is; row_is = g.row_is }

-- ---- a file

module _ {beside : Beside} (f : RunFacts beside) (t : TextsAt) (sharing : List Bool) (before k : EntryTable) (facts : AreFacts f) (listed : AreListed f t before)
    (has : HasTexts f sharing before k) where
  pub files_many : length before.files.items ≡ length f.files
  files_many = rows_long f f.files f.indexes (starts_from 0 f.indexes) t.files before.files.items listed.rows

  module _ (n : ℕ) (bytes : List ℕ) (x : File) (index : Index) (h : HasFile f n bytes x index) where
    abbrev raw : List RawUnit
    raw = raw_units x.units

    abbrev F : FileRead
    F = file_read f n bytes x

    -- ---- an entry

    module _ (i : ℕ) (r : EntryRow) (d : Node ℕ) (read : IsRead (file_read f n bytes x) i r d) where
      abbrev pub attrs : List (Attr EntryName)
      attrs = (node_map (file_read f n bytes x).after d).attrs

      pub stands : HasPlaces (makes_common beside) (shares_in sharing n) (texts_by (common f) (run f)) before n (said_in x) (row_many (sources_view x.sections) (raw_units x.units))
          (rows_of (raw_units x.units)) none_before 0 0 i r
      stands = has_places (makes_common beside) (shares_in sharing n) (texts_by (common f) (run f)) before n (said_in x) (row_many (sources_view x.sections) raw) (rows_of raw)
          none_before 0 0 i r read.found

      pub first_before : (firsts_at before F i).text ≡ stands.from
      first_before =
          let at = rows_at f f.files f.indexes (starts_from 0 f.indexes) t.files before.files.items listed.rows n x index h.file h.index_is in
          let own = firsts_from (slice_index x.resolved.starts.items i) stands.b in
          let none : 0 + stands.from ≡ stands.from = omega arith in
          ap (λ (w : Option FileRows). (option_map_or (λ (u : FileRows). slice_index_or u.firsts.items i no_firsts) w no_firsts).text) at.rows_are
          ∙ ap (λ (w : ValueCounts). w.text) (get_or_from_slice_get at.rows_there.firsts.items i own no_firsts (at.listed.firsts i stands.b stands.is))
          ∙ stands.count ∙ none

      pub first_now : (firsts_at k F i).text ≡ stands.from
      first_now =
          ap (λ (w : ValueCounts). w.text) (firsts_kept (makes_common beside) f.files (texts_by (common f) (run f)) sharing before k has files_many (row n i)) ∙ first_before

      stored : said_in x r ≡ map meant (texts_in attrs)
      stored =
          ap (λ (s : _). row_texts s raw r) h.read.read.sections
          ∙ row_stored f n bytes x i r d read ∙ texts_meant attrs

      -- where each of its texts stands
      pub text_is : (j : ℕ) (a : Attr EntryName) → slice_get (texts_in attrs) j ≡ Some a
          → text_at k n (stands.from + j)
          ≡ placed_text (is_common_entry f before n i) (shares_in sharing n) (texts_by (common f) (run f)) (meant a) (text_at before n (stands.from + j))
      text_is j a e =
          let T = texts_by (common f) (run f) in
          let shares = shares_in sharing n in
          let m = stands.from + j in
          let here : 0 + i ≡ i = omega arith in
          let place : 0 + m ≡ m = omega arith in
          text_with (makes_common beside) f.files T sharing before k has files_many n x h.file m
          ∙ get_or_from_slice_get (file_places (makes_common beside) shares T before n x) m
          (placed_text (is_common_entry f before n (0 + i)) shares T (meant a) (text_at before n (0 + m))) no_text
          (stands.stand j (meant a) (ap (λ (w : List (List ℕ)). slice_get w j) stored ∙ got_map meant (texts_in attrs) j a e))
          ∙ (λ q. placed_text (is_common_entry f before n (here q)) shares T (meant a) (text_at before n (place q)))

      -- what holds of each of them
      pub each_now : (P : ℕ → Attr EntryName → Type 0) → ((j : ℕ) (a : Attr EntryName) → slice_get (texts_in attrs) j ≡ Some a → P (stands.from + j) a)
          → EachFrom P (firsts_at k F i).text (texts_in attrs)
      each_now P g = subst (λ (m : ℕ). EachFrom P m (texts_in attrs)) (sym first_now) (each_from P stands.from (texts_in attrs) g)

    -- ---- a space

    module _ (space i : ℕ) (r : EntryRow) (d : Node ℕ) (text : List ℕ) (found : slice_get (space_entries 0 f.indexes) space ≡ Some (row n i))
        (read : IsRead (file_read f n bytes x) i r d) (is : space_text d ≡ Some text) where
      pub space_there : HasSpace before.spaces.items space (row n i)
      space_there =
          let g = space_got (space_entries 0 f.indexes) t.spaces t.commons listed.many_spaces listed.many_commons space (row n i) found in
          record { space = g.space; is = ap (λ (w : List SpaceRow). slice_get w space) listed.spaces ∙ g.is; row_is = g.row_is }

      pub space_before : space_at before space ≡ space_there.space
      space_before = get_or_from_slice_get before.spaces.items space space_there.space no_space space_there.is

      names : name_at f.files space_there.space.row ≡ text_said (name_attr (name_of text d))
      names =
          ap (name_at f.files) space_there.row_is
          ∙ name_there f.files (row n i) x r h.file read.found
          ∙ ap (λ (s : _). row_name s raw r) h.read.read.sections
          ∙ name_stored f n bytes x i r d read text is

      -- where its name stands
      pub space_now : space_at k space ≡ record {
        row = space_there.space.row;
        text = name_place false (shares_in sharing n) (texts_by (common f) (run f)) (text_said (name_attr (name_of text d))) space_there.space.text;
        common = name_place true false (texts_by (common f) (run f)) (text_said (name_attr (name_of text d))) space_there.space.common;
      }
      space_now =
          let s = space_there.space in
          let place = space_placed f.files (texts_by (common f) (run f)) sharing in
          let file : s.row.file ≡ n = ap (λ (w : Row). w.file) space_there.row_is in
          ap (λ (w : List SpaceRow). slice_index_or w space no_space) has.spaces_are
          ∙ get_or_from_slice_get (map place before.spaces.items) space (place s) no_space (got_map place before.spaces.items space s space_there.is)
          ∙ (λ q. let w : SpaceRow = record {
            row = s.row;
            text = name_place false (shares_in sharing (file q)) (texts_by (common f) (run f)) (names q) s.text;
            common = name_place true false (texts_by (common f) (run f)) (names q) s.common;
          } in w)

-- ---- what is written of it

-- the name of a space in another unit
module _ (ft : UnitForms EntryName) (other : ft.holder ≡ CommonUnit → ⊥) (shares : Bool) (common : List (List ℕ))
    (shared : ft.shared ≡ shared_if shares common) (a : Attr EntryName) (own : TextAt) where
  same_fit : (c : Class) → is_placed c ≡ false → fit_as c (unshared ft) a ≡ fit_as c ft a
  same_fit OfTextInStr p = absurd cc
  same_fit OfTextInLineStr p = absurd cc
  same_fit OfTextBySlot p = absurd cc
  same_fit OfConstant p = go (names_file a.name) where
    by : (h : UnitRole) → as_file h (unshared ft) a ≡ as_file h ft a
    by CommonUnit = refl
    by NewUnit = refl
    by OldUnit = refl

    go : (b : Bool) → as_constant b (unshared ft) a ≡ as_constant b ft a
    go true = by ft.holder
    go false = refl
  same_fit _ p = refl

  stays : (c : Class) → class_of a.form ≡ c → is_placed c ≡ false → IsText (unshared ft) None a own → IsText ft None a own
  stays c e p told = λ way. (
      told way ∙ ap (λ (w : Class). fit_as w (unshared ft) a) e ∙ same_fit c p ∙ sym (ap (λ (w : Class). fit_as w ft a) e))

  goes : (c : Class) → class_of a.form ≡ c → is_placed c ≡ true → IsText (unshared ft) None a own
      → IsText ft None a (placed_text false shares common (meant a) own)
  goes c e p told =
      subst (λ (w : TextAt). IsText ft None a w)
      (ap (λ (w : List (List ℕ)). shared_or w (meant a) own) shared ∙ sym (placed_law shares common (meant a) own))
      (shared_law ft a own other (ap is_placed e ∙ p) told)

  by_class : (c : Class) → class_of a.form ≡ c → IsText (unshared ft) None a own
      → IsText ft None a (name_place false shares common (text_by c a) own)
  by_class OfTextInStr e told = goes OfTextInStr e refl told
  by_class OfTextInLineStr e told = goes OfTextInLineStr e refl told
  by_class OfTextBySlot e told = goes OfTextBySlot e refl told
  by_class _ e told = stays _ e refl told

  pub name_shared : IsText (unshared ft) None a own → IsText ft None a (name_place false shares common (text_said a) own)
  name_shared told = by_class (class_of a.form) refl told

pub held_own : (h : UnitRole) → (h ≡ CommonUnit → ⊥) → (s : SpaceRow) → text_held h s ≡ s.text
held_own CommonUnit other s = absurd (other refl)
held_own NewUnit other s = refl
held_own OldUnit other s = refl

-- ---- the laws

pub texts_shared : SharedTextsLaw
texts_shared beside f t sharing before k facts listed has n bytes x index h ft other shared i r d read own told =
    let from = (stands f t sharing before k facts listed has n bytes x index h i r d read).from in
    let T = texts_by (common f) (run f) in
    let shares = shares_in sharing n in
    let list = attrs f t sharing before k facts listed has n bytes x index h i r d read in
    let Before : ℕ → Attr EntryName → Type 0 = λ j a. IsText (unshared ft) None a (text_at before n j) in
    let told_from = subst (λ (m : ℕ). EachFrom Before m (texts_in list)) (first_before f t sharing before k facts listed has n bytes x index h i r d read) told in
    each_now f t sharing before k facts listed has n bytes x index h i r d read (λ j a. IsText ft None a (text_at k n j)) (λ j a e. (
    let place = text_at before n (from + j) in
    let at : text_at k n (from + j) ≡ shared_or ft.shared (meant a) place =
    text_is f t sharing before k facts listed has n bytes x index h i r d read j a e
    ∙ ap (λ (b : Bool). placed_text b shares T (meant a) place) own
    ∙ placed_law shares T (meant a) place
    ∙ ap (λ (w : List (List ℕ)). shared_or w (meant a) place) (sym shared) in
    subst (λ (w : TextAt). IsText ft None a w) (sym at)
    (shared_law ft a place other (placed_in list j a e) (each_got Before from (texts_in list) told_from j a e))))

pub names_shared : SharedNamesLaw
names_shared beside f t sharing before k facts listed has n bytes x index h ft other shared space i r d text found read is told =
    let s = space_there f t sharing before k facts listed has n bytes x index h space i r d text found read is in
    let a = name_attr (name_of text d) in
    let now = space_now f t sharing before k facts listed has n bytes x index h space i r d text found read is in
    let told_so = subst (λ (w : SpaceRow). IsText (unshared ft) None a w.text)
    (space_before f t sharing before k facts listed has n bytes x index h space i r d text found read is) told in
    let good = name_shared ft other (shares_in sharing n) (texts_by (common f) (run f)) shared a s.space.text told_so in
    subst (λ (w : TextAt). IsText ft None a w) (sym (ap (text_held ft.holder) now ∙ held_own ft.holder other _)) good
