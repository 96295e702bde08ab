-- An entry of a file or of its common one is ready, fits, and answers.
use Rattle.std.proofs.Common.{◌≡◌, ℕ, ◌+◌, ◌<◌, ◌≤◌, Bool, true, false, List, [], ◌∷◌, map, Some, None, Result, Ok, Err, slice_get, refl, sym, ap, subst, ◌∙◌, arith}
use Rattle.dwz_model.specs.Lists.{Each}
use Rattle.dwz_model.proofs.ListFacts.{got_index_or, got_map}
use Rattle.dwz_model.specs.declared.fault.ReadErr.{ReadErr}
use Rattle.dwz_model.specs.declared.fault.ReadErr.TheVariants.{NoMemory, Refused}
use Rattle.dwz_def_reading.specs.Documents.{Attr, DwUnit, Node, attr_map, unit_map}
use Rattle.dwz_def_reading.specs.Meanings.{Around, MeaningContext, scope_of, targets, without_siblings}
use Rattle.dwz_def_reading.specs.Meant.{node_meaning}
use Rattle.dwz_def_reading.specs.Units.{RawUnit, entries_in}
use Rattle.dwz_def_encoding.specs.Placing.{CommonUnit, NewUnit}
use Rattle.dwz_def_cross.specs.Tops.{WithCommon}
use Rattle.dwz_def_expand.specs.Refusals.{Where}
use Rattle.dwz_def_expand.specs.Source.{Copy, copy_for, source_places}
use Rattle.dwz_def_output.specs.Refusals.{operands_of_attrs}
use Rattle.dwz_expand_sources.specs.Imports.{same as same_place}
use Rattle.std.specs.Prelude.{OnOk}
use Rattle.std.proofs.lemmas.Result.{on_ok_weaker}
use Rattle.dwz_graph.specs.Places.{place_at, places}
use Rattle.dwz_graph.specs.Surroundings.{behind_own}
use Rattle.dwz_unit.specs.Rows.{EntryRow, rows_of}
use Rattle.dwz_expand_sources.specs.Index.{ListedEntry, listed_units}
use Rattle.dwz_check_labels.proofs.EntryLemmas.{here_of, row_of}
use Rattle.dwz_encode.specs.Shown.{Keys, held_of}
use Rattle.dwz_expand_layout.specs.declared.entries.NewAttr.{NewAttr}
use Rattle.dwz_expand_layout.specs.declared.entries.NewOperand.{NewOperand}
use Rattle.dwz_expand_passes.specs.declared.files.Known.{Known}
use Rattle.dwz_expand_passes.specs.declared.files.SourceEntry.{SourceEntry}
use Rattle.dwz_expand_passes.specs.declared.files.SourceFile.{SourceFile}
use Rattle.dwz_expand_passes.specs.Attributes.{AnswersAll, IsEntryOf, RefsReady, SpeaksAttrs}
use Rattle.dwz_expand_passes.specs.Copied.{copied_attr}
use Rattle.dwz_expand_passes.specs.Files.{AnswersEntry, IsFileReady, IsKnownReady, IsSource, KnowsFile, Knows, SpeaksAs, StandSo, around_at, around_beside, entry_count, forms_of, raw_in}
use Rattle.dwz_expand_passes.specs.Known.{Fits, IsReady, Setting, StandsAt, copied, place_named, scope}
use Rattle.dwz_expand_passes.proofs.FitLemmas.{all_found, common_entry, common_role, common_source, own_role, own_slots, stands_second}
use Rattle.dwz_expand_passes.proofs.OperandLemmas.{map_twice}
use Rattle.dwz_expand_passes.proofs.PlacesSaid.{place_said}

-- ---- ready

abbrev pub source_of : (k : Known) (f : SourceFile) (first : ℕ) (x : SourceEntry) → SourceEntry
source_of k f first x = record { known = k; file = f; first = first; role = x.role; here = x.here; line = x.line }

pub same_source : (k : Known) (f : SourceFile) (first i : ℕ) (is_common : Bool) (x : SourceEntry) → IsSource k f first is_common i x → source_of k f first x ≡ x
same_source k f first i is_common x is = λ j. record { known = sym is.known j; file = sym is.file j; first = sym is.first_is j; role = x.role; here = x.here; line = x.line }

pub is_ready : (k : Known) (f : SourceFile) (first i : ℕ) (is_common : Bool) (x : SourceEntry) → IsKnownReady k → IsSource k f first is_common i x → first + entries_in (raw_in f) ≤ entry_count k
    → IsReady x
is_ready k f first i is_common x ready is within =
    subst IsReady (same_source k f first i is_common x is)
    (record { here = is.here.within; copies = ready.copies; few = (let m = ready.many in let l = ready.few in omega (arith, m, l)); own = (let m = ready.many in omega (arith, m, within)) })

each_less : (first a b : ℕ) (refs : List ℕ) → first + a ≤ b → Each (λ j. j < a) refs → Each (λ j. first + j < b) refs
each_less first a b [] le all = tt
each_less first a b (j ∷ refs) le all = ((let lt = all.0 in omega (arith, lt, le)), each_less first a b refs le all.1)

pub refs_ready : (k : Known) (f : SourceFile) (first i count : ℕ) (is_common : Bool) (x : SourceEntry) → IsKnownReady k → IsFileReady f → IsSource k f first is_common i x
    → first + count ≤ entry_count k
    → Each (λ j. j < count) f.refs.now → RefsReady x
refs_ready k f first i count is_common x ready file is within all =
    subst RefsReady (same_source k f first i is_common x is)
    (record { refs = each_less first count _ f.refs.now (let m = ready.many in omega (arith, m, within)) all; starts = file.starts })

-- ---- places

pub row_place : (raw : List RawUnit) (i : ℕ) (row : EntryRow) → slice_get (rows_of raw) i ≡ Some row → place_at raw i ≡ row.entry.at
row_place raw i row found = got_index_or (places raw) i row.entry.at 0 (got_map (λ (r : EntryRow). r.entry.at) (rows_of raw) i row found)

same_row : (raw : List RawUnit) (i : ℕ) (a b : EntryRow) → slice_get (rows_of raw) i ≡ Some a → slice_get (rows_of raw) i ≡ Some b → a ≡ b
same_row raw i a b e f = (let both : Some a ≡ Some b = sym e ∙ f in cc)

-- ---- answers

abbrev pub setting : Known → WithCommon ℕ → Keys (Copy ℕ) → Where ℕ → (source : ℕ) → Around ℕ → RawUnit → (ℕ → ℕ) → Setting
setting k w keys stands source around raw place = record {
  w = w;
  choice = forms_of k w;
  keys = keys;
  stands = stands;
  unit = k.unit;
  source = source;
  around = around;
  raw = raw;
  place = place;
}

-- it fits, and the entry with a number is the one of the setting
record IsKept (k : Known) (w : WithCommon ℕ) (keys : Keys (Copy ℕ)) (stands : Where ℕ) (around : Around ℕ) (place : ℕ → ℕ) (raw : List RawUnit) (i : ℕ) (x : SourceEntry)
    (row : EntryRow) (e : Node ℕ) : Type 0 where
  u : RawUnit
  at_unit : slice_get raw row.unit ≡ Some u
  fits : Fits x (setting k w keys stands (place row.entry.at) around u place)
  entry : IsEntryOf x (setting k w keys stands (place row.entry.at) around u place) i row e

speaks_as : (f : SourceFile) (around : Around ℕ) (place : ℕ → ℕ) (i : ℕ) (row : EntryRow) (u : RawUnit) (q : Setting) → slice_get (rows_of (raw_in f)) i ≡ Some row
    → slice_get (raw_in f) row.unit ≡ Some u → scope_of around u ≡ scope q → place ≡ q.place → (operands : List NewOperand) → SpeaksAttrs q row.entry.attrs [] operands
    → SpeaksAs f around place (copied q) q.keys i operands
speaks_as f around place i row u q found is_unit scopes places operands h = record {
  row = row;
  found = found;
  u = u;
  is_unit = is_unit;
  are = ap (map (λ (o : NewOperand). o.operand)) h.grown ∙ h.operands ∙ sym (ap (λ (s : MeaningContext ℕ). operands_of_attrs s (without_siblings row.entry.attrs)) scopes);
  lead = ap (map (λ (o : NewOperand). q.keys.row o.copy)) h.grown ∙ h.keys
      ∙ sym (λ j. map (copied q) (map (places j) (targets (scopes j) (operands_of_attrs (scopes j) (without_siblings row.entry.attrs)))));
}

pub entry_answer : {Y : Type 0} (k : Known) (w : WithCommon ℕ) (keys : Keys (Copy ℕ)) (stands : Where ℕ) (source : ℕ) (around : Around ℕ) (raw : RawUnit) (place : ℕ
    → ℕ) (e : Node ℕ) (all : List (Attr ℕ))
    (attrs : List NewAttr) (operands : List NewOperand) (r : Result Y ReadErr) → e.at ≡ source → e.attrs ≡ map (attr_map place) all
    → AnswersAll (setting k w keys stands source around raw place) all attrs operands r → AnswersEntry k w keys stands e attrs operands r
entry_answer {Y} k w keys stands source around raw place e all attrs operands r at are h =
    subst (λ (d : Node ℕ). AnswersEntry k w keys stands d attrs operands r) (λ i. record { at = sym at i; tag = e.tag; attrs = sym are i }) (by r h) where
      q : Setting
      q = setting k w keys stands source around raw place

      by : (r : Result Y ReadErr) → AnswersAll (setting k w keys stands source around raw place) all attrs operands r
          → AnswersEntry k w keys stands (record { at = source; tag = e.tag; attrs = map (attr_map place) all }) attrs operands r
      by (Ok y) a = (a.0 ∙ map_twice (λ (b : Attr ℕ). held_of (copied_attr (setting k w keys stands source around raw place) b)) (attr_map place) all, a.1)
      by (Err NoMemory) a = tt
      by (Err (Refused f)) a = a

-- ---- an entry of the file

no_places : (attrs : List (Attr ℕ)) → attrs ≡ map (attr_map (λ n. n)) attrs
no_places [] = refl
no_places (a ∷ attrs) = λ i. (record { name = a.name; form = a.form; raw = a.raw; value = record { plain = a.value.plain; refs = map_none a.value.refs i; address = a.value.address } }) ∷ no_places
    attrs i where
      map_none : (xs : List ℕ) → xs ≡ map (λ n. n) xs
      map_none [] = refl
      map_none (x ∷ xs) = λ i. x ∷ map_none xs i

module _ (k : Known) (w : WithCommon ℕ) (keys : Keys (Copy ℕ)) (stands : Where ℕ) (know : Knows k w keys stands) where
  own_kept : (i : ℕ) (x : SourceEntry) (d : ListedEntry ℕ) → (is : IsSource k k.own 0 false i x) → slice_get (listed_units w.own) i ≡ Some d
      → IsKept k w keys stands (around_at k) (λ n. n) (raw_in k.own) i x is.row d.0
  own_kept i x d is found =
      let raw = raw_in k.own in
      let o = row_of (around_at k) raw w.own i d know.own.means found in
      let row_is = same_row raw i o.row is.row o.found is.found in
      let at_unit : slice_get raw is.row.unit ≡ Some o.u = ap (λ (z : EntryRow). slice_get raw z.unit) (sym row_is) ∙ o.is_unit in
      let q = setting k w keys stands is.row.entry.at (around_at k) o.u (λ n. n) in
      let same = same_source k k.own 0 i false x is in
      let here = here_of raw is.row.unit x.here.now o.u is.here at_unit in
      let role = is.role o.u at_unit in
      let fits : Fits (source_of k k.own 0 x) q =
      record {
        sources = refl;
        all = refl;
        own_place = refl;
        texts = know.own.texts;
        here = here;
        copies = know.copies;
        unit = know.unit;
        unit_is = refl;
        keys = know.keys_are;
        found = λ j low. (let e : j ≡ 0 + j = omega arith in subst (λ (n : ℕ). StandsAt w n (place_named q (raw_in k.own) j)) e (all_found k w keys stands know j low));
        role = own_role k w keys stands know i is.row o.u is.found at_unit ∙ sym role;
        slots = λ new. own_slots k w keys stands know i is.row o.u x.here.now is.found at_unit here;
        offsets = λ new. refl;
        paths = know.paths;
      } in
      let entry : IsEntryOf (source_of k k.own 0 x) q i is.row d.0 =
      record {
        found = is.found;
        is_unit = at_unit;
        means = subst (λ (z : EntryRow). node_meaning (scope_of (around_at k) o.u) z.entry ≡ Ok d.0) row_is o.means;
        at = λ index a there. (let s = know.own_stands i is.row o.u is.found at_unit index a there in record { value = s.0; named = s.1 });
        parts = know.own.parts;
        among = know.own.among;
        line = know.own.lines.line is.row.unit o.u x.line at_unit is.line;
      } in
      record {
        u = o.u;
        at_unit = at_unit;
        fits = subst (λ (z : SourceEntry). Fits z q) same fits;
        entry = subst (λ (z : SourceEntry). IsEntryOf z q i is.row d.0) same entry;
      }

  pub own_answer : {Y : Type 0} (i : ℕ) (x : SourceEntry) (d : ListedEntry ℕ) (attrs : List NewAttr) (operands : List NewOperand) (r : Result Y ReadErr) → IsSource k k.own 0 false i x
      → slice_get (listed_units w.own) i ≡ Some d
      → ((q : Setting) (row : EntryRow) (e : Node ℕ) → Fits x q → IsEntryOf x q i row e → AnswersAll q e.attrs attrs operands r) → AnswersEntry k w keys stands d.0 attrs operands r
  own_answer i x d attrs operands r is found answers =
      let t = own_kept i x d is found in
      entry_answer k w keys stands is.row.entry.at (around_at k) t.u (λ n. n) d.0 d.0.attrs attrs operands r
      (place_said (around_at k) (raw_in k.own) w.own know.own.means i d found ∙ row_place (raw_in k.own) i is.row is.found) (no_places d.0.attrs)
      (answers (setting k w keys stands is.row.entry.at (around_at k) t.u (λ n. n)) is.row d.0 t.fits t.entry)

  pub own_speaks : {Y : Type 0} (i : ℕ) (x : SourceEntry) (d : ListedEntry ℕ) (operands : List NewOperand) (r : Result Y ReadErr) → IsSource k k.own 0 false i x
      → slice_get (listed_units w.own) i ≡ Some d
      → ((q : Setting) (row : EntryRow) (e : Node ℕ) → Fits x q → IsEntryOf x q i row e → OnOk r (SpeaksAttrs q row.entry.attrs [] operands))
      → OnOk r (SpeaksAs k.own (around_at k) (λ n. n) (copy_for same_place (source_places same_place w) k.unit) keys i operands)
  own_speaks i x d operands r is found answers =
      let t = own_kept i x d is found in
      let q = setting k w keys stands is.row.entry.at (around_at k) t.u (λ n. n) in
      on_ok_weaker r (speaks_as k.own (around_at k) (λ n. n) i is.row t.u q is.found t.at_unit refl refl operands)
      (answers q is.row d.0 t.fits t.entry)

  -- ---- one of the common file

  common_kept : (c : SourceFile) (said : List (DwUnit ℕ)) → KnowsFile c (around_beside c None) said → (are : w.common ≡ map (unit_map behind_own) said)
      → StandSo c (around_beside c None) behind_own stands
      → (i : ℕ) (x : SourceEntry) (d : ListedEntry ℕ) → (is : IsSource k c (entries_in (raw_in k.own)) true i x) → (found : slice_get (listed_units w.common) i ≡ Some d)
      → IsKept k w keys stands (around_beside c None) behind_own (raw_in c) i x is.row (common_source said w.common are i d found).0.0
  common_kept c said kc are so i x d is found =
      let raw = raw_in c in
      let around = around_beside c None in
      let first = entries_in (raw_in k.own) in
      let src = common_source said w.common are i d found in
      let o = row_of around raw said i src.0 kc.means src.1 in
      let row_is = same_row raw i o.row is.row o.found is.found in
      let at_unit : slice_get raw is.row.unit ≡ Some o.u = ap (λ (z : EntryRow). slice_get raw z.unit) (sym row_is) ∙ o.is_unit in
      let q = setting k w keys stands (behind_own is.row.entry.at) around o.u behind_own in
      let same = same_source k c first i true x is in
      let role = is.role o.u at_unit in
      let fits : Fits (source_of k c first x) q =
      record {
        sources = refl;
        all = refl;
        own_place = refl;
        texts = kc.texts;
        here = here_of raw is.row.unit x.here.now o.u is.here at_unit;
        copies = know.copies;
        unit = know.unit;
        unit_is = refl;
        keys = know.keys_are;
        found = λ j low. (let e = common_entry raw around said w.common kc.means refl are j low in
            stands_second w.own w.common (raw_in k.own) (around_at k) know.own.means j (behind_own (place_at raw j)) e.0 e.1 e.2);
        role = common_role k w keys stands know c said kc are i is.row o.u is.found at_unit ∙ sym role;
        slots = λ new. absurd (let z : CommonUnit ≡ NewUnit = sym role ∙ new in cc);
        offsets = λ new. absurd (let z : CommonUnit ≡ NewUnit = sym role ∙ new in cc);
        paths = know.paths;
      } in
      let entry : IsEntryOf (source_of k c first x) q i is.row src.0.0 =
      record {
        found = is.found;
        is_unit = at_unit;
        means = subst (λ (z : EntryRow). node_meaning (scope_of around o.u) z.entry ≡ Ok src.0.0) row_is o.means;
        at = λ index a there. (let s = so i is.row o.u is.found at_unit index a there in record { value = s.0; named = s.1 });
        parts = kc.parts;
        among = kc.among;
        line = kc.lines.line is.row.unit o.u x.line at_unit is.line;
      } in
      record {
        u = o.u;
        at_unit = at_unit;
        fits = subst (λ (z : SourceEntry). Fits z q) same fits;
        entry = subst (λ (z : SourceEntry). IsEntryOf z q i is.row src.0.0) same entry;
      }

  pub common_answer : {Y : Type 0} (c : SourceFile) (said : List (DwUnit ℕ)) → KnowsFile c (around_beside c None) said → w.common ≡ map (unit_map behind_own) said
      → StandSo c (around_beside c None) behind_own stands
      → (i : ℕ) (x : SourceEntry) (d : ListedEntry ℕ) (attrs : List NewAttr) (operands : List NewOperand) (r : Result Y ReadErr) → IsSource k c (entries_in (raw_in k.own)) true i x
      → slice_get (listed_units w.common) i ≡ Some d
      → ((q : Setting) (row : EntryRow) (e : Node ℕ) → Fits x q → IsEntryOf x q i row e → AnswersAll q e.attrs attrs operands r) → AnswersEntry k w keys stands d.0 attrs operands r
  common_answer c said kc are so i x d attrs operands r is found answers =
      let src = common_source said w.common are i d found in
      let t = common_kept c said kc are so i x d is found in
      entry_answer k w keys stands (behind_own is.row.entry.at) (around_beside c None) t.u behind_own d.0 src.0.0.attrs attrs operands r
      (ap (λ (e : Node ℕ). e.at) src.2 ∙ ap behind_own (place_said (around_beside c None) (raw_in c) said kc.means i src.0 src.1 ∙ row_place (raw_in c) i is.row is.found))
      (ap (λ (e : Node ℕ). e.attrs) src.2)
      (answers (setting k w keys stands (behind_own is.row.entry.at) (around_beside c None) t.u behind_own) is.row src.0.0 t.fits t.entry)

  pub common_speaks : {Y : Type 0} (c : SourceFile) (said : List (DwUnit ℕ)) → KnowsFile c (around_beside c None) said → w.common ≡ map (unit_map behind_own) said
      → StandSo c (around_beside c None) behind_own stands
      → (i : ℕ) (x : SourceEntry) (d : ListedEntry ℕ) (operands : List NewOperand) (r : Result Y ReadErr) → IsSource k c (entries_in (raw_in k.own)) true i x
      → slice_get (listed_units w.common) i ≡ Some d
      → ((q : Setting) (row : EntryRow) (e : Node ℕ) → Fits x q → IsEntryOf x q i row e → OnOk r (SpeaksAttrs q row.entry.attrs [] operands))
      → OnOk r (SpeaksAs c (around_beside c None) behind_own (copy_for same_place (source_places same_place w) k.unit) keys i operands)
  common_speaks c said kc are so i x d operands r is found answers =
      let t = common_kept c said kc are so i x d is found in
      let q = setting k w keys stands (behind_own is.row.entry.at) (around_beside c None) t.u behind_own in
      on_ok_weaker r (speaks_as c (around_beside c None) behind_own i is.row t.u q is.found t.at_unit refl refl operands)
      (answers q is.row (common_source said w.common are i d found).0.0 t.fits t.entry)
