-- A unit stays where its rows do, and a file's units do one after the other.
use Rattle.std.proofs.Common.{◌≡◌, ◌↔◌, ℕ, suc, ◌+◌, ◌<◌, ◌≤◌, Bool, true, false, List, [], ◌∷◌, ◌++◌, drop, length, Option, Some, None, Ok, slice_get, refl, sym, ap, subst, ◌∙◌, arith}
use Rattle.std.specs.List.{list_all}
use Rattle.std.specs.Option.{option_map_or}
use Rattle.std.proofs.lemmas.Bool.{false≢true}
use Rattle.std.proofs.lemmas.List.{drop_all, drop_at}
use Rattle.dwz_def_reading.specs.Entries.{RawAttr, RawEntry, root_position}
use Rattle.dwz_def_reading.specs.Lists.{Each, In}
use Rattle.dwz_def_reading.specs.Trees.{End, Entry}
use Rattle.dwz_def_reading.specs.Units.{RawUnit, entry_count}
use Rattle.dwz_def_reading.proofs.ListFacts.{drop_here, got_there, in_map}
use Rattle.dwz_graph.specs.Rows.{RowsMean, nodes}
use Rattle.dwz_graph.proofs.TreeLemmas.{tree_means}
use Rattle.dwz_def_reading.specs.Documents.{DwUnit, Node}
use Rattle.dwz_def_reading.specs.LineTables.{FileTable, IsFileTable}
use Rattle.dwz_def_reading.specs.Meanings.{Around, MeanUnits, MeaningContext, base_in, first_raw, scope_of, stmt_list, str_offsets_base, text_sections_of}
use Rattle.dwz_def_reading.specs.Meant.{unit_meaning, units_meaning}
use Rattle.dwz_def_reading.proofs.AgreeLemmas.{same_meaning}
use Rattle.dwz_def_reading.proofs.LineTableLemmas.{file_table_agrees}
use Rattle.dwz_def_reading.proofs.MeaningUnits.{units_agree}
use Rattle.dwz_def_reading.proofs.UnitMeans.{root_is, unit_meant}
use Rattle.dwz_graph_pruning.specs.declared.values.Known.{Known}
use Rattle.dwz_graph_pruning.specs.Stays.{line_strp, row_stays}
use Rattle.dwz_graph_pruning.proofs.RowLemmas.{Stays, ToldRow, rows_stay, tree_from, tree_to}
use Rattle.dwz_graph_pruning.proofs.ValueLemmas.{Tells}
use Rattle.dwz_graph.specs.FileRows.{HasTable}
use Rattle.dwz_graph.specs.Named.{entries_of}
use Rattle.dwz_graph.specs.Parts.{HasLine, numbers_file}
use Rattle.dwz_graph.specs.Resolved.{IsUnitHere}
use Rattle.dwz_graph.specs.Here.{Here}
use Rattle.dwz_graph.proofs.UnitThere.{in_entries, same_unit}
use Rattle.dwz_unit.proofs.UnitThere.{UnitThere, unit_there}
use Rattle.dwz_def_tops.proofs.Members.{each_of}
use Rattle.dwz_unit.specs.declared.rows.RawUnit.{RawUnit as UnitOfCode}
use Rattle.dwz_unit.specs.Rows.{EntryRow, rows_in, rows_of, shown_units}
use Rattle.dwz_unit.proofs.ShownLemmas.{rows_in-length}
use Rattle.dwz_def_encoding.specs.Bases.{Bases, bases_of}
use Rattle.dwz_def_encoding.specs.Fitting.{EachAttr}
use Rattle.dwz_def_encoding.specs.Pruned.{AttrStays, UnitStays}
use Rattle.dwz_def_encoding.proofs.ScopeIs.{own_bases}

-- ---- its line table

told_at : (s : MeaningContext ℕ) (tables : List FileTable) (place number : ℕ) (strp numbers : Bool) → stmt_list s ≡ Some place → HasTable s.around.sources tables place number
    → strp ≡ line_strp tables (Some number) → Tells s strp numbers
told_at s tables place number strp numbers at has is =
    let texts = text_sections_of s.around.sources in
    let table : IsFileTable texts s.around.sources.line place has.table = ((file_table_agrees texts s.around.sources.line place).ok has.table).0 has.read in
    let flag : strp ≡ has.table.has_strp = is ∙ ap (λ (o : Option FileTable). option_map_or (λ (t : FileTable). t.has_strp) o false) has.there in
    λ numbered. (
      λ none p here t stands. (
          let same : place ≡ p = (let both : Some place ≡ Some p = sym at ∙ here in cc) in
          let one : has.table ≡ t = same_meaning (file_table_agrees texts s.around.sources.line p) has.table t (subst (λ (q : ℕ). IsFileTable texts s.around.sources.line q has.table) same table)
          stands in
          ap (λ (w : FileTable). w.has_strp) (sym one) ∙ sym flag ∙ none),
      λ none. flag ∙ none place at has.table table,
    )

told_none : (s : MeaningContext ℕ) (strp numbers : Bool) → (numbers ≡ true → stmt_list s ≡ None) → strp ≡ false → Tells s strp numbers
told_none s strp numbers none is = λ numbered. (λ e p here. absurd (let both : None ≡ Some p = sym (none numbered) ∙ here in cc), λ h. is)

told_by : (around : Around ℕ) (u : RawUnit) (tables : List FileTable) (line : Option ℕ) (strp : Bool) → HasLine around u tables line → strp ≡ line_strp tables line
    → (e : RawEntry) (a : RawAttr) → In e (entries_of u) → In a e.attrs → Tells (scope_of around u) strp (numbers_file a)
told_by around u tables None strp none is e a inside own = told_none (scope_of around u) strp (numbers_file a) (none e a inside own) is
told_by around u tables (Some number) strp has is e a inside own = told_at (scope_of around u) tables has.0 number strp (numbers_file a) has.1 has.2 is

-- ---- a unit, by its rows

module _ (around : Around ℕ) (raw : List RawUnit) (n : ℕ) (x : UnitOfCode) (u : RawUnit) (v : DwUnit ℕ) (h : Here) (is_unit : slice_get raw n ≡ Some u)
    (means : unit_meaning around u ≡ Ok v) (shown : slice_get (shown_units raw) n ≡ Some x) (here : IsUnitHere raw n x h) where
  abbrev s : MeaningContext ℕ
  s = scope_of around u

  abbrev place : UnitThere (rows_of raw) raw 0 n x
  place = unit_there raw n x shown

  abbrev rows : List EntryRow
  rows = rows_in u place.unit x.first

  abbrev ds : List (Node ℕ)
  ds = nodes (Entry v.root v.below End)

  own : here.u ≡ u
  own = same_unit raw n here.u u here.is_unit is_unit

  found : drop h.first (rows_of raw) ≡ rows ++ place.after
  found =
      let many : length place.before ≡ x.first = (let m = place.many in omega arith) in
      let same : place.u ≡ u = same_unit raw n place.u u place.is_unit is_unit in
      ap (λ (k : ℕ). drop k (rows_of raw)) here.first
      ∙ ap (drop x.first) (place.rows ∙ ap (λ (w : RawUnit). place.before ++ (rows_in w place.unit x.first ++ place.after)) same)
      ∙ drop_at place.before (rows ++ place.after) x.first many

  count : h.first + length rows ≡ h.end
  count =
      let many = rows_in-length u place.unit x.first in
      let first = here.first in
      let end : h.end ≡ x.first + entry_count u = here.end ∙ ap (λ (w : RawUnit). x.first + entry_count w) own in
      omega arith

  mean : RowsMean s rows ds
  mean = tree_means s (Entry u.root u.below End) (Entry v.root v.below End) place.unit (root_position x.first) (root_is around u v means)

  module _ (tables : List FileTable) (line : Option ℕ) (has : HasLine around u tables line) (slots : List ℕ) (k : Known) (based : k.base ≡ h.offsets) (flag : k.strp ≡ line_strp tables line) where
    base : k.base ≡ str_offsets_base s
    base = based ∙ here.here.base ∙ ap (λ (w : RawUnit). base_in (first_raw 0x72 w.root.attrs)) own

    told : Each (ToldRow s slots k base) rows
    told =
        each_of (ToldRow s slots k base) rows (λ row inside.
        each_of (λ a. Tells s k.strp (numbers_file a)) row.entry.attrs
        (λ a own. told_by around u tables line k.strp has flag row.entry a
        (subst (λ (w : List RawEntry). In row.entry w) (in_entries u place.unit x.first) (in_map (λ (r : EntryRow). r.entry) row rows inside)) own))

    pub unit_stays_iff : (result : Bool) → ((some after : List EntryRow) → drop h.first (rows_of raw) ≡ some ++ after → h.first + length some ≡ h.end → result ≡ list_all (row_stays slots k) some)
        → (result ≡ true) ↔ UnitStays (text_sections_of around.sources) around.sources.line slots v
    unit_stays_iff result is =
        let all = is rows place.after found count in
        let r = rows_stay s slots k base rows ds told mean in
        let P = Stays s slots k base in
        let same = own_bases around u v means in
        let At : Bases → Type 0 = λ b. Each (AttrStays (text_sections_of around.sources) around.sources.line slots b) v.root.attrs
        × EachAttr (AttrStays (text_sections_of around.sources) around.sources.line slots b)
        v.below in (
          λ e. (let t = tree_from P (Entry v.root v.below End) (r.0 (sym all ∙ e)) in subst At same (t.0, t.1)),
          λ h. (let t : At (bases_of s) = subst At (sym same) h in all ∙ r.1 (tree_to P (Entry v.root v.below End) (t.0, t.1, tt))),
        )

-- ---- units, one after the other

as_long : (around : Around ℕ) (us : List RawUnit) (vs : List (DwUnit ℕ)) → MeanUnits around us vs → length vs ≡ length us
as_long around [] [] m = refl
as_long around [] (v ∷ vs) m = absurd m
as_long around (u ∷ us) [] m = absurd m
as_long around (u ∷ us) (v ∷ vs) m = ap suc (as_long around us vs m.1)

module _ (P : DwUnit ℕ → Type 0) (around : Around ℕ) (raw : List RawUnit) (said : List (DwUnit ℕ)) (means : units_meaning around raw ≡ Ok said) where
  -- it holds of all where it holds of those from that number on
  abbrev pub Left : ℕ → Type 0
  Left n = Each P said ↔ Each P (drop n said)

  are : MeanUnits around raw said
  are = ((units_agree around raw).ok said).0 means

  pub left_all : Left 0
  left_all = (λ h. h, λ h. h)

  module _ (n : ℕ) (lt : n < length raw) (left : Left n) (test : Bool) (is : (u : RawUnit) (v : DwUnit ℕ) → slice_get raw n ≡ Some u → unit_meaning around u ≡ Ok v → (test ≡ true) ↔ P v) where
    abbrev here : (u : RawUnit) × (slice_get raw n ≡ Some u)
    here = got_there raw n lt

    abbrev meant : (v : DwUnit ℕ) × (unit_meaning around here.0 ≡ Ok v) × (slice_get said n ≡ Some v)
    meant = unit_meant around raw said are n here.0 here.1

    split : drop n said ≡ meant.0 ∷ drop (n + 1) said
    split = drop_here said n meant.0 meant.2

    pub left_more : test ≡ true → Left (n + 1)
    left_more passes = (
      λ h. (let r : Each P (meant.0 ∷ drop (n + 1) said) = subst (λ (w : List (DwUnit ℕ)). Each P w) split (left.0 h) in r.1),
      λ h. left.1 (subst (λ (w : List (DwUnit ℕ)). Each P w) (sym split) ((is here.0 meant.0 here.1 meant.1).0 passes, h)),
    )

    pub left_fails : test ≡ false → (false ≡ true) ↔ Each P said
    left_fails fails = (
      λ e. absurd (false≢true e),
      λ h. (let r : Each P (meant.0 ∷ drop (n + 1) said) = subst (λ (w : List (DwUnit ℕ)). Each P w) split (left.0 h) in sym fails ∙ (is here.0 meant.0 here.1 meant.1).1 r.0),
    )

  pub left_none : (n : ℕ) → length raw ≤ n → Left n → (true ≡ true) ↔ Each P said
  left_none n le left =
      let long = as_long around raw said are in
      let none : drop n said ≡ [] = drop_all n said (omega (arith, le, long)) in
      (λ e. left.1 (subst (λ (w : List (DwUnit ℕ)). Each P w) (sym none) tt), λ h. refl)
