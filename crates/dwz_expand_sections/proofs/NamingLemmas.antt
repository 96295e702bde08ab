-- Operands that values of the new file name are among those of the file's location lists.
use Rattle.std.proofs.Common.{◌≡◌, ℕ, List, [], ◌∷◌, length, map, Some, None, refl, sym, ap, subst, ◌∙◌, inl, inr}
use Rattle.dwz_model.specs.Lists.{In}
use Rattle.dwz_model.proofs.Members.{in_map_from}
use Rattle.dwz_def_encoding.specs.Meant.{led_to}
use Rattle.dwz_def_reading.specs.declared.exprs.Operand.{Operand}
use Rattle.dwz_def_reading.specs.Classes.{Class, OfListIndex, OfOffset, class_of}
use Rattle.dwz_def_reading.specs.Entries.{RawAttr, RawEntry}
use Rattle.dwz_def_reading.specs.Files.{sources_of}
use Rattle.dwz_def_reading.specs.Meanings.{Around, MeaningContext, Sources, scope_of, without_siblings}
use Rattle.dwz_def_reading.specs.NamedLists.{AnyEntryNames, AnyNames, AnyUnitNames, NamesAs, NamesList, list_of_attr, lists_of_units}
use Rattle.dwz_def_reading.specs.Places.{Place, at_file}
use Rattle.dwz_def_reading.specs.Shared.{IsSame, ListOperand as Row, NamedList, of_unit, operands_in_lists, own_operands}
use Rattle.dwz_def_reading.specs.Trees.{End, Entry, Forest}
use Rattle.dwz_def_reading.specs.Units.{RawUnit}
use Rattle.dwz_def_reading.proofs.NamedLemmas.{attr_is, units_name, units_some}
use Rattle.dwz_def_reading.proofs.PassLemmas.{none_pass, own_in}
use Rattle.dwz_def_reading.proofs.EndLemmas.{rows_end}
use Rattle.dwz_def_output.proofs.ListsWritten.{owner}
use Rattle.dwz_def_expand.specs.OneFile.{FileRead, IsStoredAmong, IsStoredIn, OneFile, ReadsOne, StoredAttr, around, part}
use Rattle.dwz_def_expand.specs.Output.{Spoken, in_list, in_lists, sites_of_file}
use Rattle.dwz_graph_resolve.specs.declared.operands.ListOperand.{ListOperand}
use Rattle.dwz_graph_resolve.specs.ListRows.{operand_view}
use Rattle.dwz_encode_sections.specs.Numbers.{EndIn}
use Rattle.dwz_encode_sections.proofs.ListLemmas.{each_end}
use Rattle.dwz_expand_sections.specs.ListLaws.{AreListed, CanHaveNumbers, IsRowOf}
use Rattle.dwz_expand_sections.proofs.StoredLemmas.{FromEntry, stored_from, values_from}

-- ---- lists that attributes name

module _ (s : MeaningContext Place) (l : NamedList) where
  any_attr : (a : RawAttr) (attrs : List RawAttr) → In a attrs → NamesList s a l → AnyNames s attrs l
  any_attr a [] there names = absurd there
  any_attr a (b ∷ attrs) (inl is) names = inl (subst (λ (x : RawAttr). NamesList s x l) (sym is) names)
  any_attr a (b ∷ attrs) (inr later) names = inr (any_attr a attrs later names)

  any_entry : (e : RawEntry) (f : Forest RawEntry) → IsStoredAmong e f → AnyNames s (without_siblings e.attrs) l → AnyEntryNames s f l
  any_entry e End there names = absurd there
  any_entry e (Entry d children next) (inl is) names = inl (subst (λ (x : RawEntry). AnyNames s (without_siblings x.attrs) l) (sym is) names)
  any_entry e (Entry d children next) (inr (inl below)) names = inr (inl (any_entry e children below names))
  any_entry e (Entry d children next) (inr (inr beside)) names = inr (inr (any_entry e next beside names))

  -- such a list is of the unit
  unit_as : (c : Class) (a : RawAttr) → NamesAs c s a l → l.unit ≡ s.unit
  unit_as OfOffset a n = n.1.unit
  unit_as OfListIndex a n = n.named.unit
  unit_as _ a n = absurd n

any_unit_names : (a : Around Place) (raw : List RawUnit) (u : RawUnit) (e : RawEntry) (l : NamedList) → In u raw → IsStoredIn e u → AnyNames (scope_of a u) (without_siblings e.attrs) l
    → AnyUnitNames a raw l
any_unit_names a [] u e l there stored names = absurd there
any_unit_names a (w ∷ raw) u e l (inl is) stored names =
    let own : IsStoredIn e w = subst (λ (x : RawUnit). IsStoredIn e x) (sym is) stored in
    let said : AnyNames (scope_of a w) (without_siblings e.attrs) l = subst (λ (x : RawUnit). AnyNames (scope_of a x) (without_siblings e.attrs) l) (sym is) names in
    inl (elim own [
      | inl root ↦ inl (subst (λ (x : RawEntry). AnyNames (scope_of a w) (without_siblings x.attrs) l) (sym root) said)
      | inr below ↦ inr (any_entry (scope_of a w) l e w.below below said)
    ])
any_unit_names a (w ∷ raw) u e l (inr later) stored names = inr (any_unit_names a raw u e l later stored names)

-- ---- of a file

target_in : (t : Place) (s r : MeaningContext Place) (n : ℕ) (o : Operand) → t ≡ at_file 0 (led_to s.unit o) → s ≡ r → n ≡ r.unit → t ≡ at_file 0 (led_to n o)
target_in t s r n o is same unit =
    is ∙ ap (λ (c : MeaningContext Place). at_file 0 (led_to c.unit o)) same ∙ ap (λ (k : ℕ). at_file 0 (led_to k o)) (sym unit)

module _ (f : OneFile) (read : ReadsOne f) (operands : List ListOperand) (are : AreListed f operands) where
  abbrev raw : List RawUnit
  raw = f.file.raw

  abbrev lists : List NamedList
  lists = lists_of_units (around f 0) raw

  row_of : (o : Spoken) (v : StoredAttr) → FromEntry (around f 0) raw v → In o.operand (in_list v) → o.target ≡ at_file 0 (led_to v.scope.unit o.operand) → IsRowOf f operands o
  row_of o v from there target =
      let s = scope_of (around f 0) from.unit in
      let named : In o.operand (map (λ (x : Row). x.operand) (operands_in_lists (list_of_attr s v.attr))) =
      subst (λ (t : MeaningContext Place). In o.operand (map (λ (x : Row). x.operand) (operands_in_lists (list_of_attr t v.attr)))) from.scope there in
      let m = in_map_from (λ (x : Row). x.operand) o.operand (operands_in_lists (list_of_attr s v.attr)) named in
      let w = owner (list_of_attr s v.attr) m.source m.there in
      let names = (attr_is s v.attr w.list).0 w.there in
      let unit : w.list.unit ≡ from.unit.at = unit_as s w.list (class_of v.attr.pair.form) v.attr names in
      let listed : In w.list lists =
      (units_name (around f 0) raw w.list).1
      (any_unit_names (around f 0) raw from.unit from.entry w.list from.there from.stored (any_attr s w.list v.attr (without_siblings from.entry.attrs) from.attr names)) in
      let own : In (of_unit w.list.unit o.operand) (operands_in_lists lists) =
      own_in w.list o.operand lists listed (subst (λ (x : Operand). In x (own_operands w.list)) m.is w.own) in
      let r = are.all (of_unit w.list.unit o.operand) own in
      let c = in_map_from (operand_view raw) r.0 operands r.1 in
      let same : IsSame (operand_view raw c.source) (of_unit w.list.unit o.operand) = subst (λ (x : Row). IsSame x (of_unit w.list.unit o.operand)) (sym c.is) r.2 in
      record {
        row = c.source;
        there = c.there;
        same = record { unit = refl; at = same.at; width = same.width; uleb = same.uleb; base = same.base };
        target = target_in o.target v.scope s (operand_view raw c.source).unit o.operand target from.scope (same.unit ∙ unit);
      }

  each_row : (o : Spoken) → In o (in_lists f) → IsRowOf f operands o
  each_row o there =
      let h = values_from f in_list 0 (sites_of_file f) o there in
      let from : FromEntry (around f 0) raw h.value =
      subst (λ (n : ℕ). FromEntry (around f n) (part f n).raw h.value) h.in_file (stored_from f h.place h.index h.value h.stored) in
      row_of o h.value from h.there (h.target ∙ ap (λ (n : ℕ). at_file n (led_to h.value.scope.unit o.operand)) h.in_file)

own_sources : (file : FileRead) (common : _) → (around (record { file = file; common = common }) 0).sources ≡ sources_of file.bytes
own_sources file None = refl
own_sources file (Some c) = refl

pub can_have_numbers : (f : OneFile) → ReadsOne f → (operands : List ListOperand) → AreListed f operands → CanHaveNumbers f operands
can_have_numbers f read operands are =
    let raw = f.file.raw in
    let lists = lists_of_units (around f 0) raw in
    let rows = map (operand_view raw) operands in
    record {
      within =
          subst (λ (s : Sources). EndIn (length s.lists) operands) (own_sources f.file f.common)
          (each_end raw (length (around f 0).sources.lists) operands (rows_end (around f 0) raw rows are));
      apart = (none_pass lists rows are (λ l there. units_some (around f 0) raw l ((units_name (around f 0) raw l).0 there)) read.file.lists).apart;
      each = each_row f read operands are;
    }
