-- Which tops of a common file operands name, as looks go over them: those that operands of the common file name.
use Rattle.std.proofs.Common.{◌≡◌, ◌↔◌, ℕ, ◌<◌, ◌≤◌, ◌||◌, Bool, true, false, List, [], ◌∷◌, ◌++◌, length, map, Option, Some, None, refl, sym, ap, subst, ◌∙◌, inl, inr, ⊎_elim}
use Rattle.std.specs.List.{list_any}
use Rattle.std.proofs.lemmas.List.Folds.{list_any-append}
use Rattle.dwz_model.proofs.ListFacts.{in_map}
use Rattle.dwz_model.proofs.Members.{in_map_from}
use Rattle.dwz_def_check.proofs.ReadRefs.{means_keys}
use Rattle.dwz_def_reading.proofs.CaseFacts.{or_left, or_right}
use Rattle.dwz_def_reading.proofs.MeaningUnits.{units_agree}
use Rattle.dwz_def_reading.proofs.PlacesRise.{all_raw_keys}
use Rattle.dwz_def_reading.specs.Documents.{Attr, Doc, DwUnit, Entries, Node, attr_map}
use Rattle.dwz_def_reading.specs.Lists.{In}
use Rattle.dwz_def_reading.specs.Meanings.{MeanUnits, places_of}
use Rattle.dwz_def_reading.specs.Shared.{OneOf}
use Rattle.dwz_def_reading.specs.Trees.{End, Entry}
use Rattle.dwz_def_reading.specs.Units.{RawUnit, entries_in}
use Rattle.dwz_check_labels.specs.FilesSaid.{around_given}
use Rattle.dwz_def_taken.specs.Beside.{all_attrs, all_below, as_compile, as_one, look_units, mute_attr, muted, own_tops, reused_of, then_entries}
use Rattle.dwz_def_tops.specs.Alike.{any_attr, any_entry, is_in, is_named, names_in_unit, operand_names}
use Rattle.dwz_def_tops.specs.Lists.{NoneTwice}
use Rattle.dwz_def_tops.specs.Spots.{EntryName, FileUnit}
use Rattle.dwz_graph.specs.ListOperand.{ListOperand}
use Rattle.dwz_graph.specs.Names.{top_in}
use Rattle.dwz_graph.specs.Resolved.{AreEntries, place_at}
use Rattle.dwz_graph.specs.declared.file.File.{File}
use Rattle.dwz_graph.proofs.PlaceLemmas.{unit_and_entries}
use Rattle.dwz_match.proofs.CommonTops.{commons_are, spot_of}
use Rattle.dwz_reuse.specs.Read.{IsCommonRead}
use Rattle.dwz_reuse.proofs.CommonPlaced.{compile_keys}
use Rattle.dwz_move.specs.Known.{tops_of_refs}
use Rattle.dwz_move.specs.Marked.{expression_names}
use Rattle.dwz_move.proofs.NameMarks.{is_top}
use Rattle.dwz_move_files.specs.Lists.{entries_of}
use Rattle.dwz_move_files.proofs.RowNames.{any_row}
use Rattle.dwz_move_files.proofs.UnitAttrs.{any_filed, any_named, entries_attrs, named_attrs, names_either, unit_attrs, units_attrs}
use Rattle.dwz_unit.specs.Rows.{units_of as raw_units}
use Rattle.dwz_reuse.specs.Naming.{Names}
use Rattle.dwz_reuse.specs.Operands.{HasOperandRows}
use Rattle.dwz_reuse.proofs.OwnNames.{own_not}

-- ---- of units without languages

attrs_muted : (n : ℕ) (attrs : List (Attr EntryName)) → list_any (operand_names n) (map mute_attr attrs) ≡ list_any (operand_names n) attrs
attrs_muted n [] = refl
attrs_muted n (a ∷ attrs) = ap (λ (b : Bool). operand_names n a || b) (attrs_muted n attrs)

unit_muted : (n : ℕ) (f : FileUnit EntryName) → names_in_unit n (muted f) ≡ names_in_unit n f
unit_muted n f = ap (λ (b : Bool). b || any_entry (any_attr (operand_names n)) f.unit.below) (attrs_muted n f.unit.root.attrs)

or_false : (b : Bool) → (b || false) ≡ b
or_false true = refl
or_false false = refl

-- where units name none, only those behind them do
behind_muted : (n : ℕ) (units rest : List (FileUnit EntryName)) → list_any (names_in_unit n) units ≡ false → list_any (names_in_unit n) (map muted units ++ rest) ≡ list_any (names_in_unit n) rest
behind_muted n [] rest h = refl
behind_muted n (f ∷ units) rest h =
    let first = unit_muted n f ∙ or_left (names_in_unit n f) (list_any (names_in_unit n) units) h in
    let more = behind_muted n units rest (or_right (names_in_unit n f) (list_any (names_in_unit n) units) h) in
    λ i. first i || more i

-- ---- of units as one

or_swap : (a b c d : Bool) → ((a || b) || (c || d)) ≡ ((a || c) || (b || d))
or_swap true b c d = refl
or_swap false true true d = refl
or_swap false true false d = refl
or_swap false false c d = refl

or_parts : (a b c d : Bool) → (a || (b || (c || d))) ≡ ((a || (b || c)) || d)
or_parts true b c d = refl
or_parts false true c d = refl
or_parts false false c d = refl

then_any : (test : Node EntryName → Bool) (f g : Entries EntryName) → any_entry test (then_entries f g) ≡ (any_entry test f || any_entry test g)
unfolding any_entry then_entries
then_any test End g = refl
then_any test (Entry e c f) g = ap (λ (b : Bool). test e || (any_entry test c || b)) (then_any test f g) ∙ or_parts (test e) (any_entry test c) (any_entry test f) (any_entry test g)

all_any : (n : ℕ) (commons : List (FileUnit EntryName))
    → (list_any (operand_names n) (all_attrs commons) || any_entry (any_attr (operand_names n)) (all_below commons)) ≡ list_any (names_in_unit n) commons
unfolding all_attrs all_below any_entry
all_any n [] = refl
all_any n (f ∷ commons) =
    let test = operand_names n in
    (λ i. list_any-append test f.unit.root.attrs (all_attrs commons) i || then_any (any_attr test) f.unit.below (all_below commons) i)
    ∙ or_swap (list_any test f.unit.root.attrs) (list_any test (all_attrs commons)) (any_entry (any_attr test) f.unit.below) (any_entry (any_attr test) (all_below commons))
    ∙ ap (λ (b : Bool). names_in_unit n f || b) (all_any n commons)

attrs_compiled : (units : List (DwUnit ℕ)) → units_attrs (map as_compile units) ≡ units_attrs units
unfolding units_attrs unit_attrs
attrs_compiled [] = refl
attrs_compiled (u ∷ units) = ap (λ (w : List (Attr ℕ)). (u.root.attrs ++ entries_attrs u.below) ++ w) (attrs_compiled units)

-- looks go over the attributes of the common file
pub named_by : (docs : List (Doc ℕ)) (common : Doc ℕ) (n : ℕ) → own_tops (reused_of docs common) ≤ n
    → is_named (look_units (reused_of docs common)) n ≡ list_any (operand_names n) (named_attrs (spot_of docs common) common.units)
named_by docs common n above =
    let r = reused_of docs common in
    let one = as_one r.file (length r.units) r.commons in
    let name = spot_of docs common in
    behind_muted n r.units (muted one ∷ []) (own_not docs n above)
    ∙ or_false (names_in_unit n (muted one))
    ∙ unit_muted n one
    ∙ all_any n r.commons
    ∙ ap (list_any (names_in_unit n)) (commons_are docs common)
    ∙ any_filed (operand_names n) name (length docs) (map as_compile common.units)
    ∙ ap (λ (w : List (Attr ℕ)). list_any (operand_names n) (map (attr_map name) w)) (attrs_compiled common.units)

-- ---- rows of operands

keys_same : (raw : List RawUnit) → all_raw_keys raw ≡ unit_and_entries raw
unfolding all_raw_keys unit_and_entries
keys_same [] = refl
keys_same (u ∷ raw) = ap (λ (w : List ℕ). (u.at ∷ places_of u) ++ w) (keys_same raw)

map_same : (xs : List ℕ) → map (λ (n : ℕ). n) xs ≡ xs
map_same [] = refl
map_same (x ∷ xs) = ap (λ (w : List ℕ). x ∷ w) (map_same xs)

module _ (f : File) (doc : Doc ℕ) (s : IsCommonRead f doc) (h : HasOperandRows f) (name : ℕ → EntryName) where
  abbrev raw : List RawUnit
  raw = raw_units f.units

  abbrev rows : List ListOperand
  rows = f.resolved.operands.items

  pub entries_low : AreEntries raw (entries_of rows)
  entries_low = by rows (λ o there. (h.of_file o there).entry) where
    by : (some : List ListOperand) → ((o : ListOperand) → In o some → o.entry < entries_in raw) → AreEntries raw (entries_of some)
    by [] g = tt
    by (o ∷ some) g = (g o (inl refl), by some (λ p there. g p (inr there)))

  mean : MeanUnits (around_given f None) raw doc.units
  mean = ((units_agree (around_given f None) raw).ok doc.units).0 s.said.means

  once : NoneTwice (unit_and_entries raw)
  once = subst NoneTwice (means_keys (around_given f None) raw doc.units mean ∙ map_same (all_raw_keys raw) ∙ keys_same raw) (subst NoneTwice (compile_keys doc.units) s.parts.apart)

  top_row : (t : ℕ) (o : ListOperand) → (is_in t (name (place_at raw o.entry)) ≡ true) ↔ (top_in (name (place_at raw o.entry)) ≡ Some t)
  top_row t o = is_top t (name (place_at raw o.entry))

  rows_in : (t : ℕ) → OneOf rows (λ o. is_in t (name (place_at raw o.entry)) ≡ true) ↔ In (Some t) (tops_of_refs name raw (entries_of rows))
  rows_in t = (
    λ h. subst (λ (w : Option ℕ). In w (tops_of_refs name raw (entries_of rows))) ((top_row t h.0).0 h.2)
        (in_map (λ (i : ℕ). top_in (name (place_at raw i))) (h.0).entry (entries_of rows) (in_map (λ (o : ListOperand). o.entry) h.0 rows h.1)),
    λ i. (
        let a = in_map_from (λ (i : ℕ). top_in (name (place_at raw i))) (Some t) (entries_of rows) i in
        let b = in_map_from (λ (o : ListOperand). o.entry) a.source rows a.there in
        (b.source, b.there, (top_row t b.source).1 (ap (λ (i : ℕ). top_in (name (place_at raw i))) b.is ∙ a.is))),
  )

  -- an operand of an expression names an entry of the top, or one of a location list does
  pub names_are : (t : ℕ) → (list_any (operand_names t) (named_attrs name doc.units) ≡ true) ↔ Names name raw doc.units (entries_of rows) t
  names_are t =
      let either = names_either t (named_attrs name doc.units) in
      let exprs = any_named (expression_names t) name doc.units in
      let lists = any_row (around_given f None).sources raw doc.units mean once rows h.rows (λ o there. (h.of_file o there).at) name (is_in t) in (
        λ e. ⊎_elim (λ a. inl (exprs ∙ a)) (λ b. inr ((rows_in t).0 (lists.0 b))) (either.0 e),
        λ n. either.1 (⊎_elim (λ a. inl (sym exprs ∙ a)) (λ b. inr (lists.1 ((rows_in t).1 b))) n),
      )
