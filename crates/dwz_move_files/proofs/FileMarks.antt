-- What operands of a file name: those of its expressions, and those of its rows of location lists.
use Rattle.std.proofs.Common.{◌≡◌, ◌↔◌, ◌⊎◌, ℕ, ◌<◌, Bool, true, false, List, [], ◌∷◌, map, Option, Some, Ok, refl, sym, ap, subst, ◌∙◌, inl, inr, ⊎_elim, if◌then◌else◌}
use Rattle.std.specs.List.{list_any}
use Rattle.std.proofs.lemmas.Bool.{false≢true}
use Rattle.dwz_def_tops.specs.Alike.{any_attr, is_in, names_in_unit, operand_names}
use Rattle.dwz_def_tops.specs.Spots.{EntryName}
use Rattle.dwz_def_reading.specs.Lists.{In}
use Rattle.dwz_def_reading.specs.Units.{RawUnit, entries_in}
use Rattle.dwz_def_reading.proofs.ListFacts.{in_map}
use Rattle.dwz_graph.specs.declared.file.File.{File}
use Rattle.dwz_graph.specs.Index.{Index}
use Rattle.dwz_graph.specs.Names.{top_in}
use Rattle.dwz_graph.proofs.TopNameLemmas.{means_units, stand_once}
use Rattle.dwz_def_reading.specs.Documents.{Doc, unit_map}
use Rattle.dwz_def_reading.specs.Files.{around_of, sources_of}
use Rattle.dwz_def_reading.specs.Meanings.{MeanUnits}
use Rattle.dwz_def_reading.specs.Meant.{units_meaning}
use Rattle.dwz_def_reading.specs.Shared.{OneOf}
use Rattle.dwz_def_reading.proofs.FileLemmas.{file_agrees}
use Rattle.dwz_def_plan.specs.Plan.{pinned_in, pins}
use Rattle.dwz_graph.specs.ListOperand.{ListOperand}
use Rattle.dwz_graph.specs.Resolved.{AreEntries, place_at}
use Rattle.dwz_move.specs.Known.{in_unit, tops_of_refs}
use Rattle.dwz_move.specs.Marked.{expression_names, expression_pins}
use Rattle.dwz_move.proofs.NameMarks.{is_top}
use Rattle.dwz_def_tops.proofs.Members.{in_map_from}
use Rattle.dwz_unit.specs.Rows.{units_of as raw_units}
use Rattle.dwz_graph.specs.Across.{IsFileAmong, file_units, name_at}
use Rattle.dwz_move_files.specs.Lists.{entries_of, uleb_tops}
use Rattle.dwz_move_files.proofs.RowNames.{any_row, names_by, pin_row}
use Rattle.dwz_move_files.proofs.UnitAttrs.{any_filed, any_named, list_pins, named_attrs, names_either, pins_either}

-- ---- rows and the tops of their entries

module _ (top : ListOperand → Option ℕ) (t : ℕ) where
  rows_in : (rows : List ListOperand) → In (Some t) (map top rows) ↔ OneOf rows (λ o. top o ≡ Some t)
  rows_in rows = (
    λ h. (let r = in_map_from top (Some t) rows h in (r.source, r.there, r.is)),
    λ h. subst (λ (w : Option ℕ). In w (map top rows)) h.2 (in_map top h.0 rows h.1),
  )

  abbrev Uleb : ListOperand → Type 0
  Uleb o = (o.uleb ≡ true) × (top o ≡ Some t)

  ulebs_in : (rows : List ListOperand) → In (Some t) (uleb_tops rows (map top rows)) ↔ OneOf rows Uleb
  ulebs_in [] = (λ h. absurd h, λ h. absurd h.1)
  ulebs_in (o ∷ rows) = by o.uleb refl (ulebs_in rows) where
    by : (b : Bool) → o.uleb ≡ b → In (Some t) (uleb_tops rows (map top rows)) ↔ OneOf rows Uleb
        → In (Some t) (if b then top o ∷ uleb_tops rows (map top rows) else uleb_tops rows (map top rows)) ↔ OneOf (o ∷ rows) Uleb
    by true e more = (
      λ h. ⊎_elim (λ x. (o, inl refl, (e, x))) (λ x. (let r = more.0 x in (r.0, inr r.1, r.2))) h,
      λ h. ⊎_elim (λ x. inl (ap top x ∙ h.2.1)) (λ x. inr (more.1 (h.0, x, h.2))) h.1,
    )
    by false e more = (
      λ h. (let r = more.0 h in (r.0, inr r.1, r.2)),
      λ h. ⊎_elim (λ x. absurd (false≢true (sym e ∙ ap (λ (w : ListOperand). w.uleb) x ∙ h.2.0))) (λ x. more.1 (h.0, x, h.2)) h.1,
    )

pub same_rows : {P Q : ListOperand → Type 0} → ((o : ListOperand) → P o ↔ Q o) → (rows : List ListOperand) → OneOf rows P ↔ OneOf rows Q
same_rows each rows = (λ h. (h.0, h.1, (each h.0).0 h.2), λ h. (h.0, h.1, (each h.0).1 h.2))

map_map : (g : ℕ → Option ℕ) (rows : List ListOperand) → map g (entries_of rows) ≡ map (λ o. g o.entry) rows
map_map g [] = refl
map_map g (o ∷ rows) = ap (λ (w : List (Option ℕ)). g o.entry ∷ w) (map_map g rows)

-- ---- of a file

module _ (contents : List (List ℕ)) (file : ℕ) (bytes : List ℕ) (f : File) (x : Index) (is : IsFileAmong contents file bytes f x) where
  abbrev raw : List RawUnit
  raw = raw_units f.units

  abbrev doc : Doc ℕ
  doc = is.kept.read.doc

  abbrev name : ℕ → EntryName
  name = name_at x.starts doc

  abbrev rows : List ListOperand
  rows = f.resolved.operands.items

  pub units_mean : units_meaning (around_of bytes raw) raw ≡ Ok doc.units
  units_mean = means_units is.kept.limits bytes raw doc is.kept.read.means

  mean : MeanUnits (around_of bytes raw) raw doc.units
  mean = (((file_agrees is.kept.limits bytes).ok (raw, doc)).0 is.kept.read.means).means

  stand : (o : ListOperand) → In o rows → place_at raw o.entry ≡ o.place.offset
  stand o there = (is.kept.read.of_file o there).at

  pub entries_low : AreEntries raw (entries_of rows)
  entries_low = by rows (λ o there. (is.kept.read.of_file o there).entry) where
    by : (some : List ListOperand) → ((o : ListOperand) → In o some → o.entry < entries_in raw) → AreEntries raw (entries_of some)
    by [] h = tt
    by (o ∷ some) h = (h o (inl refl), by some (λ p there. h p (inr there)))

  module _ (test : EntryName → Bool) where
    pub lists_any : (list_any (names_by test) (named_attrs name doc.units) ≡ true) ↔ OneOf rows (λ o. test (name (place_at raw o.entry)) ≡ true)
    lists_any = any_row (sources_of bytes) raw doc.units mean (stand_once is.kept.limits bytes raw doc is.kept.read.means) rows is.kept.read.operands stand name test

    pub lists_pin : (list_any (list_pins test) (named_attrs name doc.units) ≡ true) ↔ OneOf rows (λ o. (o.uleb ≡ true) × (test (name (place_at raw o.entry)) ≡ true))
    lists_pin = pin_row (sources_of bytes) raw doc.units mean (stand_once is.kept.limits bytes raw doc is.kept.read.means) rows is.kept.read.operands stand name test

  -- a top that an operand names
  pub names_all : (t : ℕ) → (list_any (names_in_unit t) (file_units x.starts file doc) ≡ true)
      ↔ ((list_any (in_unit (any_attr (expression_names t))) (map (unit_map name) doc.units) ≡ true) ⊎ In (Some t) (tops_of_refs name raw (entries_of rows)))
  names_all t =
      let whole = any_filed (operand_names t) name file doc.units in
      let either = names_either t (named_attrs name doc.units) in
      let exprs = any_named (expression_names t) name doc.units in
      let lists = lists_any (is_in t) in
      let tops = rows_in (λ (o : ListOperand). top_in (name (place_at raw o.entry))) t rows in
      let each = same_rows (λ (o : ListOperand). is_top t (name (place_at raw o.entry))) rows in
      let same = map_map (λ (i : ℕ). top_in (name (place_at raw i))) rows in (
        λ h. ⊎_elim (λ a. inl (exprs ∙ a)) (λ b. inr (subst (λ (w : List (Option ℕ)). In (Some t) w) (sym same) (tops.1 (each.0 (lists.0 b))))) (either.0 (sym whole ∙ h)),
        λ h. whole ∙ either.1 (⊎_elim (λ a. inl (sym exprs ∙ a)) (λ b. inr (lists.1 (each.1 (tops.0 (subst (λ (w : List (Option ℕ)). In (Some t) w) same b))))) h),
      )

  -- a top that an operand names that is a ULEB128 number
  pub pins_all : (t : ℕ) → (list_any (pinned_in (is_in t)) (file_units x.starts file doc) ≡ true)
      ↔ ((list_any (in_unit (any_attr (expression_pins t))) (map (unit_map name) doc.units) ≡ true) ⊎ In (Some t) (uleb_tops rows (tops_of_refs name raw (entries_of rows))))
  pins_all t =
      let whole = any_filed (pins (is_in t)) name file doc.units in
      let either = pins_either (is_in t) (named_attrs name doc.units) in
      let exprs = any_named (expression_pins t) name doc.units in
      let lists = lists_pin (is_in t) in
      let tops = ulebs_in (λ (o : ListOperand). top_in (name (place_at raw o.entry))) t rows in
      let each = same_rows (λ (o : ListOperand). (let r = is_top t (name (place_at raw o.entry)) in (
        λ (h : (o.uleb ≡ true) × (is_in t (name (place_at raw o.entry)) ≡ true)). (h.0, r.0 h.1),
        λ (h : (o.uleb ≡ true) × (top_in (name (place_at raw o.entry)) ≡ Some t)). (h.0, r.1 h.1),
      ))) rows in
      let same = ap (uleb_tops rows) (map_map (λ (i : ℕ). top_in (name (place_at raw i))) rows) in (
        λ h. ⊎_elim (λ a. inl (exprs ∙ a)) (λ b. inr (subst (λ (w : List (Option ℕ)). In (Some t) w) (sym same) (tops.1 (each.0 (lists.0 b))))) (either.0 (sym whole ∙ h)),
        λ h. whole ∙ either.1 (⊎_elim (λ a. inl (sym exprs ∙ a)) (λ b. inr (lists.1 (each.1 (tops.0 (subst (λ (w : List (Option ℕ)). In (Some t) w) same b))))) h),
      )
