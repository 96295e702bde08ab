-- The copy that an operand of a list names, and the number of the operand after.
use Rattle.std.proofs.Common.{◌≡◌, ◌∙◌, ℕ, ◌-◌, ◌<◌, List, length, slice_index, slice_index_or, Option, Some, None, zero, suc, [], ◌∷◌, inl, inr, refl, sym, ap, subst, arith}
use Rattle.std.specs.Option.{option_map, unwrap_or}
use Rattle.std.specs.Prelude.{IfSome}
use Rattle.dwz_def_reading.specs.declared.exprs.Operand.{Operand}
use Rattle.dwz_def_reading.specs.Meanings.{all_places, target_of}
use Rattle.dwz_def_reading.specs.PatchedLists.{with_number}
use Rattle.dwz_def_reading.specs.Places.{at_file}
use Rattle.dwz_def_reading.specs.Units.{RawUnit}
use Rattle.dwz_def_cross.specs.Tops.{WithCommon, whole_units}
use Rattle.dwz_def_encoding.specs.Meant.{led_to}
use Rattle.dwz_def_encoding.specs.Writing.{base_place}
use Rattle.dwz_def_expand.specs.OneFile.{OneFile}
use Rattle.dwz_def_expand.specs.Source.{copy, copy_for, source_places, unit_for}
use Rattle.dwz_graph.specs.Operands.{LooksUp}
use Rattle.dwz_graph.specs.Resolved.{place_at, places, scope_in}
use Rattle.dwz_check_labels.proofs.AloneLemmas.{target_alone}
use Rattle.dwz_expand_sources.specs.Imports.{same}
use Rattle.dwz_expand_sources.specs.Sources.{all_entries}
use Rattle.dwz_expand_sources.specs.declared.copies.CopyAt.{CopyAt}
use Rattle.dwz_expand_sources.specs.Copies.{IsCopyFor, IsCopyNumber}
use Rattle.dwz_expand.proofs.PlanLemmas.{keys_known}
use Rattle.dwz_expand.specs.OneKnown.{stands_of}
use Rattle.dwz_expand_layout.specs.Laid.{layout_view}
use Rattle.dwz_expand_passes.proofs.SaidLemmas.{all_many}
use Rattle.dwz_expand_sections.specs.Narrow.{operand_after}
use Rattle.dwz_expand.proofs.CopyPlaces.{number_stands}
use Rattle.dwz_expand.proofs.EntryPlaces.{own_at}
use Rattle.dwz_expand.proofs.OperandNames.{target_led}
use Rattle.dwz_expand.proofs.PlanSites.{two_long}
use Rattle.dwz_expand_passes.specs.Files.{raw_in}
use Rattle.dwz_expand_passes.specs.Known.{StandsAt}
use Rattle.dwz_expand_passes.proofs.FitLemmas.{stands_first}
use Rattle.dwz_expand_passes.proofs.PlacesSaid.{entry_said}
use Rattle.dwz_graph.proofs.PlaceLemmas.{places_are, places_many}
use Rattle.dwz_expand_passes.specs.Numbered.{key_in}
use Rattle.dwz_model.specs.Lists.{In}
use Rattle.dwz_expand.specs.declared.entry.AtUnit.{AtUnit}
use Rattle.dwz_expand.specs.Gathered.{CanTell, LosesOne, Tells, own_around, own_scope, spoken_at}

index_in : (xs : List ℕ) (i : ℕ) → i < length xs → In (slice_index xs i) xs
index_in [] i lt = absurd (omega (arith, lt))
index_in (y ∷ xs) zero lt = inl refl
index_in (y ∷ xs) (suc i) lt = inr (index_in xs i (omega (arith, lt)))

module _ (f : OneFile) (x : AtUnit) (u : RawUnit) (can : CanTell x) (t : Tells f x u) (o : Operand) where
  abbrev w : WithCommon ℕ
  w = t.known.w

  abbrev raw : List RawUnit
  raw = raw_in x.file.now.own

  abbrev p : ℕ
  p = target_of (own_scope x.file.now u) o

  pub stands : (i : ℕ) → LooksUp raw (scope_in x.file.now.own.sections.now raw u) o (Some i) → StandsAt w i p
  stands i looks =
      let e = entry_said (own_around x.file.now) raw w.own t.known.says.own.means i looks.0 in
      stands_first w.own w.common raw (own_around x.file.now) t.known.says.own.means i p e.0 e.1 (e.2 ∙ looks.1 ∙ target_alone (own_scope x.file.now u) o)

  -- what is found among copies is for the operand
  pub copy_there : (i : ℕ) (looks : LooksUp raw (scope_in x.file.now.own.sections.now raw u) o (Some i)) (answer : Option CopyAt)
      → IsCopyFor w x.copies.now.unit (stands i looks).0.0.at answer → IsCopyFor w x.unit p answer
  copy_there i looks answer is =
      subst (λ (n : ℕ). IsCopyFor w n p answer) can.at (subst (λ (q : ℕ). IsCopyFor w x.copies.now.unit q answer) (stands i looks).2 is)

  pub all_there : length (all_entries w) ≡ length x.copies.now.first
  all_there = all_many x.file.now w (stands_of f t.known.place) t.known.says ∙ sym can.many

  pub inside : x.copies.now.unit < length x.file.now.sources.now.units
  inside = (let lt = can.inside in let at = can.at in omega (arith, lt, at))

  pub lost : (answer : Option CopyAt) → IsCopyFor w x.unit p answer → ((c : CopyAt) → answer ≡ Some c → ⊥) → LosesOne x.file.now w x.unit u o
  lost None is none = sym is.unit
  lost (Some c) is none = absurd (none c refl)

  few_units : x.unit < length (whole_units w.own)
  few_units = (let lt = can.inside in let many = two_long _ x.file.now.sources.now.units (whole_units w.own) t.known.says.are.units in omega (arith, lt, many))

  target_in : (i : ℕ) → LooksUp raw (scope_in x.file.now.own.sections.now raw u) o (Some i) → t.known.place p ≡ at_file 0 p
  target_in i looks =
      let is : place_at raw i ≡ p = looks.1 ∙ target_alone (own_scope x.file.now u) o in
      let there : In (place_at raw i) (all_places raw) =
      subst (λ (ns : List ℕ). In (place_at raw i) ns) (places_are raw) (index_in (places raw) i (let lt = looks.0 in let many = places_many raw in omega (arith, lt, many))) in
      own_at f x.file.now t.known p (subst (λ (n : ℕ). In n (all_places raw)) is there)

  -- the operand's number is that which it has after
  pub number_told : (i : ℕ) (looks : LooksUp raw (scope_in x.file.now.own.sections.now raw u) o (Some i)) (answer : Option CopyAt) (c : CopyAt) → answer ≡ Some c
      → IsCopyFor w x.unit p answer
      → with_number (λ at. slice_index (layout_view x.layout.now).places c.number
      - base_place (slice_index_or (layout_view x.layout.now).units x.unit (record { at = 0; end = 0; table = 0 })).at o.base) o
      ≡ operand_after f (spoken_at x.unit u.at o)
  number_told i looks answer c is for =
      let known : Some c.unit ≡ unit_for same (source_places same w) x.unit p = ap (λ (a : Option CopyAt). option_map (λ (d : CopyAt). d.unit) a) (sym is) ∙ for.unit in
      let number : IsCopyNumber (source_places same w) c.unit p c.number =
      subst (λ (a : Option CopyAt). IfSome a (λ d. IsCopyNumber (source_places same w) d.unit p d.number)) is for.number in
      let key : key_in w c.number ≡ copy_for same (source_places same w) x.unit p =
      keys_known w c.unit p c.number number ∙ ap (λ (n : Option ℕ). copy (unwrap_or n x.unit) p) known in
      let led : at_file 0 (led_to u.at o) ≡ t.known.place p = ap (at_file 0) (sym (target_led (own_scope x.file.now u) o)) ∙ sym (target_in i looks) in
      let same_number = number_stands f x.file.now t.known (layout_view x.layout.now) t.laid x.unit c.number p (spoken_at x.unit u.at o) few_units key refl led in
      (λ j. record { at = o.at; width = o.width; uleb = o.uleb; base = o.base; number = same_number j })
