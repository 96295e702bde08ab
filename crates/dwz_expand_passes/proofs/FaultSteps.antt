-- In which file an entry stands, and the first refusal of its values.
use Rattle.std.proofs.Common.{◌≡◌, ◌∙◌, ℕ, ◌+◌, ◌-◌, ◌<◌, ◌≤◌, zero, suc, List, [], ◌∷◌, length, ◌++◌, Option, None, Some, Ok, Err, slice_get, refl, sym, ap, subst, arith, inl, inr}
use Rattle.std.proofs.lemmas.Bool.{cases_lt}
use Rattle.std.specs.List.{flat_map}
use Rattle.std.proofs.lemmas.Option.{slice_get_within}
use Rattle.std.proofs.lemmas.List.{length-map}
use Rattle.dwz_model.proofs.ListFacts.{got_map}
use Rattle.dwz_def_cross.specs.CrossSame.{EachTwo}
use Rattle.dwz_def_encoding.specs.Bases.{Bases, bases_in}
use Rattle.dwz_def_encoding.proofs.ReadAgain.{bases_read}
use Rattle.dwz_def_expand.specs.Chosen.{paths_at, paths_of_unit}
use Rattle.dwz_def_reading.specs.Meant.{units_meaning}
use Rattle.dwz_check_labels.specs.Files.{IsHereOf}
use Rattle.dwz_graph.specs.Here.{Here}
use Rattle.dwz_graph.specs.Resolved.{sources_view}
use Rattle.dwz_expand_passes.specs.Paths.{IsPathsOf}
use Rattle.dwz_model.specs.declared.fault.ReadErr.{ReadErr}
use Rattle.dwz_model.specs.declared.fault.ReadErr.TheVariants.{NoMemory, Refused}
use Rattle.dwz_def_reading.specs.Documents.{DwUnit, Node}
use Rattle.dwz_def_reading.specs.FirstOf.{OfFirst}
use Rattle.dwz_def_reading.specs.Meanings.{Around, scope_of}
use Rattle.dwz_def_reading.specs.Units.{CompileUnit, PartialUnit, RawKind, RawUnit, TypeUnit, entries_in}
use Rattle.dwz_def_cross.specs.Tops.{WithCommon, units_with_common, whole_units}
use Rattle.dwz_def_expand.specs.Refusals.{Site, SiteFault, Where, nodes, sites_in, sites_of, with_numbers}
use Rattle.dwz_def_expand.specs.Source.{Copy, source_places, source_unit, source_units}
use Rattle.dwz_expand_sources.specs.Index.{ListedEntry}
use Rattle.dwz_check_labels.proofs.EntryLemmas.{row_of}
use Rattle.dwz_graph.specs.Files.{refused_file}
use Rattle.dwz_graph.specs.Surroundings.{behind_own}
use Rattle.dwz_expand_sources.specs.Imports.{same}
use Rattle.dwz_encode.specs.Shown.{Keys}
use Rattle.dwz_expand_layout.specs.declared.entries.NewAttr.{NewAttr}
use Rattle.dwz_expand_layout.specs.declared.entries.NewOperand.{NewOperand}
use Rattle.dwz_expand_sources.specs.declared.sources.NewUnit.{NewUnit}
use Rattle.dwz_expand_sources.specs.declared.sources.SourceRange.{SourceRange}
use Rattle.dwz_expand_sources.specs.Sources.{AreSources, IsNewUnit, Sources, all_entries, in_range, ranges_of}
use Rattle.dwz_expand_passes.specs.declared.files.Known.{Known}
use Rattle.dwz_expand_passes.specs.declared.files.SourceFile.{SourceFile}
use Rattle.dwz_expand_passes.specs.Faults.{AreReady, FirstRefusalIs, KnowsBoth, ValueRefusal, entry_sites, file_number}
use Rattle.dwz_expand_passes.specs.Files.{AnswersEntry, Knows, KnowsCommon, around_at, around_beside, common_count, entry_count, forms_of, holder_for, raw_in}
use Rattle.dwz_expand_passes.proofs.EntrySteps.{row_place}
use Rattle.dwz_expand_passes.proofs.FaultLemmas.{in_one, number_got, numbers_length, ranges_sites, unit_sites}
use Rattle.dwz_expand_passes.proofs.FitLemmas.{common_role, common_source, got_first_entry, got_second_entry, own_role}
use Rattle.dwz_expand_passes.proofs.PlacesSaid.{place_said, unit_said, units_mean}

own_number : (kind : RawKind) → file_number (holder_for kind) ≡ 0
own_number CompileUnit = refl
own_number (TypeUnit signature offset) = refl
own_number PartialUnit = refl

module _ (k : Known) (w : WithCommon ℕ) (keys : Keys (Copy ℕ)) (stands : Where ℕ) (know : Knows k w keys stands) where
  abbrev number : ℕ → ℕ
  number p = file_number ((forms_of k w).role p)

  own_file : (i : ℕ) (d : ListedEntry ℕ) → i < entries_in (raw_in k.own) → slice_get (all_entries w) i ≡ Some d → number d.0.at ≡ 0
  own_file i d lt there =
      let raw = raw_in k.own in
      let found = got_first_entry w.own w.common raw (around_at k) know.own.means i d lt there in
      let o = row_of (around_at k) raw w.own i d know.own.means found in
      ap number (place_said (around_at k) raw w.own know.own.means i d found ∙ row_place raw i o.row o.found)
      ∙ ap file_number (own_role k w keys stands know i o.row o.u o.found o.is_unit) ∙ own_number o.u.kind

  common_file : (c : SourceFile) (i : ℕ) (d : ListedEntry ℕ) → KnowsCommon (Some c) w.common stands → entries_in (raw_in k.own) ≤ i → slice_get (all_entries w) i ≡ Some d → number d.0.at ≡ 1
  common_file c i d kc le there =
      let raw = raw_in c in
      let around = around_beside c None in
      let j = i - entries_in (raw_in k.own) in
      let found = got_second_entry w.own w.common (raw_in k.own) (around_at k) know.own.means i d le there in
      let src = common_source kc.0 w.common kc.2 j d found in
      let o = row_of around raw kc.0 j src.0 kc.1.means src.1 in
      ap number (ap (λ (e : Node ℕ). e.at) src.2 ∙ ap behind_own (place_said around raw kc.0 kc.1.means j src.0 src.1 ∙ row_place raw j o.row o.found))
      ∙ ap file_number (common_role k w keys stands know c kc.0 kc.1 kc.2 j o.row o.u o.found o.is_unit)

  pub entry_file : (i file : ℕ) (d : ListedEntry ℕ) → i < entry_count k → (i < entries_in (raw_in k.own) → file ≡ 0) → ((i < entries_in (raw_in k.own) → ⊥) → file ≡ 1)
      → slice_get (all_entries w) i ≡ Some d → file ≡ number d.0.at
  entry_file i file d there own other found = elim (cases_lt i (entries_in (raw_in k.own))) [
    | inl less ↦ own less ∙ sym (own_file i d less found)
    | inr le ↦ other (λ lt. absurd (omega (arith, lt, le))) ∙ sym (in_common k.common refl know.common le)
  ] where
    in_common : (c : Option SourceFile) → k.common ≡ c → KnowsCommon c w.common stands → entries_in (raw_in k.own) ≤ i → number d.0.at ≡ 1
    in_common None is h le = (let none : common_count k.common ≡ 0 = ap common_count is in absurd (omega (arith, there, none, le)))
    in_common (Some c) is h le = common_file c i d h le found

  pub entry_err : (file : ℕ) (d : ListedEntry ℕ) (attrs : List NewAttr) (operands : List NewOperand) (e : ReadErr) → file ≡ number d.0.at
      → AnswersEntry {Y = Unit {0}} k w keys stands d.0 attrs operands (Err e)
      → FirstRefusalIs {Y = Unit {0}} (ValueRefusal w (forms_of k w) stands) (sites_of k.unit d.0.at 0 d.0.attrs) (Err (refused_file file e))
  entry_err file d attrs operands NoMemory is h = tt
  entry_err file d attrs operands (Refused f) is h =
      subst (λ (n : ℕ). OfFirst (ValueRefusal w (forms_of k w) stands) (sites_of k.unit d.0.at 0 d.0.attrs) (record { file = n; section = f.section; at = f.at; reason = f.reason })) (sym is)
      (in_one (SiteFault same (source_places same w) (forms_of k w) stands) number k.unit d.0.at 0 d.0.attrs f h)

-- the values of a new unit: those of its root, and behind them those of its ranges
pub unit_parts : (n : ℕ) (w : WithCommon ℕ) (ranges : List SourceRange) (x : NewUnit) (u : DwUnit ℕ) → IsNewUnit w ranges x u
    → sites_in n ((source_unit same (units_with_common w) u).root ∷ nodes (source_unit same (units_with_common w) u).below)
    ≡ sites_of n u.root.at 0 u.root.attrs ++ flat_map (λ (r : SourceRange). entry_sites n (in_range (all_entries w) r)) (ranges_of ranges x)
unit_parts n w ranges x u is =
    let v = source_unit same (units_with_common w) u in
    let all = all_entries w in
    unit_sites n v
    ∙ ap (λ (es : List (ListedEntry ℕ)). sites_of n u.root.at 0 u.root.attrs ++ entry_sites n es) (sym is.below)
    ∙ ap (λ (s : List (Site ℕ)). sites_of n u.root.at 0 u.root.attrs ++ s) (ranges_sites n all (ranges_of ranges x))

-- ---- new units

two_at : {X Y : Type 0} (R : X → Y → Type 0) (xs : List X) (ys : List Y) (n : ℕ) (x : X) → EachTwo R xs ys → slice_get xs n ≡ Some x → (y : Y) × (slice_get ys n ≡ Some y) × R x y
two_at R [] ys n x h there = absurd cc
two_at R (x ∷ xs) [] n z h there = absurd h
two_at {X} R (x ∷ xs) (y ∷ ys) zero z h there = (let same : x ≡ z = cc in (y, refl, subst (λ (w : X). R w y) same h.0))
two_at R (x ∷ xs) (y ∷ ys) (suc n) z h there = two_at R xs ys n z h.1 there

two_many : {X Y : Type 0} (R : X → Y → Type 0) (xs : List X) (ys : List Y) → EachTwo R xs ys → length ys ≡ length xs
two_many R [] [] h = refl
two_many R [] (y ∷ ys) h = absurd h
two_many R (x ∷ xs) [] h = absurd h
two_many R (x ∷ xs) (y ∷ ys) h = ap suc (two_many R xs ys h.1)

module _ (w : WithCommon ℕ) (s : Sources) (are : AreSources w s) where
  pub record NewAt (n : ℕ) (x : NewUnit) : Type 0 where
    pub u : DwUnit ℕ
    pub whole : slice_get (whole_units w.own) n ≡ Some u
    pub is : IsNewUnit w s.ranges x u

  pub new_at : (n : ℕ) (x : NewUnit) → slice_get s.units n ≡ Some x → NewAt n x
  new_at n x there = (let t = two_at (IsNewUnit w s.ranges) s.units (whole_units w.own) n x are.units there in record { u = t.0; whole = t.1; is = t.2 })

  pub number_at : (n : ℕ) (x : NewUnit) (a : NewAt n x) → slice_get (with_numbers 0 (source_units same w)) n ≡ Some (n, source_unit same (units_with_common w) a.u)
  number_at n x a =
      let e : 0 + n ≡ n = omega arith in
      number_got 0 n (source_units same w) (source_unit same (units_with_common w) a.u) (got_map (source_unit same (units_with_common w)) (whole_units w.own) n a.u a.whole)
      ∙ ap (λ (m : ℕ). Some (m, source_unit same (units_with_common w) a.u)) e

  pub numbers_many : length (with_numbers 0 (source_units same w)) ≡ length s.units
  numbers_many =
      numbers_length 0 (source_units same w) ∙ length-map (whole_units w.own) (source_unit same (units_with_common w)) ∙ two_many (IsNewUnit w s.ranges) s.units (whole_units w.own) are.units

-- the line table of a unit
line_at : (around : Around ℕ) (raw : List RawUnit) (said : List (DwUnit ℕ)) (n : ℕ) (h : Here) (u : DwUnit ℕ) → units_meaning around raw ≡ Ok said → IsHereOf raw n h → slice_get said n ≡ Some u
    → (bases_in u).line ≡ h.line
line_at around raw said n h u means is there =
    let v = unit_said around raw said (units_mean around raw said means) n is.u is.is_unit in
    let both : Some v.0 ≡ Some u = sym v.1 ∙ there in
    let one : v.0 ≡ u = cc in
    ap (λ (y : DwUnit ℕ). (bases_in y).line) (sym one) ∙ sym (ap (λ (b : Bases). b.line) (bases_read (scope_of around is.u) v.0.root.attrs v.2.root.attrs)) ∙ sym is.here.line

-- what is known where a new unit is at hand
pub knows_at : (k : Known) (w : WithCommon ℕ) (keys : Keys (Copy ℕ)) (stands : Where ℕ) (s : Sources) (starts : List ℕ) (are : AreSources w s) (x : NewUnit) (h : Here)
    → KnowsBoth k.own k.common w keys stands
    → AreReady k.own k.common s starts k.copies.now → k.copies.now.unit ≡ k.unit → slice_get s.units k.unit ≡ Some x → slice_get k.own.heres.now x.unit ≡ Some h
    → IsPathsOf (paths_at (sources_view k.own.sections.now) h.line) k.paths.now → Knows k w keys stands
knows_at k w keys stands s starts are x h know ready at there here paths =
    let a = new_at w s are k.unit x there in
    let line = line_at (around_at k) (raw_in k.own) w.own x.unit h a.u know.own_says.means (ready.own_ready.heres.each x.unit h here) a.is.unit in
    let sections = sources_view k.own.sections.now in
    record {
      own = know.own_says;
      own_stands = know.own_stands;
      common = know.common_says;
      copies = record {
        sources = s;
        roots = starts;
        are = are;
        apart = know.apart;
        copies = ready.copies;
        many = know.many ∙ sym ready.many;
        inside = (let lt = slice_get_within s.units k.unit x there in omega (arith, lt, at));
      };
      unit = at;
      keys_are = know.keys_are;
      paths = subst (λ (o : Option (List (List ℕ))). IsPathsOf o k.paths.now)
          (ap (paths_at sections) (sym line) ∙ ap (λ (o : Option (DwUnit ℕ)). paths_of_unit sections o) (sym a.whole)) paths;
    }
