-- The operands of copied entries with their new numbers are those of the values of sources.
use Rattle.std.proofs.Common.{◌≡◌, ℕ, ◌-◌, ◌<◌, ◌≤◌, Bool, true, false, List, [], ◌∷◌, length, map, Option, Some, None, slice_get, refl, sym, ap, subst, ◌∙◌, arith, inl, inr}
use Rattle.std.specs.List.{flat_map}
use Rattle.std.specs.Prelude.{if◌then◌else◌, slice_index}
use Rattle.std.proofs.lemmas.Bool.{cases_lt}
use Rattle.std.proofs.lemmas.Option.{same_Some}
use Rattle.dwz_model.specs.Lists.{In}
use Rattle.dwz_model.proofs.ListFacts.{got_below, got_in, got_there, in_cases, in_left, in_map, in_right}
use Rattle.dwz_model.proofs.Members.{in_map_from}
use Rattle.dwz_def_encoding.specs.Meant.{led_to}
use Rattle.dwz_def_encoding.specs.Writing.{base_place}
use Rattle.dwz_def_reading.specs.declared.exprs.Operand.{Operand}
use Rattle.dwz_def_reading.specs.Entries.{RawAttr}
use Rattle.dwz_def_reading.specs.Meanings.{Around, MeaningContext, all_places, scope_of, target_of, targets, without_siblings}
use Rattle.dwz_def_reading.specs.PatchedLists.{with_number}
use Rattle.dwz_def_reading.specs.Places.{Place, at_file}
use Rattle.dwz_def_reading.specs.Units.{RawUnit, entries_in}
use Rattle.dwz_def_cross.specs.Tops.{WithCommon, whole_units}
use Rattle.dwz_def_output.specs.Refusals.{operands_of_attr, operands_of_attrs}
use Rattle.dwz_def_expand.specs.OneFile.{FileRead, OneFile, StoredAttr, around, same_place, stored_attr, with_scope}
use Rattle.dwz_def_expand.specs.Output.{Spoken, in_expression, sites_of_file, spoken_in}
use Rattle.dwz_def_expand.specs.Refusals.{Site, sites}
use Rattle.dwz_def_expand.specs.Source.{copy_for, source_places}
use Rattle.dwz_expand_sources.specs.Imports.{same}
use Rattle.dwz_graph.specs.Surroundings.{behind_own}
use Rattle.dwz_unit.specs.Rows.{EntryRow}
use Rattle.dwz_expand_layout.specs.Laid.{Made}
use Rattle.dwz_expand_layout.specs.Lines.{Line}
use Rattle.dwz_expand_layout.specs.Shown.{keys_of}
use Rattle.dwz_expand_layout.specs.declared.entries.NewOperand.{NewOperand}
use Rattle.dwz_expand_passes.specs.declared.files.SourceFile.{SourceFile}
use Rattle.dwz_expand_passes.specs.Files.{SpeaksAs, around_beside, common_count, common_of, raw_in}
use Rattle.dwz_expand_sources.specs.Sources.{all_entries}
use Rattle.dwz_expand_sections.specs.Narrow.{FirstPlace, operand_after}
use Rattle.dwz_expand.proofs.FaultMaps.{site_map, sites_mapped}
use Rattle.dwz_expand_passes.specs.Lined.{all_lines}
use Rattle.dwz_expand_passes.specs.Numbered.{key_in}
use Rattle.dwz_expand_passes.proofs.LineSteps.{node_there}
use Rattle.dwz_expand_passes.proofs.SaidLemmas.{all_many}
use Rattle.dwz_expand_passes.specs.Noted.{AreNoted, IsNoted, IsNotedAt, Noted, plan_sources}
use Rattle.dwz_expand_passes.specs.Passes.{Says}
use Rattle.dwz_expand_passes.specs.declared.new_file.NewFile.{NewFile}
use Rattle.dwz_expand.specs.OneKnown.{stands_of}
use Rattle.dwz_expand.specs.Units.{HasRaw, IsLaidOf, IsOfOne}
use Rattle.dwz_expand.proofs.CopyPlaces.{number_stands}
use Rattle.dwz_expand.proofs.EntryPlaces.{common_at, own_at, unit_place}
use Rattle.dwz_expand.proofs.OperandNames.{attrs_from, attrs_in, copy_named, leads_in, operand_for, operands_alike, target_led}
use Rattle.dwz_expand.proofs.PlanSites.{planned_line, planned_site, planned_unit, site_planned, two_back, two_in}
use Rattle.dwz_expand.proofs.StoredEntries.{IsEntryOf, common_entry, own_entry, part_raw}
use Rattle.dwz_expand.proofs.ValuesIn.{OfSite, from_site, in_site, spoken_of}
use Rattle.dwz_expand.specs.declared.narrow.CopiedPlaces.{CopiedPlaces}
use Rattle.dwz_expand.specs.Told.{AreFirst, AreFirstOf, common_told, own_told, start_of, told, told_of}

-- ---- lists

in_flat : {X Y : Type 0} (f : X → List Y) (xs : List X) (x : X) (y : Y) → In x xs → In y (f x) → In y (flat_map f xs)
in_flat f [] x y there is = absurd there
in_flat {X} {Y} f (z ∷ xs) x y (inl same) is = in_left y (f z) (flat_map f xs) (subst (λ (v : X). In y (f v)) (sym same) is)
in_flat f (z ∷ xs) x y (inr later) is = in_right y (f z) (flat_map f xs) (in_flat f xs x y later is)

flat_from : {X Y : Type 0} (f : X → List Y) (xs : List X) (y : Y) → In y (flat_map f xs) → (x : X) × In x xs × In y (f x)
flat_from f [] y there = absurd there
flat_from f (z ∷ xs) y there = elim (in_cases y (f z) (flat_map f xs) there) [
  | inl here ↦ (z, inl refl, here)
  | inr later ↦ (let o = flat_from f xs y later in (o.0, inr o.1, o.2))
]

-- the first place depends on no more than which operands there are
members_first : (xs ys : List Operand) → ((o : Operand) → In o xs → In o ys) → ((o : Operand) → In o ys → In o xs) → (first : Option ℕ) → FirstPlace xs first → FirstPlace ys first
members_first xs ys into back None h = λ o there narrow. h o (back o there) narrow
members_first xs ys into back (Some at) h = record {
  one = h.one;
  there = into h.one h.there;
  narrow = h.narrow;
  least = λ o there narrow. h.least o (back o there) narrow;
  stands = h.stands;
}

-- ---- an entry whose operands are told

-- The entry with a number is of the file with that number, and these are its operands, each with the copy that it names in the n-th new unit.
record Tells (f : OneFile) (x : NewFile) (k : IsOfOne f x) (number n : ℕ) (line : Line ℕ) (ops : List NewOperand) : Type 0 where
  row : EntryRow
  u : RawUnit
  entry : IsEntryOf f k.place number line row u
  beside : Around ℕ
  places_own : beside.place ≡ (λ m. m)
  raw : List RawUnit
  there : In u raw
  all : beside.all ≡ all_places raw
  alike : (a : RawAttr) → operands_of_attr (scope_of (around f number) u) a ≡ operands_of_attr (scope_of beside u) a
  to : ℕ → ℕ
  at : (m : ℕ) → In m (all_places raw) → k.place (to m) ≡ at_file number m
  are : map (λ (o : NewOperand). o.operand) ops ≡ operands_of_attrs (scope_of beside u) (without_siblings row.entry.attrs)
  lead : map (λ (o : NewOperand). key_in k.w o.copy) ops
      ≡ map (copy_for same (source_places same k.w) n) (map to (targets (scope_of beside u) (operands_of_attrs (scope_of beside u) (without_siblings row.entry.attrs))))

own_all : (common : Option FileRead) (file : FileRead) → (around (record { file = file; common = common }) 0).all ≡ all_places file.raw
own_all None file = refl
own_all (Some c) file = refl

module _ (f : OneFile) (x : NewFile) (k : IsOfOne f x) (n i : ℕ) (line : Line ℕ) (found : slice_get (all_lines k.w) i ≡ Some line) (ops : List NewOperand) where
  own_tells : i < entries_in (raw_in x.own)
      → SpeaksAs x.own (around_beside x.own (common_of x.common)) (λ m. m) (copy_for same (source_places same k.w) n) (keys_of (key_in k.w)) i ops → Tells f x k 0 n line ops
  own_tells lt s =
      let raw = raw_in x.own in
      let beside = around_beside x.own (common_of x.common) in
      let all : (around f 0).all ≡ all_places raw = own_all f.common f.file ∙ ap (λ (us : List RawUnit). all_places us) k.own_raw in
      record {
        row = s.row;
        u = s.u;
        entry = own_entry f x k i line found s.row s.u lt s.found s.is_unit;
        beside = beside;
        places_own = refl;
        raw = raw;
        there = got_in raw s.row.unit s.u s.is_unit;
        all = refl;
        alike = λ a. operands_alike (scope_of (around f 0) s.u) (scope_of beside s.u) refl refl all a;
        to = λ m. m;
        at = own_at f x k;
        are = s.are;
        lead = s.lead;
      }

  common_tells : (c : SourceFile) → x.common ≡ Some c → entries_in (raw_in x.own) ≤ i
      → SpeaksAs c (around_beside c None) behind_own (copy_for same (source_places same k.w) n) (keys_of (key_in k.w)) (i - entries_in (raw_in x.own)) ops → Tells f x k 1 n line ops
  common_tells c is le s =
      let raw = raw_in c in
      let beside = around_beside c None in
      let has : HasRaw f.common (Some c) = subst (λ (o : Option SourceFile). HasRaw f.common o) is k.common_raw in
      let all : (around f 1).all ≡ all_places raw = ap (λ (us : List RawUnit). all_places us) (sym (part_raw f x k i line found f.common c refl has)) in
      record {
        row = s.row;
        u = s.u;
        entry = common_entry f x k i line found c s.row s.u is le s.found s.is_unit;
        beside = beside;
        places_own = refl;
        raw = raw;
        there = got_in raw s.row.unit s.u s.is_unit;
        all = refl;
        alike = λ a. operands_alike (scope_of (around f 1) s.u) (scope_of beside s.u) refl refl all a;
        to = behind_own;
        at = common_at f x k c is;
        are = s.are;
        lead = s.lead;
      }

-- what is found with a scope
with_found : (s : MeaningContext Place) (o : Option RawAttr) (v : StoredAttr) → with_scope s o ≡ Some v → (a : RawAttr) × (o ≡ Some a) × (record { scope = s; attr = a } ≡ v)
with_found s None v is = absurd (let z : None ≡ Some v = is in cc)
with_found s (Some a) v is = (let made : StoredAttr = record { scope = s; attr = a } in (a, refl, same_Some made v is))

module _ (f : OneFile) (x : NewFile) (k : IsOfOne f x) (made : Made) (l : IsLaidOf f x made) where
  abbrev Scope : (number n : ℕ) (line : Line ℕ) (ops : List NewOperand) → Tells f x k number n line ops → MeaningContext ℕ
  Scope number n line ops t = scope_of t.beside t.u

  abbrev Sites : List (Site ℕ)
  Sites = sites same k.w

  sites_are : sites_of_file f ≡ map (site_map k.place same same_place k.stand.alike) Sites
  sites_are = ap (λ (w : WithCommon Place). sites same_place w) k.stand.said ∙ sites_mapped k.place same same_place k.stand.alike k.w

  -- the operand with its number is that of the value
  told_is : (number n : ℕ) (line : Line ℕ) (ops : List NewOperand) (t : Tells f x k number n line ops) → n < length (whole_units k.w.own) → (p : NewOperand) → In p ops → (a : RawAttr)
      → In p.operand (operands_of_attr (scope_of t.beside t.u) a) → (o : Spoken) → o.unit ≡ n → o.operand ≡ p.operand → o.target ≡ at_file number (led_to t.u.at p.operand)
      → told made (start_of made n) p ≡ operand_after f o
  told_is number n line ops t lt p there a own o unit operand target =
      let s = scope_of t.beside t.u in
      let attrs = without_siblings t.row.entry.attrs in
      let named : key_in k.w p.copy ≡ copy_for same (source_places same k.w) n (t.to (target_of s p.operand)) =
      copy_named s t.places_own (key_in k.w) (copy_for same (source_places same k.w) n) t.to ops (operands_of_attrs s attrs) t.are t.lead p there in
      let within : In (target_of s p.operand) (all_places t.raw) =
      leads_in s t.raw t.all (λ m is. unit_place t.raw t.u m t.there is) a p.operand own in
      let placed : o.target ≡ k.place (t.to (target_of s p.operand)) =
      target ∙ ap (at_file number) (sym (target_led s p.operand)) ∙ sym (t.at (target_of s p.operand) within) in
      ap (λ (q : Operand). with_number (λ z. slice_index made.places p.copy - base_place (start_of made n) q.base) q) (sym operand)
      ∙ ap (λ (m : ℕ). with_number (λ z. m) o.operand) (number_stands f x k made l n p.copy (t.to (target_of s p.operand)) o lt named unit placed)

  -- each operand that is told is one of a value
  to_spoken : (number n i : ℕ) (line : Line ℕ) (ops : List NewOperand) (t : Tells f x k number n line ops) → In (n, i) (plan_sources x.sources.now.ranges 0 x.sources.now.units)
      → slice_get (all_lines k.w) i ≡ Some line → (p : NewOperand) → In p ops → In (told made (start_of made n) p) (map (operand_after f) (spoken_in f number))
  to_spoken number n i line ops t planned found p there =
      let s = scope_of t.beside t.u in
      let big = scope_of (around f number) t.u in
      let attrs = without_siblings t.row.entry.attrs in
      let mine : In p.operand (operands_of_attrs s attrs) =
      subst (λ (os : List Operand). In p.operand os) t.are (in_map (λ (q : NewOperand). q.operand) p ops there) in
      let r = attrs_from s attrs p.operand mine in
      let index = r.0 in
      let a = r.1 in
      let low : index < length line.node.attrs = omega (arith, got_below attrs index a r.2, t.entry.many) in
      let b = got_there line.node.attrs index low in
      let value : Site ℕ = record { unit = n; source = line.node.at; index = index; attr = b.0 } in
      let site = site_map k.place same same_place k.stand.alike value in
      let in_plan : In value Sites = planned_site k.w x.sources.now k.says.are k.says.apart n i index line b.0 planned found b.1 in
      let in_file : In site (sites_of_file f) =
      subst (λ (ss : List (Site Place)). In site ss) (sym sites_are) (in_map (site_map k.place same same_place k.stand.alike) value Sites in_plan) in
      let file : site.source.file ≡ number = ap (λ (q : Place). q.file) t.entry.at in
      let v : StoredAttr = record { scope = big; attr = a } in
      let stored : stored_attr f site.source site.index ≡ Some v = t.entry.stored index ∙ ap (with_scope big) r.2 in
      let own : In p.operand (operands_of_attr big a) = subst (λ (os : List Operand). In p.operand os) (sym (t.alike a)) r.3 in
      let o = spoken_of site v p.operand in
      let spoken : In o (spoken_in f number) = in_site f in_expression number (sites_of_file f) site v p.operand in_file file stored own in
      let is : told made (start_of made n) p ≡ operand_after f o =
      told_is number n line ops t (planned_unit k.w x.sources.now k.says.are k.says.apart n i planned) p there a r.3 o refl refl
      (ap (λ (m : ℕ). at_file m (led_to t.u.at p.operand)) file) in
      subst (λ (q : Operand). In q (map (operand_after f) (spoken_in f number))) (sym is) (in_map (operand_after f) o (spoken_in f number) spoken)

  -- and each of a value is told
  from_spoken : (number n : ℕ) (line : Line ℕ) (ops : List NewOperand) (t : Tells f x k number n line ops) → n < length (whole_units k.w.own) → (file : ℕ) (o : Spoken)
      (h : OfSite f in_expression file (sites_of_file f) o) → h.site.unit ≡ n → h.site.source ≡ k.place line.node.at
      → (number ≡ file) × In (operand_after f o) (map (told made (start_of made n)) ops)
  from_spoken number n line ops t lt file o h unit source =
      let s = scope_of t.beside t.u in
      let big = scope_of (around f number) t.u in
      let attrs = without_siblings t.row.entry.attrs in
      let same_file : number ≡ file = sym (ap (λ (q : Place). q.file) (source ∙ t.entry.at)) ∙ h.in_file in
      let stored : with_scope big (slice_get attrs h.site.index) ≡ Some h.value =
      sym (ap (λ (q : Place). stored_attr f q h.site.index) source ∙ t.entry.stored h.site.index) ∙ h.stored in
      let w = with_found big (slice_get attrs h.site.index) h.value stored in
      let a = w.0 in
      let own : In h.operand (operands_of_attr big a) =
      subst (λ (v : StoredAttr). In h.operand (operands_of_attr v.scope v.attr)) (sym w.2) h.own in
      let mine : In h.operand (operands_of_attr s a) = subst (λ (os : List Operand). In h.operand os) (t.alike a) own in
      let p = operand_for s t.places_own (key_in k.w) (copy_for same (source_places same k.w) n) t.to ops (operands_of_attrs s attrs) t.are t.lead h.operand
      (attrs_in s attrs h.site.index a h.operand w.1 mine) in
      let operand : o.operand ≡ p.0.operand = sym (ap (λ (q : Spoken). q.operand) h.is) ∙ sym p.2 in
      let target : o.target ≡ at_file number (led_to t.u.at p.0.operand) =
      sym (ap (λ (q : Spoken). q.target) h.is)
      ∙ (λ j. at_file ((h.in_file ∙ sym same_file) j) (led_to (sym w.2 j).scope.unit h.operand))
      ∙ ap (λ (q : Operand). at_file number (led_to t.u.at q)) (sym p.2) in
      let is : told made (start_of made n) p.0 ≡ operand_after f o =
      told_is number n line ops t lt p.0 p.1 a (subst (λ (q : Operand). In q (operands_of_attr s a)) (sym p.2) mine) o (sym (ap (λ (q : Spoken). q.unit) h.is) ∙ unit) operand target in
      (same_file, subst (λ (q : Operand). In q (map (told made (start_of made n)) ops)) is (in_map (told made (start_of made n)) p.0 ops p.1))

  -- ---- all of them

  module _ (given : List Noted) (noted : AreNoted x given) where
    abbrev Plan : List (ℕ × ℕ)
    Plan = plan_sources x.sources.now.ranges 0 x.sources.now.units

    -- the common file is there, where an entry is not of the file
    common_there : (i : ℕ) (line : Line ℕ) → slice_get (all_lines k.w) i ≡ Some line → entries_in (raw_in x.own) ≤ i → (o : Option SourceFile) → x.common ≡ o
        → (c : SourceFile) × (x.common ≡ Some c)
    common_there i line found le None is =
        let d = node_there k.w i line found in
        let low = got_below (all_entries k.w) i d.0 d.1 in
        let many = all_many x k.w (stands_of f k.place) k.says in
        let none : common_count x.common ≡ 0 = ap (λ (o : Option SourceFile). common_count o) is in
        absurd (omega (arith, low, many, none, le))
    common_there i line found le (Some c) is = (c, is)

    own_noted : (n i : ℕ) (s : Noted) (line : Line ℕ) → IsNoted (Says x) x.own x.common n i s → slice_get (all_lines k.w) i ≡ Some line → s.common ≡ false → Tells f x k 0 n line s.operands
    own_noted n i s line h found not_common =
        let lt : i < entries_in (raw_in x.own) =
        elim (cases_lt i (entries_in (raw_in x.own))) [ inl less ↦ less | inr le ↦ absurd (let was : s.common ≡ true = h.of_common.1 le in let z : true ≡ false = sym was ∙ not_common in cc) ] in
        own_tells f x k n i line found s.operands lt ((h.speaks k.w (stands_of f k.place) line k.says found).own lt)

    common_noted : (n i : ℕ) (s : Noted) (line : Line ℕ) → IsNoted (Says x) x.own x.common n i s → slice_get (all_lines k.w) i ≡ Some line → s.common ≡ true → Tells f x k 1 n line s.operands
    common_noted n i s line h found is_common =
        let le = h.of_common.0 is_common in
        let c = common_there i line found le x.common refl in
        common_tells f x k n i line found s.operands c.0 c.1 le ((h.speaks k.w (stands_of f k.place) line k.says found).common c.0 c.1 le)

    abbrev Number : Bool → ℕ
    Number true = 1
    Number false = 0

    noted_tells : (n i : ℕ) (s : Noted) (line : Line ℕ) → IsNoted (Says x) x.own x.common n i s → slice_get (all_lines k.w) i ≡ Some line → (b : Bool) → s.common ≡ b
        → Tells f x k (Number b) n line s.operands
    noted_tells n i s line h found true is = common_noted n i s line h found is
    noted_tells n i s line h found false is = own_noted n i s line h found is

    -- of an entry that was told
    given_spoken : (s : Noted) → In s given → (b : Bool) → s.common ≡ b → (o : Operand) → In o (told_of made s) → In o (map (operand_after f) (spoken_in f (Number b)))
    given_spoken s there b is o own =
        let t = two_back (IsNotedAt x) Plan given s noted there in
        let n = t.0.0 in
        let i = t.0.1 in
        let line = planned_line k.w x.sources.now k.says.are k.says.apart n i t.1 in
        let tells = noted_tells n i s line.0 t.2 line.1 b is in
        let m = in_map_from (told made (start_of made s.unit)) o s.operands own in
        let one : told made (start_of made n) m.source ≡ o = ap (λ (u : ℕ). told made (start_of made u) m.source) (sym t.2.in_unit) ∙ m.is in
        subst (λ (q : Operand). In q (map (operand_after f) (spoken_in f (Number b)))) one (to_spoken (Number b) n i line.0 s.operands tells t.1 line.1 m.source m.there)

    -- of a value
    spoken_given : (file : ℕ) (o : Spoken) → In o (spoken_in f file) → (s : Noted) × In s given × (Number s.common ≡ file) × In (operand_after f o) (told_of made s)
    spoken_given file o there =
        let h = from_site f in_expression file (sites_of_file f) o there in
        let m = in_map_from (site_map k.place same same_place k.stand.alike) h.site Sites (subst (λ (ss : List (Site Place)). In h.site ss) sites_are h.there) in
        let p = site_planned k.w x.sources.now k.says.are k.says.apart m.source m.there in
        let n = m.source.unit in
        let i = p.source in
        let g = two_in (IsNotedAt x) Plan given (n, i) noted p.planned in
        let s = g.0 in
        let tells = noted_tells n i s p.line_of g.2 p.found s.common refl in
        let unit : h.site.unit ≡ n = sym (ap (λ (t : Site Place). t.unit) m.is) in
        let source : h.site.source ≡ k.place p.line_of.node.at = sym (ap (λ (t : Site Place). t.source) m.is) ∙ ap k.place p.at in
        let r = from_spoken (Number s.common) n p.line_of s.operands tells (planned_unit k.w x.sources.now k.says.are k.says.apart n i p.planned) file o h unit source in
        (s, g.1, r.0, subst (λ (u : ℕ). In (operand_after f o) (map (told made (start_of made u)) s.operands)) (sym g.2.in_unit) r.1)

    -- ---- in the file, and in the common one

    own_from : (o : Operand) → In o (own_told made given) → In o (map (operand_after f) (spoken_in f 0))
    own_from o there =
        let t = flat_from (λ (s : Noted). if s.common then [] else told_of made s) given o there in
        by t.0 t.1 t.0.common refl t.2 where
          by : (s : Noted) → In s given → (b : Bool) → s.common ≡ b → In o (if b then [] else told_of made s) → In o (map (operand_after f) (spoken_in f 0))
          by s in_given true is none = absurd none
          by s in_given false is own = given_spoken s in_given false is o own

    own_into : (o : Operand) → In o (map (operand_after f) (spoken_in f 0)) → In o (own_told made given)
    own_into o there =
        let m = in_map_from (operand_after f) o (spoken_in f 0) there in
        let g = spoken_given 0 m.source m.there in
        in_flat (λ (s : Noted). if s.common then [] else told_of made s) given g.0 o g.1 (by g.0 g.0.common refl g.2 (subst (λ (q : Operand). In q (told_of made g.0)) m.is g.3)) where
          by : (s : Noted) (b : Bool) → s.common ≡ b → Number b ≡ 0 → In o (told_of made s) → In o (if b then [] else told_of made s)
          by s true is one own = absurd (omega (arith, one))
          by s false is none own = own

    common_from : (o : Operand) → In o (common_told made given) → In o (map (operand_after f) (spoken_in f 1))
    common_from o there =
        let t = flat_from (λ (s : Noted). if s.common then told_of made s else []) given o there in
        by t.0 t.1 t.0.common refl t.2 where
          by : (s : Noted) → In s given → (b : Bool) → s.common ≡ b → In o (if b then told_of made s else []) → In o (map (operand_after f) (spoken_in f 1))
          by s in_given true is own = given_spoken s in_given true is o own
          by s in_given false is none = absurd none

    common_into : (o : Operand) → In o (map (operand_after f) (spoken_in f 1)) → In o (common_told made given)
    common_into o there =
        let m = in_map_from (operand_after f) o (spoken_in f 1) there in
        let g = spoken_given 1 m.source m.there in
        in_flat (λ (s : Noted). if s.common then told_of made s else []) given g.0 o g.1 (by g.0 g.0.common refl g.2 (subst (λ (q : Operand). In q (told_of made g.0)) m.is g.3)) where
          by : (s : Noted) (b : Bool) → s.common ≡ b → Number b ≡ 1 → In o (told_of made s) → In o (if b then told_of made s else [])
          by s true is one own = own
          by s false is none own = absurd (omega (arith, none))

    pub first_of : (places : CopiedPlaces) → AreFirst made given places → AreFirstOf f places
    first_of places first = record {
      own = members_first (own_told made given) (map (operand_after f) (spoken_in f 0)) own_from own_into places.own first.own;
      common = members_first (common_told made given) (map (operand_after f) (spoken_in f 1)) common_from common_into places.common first.common;
    }
