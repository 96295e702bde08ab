-- A location list whose operands have new numbers means the same expressions, with the entries that these name.
use Rattle.std.proofs.Common.{◌≡◌, ℕ, ◌-◌, ◌<◌, Bool, true, List, [], ◌∷◌, ◌++◌, map, refl, sym, ap, subst, ◌∙◌, arith, inl, inr}
use Rattle.std.proofs.lemmas.List.{map-append}
use Rattle.dwz_def_reading.specs.Spelling.{reach}
use Rattle.dwz_def_reading.specs.Entries.{RawAttr}
use Rattle.dwz_def_reading.specs.Lists.{Each, In}
use Rattle.dwz_def_reading.specs.Rows.{has}
use Rattle.dwz_def_reading.proofs.ListFacts.{in_map}
use Rattle.dwz_def_reading.specs.Base.{Base}
use Rattle.dwz_def_reading.specs.Base.TheVariants.{Unit as FromUnit, Info as FromInfo}
use Rattle.dwz_def_reading.specs.declared.exprs.Operand.{Operand}
use Rattle.dwz_def_reading.specs.Documents.{Attr, Loc, Part, Plain, value_map}
use Rattle.dwz_def_reading.specs.Exprs.{AreNamed, Expression, parts_from, parts_of}
use Rattle.dwz_def_reading.specs.Meanings.{MeaningContext, MeansValue, any_with_address, entries_for, expr_context, leads_to, number_of, targets}
use Rattle.dwz_def_reading.specs.Classes.{OfListIndex, OfOffset, Class, class_of}
use Rattle.dwz_def_reading.specs.NamedLists.{NamesAs, NamesList}
use Rattle.dwz_def_reading.specs.Patching.{AllFit, FitsIn}
use Rattle.dwz_def_reading.specs.PatchedLists.{CanHave, IsPatched, NamesAlike, list_value, named_with, with_number}
use Rattle.dwz_def_reading.specs.Shared.{NamedList, operands_of, own_operands}
use Rattle.dwz_def_reading.proofs.NamedAgain.{names_again}
use Rattle.dwz_def_tops.specs.Alike.{joined_parts}
use Rattle.dwz_def_tops.proofs.Members.{each_append}
use Rattle.dwz_def_reading.proofs.HasLemmas.{in_has}
use Rattle.dwz_def_encoding.specs.Fitting.{ListFits, OperandsFit}
use Rattle.dwz_def_encoding.specs.Meant.{ListSays, OperandIn, OperandsIn, Own, Tells, led_to}
use Rattle.dwz_def_encoding.specs.Writing.{Numbering, base_place}
use Rattle.dwz_def_encoding.proofs.ScopeIs.{IsScope}

-- ---- of the parts of expressions, their operands

module _ {K : Type 0} (n : Numbering K) (unit : ℕ) (t : Tells K) (own : Own K) (h : Operand → K) where
  abbrev Fits : Operand → Type 0
  Fits o = (0 < n.place (h o) - base_place unit o.base) × FitsIn o.uleb o.width (n.place (h o) - base_place unit o.base)

  abbrev Stands : Operand → Type 0
  Stands o = OperandIn t own o.base (h o)

  one_fits : (os : List Operand) (at : ℕ) (bytes : List ℕ) (rest : List Part) (refs : List K) → OperandsFit n unit (parts_from at bytes os ++ rest) (map h os ++ refs) → Each Fits os
      × OperandsFit n unit rest refs
  unfolding parts_from
  one_fits [] at bytes rest refs x = (tt, x)
  one_fits (o ∷ os) at bytes rest refs x = (let r = one_fits os _ _ rest refs x.2 in (((x.0, x.1), r.0), r.1))

  one_stands : (os : List Operand) (at : ℕ) (bytes : List ℕ) (rest : List Part) (refs : List K) → OperandsIn t own (parts_from at bytes os ++ rest) (map h os ++ refs) → Each Stands os
      × OperandsIn t own rest refs
  unfolding parts_from
  one_stands [] at bytes rest refs x = (tt, x)
  one_stands (o ∷ os) at bytes rest refs x = (let r = one_stands os _ _ rest refs x.1 in ((x.0, r.0), r.1))

  all_fit : (exprs : List Expression) → OperandsFit n unit (joined_parts (map parts_of exprs)) (map h (operands_of exprs)) → Each Fits (operands_of exprs)
  unfolding joined_parts operands_of
  all_fit [] x = tt
  all_fit (e ∷ exprs) x =
      let both = one_fits e.operands e.at e.bytes (joined_parts (map parts_of exprs)) (map h (operands_of exprs))
      (subst (OperandsFit n unit (joined_parts (map parts_of (e ∷ exprs)))) (map-append h e.operands (operands_of exprs)) x) in
      each_append Fits e.operands (operands_of exprs) both.0 (all_fit exprs both.1)

  all_stand : (exprs : List Expression) → OperandsIn t own (joined_parts (map parts_of exprs)) (map h (operands_of exprs)) → Each Stands (operands_of exprs)
  unfolding joined_parts operands_of
  all_stand [] x = tt
  all_stand (e ∷ exprs) x =
      let both = one_stands e.operands e.at e.bytes (joined_parts (map parts_of exprs)) (map h (operands_of exprs))
      (subst (OperandsIn t own (joined_parts (map parts_of (e ∷ exprs)))) (map-append h e.operands (operands_of exprs)) x) in
      each_append Stands e.operands (operands_of exprs) both.0 (all_stand exprs both.1)

-- ---- where the unit is read

names_unit : (s : MeaningContext ℕ) (a : RawAttr) (l : NamedList) → NamesList s a l → l.unit ≡ s.unit
names_unit s a l h = by (class_of a.pair.form) h where
  by : (c : Class) → NamesAs c s a l → l.unit ≡ s.unit
  by OfOffset h = h.1.unit
  by OfListIndex h = h.named.unit
  by _ h = absurd h

module _ {K P : Type 0} (n : Numbering K) (g : K → P) (unit : ℕ) (t : Tells K) (own : Own K) (s : MeaningContext P) (is : IsScope n g unit t own s) (a : Attr K) (says : ListSays t own a) where
  abbrev l : NamedList
  l = says.list

  abbrev number : ℕ → ℕ
  number = is.lists.number

  abbrev key : Operand → K
  key o = t.name l.unit (led_to l.unit o)

  -- the number leads to what is named
  record Leads (o : Operand) : Type 0 where
    fits : FitsIn o.uleb o.width (number o.at)
    leads : leads_to s o.base (number o.at) ≡ n.place (key o)
    there : has (leads_to s o.base (number o.at)) (entries_for s o.base) ≡ true
    place : s.around.place (n.place (key o)) ≡ g (key o)

  number_is : (o : Operand) → In o (own_operands l) → number o.at ≡ n.place (key o) - base_place unit o.base
  number_is o there =
      let of = ap (λ (u : ℕ). t.name u u) (names_unit says.scope says.old l says.names) ∙ says.unit in
      is.lists.are l says.there o there ∙ ap (λ (u : ℕ). n.place (key o) - base_place u o.base) (ap n.place of ∙ is.own_at)

  lead_by : (base : Base) (k : K) (number : ℕ) → number ≡ n.place k - base_place unit base → 0 < n.place k - base_place unit base → leads_to s base number ≡ n.place k
  lead_by FromUnit k number e above = omega (arith, e, above, is.unit)
  lead_by FromInfo k number e above = omega (arith, e, above)

  there_by : (base : Base) (k : K) → OperandIn t own base k → has (n.place k) (entries_for s base) ≡ true
  there_by FromUnit k there = in_has (n.place k) s.own (subst (In (n.place k)) (sym is.own_are) (in_map n.place k own.keys there))
  there_by FromInfo k there = in_has (n.place k) s.around.all (subst (In (n.place k)) (sym is.all_are) (in_map n.place k t.all there))

  place_by : (base : Base) (k : K) → OperandIn t own base k → s.around.place (n.place k) ≡ g k
  place_by FromUnit k there = is.place_own k there
  place_by FromInfo k there = is.place_all k there

  leads_of : (o : Operand) → In o (own_operands l) → Fits n unit t own key o → Stands n unit t own key o → Leads o
  leads_of o o_in fits stands =
      let e = number_is o o_in in
      let leads = lead_by o.base (key o) (number o.at) e fits.0 in
      record {
        fits = subst (FitsIn o.uleb o.width) (sym e) fits.1;
        leads = leads;
        there = subst (λ (p : ℕ). has p (entries_for s o.base) ≡ true) (sym leads) (there_by o.base (key o) stands);
        place = place_by o.base (key o) stands;
      }

  all_lead : (os : List Operand) → ((o : Operand) → In o os → In o (own_operands l)) → Each (Fits n unit t own key) os → Each (Stands n unit t own key) os → Each Leads os
  all_lead [] into fits stands = tt
  all_lead (o ∷ os) into fits stands = (leads_of o (into o (inl refl)) fits.0 stands.0, all_lead os (λ p p_in. into p (inr p_in)) fits.1 stands.1)

  fit_in : (os : List Operand) → Each Leads os → AllFit (map (with_number number) os)
  fit_in [] h = tt
  fit_in (o ∷ os) h = (h.0.fits, fit_in os h.1)

  named_in : (os : List Operand) → Each Leads os → AreNamed (expr_context s 7).names (map (with_number number) os)
  named_in [] h = tt
  named_in (o ∷ os) h = (h.0.there, named_in os h.1)

  same_refs : (os : List Operand) → Each Leads os → targets s (map (with_number number) os) ≡ map g (map key os)
  same_refs [] h = refl
  same_refs (o ∷ os) h =
      ap (λ (p : P). p ∷ targets s (map (with_number number) os)) (ap s.around.place h.0.leads ∙ h.0.place) ∙ ap (λ (w : List P). g (key o) ∷ w) (same_refs os h.1)

  -- the list with its new numbers, as one of this unit
  abbrev pub again : NamedList
  again = named_with (λ u. s.unit) number l

  -- an attribute that stores the same number names it, and means that
  both : ListFits n unit a.value.plain a.value.refs → (b : RawAttr) → b.pair.form ≡ a.form → b.pair.name ≡ a.name → number_of b.raw ≡ a.raw → NamesList s b again × MeansValue s b (value_map g a.value)
  both fits b form name raw =
      let exprs = l.list.exprs in
      let fits' = subst (OperandsFit n unit (joined_parts (map parts_of exprs))) says.refs (subst (λ (p : Plain). ListFits n unit p a.value.refs) says.plain fits) in
      let stands = subst (OperandsIn t own (joined_parts (map parts_of exprs))) says.refs says.operands in
      let lead = all_lead (own_operands l) (λ o o_in. o_in) (all_fit n unit t own key exprs fits') (all_stand n unit t own key exprs stands) in
      let alike : NamesAlike says.scope s says.old b = record { form = form ∙ sym says.form; name = name ∙ sym says.name; offset = ap reach (raw ∙ sym says.raw); base = is.lists_base ∙ sym says.base }
      in
      let patched = subst (λ (w : List ℕ). IsPatched t.named number w s.around.sources.lists) (sym says.section) is.lists.patched in
      let can : CanHave (expr_context s 7) number l = record { fit = fit_in (own_operands l) lead; named = named_in (own_operands l) lead } in
      let named = names_again t.named number says.scope s says.old b l is.none_shared says.there patched can alike says.names in
      let refs = same_refs (own_operands l) lead ∙ ap (map g) (sym says.refs) in
      let same : list_value s number l ≡ value_map g a.value = ap (λ (w : List P). record { plain = Loc (map parts_of exprs); refs = w; address = any_with_address exprs }) refs
      ∙ ap (λ (p : Plain). record { plain = p; refs = map g a.value.refs; address = any_with_address exprs }) (sym says.plain)
      ∙ ap (λ (b : Bool). record { plain = a.value.plain; refs = map g a.value.refs; address = b }) (sym says.address) in
      (named.0, subst (MeansValue s b) same named.1)

  pub list_means : ListFits n unit a.value.plain a.value.refs → (b : RawAttr) → b.pair.form ≡ a.form → b.pair.name ≡ a.name → number_of b.raw ≡ a.raw → MeansValue s b (value_map g a.value)
  list_means fits b form name raw = (both fits b form name raw).1

  pub list_again : ListFits n unit a.value.plain a.value.refs → (b : RawAttr) → b.pair.form ≡ a.form → b.pair.name ≡ a.name → number_of b.raw ≡ a.raw → NamesList s b again
  list_again fits b form name raw = (both fits b form name raw).0

  pub unit_again : n.place (t.name l.unit l.unit) ≡ s.unit
  unit_again = ap n.place (ap (λ (u : ℕ). t.name u u) (names_unit says.scope says.old l says.names) ∙ says.unit) ∙ is.own_at ∙ sym is.unit
