-- Each value of a new unit has room for its operands, where none is too narrow.
use Rattle.std.proofs.Common.{◌≡◌, ◌⊎◌, ℕ, zero, suc, ◌+◌, ◌-◌, Bool, true, false, List, [], ◌∷◌, map, get_or, Some, None, Ok, refl, sym, ap, subst, ◌∙◌, arith, inl, inr}
use Rattle.dwz_def_reading.specs.Fault.{Fault}
use Rattle.dwz_def_reading.specs.Lists.{Each, In, Nth}
use Rattle.dwz_def_reading.proofs.ListFacts.{in_map}
use Rattle.dwz_def_reading.proofs.Members.{each_of, nth_from}
use Rattle.dwz_def_reading.specs.Classes.{Class, OfExpression, OfListIndex, OfOffset, class_of, names_list}
use Rattle.dwz_def_reading.specs.Documents.{Attr, DwUnit, Expr, Loc, Node, Plain, Value}
use Rattle.dwz_def_reading.specs.Exprs.{expr_at, parts_of}
use Rattle.dwz_def_reading.specs.Meanings.{IsExpression, MeaningContext, MeansAs, block_begins, bytes_of, expr_context, loc_value, offset_of, target_of, targets}
use Rattle.dwz_def_reading.specs.NamedLists.{NamesAs, NamesList, list_of_attr}
use Rattle.dwz_def_reading.specs.Places.{Place, at_file}
use Rattle.dwz_def_reading.specs.Shared.{ListOperand, NamedList, of_unit, operands_in_lists, own_operands}
use Rattle.dwz_def_reading.specs.Units.{root_tag}
use Rattle.dwz_def_reading.specs.declared.exprs.Operand.{Operand}
use Rattle.dwz_def_reading.proofs.DecideLemmas.{if_false, if_true}
use Rattle.dwz_def_reading.proofs.ExprLemmas.{expr_agrees}
use Rattle.dwz_def_reading.proofs.NamedLemmas.{attr_is}
use Rattle.dwz_def_reading.proofs.PassLemmas.{own_in}
use Rattle.dwz_def_encoding.specs.Fitting.{FitsWidth, HasRoom, HasRoomAs, PlainHasRoom}
use Rattle.dwz_def_encoding.specs.Meant.{led_to}
use Rattle.dwz_def_encoding.specs.Writing.{Numbering, base_place}
use Rattle.dwz_def_output.specs.Refusals.{operands_as, operands_of_attr, operands_read}
use Rattle.dwz_def_expand.specs.Chosen.{chosen_attr}
use Rattle.dwz_def_expand.specs.OneFile.{OneFile, ReadsOne, said_by_file, same_place, stored_attr}
use Rattle.dwz_def_expand.specs.Output.{FirstTooNarrow, Spoken, forms, in_expression, in_list, in_lists, new_places, new_start, number_of_operand, sites_of_file, sources_by_file, spoken_in, wholes}
use Rattle.dwz_def_expand.specs.Refusals.{AllCopied, nodes}
use Rattle.dwz_def_expand.specs.Source.{Copy, copy, copy_for, source_units}
use Rattle.dwz_def_expand.proofs.FileLemmas.{test}
use Rattle.dwz_law_expand.specs.Told.{IsOfBytes}
use Rattle.dwz_law_expand.proofs.CopyLemmas.{new_at}
use Rattle.dwz_law_expand.proofs.FoundLemmas.{AttrSaid, found_attr}
use Rattle.dwz_law_expand.proofs.HeldLemmas.{IsFree}
use Rattle.dwz_law_expand.proofs.ListLemmas.{leads_same}
use Rattle.dwz_law_expand.proofs.OriginLemmas.{Origin, apart, new, source_at, w}
use Rattle.dwz_law_expand.proofs.RoomLemmas.{HasIts, all_fit, chosen_room, expr_room, exprs_room, spoken_site}
use Rattle.dwz_law_expand.proofs.SaysLemmas.{b, class_old, g, no_list, s, site_there, value_as, x}
use Rattle.dwz_law_expand.proofs.SiteLemmas.{site}

pub nth_or : {X Y : Type 0} (h : X → Y) (s : ℕ) (xs : List X) (n k : ℕ) (y : X) (d : Y) → Nth s xs n y → n ≡ s + k → get_or (map h xs) k d ≡ h y
nth_or h s [] n k y d nth e = absurd nth
nth_or h s (x ∷ xs) n zero y d (inl q) e = ap h q.1
nth_or h s (x ∷ xs) n (suc k) y d (inl q) e = absurd (let same = q.0 in omega (arith, same, e))
nth_or h s (x ∷ xs) n zero y d (inr q) e = absurd (let high = nth_from (suc s) xs n y q in omega (arith, high, e))
nth_or h s (x ∷ xs) n (suc k) y d (inr q) e = nth_or h (suc s) xs n k y d q (omega (arith, e))

-- no operand of a value, nor of a list, is the first that is too narrow
pub record NoneNarrow (f : OneFile) : Type 0 where
  pub own : (y : Fault) → ¬ FirstTooNarrow f 1 (spoken_in f 0) y
  pub common : (y : Fault) → ¬ FirstTooNarrow f 1 (spoken_in f 1) y
  pub lists : (y : Fault) → ¬ FirstTooNarrow f 7 (in_lists f) y

module _ (f : OneFile) (reads : ReadsOne f) (bytes : IsOfBytes f) (copied : AllCopied same_place (forms f) (said_by_file f)) (none : NoneNarrow f) (n : ℕ) (su : DwUnit Place)
    (nth : Nth 0 (source_units same_place (said_by_file f)) n su) where
  abbrev pub numbers : Numbering (Copy Place)
  numbers = new_places f

  abbrev pub unit : ℕ
  unit = (new_places f).place (new f reads bytes n su).at

  pub start_is : new_start f n ≡ unit
  start_is =
      let at = source_at f reads bytes n su nth in
      let first : get_or (map (λ u. u.at) (wholes f)) n (at_file 0 0) ≡ su.at =
      nth_or (λ (u : DwUnit Place). u.at) 0 (wholes f) n n at.unit (at_file 0 0) at.whole_nth (omega arith) ∙ ap (λ (u : DwUnit Place). u.at) at.is in
      ap (λ (p : Place). (new_places f).place (copy n p)) first ∙ sym (ap (new_places f).place (new_at same_place test (w f reads bytes) (apart f reads bytes) (forms f) n su nth))

  module _ (d : Node Place) (is_source : In d (su.root ∷ nodes su.below)) (origin : Origin f reads bytes n su d) (i : ℕ) (a : Attr Place) (attr_nth : Nth 0 d.attrs i a) where
    abbrev scope : MeaningContext Place
    scope = s f reads bytes copied n su nth d is_source origin i a attr_nth

    abbrev to : Place → Copy Place
    to = g f reads bytes copied n su nth d is_source origin i a attr_nth

    abbrev said : AttrSaid (s f reads bytes copied n su nth d is_source origin i a attr_nth) (IsFree (root_tag origin.raw.kind) origin.root) origin.node.raw i a
    said = x f reads bytes copied n su nth d is_source origin i a attr_nth

    abbrev written : Attr (Copy Place)
    written = b f reads bytes copied n su nth d is_source origin i a attr_nth

    abbrev key : Operand → Copy Place
    key o = to (scope.around.place (target_of scope o))

    at_is : d.at ≡ at_file origin.number origin.node.raw.at
    at_is = origin.node.means.place ∙ ap (λ (h : ℕ → Place). h origin.node.raw.at) origin.said.place

    file_is : d.at.file ≡ origin.number
    file_is = ap (λ (p : Place). p.file) at_is

    target_is : (o : Operand) → at_file d.at.file (led_to scope.unit o) ≡ scope.around.place (target_of scope o)
    target_is o =
        ap (λ (k : ℕ). at_file k (led_to scope.unit o)) file_is ∙ ap (at_file origin.number) (sym (leads_same scope o.base o.number)) ∙ sym (ap (λ (h : ℕ → Place). h (target_of scope o)) origin.said.place)

    abbrev spoken : Operand → Spoken
    spoken o = record { unit = n; operand = o; target = at_file d.at.file (led_to scope.unit o) }

    number_is : (o : Operand) → number_of_operand f (spoken o) ≡ numbers.place (key o) - base_place unit o.base
    number_is o =
        ap (λ (p : Place). numbers.place (copy_for same_place (sources_by_file f) n p) - base_place (new_start f n) o.base) (target_is o)
        ∙ ap (λ (u : ℕ). numbers.place (key o) - base_place u o.base) start_is

    has_its : (o : Operand) → FitsWidth o.uleb o.width (number_of_operand f (spoken o)) → HasIts numbers unit key o
    has_its o fits = subst (FitsWidth o.uleb o.width) (number_is o) fits

    fused : (os : List Operand) → map to (targets scope os) ≡ map key os
    fused [] = refl
    fused (o ∷ os) = ap (λ (ks : List (Copy Place)). key o ∷ ks) (fused os)

    found : stored_attr f d.at i ≡ Some (record { scope = scope; attr = said.old })
    found = found_attr f reads origin.number origin.raw origin.unit origin.said (IsFree (root_tag origin.raw.kind) origin.root) d origin.node i a said

    there : In (site n d.at i a) (sites_of_file f)
    there = site_there f reads bytes copied n su nth d is_source origin i a attr_nth

    -- ---- expressions

    spoken_fits : (o : Operand) → In o (operands_of_attr scope said.old) → FitsWidth o.uleb o.width (number_of_operand f (spoken o))
    spoken_fits o member = by origin.known where
      by : (origin.number ≡ 0) ⊎ (origin.number ≡ 1) → FitsWidth o.uleb o.width (number_of_operand f (spoken o))
      by (inl e) = all_fit f 1 (spoken_in f 0) none.own (spoken o) (spoken_site f in_expression 0 (sites_of_file f) (site n d.at i a) there (file_is ∙ e) (record { scope = scope; attr = said.old }) found o member)
      by (inr e) = all_fit f 1 (spoken_in f 1) none.common (spoken o) (spoken_site f in_expression 1 (sites_of_file f) (site n d.at i a) there (file_is ∙ e) (record { scope = scope; attr = said.old }) found o member)

    value : (k : Class) → class_of a.form ≡ k → MeansAs k scope said.old a.value
    value = value_as f reads bytes copied n su nth d is_source origin i a attr_nth

    operands_are : (e : class_of a.form ≡ OfExpression) (m : IsExpression scope said.old a.value) → operands_of_attr scope said.old ≡ m.expression.operands
    unfolding operands_of_attr
    operands_are e m =
        let class : class_of said.old.pair.form ≡ OfExpression = class_old f reads bytes copied n su nth d is_source origin i a attr_nth ∙ e in
        let read : expr_at (expr_context scope 1) (record { at = block_begins said.old; rest = bytes_of said.old.raw }) ≡ Ok m.expression =
        ((expr_agrees (expr_context scope 1) (record { at = block_begins said.old; rest = bytes_of said.old.raw })).ok m.expression).1 m.spelled in
        ap (λ (k : Class). operands_as k scope said.old) class ∙ ap operands_read read

    expression_room : class_of a.form ≡ OfExpression → PlainHasRoom numbers unit written.value.plain written.value.refs
    expression_room e =
        let m = value OfExpression e in
        let plain : a.value.plain ≡ Expr (parts_of m.expression) = ap (λ (v : Value Place). v.plain) m.value in
        let refs : a.value.refs ≡ targets scope m.expression.operands = ap (λ (v : Value Place). v.refs) m.value in
        let fit : Each (HasIts numbers unit key) m.expression.operands =
        each_of (HasIts numbers unit key) m.expression.operands (λ o member. has_its o (spoken_fits o (subst (λ (os : List Operand). In o os) (sym (operands_are e m)) member))) in
        subst (λ (p : Plain). PlainHasRoom numbers unit p (map to a.value.refs)) (sym plain)
        (subst (λ (ks : List (Copy Place)). PlainHasRoom numbers unit (Expr (parts_of m.expression)) ks) (sym (ap (map to) refs ∙ fused m.expression.operands))
        (expr_room numbers unit key m.expression.operands m.expression.at m.expression.bytes fit))

    -- ---- location lists

    list_fits : origin.number ≡ 0 → (l : NamedList) → NamesList scope said.old l → (o : Operand) → In o (own_operands l) → FitsWidth o.uleb o.width (number_of_operand f (spoken o))
    list_fits e l names o member =
        let listed : In l (list_of_attr scope said.old) = (attr_is scope said.old l).1 names in
        let in_it : In o (in_list (record { scope = scope; attr = said.old })) =
        in_map (λ (p : ListOperand). p.operand) (of_unit l.unit o) (operands_in_lists (list_of_attr scope said.old)) (own_in l o (list_of_attr scope said.old) listed member) in
        all_fit f 7 (in_lists f) none.lists (spoken o) (spoken_site f in_list 0 (sites_of_file f) (site n d.at i a) there (file_is ∙ e) (record { scope = scope; attr = said.old }) found o in_it)

    list_room : origin.number ≡ 0 → (l : NamedList) → NamesList scope said.old l → a.value ≡ loc_value scope l.list → PlainHasRoom numbers unit written.value.plain written.value.refs
    list_room e l names is =
        let refs : a.value.refs ≡ targets scope (own_operands l) = ap (λ (v : Value Place). v.refs) is in
        let fit : Each (HasIts numbers unit key) (own_operands l) = each_of (HasIts numbers unit key) (own_operands l) (λ o member. has_its o (list_fits e l names o member)) in
        subst (λ (p : Plain). PlainHasRoom numbers unit p (map to a.value.refs)) (sym (ap (λ (v : Value Place). v.plain) is))
        (subst (λ (ks : List (Copy Place)). PlainHasRoom numbers unit (Loc (map parts_of l.list.exprs)) ks) (sym (ap (map to) refs ∙ fused (own_operands l)))
        (exprs_room numbers unit key l.list.exprs fit))

    abbrev IsListed : Type 0
    IsListed = ((class_of a.form ≡ OfOffset) × (names_list a.name ≡ true)) ⊎ (class_of a.form ≡ OfListIndex)

    names_as : (q : Class) → class_of a.form ≡ q → (l : NamedList) → NamesAs q scope said.old l → NamesList scope said.old l
    names_as q e l h = subst (λ (r : Class). NamesAs r scope said.old l) (sym (class_old f reads bytes copied n su nth d is_source origin i a attr_nth ∙ e)) h

    own_list : IsListed → origin.number ≡ 0
    own_list k = elim origin.lists [ inl is ↦ is.0 | inr is ↦ absurd (no_list f reads bytes copied n su nth d is_source origin i a attr_nth is k) ]

    old_name : names_list said.old.pair.name ≡ names_list a.name
    old_name = ap names_list (sym said.means.name)

    offset_room : class_of a.form ≡ OfOffset → (q : Bool) → names_list a.name ≡ q → PlainHasRoom numbers unit written.value.plain written.value.refs
    offset_room e true name =
        let m = if_true (names_list said.old.pair.name) _ _ (old_name ∙ name) (value OfOffset e) in
        let l : NamedList = record { unit = scope.unit; from = offset_of said.old; slot = None; list = m.list } in
        list_room (own_list (inl (e, name))) l (names_as OfOffset e l (old_name ∙ name, record { unit = refl; from = refl; slot_is = refl; within = m.within; stands = m.stands })) m.value
    offset_room e false name =
        let m = if_false (names_list said.old.pair.name) _ _ (old_name ∙ name) (value OfOffset e) in
        subst (λ (p : Plain). PlainHasRoom numbers unit p written.value.refs) (sym (ap (λ (v : Value Place). v.plain) m)) tt

    index_room : class_of a.form ≡ OfListIndex → PlainHasRoom numbers unit written.value.plain written.value.refs
    index_room e =
        let m = value OfListIndex e in
        let l : NamedList = record { unit = scope.unit; from = m.base + m.offset; slot = Some _; list = m.list.list } in
        list_room (own_list (inr e)) l
        (names_as OfListIndex e l
        (record { base = m.base; is_base = m.is_base; offset = m.offset; slot = m.slot; named = record { unit = refl; from = refl; slot_is = refl; within = m.list.within; stands = m.list.stands } })) m.list.value

    room_as : (k : Class) → class_of a.form ≡ k → HasRoomAs k numbers unit written
    room_as OfExpression e = expression_room e
    room_as OfOffset e = offset_room e (names_list a.name) refl
    room_as OfListIndex e = index_room e
    room_as _ e = tt

    pub attr_room : HasRoom numbers unit (chosen_attr (forms f) (copy n d.at) written)
    attr_room = chosen_room (forms f) n d.at written numbers unit (class_of a.form) refl (room_as (class_of a.form) refl)
