-- Attributes that named lists name them in the section with other numbers, and the lists share nothing again.
use Rattle.std.proofs.Common.{◌≡◌, ℕ, ◌+◌, ◌<◌, Bool, true, List, [], ◌∷◌, ◌++◌, length, map, Option, Some, None, refl, sym, ap, subst, ◌∙◌, inl, inr, arith}
use Rattle.std.proofs.lemmas.List.{map-append}
use Rattle.dwz_def_reading.specs.Entries.{RawAttr}
use Rattle.dwz_model.specs.Lists.{In}
use Rattle.dwz_def_reading.specs.Texts.{IsSlot, slot_place}
use Rattle.dwz_model.proofs.ListFacts.{in_map as map_in}
use Rattle.dwz_def_reading.specs.declared.exprs.Operand.{Operand}
use Rattle.dwz_def_reading.specs.Documents.{Loc}
use Rattle.dwz_def_reading.specs.LocLists.{SpellsList}
use Rattle.dwz_def_reading.specs.Meanings.{IfSo, IsListBySlot, IsLocList, MeaningContext, MeansAs, MeansValue, expr_context, offset_of, targets}
use Rattle.dwz_def_reading.specs.Classes.{OfListIndex, OfOffset}
use Rattle.dwz_def_reading.specs.Classes.{Class, class_of, names_list}
use Rattle.dwz_def_reading.specs.NamedLists.{IsNamedAt, IsNamedBySlot, NamesAs, NamesList}
use Rattle.dwz_def_reading.specs.PatchedLists.{CanHave, IsPatched, NamesAlike, list_value, list_with, named_with, with_number}
use Rattle.dwz_def_reading.specs.Sequences.{StandsFrom}
use Rattle.dwz_def_reading.specs.Shared.{Clashes, IsInSlot, IsShared, ListOperand, NamedList, NoneShared, ReadsInside, of_unit, operands_in_lists, own_operands}
use Rattle.dwz_def_reading.proofs.PatchedListLemmas.{list_addresses, list_operands, list_parts, list_stands, slot_stays}

module _ {P Q : Type 0} (lists : List NamedList) (number : ℕ → ℕ) (s : MeaningContext P) (d : MeaningContext Q) (a b : RawAttr) (l : NamedList) (none : NoneShared lists) (there : In l lists)
    (patched : IsPatched lists number s.around.sources.lists d.around.sources.lists) (can : CanHave (expr_context d 7) number l) (alike : NamesAlike s d a b) where
  abbrev again : NamedList
  again = named_with (λ unit. d.unit) number l

  at_again : (slot : Option ℕ) (place other : ℕ) → other ≡ place → IsNamedAt s slot place l → IsNamedAt d slot other again × IsLocList d other (list_value d number l)
  at_again slot place other same n =
      let stands : StandsFrom (SpellsList (expr_context s 7)) s.around.sources.lists l.from l.list = subst (λ (p : ℕ). StandsFrom (SpellsList (expr_context s 7)) s.around.sources.lists p l.list)
      (sym n.from) n.stands in
      let new = list_stands lists number s.around.sources.lists d.around.sources.lists none patched (expr_context s 7) (expr_context d 7) l there stands can in
      let from : l.from ≡ other = n.from ∙ sym same in
      let moved : StandsFrom (SpellsList (expr_context d 7)) d.around.sources.lists other (list_with number l.list) =
      subst (λ (p : ℕ). StandsFrom (SpellsList (expr_context d 7)) d.around.sources.lists p (list_with number l.list)) from new in
      let within : other < length d.around.sources.lists = omega (arith, same, n.within, patched.len) in
      let parts = list_parts number (expr_context s 7) l.from stands.front l.list stands.spelled in
      let operands = list_operands number l.list.exprs in
      let addresses = list_addresses number l.list.exprs in (
        record { unit = refl; from = from; slot_is = n.slot_is; within = within; stands = moved },
        record { list = list_with number l.list; within = within; stands = moved; value = λ i. record { plain = Loc (sym parts i); refs = targets d (sym operands i); address = sym addresses i } },
      )

  by_slot : (index other : ℕ) → other ≡ index → IsNamedBySlot s index l → IsNamedBySlot d other again × IsListBySlot d other (list_value d number l)
  by_slot index other same n =
      let slot : Some (slot_place n.base index) ≡ Some (slot_place n.base other) = ap (λ (k : ℕ). Some (slot_place n.base k)) (sym same) in
      let base = alike.base ∙ n.is_base in
      let stays : IsSlot d.around.sources.lists n.base other n.offset =
      subst (λ (k : ℕ). IsSlot d.around.sources.lists n.base k n.offset) (sym same)
      (slot_stays lists number s.around.sources.lists d.around.sources.lists none patched l n.base index n.offset there n.named.slot_is n.slot) in
      let both = at_again (Some (slot_place n.base index)) (n.base + n.offset) (n.base + n.offset) refl n.named in (
        record { base = n.base; is_base = base; offset = n.offset; slot = stays; named = subst (λ (o : Option ℕ). IsNamedAt d o (n.base + n.offset) again) slot both.0 },
        record { base = n.base; is_base = base; offset = n.offset; slot = stays; list = both.1 },
      )

  if_so : (test : Bool) (X Y : Type 0) → test ≡ true → X → IfSo test X Y
  if_so test X Y is x = subst (λ (t : Bool). IfSo t X Y) (sym is) x

  as_again : (c : Class) → NamesAs c s a l → NamesAs c d b again × MeansAs c d b (list_value d number l)
  as_again OfOffset n =
      let named : names_list b.pair.name ≡ true = ap names_list alike.name ∙ n.0 in
      let both = at_again None (offset_of a) (offset_of b) alike.offset n.1 in
      ((named, both.0), if_so (names_list b.pair.name) _ _ named both.1)
  as_again OfListIndex n = by_slot (offset_of a) (offset_of b) alike.offset n
  as_again _ n = absurd n

  pub names_again : NamesList s a l → NamesList d b again × MeansValue d b (list_value d number l)
  names_again n = as_again (class_of b.pair.form) (subst (λ (c : Class). NamesAs c s a l) (ap class_of (sym alike.form)) n)

-- ---- nothing is shared

pub in_map : {X Y : Type 0} (f : X → Y) (y : Y) (xs : List X) → In y (map f xs) → (x : X) × In x xs × (f x ≡ y)
in_map f y [] h = absurd h
in_map f y (x ∷ xs) (inl same) = (x, inl refl, same)
in_map f y (x ∷ xs) (inr later) = let r = in_map f y xs later in (r.0, inr r.1, r.2)

module _ (unit number : ℕ → ℕ) where
  abbrev out : ListOperand → ListOperand
  out o = record { unit = unit o.unit; operand = with_number number o.operand }

  abbrev with_all : List NamedList → List NamedList
  with_all lists = map (named_with unit number) lists

  of_units_out : (n : ℕ) (os : List Operand) → map (of_unit (unit n)) (map (with_number number) os) ≡ map out (map (of_unit n) os)
  of_units_out n [] = refl
  of_units_out n (o ∷ os) = ap (λ (w : List ListOperand). out (of_unit n o) ∷ w) (of_units_out n os)

  operands_out : (lists : List NamedList) → operands_in_lists (with_all lists) ≡ map out (operands_in_lists lists)
  unfolding operands_in_lists
  operands_out [] = refl
  operands_out (l ∷ lists) =
      ap (λ (w : List Operand). map (of_unit (unit l.unit)) w ++ operands_in_lists (with_all lists)) (list_operands number l.list.exprs)
      ∙ ap (λ (w : List ListOperand). w ++ operands_in_lists (with_all lists)) (of_units_out l.unit (own_operands l))
      ∙ ap (λ (w : List ListOperand). map out (map (of_unit l.unit) (own_operands l)) ++ w) (operands_out lists)
      ∙ sym (map-append out (map (of_unit l.unit) (own_operands l)) (operands_in_lists lists))

  -- an operand of the new lists is one of the old lists with its number
  was : (lists : List NamedList) (o : ListOperand) → In o (operands_in_lists (with_all lists)) → (p : ListOperand) × In p (operands_in_lists lists) × (out p ≡ o)
  was lists o there = in_map out o (operands_in_lists lists) (subst (In o) (operands_out lists) there)

  clash_was : (o p : ListOperand) → Clashes (out o) (out p) → Clashes o p
  clash_was o p c = record {
    later = c.later;
    shared = c.shared;
    differ = λ same. c.differ (record { unit = ap unit same.unit; at = same.at; width = same.width; uleb = same.uleb; base = same.base });
  }

  reads_was : (o : Operand) (l : NamedList) → ReadsInside (with_number number o) (named_with unit number l) → ReadsInside o l
  reads_was o l r = record {
    byte = r.byte;
    has = r.has;
    from = r.from;
    to = r.to;
    others = λ p is has. r.others (with_number number p) (subst (In (with_number number p)) (sym (list_operands number l.list.exprs)) (map_in (with_number number) p (own_operands l) is)) has;
  }

  slot_was : (o : Operand) (l : NamedList) → IsInSlot (with_number number o) (named_with unit number l) → IsInSlot o l
  slot_was o l r = record { slot = r.slot; is_slot = r.is_slot; byte = r.byte; has = r.has; from = r.from; to = r.to }

  shared_was : (lists : List NamedList) (o : ListOperand) → IsShared (with_all lists) (out o) → IsShared lists o
  shared_was lists o (inl c) =
      let p = was lists c.0 c.1 in
      inl (p.0, p.1, clash_was o p.0 (subst (Clashes (out o)) (sym p.2) c.2))
  shared_was lists o (inr (inl r)) =
      let l = in_map (named_with unit number) r.0 lists r.1 in
      inr (inl (l.0, l.1, reads_was o.operand l.0 (subst (ReadsInside (with_number number o.operand)) (sym l.2) r.2)))
  shared_was lists o (inr (inr r)) =
      let l = in_map (named_with unit number) r.0 lists r.1 in
      inr (inr (l.0, l.1, slot_was o.operand l.0 (subst (IsInSlot (with_number number o.operand)) (sym l.2) r.2)))

  pub none_again : (lists : List NamedList) → NoneShared lists → NoneShared (with_all lists)
  none_again lists none place shared =
      let o = was lists shared.0 shared.1 in
      let at : place ≡ o.0.operand.at = shared.2.0 ∙ ap (λ (w : ListOperand). w.operand.at) (sym o.2) in
      none place (o.0, o.1, (at, shared_was lists o.0 (subst (IsShared (with_all lists)) (sym o.2) shared.2.1)))
