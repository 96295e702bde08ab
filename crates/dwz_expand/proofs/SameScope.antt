-- Which operands and lists a value has doesn't depend on what stands for places.
use Rattle.std.proofs.Common.{◌≡◌, ℕ, ◌+◌, cond, List, [], Option, Some, None, refl, ap, ◌∙◌}
use Rattle.dwz_model.specs.declared.place.Base.{Base}
use Rattle.dwz_model.specs.declared.place.Base.TheVariants.{Unit as FromUnit, Info as FromInfo}
use Rattle.dwz_def_reading.specs.Classes.{Class, OfExpression, OfListIndex, OfOffset, class_of, names_list}
use Rattle.dwz_def_reading.specs.Entries.{RawAttr}
use Rattle.dwz_def_reading.specs.Exprs.{ExprContext, expr_at}
use Rattle.dwz_def_reading.specs.Meanings.{Around, Common, MeaningContext, block_begins, bytes_of, entries_for, expr_context, has, leads_to, loclists_base, offset_of, scope_of}
use Rattle.dwz_def_reading.specs.NamedLists.{by_base, by_offset, list_of_attr, lists_as, named_at, named_by}
use Rattle.dwz_def_reading.specs.Shared.{NamedList}
use Rattle.dwz_def_reading.specs.Texts.{slot, slot_place}
use Rattle.dwz_def_reading.specs.Units.{RawUnit}
use Rattle.dwz_def_reading.proofs.PlacesMapped.{same_list, there}
use Rattle.dwz_def_output.specs.Refusals.{operands_as, operands_of_attr, operands_read}

module _ {P Q : Type 0} (place : ℕ → Q) (common : Option (Common Q)) (s : MeaningContext P) where
  abbrev other : MeaningContext Q
  other = there place common s

  -- ---- operands

  leads : (base : Base) (n : ℕ) → leads_to other base n ≡ leads_to s base n
  leads FromUnit n = refl
  leads FromInfo n = refl

  entries : (base : Base) → entries_for other base ≡ entries_for s base
  entries FromUnit = refl
  entries FromInfo = refl

  context : expr_context other 1 ≡ expr_context s 1
  context = λ i. record { section = 1; names = λ o. has (leads o.base o.number i) (entries o.base i) }

  same_operands : (c : Class) (a : RawAttr) → operands_as c other a ≡ operands_as c s a
  same_operands OfExpression a = ap (λ (x : ExprContext). operands_read (expr_at x (record { at = block_begins a; rest = bytes_of a.raw }))) context
  same_operands _ a = refl

  operands_there : (a : RawAttr) → operands_of_attr other a ≡ operands_of_attr s a
  unfolding operands_of_attr
  operands_there a = same_operands (class_of a.pair.form) a

  -- ---- lists

  at_place : (o : Option ℕ) (at : ℕ) → named_at other o at ≡ named_at s o at
  at_place o at = ap (λ r. named_by s o at r) (same_list place common s at)

  at_offset : (base index : ℕ) (o : Option ℕ) → by_offset other base index o ≡ by_offset s base index o
  at_offset base index None = refl
  at_offset base index (Some offset) = at_place (Some (slot_place base index)) (base + offset)

  at_base : (index : ℕ) (o : Option ℕ) → by_base other index o ≡ by_base s index o
  at_base index None = refl
  at_base index (Some base) = at_offset base index (slot s.around.sources.lists base index)

  same_lists : (c : Class) (a : RawAttr) → lists_as c other a ≡ lists_as c s a
  same_lists OfOffset a = ap (λ (ls : List NamedList). cond (names_list a.pair.name) ls []) (at_place None (offset_of a))
  same_lists OfListIndex a = at_base (offset_of a) (loclists_base s)
  same_lists _ a = refl

  list_there : (a : RawAttr) → list_of_attr other a ≡ list_of_attr s a
  unfolding list_of_attr
  list_there a = same_lists (class_of a.pair.form) a

-- in a unit with the same sections and entries
module _ {P Q : Type 0} (a : Around P) (b : Around Q) (sources : b.sources ≡ a.sources) (all : b.all ≡ a.all) (u : RawUnit) (x : RawAttr) where
  abbrev alike : Around Q
  alike = record { sources = a.sources; all = a.all; place = b.place; common = b.common }

  same_around : b ≡ alike
  same_around = λ i. record { sources = sources i; all = all i; place = b.place; common = b.common }

  pub operands_same : operands_of_attr (scope_of b u) x ≡ operands_of_attr (scope_of a u) x
  operands_same = ap (λ (c : Around Q). operands_of_attr (scope_of c u) x) same_around ∙ operands_there b.place b.common (scope_of a u) x

  pub list_same : list_of_attr (scope_of b u) x ≡ list_of_attr (scope_of a u) x
  list_same = ap (λ (c : Around Q). list_of_attr (scope_of c u) x) same_around ∙ list_there b.place b.common (scope_of a u) x
