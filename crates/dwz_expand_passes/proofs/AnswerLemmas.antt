-- The copy of an attribute, class by class.
use Rattle.std.proofs.Common.{◌≡◌, ℕ, false, List, [], length, map, Ok, sym, ap, subst, ◌∙◌}
use Rattle.std.specs.Prelude.{slice_range}
use Rattle.std.proofs.lemmas.List.{append-nil}
use Rattle.dwz_model.specs.Lists.{Each}
use Rattle.dwz_model.specs.declared.fault.Fault.{Fault}
use Rattle.dwz_model.specs.declared.place.Pair.{Pair}
use Rattle.dwz_def_reading.specs.Classes.{Class, OfExpression, OfOffset, class_of, names_list}
use Rattle.dwz_def_reading.specs.Documents.{Attr, Plain, Value, attr_map}
use Rattle.dwz_def_reading.specs.declared.exprs.Operand.{Operand}
use Rattle.dwz_def_reading.specs.Exprs.{parts_from}
use Rattle.dwz_def_reading.specs.Meanings.{block_begins, bytes_of}
use Rattle.dwz_def_reading.specs.Entries.{RawAttr}
use Rattle.dwz_def_reading.specs.Meant.{meaning}
use Rattle.dwz_def_reading.specs.Values.{HasSpelling}
use Rattle.dwz_def_encoding.specs.Placing.{as_read}
use Rattle.dwz_def_expand.specs.Chosen.{chosen_as}
use Rattle.dwz_def_expand.specs.Refusals.{LacksRow}
use Rattle.dwz_def_expand.specs.Source.{Copy}
use Rattle.dwz_forms.specs.declared.raw.Raw.{Raw as RawOfCode}
use Rattle.dwz_forms.specs.RawValues.{raw_view}
use Rattle.dwz_graph.specs.Named.{value_refs}
use Rattle.dwz_graph.specs.Resolved.{stored}
use Rattle.dwz_encode.specs.Shown.{Parts, Value as ValueHeld, content_held, expr_held, held_as}
use Rattle.dwz_expand_sources.proofs.RangeLemmas.{range_end}
use Rattle.dwz_expand_layout.specs.declared.entries.Content.TheVariants.{Expression, Stored}
use Rattle.dwz_expand_layout.specs.declared.entries.NewAttr.{NewAttr}
use Rattle.dwz_expand_layout.specs.declared.entries.NewExpression.{NewExpression}
use Rattle.dwz_expand_layout.specs.declared.entries.NewOperand.{NewOperand}
use Rattle.dwz_expand_layout.specs.Entries.{parts_in}
use Rattle.dwz_expand_passes.specs.Copied.{Added, IsCopyAnswer, IsCopyOf, IsWithin, KeepsConstant, Lost, Refuses, Shows, is_entry, names_many, said, site}
use Rattle.dwz_expand_passes.specs.Known.{Setting, copied, scope}
use Rattle.dwz_expand_passes.proofs.ContentLemmas.{as_class_of, held_raw, names_nothing, names_some, refs_none}
use Rattle.dwz_expand_passes.proofs.LostLemmas.{not_refused}
use Rattle.dwz_expand_passes.proofs.NamedLemmas.{IsRead}
use Rattle.dwz_expand_passes.proofs.OperandLemmas.{map_twice}
use Rattle.dwz_expand_passes.proofs.ShowLemmas.{chosen_for, shows_kept}

-- no operands were added
pub alone : (q : Setting) (b : Attr ℕ) (operands : List NewOperand) (new : NewAttr) → Shows q b operands new → IsWithin (length operands) new.content
    → names_many new.content ≡ length (value_refs b.value)
    → IsCopyOf q b operands operands new
alone q b operands new shows within many = record { shows = shows; within = within; more = []; grown = sym (append-nil operands); many = many }

abbrev pub read_attr : Pair → RawOfCode → NewAttr
read_attr pair raw = record { pair = pair; content = Stored raw }

module _ (q : Setting) (index at end : ℕ) (pair : Pair) (raw : RawOfCode) (v : Value ℕ) (constant : KeepsConstant pair (raw_view raw)) (spelled : HasSpelling pair.form (raw_view raw)) where
  abbrev pub a : RawAttr
  a = stored at end pair raw

  abbrev pub b : Attr ℕ
  b = said q a v

  abbrev pub y : Attr (Copy ℕ)
  y = attr_map (copied q) b

  -- what is chosen by the class
  pub chosen_by : (c : Class) → class_of pair.form ≡ c → chosen_for q b ≡ chosen_as c q.choice q.unit q.source y
  chosen_by c e = ap (λ (d : Class). chosen_as d q.choice q.unit q.source y) e

  -- as it was read
  pub read_shows : (operands : List NewOperand) (c : Class) → class_of pair.form ≡ c → is_entry c ≡ false → (c ≡ OfExpression → ⊥) → chosen_as c q.choice q.unit q.source y ≡ as_read y
      → meaning (scope q) a ≡ Ok v → Shows q b operands (read_attr pair raw)
  read_shows operands c e entry other chosen means =
      shows_kept q a v (ValueHeld (raw_view raw)) constant (chosen_by c e ∙ chosen)
      (held_raw q a v spelled c e entry other (as_class_of (scope q) a v c e means) ∙ ap (λ (d : Class). held_as d y) (sym e))

  -- nothing is named
  pub none_named : (c : Class) → class_of pair.form ≡ c → names_some c ≡ false → (c ≡ OfOffset → names_list pair.name ≡ false) → meaning (scope q) a ≡ Ok v → v.refs ≡ []
  none_named c e none list means = refs_none c (scope q) a none list v (as_class_of (scope q) a v c e means)

  pub free_of : v.refs ≡ [] → ¬ LacksRow q.choice (site q index b) → (f : Fault) → ¬ Refuses q (site q index b) f
  free_of none has = not_refused q index b (subst (λ (w : List ℕ). Each (λ p. ¬ Lost q p) (map q.place w)) (sym none) tt) has

  pub many_none : v.refs ≡ [] → 0 ≡ length (value_refs b.value)
  many_none none = sym (ap (λ (w : List ℕ). length w) (names_nothing q a v none))

  pub answer_alone : (operands : List NewOperand) (new : NewAttr) → v.refs ≡ [] → ¬ LacksRow q.choice (site q index b) → Shows q b operands new → IsWithin (length operands) new.content
      → names_many new.content ≡ 0 → IsCopyAnswer q index a v operands new
  answer_alone operands new none has shows within many = record { free = free_of none has; is = alone q b operands new shows within (many ∙ many_none none) }

  -- an expression whose operands are the last
  pub expr_shows : (old new : List NewOperand) (e : NewExpression) (read : List Operand) (operands : Added q read b.value.refs old new) → class_of pair.form ≡ OfExpression → IsRead (scope q) a v read
      → e.start ≡ block_begins a → e.bytes.now ≡ bytes_of (raw_view raw) → e.first ≡ length old → e.end ≡ length new → Shows q b new (record { pair = pair; content = Expression e })
  expr_shows old new e read added class is start bytes first end =
      let own : slice_range new e.first e.end ≡ added.more =
      (λ i. slice_range (added.grown i) (first i) ((end ∙ ap (λ (w : List NewOperand). length w) added.grown) i)) ∙ range_end old added.more in
      let numbers : map q.keys.row (map (λ (o : NewOperand). o.copy) added.more) ≡ y.value.refs = sym (map_twice q.keys.row (λ (o : NewOperand). o.copy) added.more) ∙ added.keys in
      let held : content_held q.keys (parts_in e.start e.bytes.now (slice_range new e.first e.end)) ≡ held_as (class_of pair.form) y =
      ap (λ (w : List NewOperand). content_held q.keys (parts_in e.start e.bytes.now w)) own
      ∙ (λ i. Parts (parts_from (start i) (bytes i) (added.operands i)) (numbers i))
      ∙ ap (λ (p : Plain). expr_held p y.value.refs) (sym is.plain)
      ∙ ap (λ (d : Class). held_as d y) (sym class) in
      shows_kept q a v (content_held q.keys (parts_in e.start e.bytes.now (slice_range new e.first e.end))) constant (chosen_by OfExpression class) held
