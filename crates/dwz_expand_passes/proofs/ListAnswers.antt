-- The copy of a value that is a location list.
use Rattle.std.proofs.Common.{◌≡◌, ◌∙◌, ℕ, false, List, length, map, Ok, Err, sym, ap, subst, inl, inr}
use Rattle.dwz_model.specs.declared.fault.Fault.{Fault}
use Rattle.dwz_model.specs.declared.fault.ReadErr.{ReadErr}
use Rattle.dwz_model.specs.declared.fault.ReadErr.TheVariants.{NoMemory, Refused}
use Rattle.dwz_model.specs.declared.place.Pair.{Pair}
use Rattle.dwz_def_reading.specs.Classes.{Class, OfConstant, OfExpression, class_of}
use Rattle.dwz_def_reading.specs.Documents.{Attr, Plain, Value, attr_map}
use Rattle.dwz_def_reading.specs.Entries.{RawAttr}
use Rattle.dwz_def_reading.specs.LocLists.{LocList}
use Rattle.dwz_def_reading.specs.NamedLists.{list_of_attr}
use Rattle.dwz_def_reading.specs.Shared.{operands_of}
use Rattle.dwz_def_reading.specs.Values.{HasSpelling}
use Rattle.dwz_def_encoding.specs.Placing.{as_read}
use Rattle.dwz_def_expand.specs.Chosen.{chosen_as}
use Rattle.dwz_def_expand.specs.OneFile.{named_in_attr, nth_at}
use Rattle.dwz_def_expand.specs.Source.{Copy}
use Rattle.dwz_def_output.specs.Refusals.{operands_of_attr}
use Rattle.dwz_forms.specs.declared.raw.Raw.{Raw as RawOfCode}
use Rattle.dwz_forms.specs.RawValues.{raw_view}
use Rattle.dwz_graph.specs.Named.{refs_beside}
use Rattle.dwz_graph.specs.Resolved.{stored}
use Rattle.dwz_expand_layout.specs.declared.entries.NewAttr.{NewAttr}
use Rattle.dwz_expand_layout.specs.declared.entries.NewOperand.{NewOperand}
use Rattle.dwz_expand_passes.specs.declared.files.SourceEntry.{SourceEntry}
use Rattle.dwz_expand_passes.specs.Copied.{Answers, Asks, FirstLost, IsCopyOf, KeepsConstant, Refuses, is_entry, operand_places, said, site}
use Rattle.dwz_expand_passes.specs.Known.{Setting, copied, scope}
use Rattle.dwz_expand_passes.specs.Refusing.{FirstIs}
use Rattle.dwz_expand_passes.proofs.AnswerLemmas.{alone, read_attr, read_shows}
use Rattle.dwz_expand_passes.proofs.LostLemmas.{lost_same, no_constant, refused_lost}
use Rattle.dwz_expand_passes.proofs.NamedLemmas.{IsList}

module _ (x : SourceEntry) (q : Setting) (index at end : ℕ) (pair : Pair) (raw : RawOfCode) (v : Value ℕ) (refs others : List ℕ) (constant : KeepsConstant pair (raw_view raw))
    (spelled : HasSpelling pair.form (raw_view raw)) (asks : Asks x q index (stored at end pair raw) v refs others) where
  abbrev a : RawAttr
  a = stored at end pair raw

  abbrev b : Attr ℕ
  b = said q a v

  abbrev y : Attr (Copy ℕ)
  y = attr_map (copied q) b

  abbrev named : ℕ → (section : ℕ) × ℕ
  named k = q.stands.named q.source index k

  -- it is one
  pub record Lists (c : Class) (l : LocList) : Type 0 where
    pub class : class_of pair.form ≡ c
    pub entry : is_entry c ≡ false
    pub expression : c ≡ OfExpression → ⊥
    pub other : c ≡ OfConstant → ⊥
    pub chosen : chosen_as c q.choice q.unit q.source y ≡ as_read y
    pub is : IsList (scope q) v l
    pub places : (k : ℕ) → named_in_attr (list_of_attr (scope q) a) (operands_of_attr (scope q) a) k at ≡ (7, nth_at (operands_of l.exprs) k at)

  abbrev pub HasLost : LocList → Fault → Type 0
  HasLost l = FirstLost q (operand_places 7 (operands_of l.exprs) at) (map q.place v.refs)

  pub list_ok : (operands : List NewOperand) (new : NewAttr) (c : Class) (l : LocList) → Lists c l → ((f : Fault) → ¬ HasLost l f) → new ≡ read_attr pair raw
      → Answers q index a v operands operands (Ok new)
  list_ok operands new c l h none is = (
    free,
    subst (λ (n : NewAttr). IsCopyOf q b operands operands n) (sym is) (alone q b operands (read_attr pair raw)
        (read_shows q index at end pair raw v constant spelled operands c h.class h.entry h.expression h.chosen asks.means) tt
        (sym (ap (λ (d : Plain). length (refs_beside d (map q.place v.refs))) h.is.plain))),
  ) where
    free : (f : Fault) → ¬ Refuses q (site q index b) f
    free f (inl one) = none f (lost_same q named (operand_places 7 (operands_of l.exprs) at) (map q.place v.refs) f (λ k. asks.at.named k ∙ h.places k) one)
    free f (inr row) = no_constant q index b (λ e. h.other (sym h.class ∙ e)) row.1.0

  pub list_err : (operands : List NewOperand) (e : ReadErr) (c : Class) (l : LocList) → Lists c l → FirstIs {Y = Unit {0}} (HasLost l) (Err e) → Answers q index a v operands operands (Err e)
  list_err operands NoMemory c l h first = tt
  list_err operands (Refused f) c l h first =
      refused_lost q index b f (lost_same q (operand_places 7 (operands_of l.exprs) at) named (map q.place v.refs) f (λ k. sym (asks.at.named k ∙ h.places k)) first)
