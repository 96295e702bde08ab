-- The copy of a value that is an entry.
use Rattle.std.proofs.Common.{◌≡◌, ◌∙◌, ℕ, pos, ◌+◌, true, false, ◌==◌, if◌then◌else◌, List, [], ◌∷◌, ◌++◌, length, map, Ok, Err, refl, sym, ap, subst}
use Rattle.dwz_model.specs.Lists.{Each}
use Rattle.dwz_model.specs.declared.fault.ReadErr.{ReadErr}
use Rattle.dwz_model.specs.declared.fault.ReadErr.TheVariants.{NoMemory, Refused}
use Rattle.dwz_model.specs.declared.place.Pair.{Pair}
use Rattle.dwz_def_reading.specs.Classes.{Class, OfCommonEntry, OfConstant, OfInfoEntry, OfUnitEntry, class_of}
use Rattle.dwz_def_reading.specs.Documents.{Plain, Value, attr_map}
use Rattle.dwz_def_reading.specs.Entries.{RawAttr}
use Rattle.dwz_def_expand.specs.Chosen.{chosen_as, entry_form}
use Rattle.dwz_def_expand.specs.Refusals.{not_imported}
use Rattle.dwz_forms.specs.declared.raw.Raw.{Raw as RawOfCode}
use Rattle.dwz_graph.specs.Named.{refs_beside, value_refs}
use Rattle.dwz_graph.specs.Resolved.{stored}
use Rattle.dwz_graph.specs.Surroundings.{AreAmong}
use Rattle.dwz_layout.specs.Attributes.{plain_pair}
use Rattle.dwz_expand_sources.specs.declared.copies.CopyAt.{CopyAt}
use Rattle.dwz_expand_layout.specs.declared.entries.Content.TheVariants.{OfCopy}
use Rattle.dwz_expand_layout.specs.declared.entries.NewAttr.{NewAttr}
use Rattle.dwz_expand_layout.specs.declared.entries.NewOperand.{NewOperand}
use Rattle.dwz_expand_passes.specs.declared.files.SourceEntry.{SourceEntry}
use Rattle.dwz_expand_passes.specs.Copied.{Answers, AnswersCopy, Asks, FirstLost, Lost, is_entry, said}
use Rattle.dwz_expand_passes.specs.Known.{Setting, StandsAt, copied, place_named, raw_of, scope}
use Rattle.dwz_expand_passes.proofs.AnswerLemmas.{alone}
use Rattle.dwz_expand_passes.proofs.ContentLemmas.{as_class_of}
use Rattle.dwz_expand_passes.proofs.CopyLemmas.{first_there, not_lost, stands_named, unit_is}
use Rattle.dwz_expand_passes.proofs.LostLemmas.{no_constant, not_refused, one_lost, refused_lost}
use Rattle.dwz_expand_passes.proofs.NamedLemmas.{IsOne, at_value, entry_named}
use Rattle.dwz_expand_passes.proofs.ShowLemmas.{chosen_for, shows_entry}

module _ (x : SourceEntry) (q : Setting) (index at end : ℕ) (pair : Pair) (raw : RawOfCode) (v : Value ℕ) (refs others : List ℕ) (class : is_entry (class_of pair.form) ≡ true)
    (asks : Asks x q index (stored at end pair raw) v refs others) where
  abbrev a : RawAttr
  a = stored at end pair raw

  pub one : IsOne v
  one = entry_named (class_of pair.form) (scope q) a v class (as_class_of (scope q) a v (class_of pair.form) refl asks.means)

  abbrev p : ℕ
  p = q.place one.p

  named : (said q a v).value.refs ≡ p ∷ []
  named = ap (map q.place) one.refs

  value_named : value_refs (said q a v).value ≡ p ∷ []
  value_named = ap (λ (d : Plain). refs_beside d (map q.place v.refs)) one.plain ∙ named

  -- the first of the references
  pub record First : Type 0 where
    pub j : ℕ
    pub rest : List ℕ
    pub refs_are : refs ≡ j ∷ rest
    pub stands : StandsAt q.w (x.first + j) p

  pub first : First
  first =
      let f = first_there (place_named q (raw_of x)) refs p others (asks.named ∙ ap (λ (w : List ℕ). w ++ others) value_named) in
      record { j = f.0; rest = f.1; refs_are = f.2; stands = stands_named x q f.0 p asks.fits (subst (λ (w : List ℕ). AreAmong q.around.common (raw_of x) w) f.2 asks.among).0 f.3 }

  entry_class : (c : Class) → is_entry c ≡ true → (c ≡ OfConstant → ⊥)
  entry_class c is e = (let z : false ≡ true = sym (ap is_entry e) ∙ is in cc)

  chosen : chosen_for q (said q a v) ≡ record { form = entry_form q.unit (map (copied q) (said q a v).value.refs); raw = pos 0 }
  chosen = by (class_of pair.form) class where
    by : (c : Class) → is_entry c ≡ true
        → chosen_as c q.choice q.unit q.source (attr_map (copied q) (said q a v)) ≡ record { form = entry_form q.unit (map (copied q) (said q a v).value.refs); raw = pos 0 }
    by OfUnitEntry is = refl
    by OfInfoEntry is = refl
    by OfCommonEntry is = refl
    by _ is = absurd cc

  -- its copy
  pub entry_copied : (operands : List NewOperand) (copy : CopyAt) (new : NewAttr) → AnswersCopy q p (1, at) (Ok copy)
      → new ≡ record { pair = plain_pair pair.name (if copy.unit == q.unit then 0x13 else 0x10); content = OfCopy copy.number } → Answers q index a v operands operands (Ok new)
  entry_copied operands copy new is are =
      subst (λ (n : NewAttr). Answers q index a v operands operands (Ok n)) (sym are) (
        not_refused q index (said q a v) (subst (λ (w : List ℕ). Each (λ r. ¬ Lost q r) w) (sym named) (not_lost q p copy is, tt)) (no_constant q index (said q a v) (entry_class
            (class_of pair.form) class)),
        alone q (said q a v) operands (record { pair = plain_pair pair.name (if copy.unit == q.unit then 0x13 else 0x10); content = OfCopy copy.number })
            (shows_entry q a v p copy.number copy.unit named chosen (unit_is q p copy is) is.key) tt (sym (ap (λ (w : List ℕ). length w) value_named)),
      )

  -- there is none
  pub entry_refused : (operands : List NewOperand) (e : ReadErr) → AnswersCopy q p (1, at) (Err e) → Answers q index a v operands operands (Err e)
  entry_refused operands NoMemory is = tt
  entry_refused operands (Refused f) is =
      refused_lost q index (said q a v) f (subst (λ (w : List ℕ). FirstLost q (λ k. q.stands.named q.source index k) w f) (sym named)
      (one_lost q (λ k. q.stands.named q.source index k) p f is.0 (is.1 ∙ ap not_imported (sym (asks.at.named 0 ∙ at_value (scope q) a (class_of pair.form) refl class)))))
