use Rattle.std.proofs.Common.{◌∙◌, ℕ, List, [], ◌∷◌, ap, drop, refl, subst, sym, Bool}
use Rattle.std.specs.Prelude.{◌==◌, ◌||◌, not}
use Rattle.dwz_def_reading.specs.Classes.{OfConstant, OfFlag, OfInfoEntry, OfTextInStr, OfUnitEntry}
use Rattle.dwz_def_reading.specs.Documents.{Flag, Plain}
use Rattle.dwz_def_reading.specs.LineTables.{FileTable}
use Rattle.dwz_def_reading.specs.Meanings.{offset_of}
use Rattle.dwz_def_reading.specs.Texts.{text_at}
use Rattle.dwz_graph.specs.Resolved.{stored}
use Rattle.dwz_graph.specs.Rows.{AreTargets}
use Rattle.dwz_label_entries.specs.Plain.{KnowsLine, KnowsScope}
use Rattle.dwz_label_entries.specs.Sources.{raw_of, scope_at}
use Rattle.dwz_label_entries.proofs.PlainLemmas.{as_is, info_names, is_class, unit_names}
use Rattle.dwz_label_marks.specs.Marks.{plain_mark, usual}
use Rattle.dwz_label_marks.specs.Told.{Adds}
use Rattle.dwz_label_words.proofs.ValueLemmas.{constant_none, flag_is, named_none, one_ref, other_name, text_is, told_alone, told_entry, weaker}
use Rattle.dwz_label_words.proofs.values.put_value.Goals as goal

pub returns-in_ok-put_constant-in-Constant-clause-told : goal.returns-in_ok-put_constant-in-Constant-clause-told
returns-in_ok-put_constant-in-Constant-clause-told c = λ u name at v k line means many t. (
    let x = c.args.source.now in
    let s = scope_at x u in
    let a = stored at c.args.end c.args.pair.now c.args.raw.now in
    let kind = c.class_of.result in
    let own = as_is s a v kind OfConstant c.class_of.ensures c.in-Constant.is means in
    let table = subst (λ (w : List FileTable). KnowsLine s a w c.args.line) (sym c.requires.names.tables) line in
    told_alone name v c.put_constant.new.names.names (drop c.args.next x.refs.now) c.args.out.now.items c.put_constant.new.out.items (constant_none s a v own) many
    (c.in_ok-put_constant-in-Constant.ensures.told s at c.args.end v (is_class a kind OfConstant c.class_of.ensures c.in-Constant.is) table own))

pub returns-in_ok-put_flag_mark-in-Flag-clause-told : goal.returns-in_ok-put_flag_mark-in-Flag-clause-told
returns-in_ok-put_flag_mark-in-Flag-clause-told c = λ u name at v k line means many t. (
    let x = c.args.source.now in
    let s = scope_at x u in
    let a = stored at c.args.end c.args.pair.now c.args.raw.now in
    let names = c.args.names.now.names in
    let own = as_is s a v c.class_of.result OfFlag c.class_of.ensures c.in-Flag.is means in
    let flag = c.is_set.ensures ∙ ap (λ (n : ℕ). c.args.pair.now.form == 0x19 || not (n == 0)) c.offset_of.ensures.value in
    let is = ap (λ (b : Bool). Flag b) flag ∙ flag_is s a v own in
    told_alone name v names (drop c.args.next x.refs.now) c.args.out.now.items c.put_flag_mark.new.out.items (sym (ap usual is)) many
    (subst (λ (p : Plain). Adds names (plain_mark p ∷ []) c.args.out.now.items c.put_flag_mark.new.out.items) is (c.in_ok-put_flag_mark-in-Flag.ensures names)))

pub returns-in_ok-put_text_mark-in-TextInStr-clause-told : goal.returns-in_ok-put_text_mark-in-TextInStr-clause-told
returns-in_ok-put_text_mark-in-TextInStr-clause-told c = λ u name at v k line means many t. (
    let x = c.args.source.now in
    let s = scope_at x u in
    let a = stored at c.args.end c.args.pair.now c.args.raw.now in
    let names = c.put_text_mark.new.names.names in
    let own = as_is s a v c.class_of.result OfTextInStr c.class_of.ensures c.in-TextInStr.is means in
    let r = text_is a (text_at s.around.sources.strs (offset_of a)) v own in
    let there = ap (λ (n : ℕ). text_at c.args.names.now.strs n) c.offset_of-in-TextInStr.ensures.value
    ∙ ap (λ (w : List ℕ). text_at w (offset_of a)) c.requires.names.strs ∙ r.1 in
    told_alone name v names (drop c.args.next x.refs.now) c.args.out.now.items c.put_text_mark.new.out.items (sym (ap usual r.2)) many
    (subst (λ (p : Plain). Adds names (plain_mark p ∷ []) c.args.out.now.items c.put_text_mark.new.out.items) r.2
    (c.in_ok-put_text_mark-in-TextInStr.ensures.told r.0 there)))

pub returns-in-UnitEntry-clause-told : goal.returns-in-UnitEntry-clause-told
returns-in-UnitEntry-clause-told c = λ u name at v k line means many t. (
    let x = c.args.source.now in
    let s = scope_at x u in
    let a = stored at c.args.end c.args.pair.now c.args.raw.now in
    let names = c.args.names.now.names in
    let n = unit_names s a v (as_is s a v c.class_of.result OfUnitEntry c.class_of.ensures c.in-UnitEntry.is means) in
    let r = one_ref v.refs n.2 in
    let one = subst (λ (w : List ℕ). AreTargets (raw_of x) (drop c.args.next x.refs.now) w) (n.1 ∙ r.1) t in
    weaker c.put_entry.result _ _ (λ behind h. told_entry name v names (drop c.args.next x.refs.now) (drop behind x.refs.now) c.args.out.now.items c.put_entry.new.out.items n.0 n.1 n.2 r.0 r.1 h)
    (c.put_entry.ensures names (raw_of x) name r.0 k.names one))

pub returns-in-InfoEntry-clause-told : goal.returns-in-InfoEntry-clause-told
returns-in-InfoEntry-clause-told c = λ u name at v k line means many t. (
    let x = c.args.source.now in
    let s = scope_at x u in
    let a = stored at c.args.end c.args.pair.now c.args.raw.now in
    let names = c.args.names.now.names in
    let n = info_names s a v (as_is s a v c.class_of.result OfInfoEntry c.class_of.ensures c.in-InfoEntry.is means) in
    let r = one_ref v.refs n.2 in
    let one = subst (λ (w : List ℕ). AreTargets (raw_of x) (drop c.args.next x.refs.now) w) (n.1 ∙ r.1) t in
    weaker c.put_entry-in-InfoEntry.result _ _ (λ behind h. told_entry name v names (drop c.args.next x.refs.now) (drop behind x.refs.now) c.args.out.now.items c.put_entry-in-InfoEntry.new.out.items
    n.0 n.1 n.2 r.0 r.1 h) (c.put_entry-in-InfoEntry.ensures names (raw_of x) name r.0 k.names one))

pub returns-in_ok-put_other-in_default : goal.returns-in_ok-put_other-in_default
returns-in_ok-put_other-in_default c = record {
  stays = c.in_ok-put_other-in_default.ensures.stays;
  told = λ u name at v k line means many t. (
      let x = c.args.source.now in
      let s = scope_at x u in
      let a = stored at c.args.end c.args.pair.now c.args.raw.now in
      let kind = c.class_of.result in
      let n = c.in_default in
      let know : KnowsScope x.sections.now c.args.here.now s = record { sources = refl; alone = refl; offsets = k.here.base; lists = k.here.lists } in
      let own = as_is s a v kind kind c.class_of.ensures refl means in
      let none = other_name kind s a refl n.not-Constant n.not-Flag n.not-TextInStr n.not-UnitEntry n.not-InfoEntry v own in
      told_alone name v c.put_other.new.names.names (drop c.args.next x.refs.now) c.args.out.now.items c.put_other.new.out.items (named_none v.plain none) many
      (c.in_ok-put_other-in_default.ensures.told s at v know line means none));
}
