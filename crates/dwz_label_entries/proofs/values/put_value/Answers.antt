use Rattle.std.proofs.Common.{◌++◌, ℕ, List, ap, map, refl, subst, sym, ◌∙◌}
use Rattle.std.proofs.lemmas.List.{append_assoc}
use Rattle.dwz_def_reading.specs.declared.exprs.Operand.{Operand}
use Rattle.dwz_label.specs.Labels.{each_counted, plain_label, target_label}
use Rattle.dwz_label_entries.specs.Plain.{KnowsScope, NamesSo}
use Rattle.dwz_label_entries.specs.Sources.{scope_at}
use Rattle.dwz_label_entries.proofs.values.put_value.Goals as goal

pub returns : goal.returns
returns c = λ u name at v k line means targets. (
    let x = c.args.source.now in
    let s = scope_at x u in
    let old = c.args.out.now.items in
    let know : KnowsScope x.sections.now c.args.here.now s = record { sources = refl; alone = refl; offsets = k.here.base; lists = k.here.lists } in
    let plain = c.in_ok-named.ensures s at v know line means in
    let names = subst (λ (w : List Operand). NamesSo s v w c.in_ok-named.named) (sym c.deref.ensures.value) plain.names in
    let others = each_counted target_label (map name v.refs) in
    record {
      bytes = c.in_ok-put_refs.ensures u name v k.here k.names names targets ∙ ap (λ (w : List ℕ). w ++ others) plain.bytes ∙ append_assoc old (plain_label v.plain) others;
      ends = c.behind_refs.ensures s v c.deref.result.now names;
    })
