use Rattle.std.proofs.Common.{List, map, subst, sym}
use Rattle.dwz_def_reading.specs.declared.exprs.Operand.{Operand}
use Rattle.dwz_label.specs.Labels.{each_counted, plain_label}
use Rattle.dwz_label_entries.specs.Plain.{NamesSo}
use Rattle.dwz_def_check.specs.CrossLabels.{name_label, names_into}
use Rattle.dwz_check_labels.specs.Files.{scope_at}
use Rattle.dwz_check_labels.proofs.ToldLemmas.{tells_behind}
use Rattle.dwz_check_labels.proofs.values.put_value.Goals as goal

pub returns : goal.returns
returns c = λ said name u at v others k here line means refs. (
    let s = scope_at c.args.source.now u in
    let plain = c.in_ok-named.ensures said name u at v k here line means in
    let names = subst (λ (w : List Operand). NamesSo s v w c.in_ok-named.named) (sym c.deref.ensures.value) plain.names in
    record {
      told = tells_behind (plain_label v.plain) (each_counted name_label (map name v.refs)) (names_into (map name v.refs)) c.args.out.now.items c.put_said.new.out.items c.put_refs.new.out.items
          c.args.tops.now.items c.put_refs.new.tops.items plain.bytes (c.in_ok-put_refs.ensures said name u v others k here names refs);
      rest = c.behind_refs.ensures s v c.deref.result.now names;
    })
