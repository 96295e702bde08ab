use Rattle.std.proofs.Common.{◌∙◌, ap, sym}
use Rattle.std.proofs.lemmas.Result.{on_ok_weaker}
use Rattle.dwz_def_encoding.specs.Writing.{table_in}
use Rattle.dwz_layout.proofs.TableLemmas.{placed_new, place_known, table_known, table_new}
use Rattle.dwz_layout.proofs.tables.Tables.keep.Goals as goal

pub add-requires : goal.add-requires
add-requires c = sym (c.in-None.ensures ∙ ap (table_in 0 c.args.self.now) c.deref.ensures.value)

pub returns-in-Some-clause-offset : goal.returns-in-Some-clause-offset
returns-in-Some-clause-offset c = place_known c.args.self.now c.args.table.items c.in-Some.offset (c.in-Some.ensures ∙ ap (table_in 0 c.args.self.now) c.deref.ensures.value)

pub returns-in-Some-clause-ok : goal.returns-in-Some-clause-ok
returns-in-Some-clause-ok c = table_known c.args.self.now c.args.table.items c.in-Some.offset (c.in-Some.ensures ∙ ap (table_in 0 c.args.self.now) c.deref.ensures.value)

pub returns-in-None-clause-offset : goal.returns-in-None-clause-offset
returns-in-None-clause-offset c = placed_new c.args.self.now c.args.table.items (c.in-None.ensures ∙ ap (table_in 0 c.args.self.now) c.deref.ensures.value) c.add.result c.add.ensures.offset

pub returns-in-None-clause-ok : goal.returns-in-None-clause-ok
returns-in-None-clause-ok c =
    on_ok_weaker c.add.result (λ is. is ∙ table_new c.args.self.now c.args.table.items (c.in-None.ensures ∙ ap (table_in 0 c.args.self.now) c.deref.ensures.value)) c.add.ensures.ok
