use Rattle.std.proofs.Common.{◌++◌, ◌∷◌, ◌∙◌, [], List, Some, ℕ, ap, subst}
use Rattle.dwz_def_encoding.specs.Writing.{table_in}
use Rattle.dwz_layout.specs.Maps.{Puts}
use Rattle.dwz_layout.proofs.TableLemmas.{has_more, tables_more}
use Rattle.dwz_layout.proofs.tables.Tables.add.Goals as goal

pub invariant_of-self-in-Ok : goal.invariant_of-self-in-Ok
invariant_of-self-in-Ok c =
    let section = c.self.inside.section.items in
    let lengths = c.self.inside.lengths.items in
    let offsets = c.self.inside.offsets in
    let table = c.args.table.items in
    let none = ap (λ (tables : List (List ℕ)). table_in 0 tables table) c.self.view_is ∙ c.requires in
    let puts = subst (λ (n : ℕ). Puts offsets c.put.new.offsets table (Some n)) c.in-Ok.ensures.offset c.in-Ok.ensures.offsets in
    rw (c.in-Ok.ensures.section, c.in_ok-push.ensures.items, c.len.ensures, c.args.table.ok.0) (has_more section lengths offsets c.self.invariant table none c.put.new.offsets puts)

pub returns-in-Ok-clause-ok : goal.returns-in-Ok-clause-ok
returns-in-Ok-clause-ok c =
    let table = c.args.table.items in
    rw (c.in-Ok.ensures.section, c.in_ok-push.ensures.items, c.len.ensures, c.args.table.ok.0)
    (tables_more c.self.inside.section.items c.self.inside.lengths.items c.self.inside.offsets c.self.invariant table ∙ ap (λ (tables : List (List ℕ)). tables ++ table ∷ []) c.self.view_is)
