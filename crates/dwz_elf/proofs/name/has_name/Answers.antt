use Rattle.std.proofs.Common.{◌&&◌, ◌∙◌, ap, arith, Bool, sym, inl, inr}
use Rattle.std.proofs.lemmas.List.{drop_all}
use Rattle.std.specs.Str.{bytes_eq}
use Rattle.dwz_def_reading.proofs.ListFacts.{whole_rest}
use Rattle.dwz_elf.proofs.NameLemmas.{called, no_rest, not_ended}
use Rattle.dwz_elf.proofs.name.has_name.Goals as goal

pub returns-in_default : goal.returns-in_default
returns-in_default c = λ is. no_rest c.args.table.now c.args.name.now c.args.section.now.header.name
    (drop_all c.args.section.now.header.name c.args.table.now (let far = c.in_default.ensures.lookup.0 in elim far [ inl past ↦ omega (arith, past) | inr never ↦ omega (arith, never) ]))

pub returns-then-section : goal.returns-then-section
returns-then-section c = λ is. (
    let a = c.in-Some.ensures.lookup.0 in
    let rest = a.2 ∙ whole_rest c.args.table.now c.args.section.now.header.name in
    c.eq.ensures ∙ ap (λ (b : Bool). b && bytes_eq c.front_of.result.now c.args.name.now) (sym c.if-section.true)
    ∙ called c.args.table.now c.in-Some.rest.now c.args.name.now c.front_of.result.now c.args.section.now is rest c.front_of.ensures c.requires)

pub returns-else-section : goal.returns-else-section
returns-else-section c = λ is. c.if-section.false ∙ not_ended c.args.table.now c.args.name.now c.args.section.now is c.if-section.false
