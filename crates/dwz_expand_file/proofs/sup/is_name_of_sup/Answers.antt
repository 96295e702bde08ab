use Rattle.std.proofs.Common.{ℕ, List, eqb, ap, ◌∙◌, arith, inl, inr}
use Rattle.std.proofs.lemmas.List.{drop_all}
use Rattle.dwz_def_reading.specs.ElfNames.{known_name, section_name_in}
use Rattle.dwz_def_reading.proofs.ListFacts.{whole_rest}
use Rattle.dwz_expand_file.proofs.SupLemmas.{is_sup_name, none_named}
use Rattle.dwz_expand_file.proofs.sup.is_name_of_sup.Goals as goal

pub returns-in-Some : goal.returns-in-Some
returns-in-Some c =
    let a = c.in-Some.ensures.lookup.0 in
    let rest = a.2 ∙ whole_rest c.args.table.now c.args.at in
    c.starts_with.ensures.value ∙ (is_sup_name c.in-Some.rest.now ∙ ap (λ (r : List ℕ). eqb (known_name (section_name_in r)).code 9) rest)

pub returns-in-None : goal.returns-in-None
returns-in-None c = none_named c.args.table.now c.args.at
    (drop_all c.args.at c.args.table.now (let far = c.in-None.ensures.lookup.0 in elim far [ inl past ↦ omega (arith, past) | inr never ↦ omega (arith, never) ]))
