use Rattle.std.proofs.Common.{◌≡◌, List, length, replicate, ap, sym, subst, ◌∙◌, arith, rules}
use Rattle.std.specs.Vec.{with_items}
use Rattle.std.proofs.lemmas.List.{length-replicate, with_items_is}
use Rattle.dwz_expand_sources.specs.declared.sources.NewUnit.{NewUnit}
use Rattle.dwz_expand_sources.specs.Rows.{AreCopies, HaveEntries, copy_at}
use Rattle.dwz_expand_sources.specs.declared.copies.CopyAt.{CopyAt}
use Rattle.dwz_expand_sources.proofs.AnswerLemmas.{sources_have}
use Rattle.dwz_expand_sources.proofs.RowLemmas.{made, of_length}
use Rattle.dwz_expand_sources.proofs.copies.Copies.of.Goals as goal

pub note_first-requires-clause-entries : goal.note_first-requires-clause-entries
note_first-requires-clause-entries c =
    let s = c.args.sources.now in
    let starts = c.args.numbers.now.roots in
    let none = copy_at (length c.units-units.result.now) 0 in
    let all : c.in_ok-first.first.items ≡ replicate c.args.entries none = c.in_ok-first.ensures.items_if_clones_equal (λ y e. search rules) in
    let len : length c.deref_mut.result.now ≡ c.args.entries = ap (λ (w : List CopyAt). length w) (c.deref_mut.ensures.value ∙ all) ∙ length-replicate c.args.entries none in
    let x = c.requires.sources in
    of_length c.args.entries (length c.deref_mut.result.now) s starts len (sources_have x.0 s starts c.args.entries x.1 x.2 c.requires.numbers c.requires.few)

pub returns-clause-copies : goal.returns-clause-copies
returns-clause-copies c =
    let s = c.args.sources.now in
    let starts = c.args.numbers.now.roots in
    let units = length c.units-units.result.now in
    let none = copy_at units 0 in
    let many : units ≡ length s.units = ap (λ (w : List NewUnit). length w) c.units-units.ensures in
    let all : c.in_ok-first.first.items ≡ replicate c.args.entries none = c.in_ok-first.ensures.items_if_clones_equal (λ y e. search rules) in
    let value = ap (λ (w : List CopyAt). length w) c.deref_mut.ensures.value in
    let len : length c.deref_mut.result.now ≡ c.args.entries = value ∙ ap (λ (w : List CopyAt). length w) all ∙ length-replicate c.args.entries none in
    let kept : length c.note_first.new.row ≡ c.args.entries = omega (arith, c.note_first.auto.row) in
    let same : (with_items c.in_ok-first.first c.note_first.new.row).items ≡ c.note_first.new.row =
    with_items_is c.in_ok-first.first c.note_first.new.row (omega (arith, c.note_first.auto.row, c.deref_mut.ensures.len, value)) in
    let here : c.in_ok-here.here.items ≡ replicate c.args.entries none = c.in_ok-here.ensures.items_if_clones_equal (λ y e. search rules) in
    let blank : c.in_ok-here.here.items ≡ replicate c.args.entries (copy_at (length s.units) 0) = here ∙ (λ j. replicate c.args.entries (copy_at (many j) 0)) in
    let x = c.requires.sources in
    let have : HaveEntries c.args.entries s starts = sources_have x.0 s starts c.args.entries x.1 x.2 c.requires.numbers c.requires.few in
    subst (λ (row : List CopyAt). AreCopies s starts (record { units = units; first = row; here = c.in_ok-here.here.items; unit = units })) (sym same)
    (made s starts units c.args.entries 0 c.note_first.new.row c.in_ok-here.here.items many have kept c.note_first.ensures.name c.note_first.ensures.least blank)
