use Rattle.std.proofs.Common.{ℕ, ◌++◌, map, refl, subst}
use Rattle.dwz_expand_layout.specs.Laid.{layout_view}
use Rattle.dwz_expand.specs.Told.{common_told, own_told, told}
use Rattle.dwz_expand_passes.specs.Noted.{noted_of}
use Rattle.dwz_expand_sections.specs.Narrow.{FirstPlace}
use Rattle.dwz_expand.proofs.ToldLemmas.{with_common, with_own}
use Rattle.dwz_expand.proofs.narrow.NarrowPassPass.put.Goals as goal

pub returns-then-common-clause-noted : goal.returns-then-common-clause-noted
returns-then-common-clause-noted c = λ given h. (
    let made = layout_view c.args.self.now.layout.now in
    let places = c.args.self.now.places in
    with_common made given (noted_of c.args.unit c.args._source c.args.common c.args.entry.now) places (record { own = places.own; common = c.note_all-self.result }) c.if-common.true refl h
    (subst (λ (start : ℕ). FirstPlace (common_told made given ++ map (told made start) c.args.entry.now.operands.now) c.note_all-self.result) c.start_at-start.ensures
    (c.note_all-self.ensures (common_told made given) h.common)))

pub returns-else-common-clause-noted : goal.returns-else-common-clause-noted
returns-else-common-clause-noted c = λ given h. (
    let made = layout_view c.args.self.now.layout.now in
    let places = c.args.self.now.places in
    with_own made given (noted_of c.args.unit c.args._source c.args.common c.args.entry.now) places (record { own = c.note_all-self-else-common.result; common = places.common }) c.if-common.false refl h
    (subst (λ (start : ℕ). FirstPlace (own_told made given ++ map (told made start) c.args.entry.now.operands.now) c.note_all-self-else-common.result) c.start_at-start.ensures
    (c.note_all-self-else-common.ensures (own_told made given) h.own)))
