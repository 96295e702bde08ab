use Rattle.std.proofs.Common.{◌∙◌, ℕ, List, length, ap, sym}
use Rattle.dwz_def_reading.specs.Files.{unit_places}
use Rattle.dwz_def_reading.specs.Units.{RawUnit}
use Rattle.dwz_expand_layout.specs.declared.layout.LaidUnit.{LaidUnit}
use Rattle.dwz_expand_layout.specs.Laid.{Made}
use Rattle.dwz_expand.proofs.RangeSteps.{as_laid}
use Rattle.dwz_expand.proofs.ranges.ranges_written.Goals as goal

pub ranges_after-requires-clause-as_many : goal.ranges_after-requires-clause-as_many
ranges_after-requires-clause-as_many c =
    let f = c.requires.laid.0 in
    let file = c.requires.laid.2 in
    let l = c.requires.laid.3 in
    let laid_so = ap (λ (m : Made). length m.units) l.is ∙ as_laid l.order ∙ l.many in
    let began = (c.start_laws.ensures.starts f file.reads).as_many in
    let raw = ap (λ (us : List RawUnit). length (unit_places us)) file.raw in
    let here = ap (λ (ns : List ℕ). length ns) c.in_ok-places.ensures in
    ap (λ (us : List LaidUnit). length us) c.deref-2.ensures.value ∙ (laid_so ∙ (sym began ∙ (raw ∙ (sym here ∙ sym (ap (λ (ns : List ℕ). length ns) c.deref.ensures.value)))))
