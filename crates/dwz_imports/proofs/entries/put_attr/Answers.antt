use Rattle.std.proofs.Common.{◌≡◌, ◌↔◌, ◌⊎◌, ℕ, List, Some, refl, subst}
use Rattle.std.specs.Option.{option_map}
use Rattle.dwz_def_reading.proofs.CaseFacts.{on_ok}
use Rattle.dwz_def_reading.specs.Classes.{Class, class_of}
use Rattle.dwz_def_reading.specs.Entries.{RawAttr}
use Rattle.dwz_def_reading.specs.Lists.{In}
use Rattle.dwz_def_reading.specs.Meanings.{offset_of}
use Rattle.dwz_graph.specs.Resolved.{stored}
use Rattle.dwz_unit.specs.Rows.{units_of}
use Rattle.dwz_imports.specs.Said.{raw_beside}
use Rattle.dwz_imports.specs.Stored.{IsPartOf, common_named, common_place, own_named, own_place}
use Rattle.dwz_imports.proofs.NamedParts.{one_import, one_other}
use Rattle.dwz_imports.proofs.entries.put_attr.Goals as goal

pub returns-then-pair-ne-DW_AT_IMPORT : goal.returns-then-pair-ne-DW_AT_IMPORT
returns-then-pair-ne-DW_AT_IMPORT c = λ n. one_other (units_of c.args.own.now) (raw_beside (option_map (λ u. u.now) c.args.common)) n c.args.at (stored 0 0 c.args.pair.now c.args.raw.now)
    c.args.parts.now.items c.args.parts.now.items c.if-pair-ne-DW_AT_IMPORT.true refl

pub returns : goal.returns
returns c =
    let own = units_of c.args.own.now in
    let common = raw_beside (option_map (λ u. u.now) c.args.common) in
    let a : RawAttr = stored 0 0 c.args.pair.now c.args.raw.now in
    let old : List ℕ = c.args.parts.now.items in
    let new : List ℕ = c.put.new.parts.items in
    let part : (n : ℕ) → (c.named_part.result ≡ Some n) ↔ IsPartOf own common (own_place (class_of a.pair.form) c.args.at (offset_of a)) (common_place (class_of a.pair.form) (offset_of a)) n =
    λ n. subst (λ (k : Class). (c.named_part.result ≡ Some n) ↔ IsPartOf own common (own_place k c.args.at (offset_of a)) (common_place k (offset_of a)) n) c.class_of.ensures
    (c.named_part.ensures n) in
    on_ok c.put.result ((n : ℕ) → In n new ↔ (In n old ⊎ (c.named_part.result ≡ Some n))) ((n : ℕ) → In n new ↔ (In n old ⊎ IsPartOf own common (own_named c.args.at a) (common_named a) n))
    (λ h n. one_import own common n c.args.at a c.named_part.result old new c.if-pair-ne-DW_AT_IMPORT.false (part n) (h n)) c.put.ensures
