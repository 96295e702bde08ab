use Rattle.std.proofs.Common.{length, ap, ◌∙◌, arith}
use Rattle.std.proofs.lemmas.Result.{IfOk-weaker}
use Rattle.dwz_sup.specs.Seen.{section_seen}
use Rattle.dwz_gen.proofs.GivenLemmas.{as_given}
use Rattle.dwz_gen.proofs.LengthLemmas.{small_file}
use Rattle.dwz_gen.proofs.demo.file_of.Goals as goal

pub plain_file-requires : goal.plain_file-requires
plain_file-requires c =
    let given =
    as_given c.args.n c.args.first c.deref.result.now c.in_ok-info.info.items
    (section_seen c.section.result) (section_seen c.section-2.result)
    c.deref.ensures.value c.in_ok-info.ensures c.section.ensures c.section-2.ensures in
    omega (arith, ap length given, small_file c.args.n c.args.first c.requires.few)

pub returns : goal.returns
returns c =
    let given =
    as_given c.args.n c.args.first c.deref.result.now c.in_ok-info.info.items
    (section_seen c.section.result) (section_seen c.section-2.result)
    c.deref.ensures.value c.in_ok-info.ensures c.section.ensures c.section-2.ensures in
    IfOk-weaker c.plain_file.result _ _ (λ file is. is ∙ given) c.plain_file.ensures
