use Rattle.std.proofs.Common.{ap, arith, ◌∙◌}
use Rattle.std.proofs.lemmas.Result.{err_from_is_err_and}
use Rattle.std.specs.Option.{option_map}
use Rattle.dwz_expand.proofs.OneAnswers.{answered, file_kept, one_there, refused_too}
use Rattle.dwz_expand.proofs.graph.expand.Goals as goal

pub bounds-back-0 : goal.bounds-back-0
bounds-back-0 c =
    let there = one_there c.args.graph.now.common c.args.graph.now.back c.back.result.now c.requires.one c.back.ensures in
    omega (arith, there)

pub of-requires-2 : goal.of-requires-2
of-requires-2 c =
    let r = c.args.graph.now in
    let common = option_map (λ f. f.now) c.common-common.result in
    let k = c.known_laws.ensures.files r c.back.result.now c.index-back-0.result common c.of-files.result c.requires.one c.common-common.ensures c.back.ensures c.index-back-0.is c.of-files.ensures in
    record { known = (r, k) }

pub first_refusal-requires-clause-ready : goal.first_refusal-requires-clause-ready
first_refusal-requires-clause-ready c =
    let r = c.args.graph.now in
    let common = option_map (λ f. f.now) c.common-common.result in
    let k = c.known_laws.ensures.files r c.back.result.now c.index-back-0.result common c.of-files.result c.requires.one c.common-common.ensures c.back.ensures c.index-back-0.is c.of-files.ensures in
    k.ready

pub first_refusal-requires-clause-plan : goal.first_refusal-requires-clause-plan
first_refusal-requires-clause-plan c =
    let r = c.args.graph.now in
    let common = option_map (λ f. f.now) c.common-common.result in
    let k = c.known_laws.ensures.files r c.back.result.now c.index-back-0.result common c.of-files.result c.requires.one c.common-common.ensures c.back.ensures c.index-back-0.is c.of-files.ensures in
    (k.w, c.in_ok-plan.ensures r k)

pub returns-in_err-first_refusal : goal.returns-in_err-first_refusal
returns-in_err-first_refusal c =
    let r = c.args.graph.now in
    let common = option_map (λ f. f.now) c.common-common.result in
    let k = c.known_laws.ensures.files r c.back.result.now c.index-back-0.result common c.of-files.result c.requires.one c.common-common.ensures c.back.ensures c.index-back-0.is c.of-files.ensures in
    let p = err_from_is_err_and c.from_residual-in_err-first_refusal.result c.from_residual-in_err-first_refusal.ensures.1 in
    rw (p.1, p.2) (refused_too r c.index-back-0.result common c.of-files.result k c.in_err-first_refusal.field-0.0
    (c.in_err-first_refusal.ensures r c.index-back-0.result common k (c.in_ok-plan.ensures r k)))

pub sections_of-requires-clause-sections : goal.sections_of-requires-clause-sections
sections_of-requires-clause-sections c = ap (λ s. s.sections.now) c.new_file-file.ensures.own ∙ c.of-files.ensures.own_is.sections

pub sections_of-requires-clause-file : goal.sections_of-requires-clause-file
sections_of-requires-clause-file c =
    let r = c.args.graph.now in
    let own = c.index-back-0.result in
    let common = option_map (λ f. f.now) c.common-common.result in
    let k = c.known_laws.ensures.files r c.back.result.now own common c.of-files.result c.requires.one c.common-common.ensures c.back.ensures c.index-back-0.is c.of-files.ensures in
    let p = c.in_ok-plan.ensures r k in
    let of = c.new_file-file.ensures.of r _ own common k p c.common-common.ensures c.of-files.ensures in
    let free = c.in_ok-first_refusal.ensures r own common k p in
    let lists = c.listed_laws.ensures r c.back.result.now own common c.requires.one c.common-common.ensures c.back.ensures c.index-back-0.is k.f k.reads k.content k.raw in
    (k.f, file_kept r own common c.of-files.result k lists, of, free)

pub returns : goal.returns
returns c =
    let r = c.args.graph.now in
    let own = c.index-back-0.result in
    let common = option_map (λ f. f.now) c.common-common.result in
    let k = c.known_laws.ensures.files r c.back.result.now own common c.of-files.result c.requires.one c.common-common.ensures c.back.ensures c.index-back-0.is c.of-files.ensures in
    let p = c.in_ok-plan.ensures r k in
    let of = c.new_file-file.ensures.of r _ own common k p c.common-common.ensures c.of-files.ensures in
    let free = c.in_ok-first_refusal.ensures r own common k p in
    let lists = c.listed_laws.ensures r c.back.result.now own common c.requires.one c.common-common.ensures c.back.ensures c.index-back-0.is k.f k.reads k.content k.raw in
    answered r own common c.of-files.result k c.sections_of.result free (c.sections_of.ensures k.f (file_kept r own common c.of-files.result k lists) of free)
