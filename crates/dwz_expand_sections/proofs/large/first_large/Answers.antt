use Rattle.dwz_expand_sections.proofs.LargeLemmas.{abbrevs_large, info_large, none_large}
use Rattle.dwz_expand_sections.proofs.large.first_large.Goals as goal

pub returns-then-info-ge-TOO_LARGE-clause-found : goal.returns-then-info-ge-TOO_LARGE-clause-found
returns-then-info-ge-TOO_LARGE-clause-found c f has = info_large f c.args.info c.args.abbrevs has c.too_large.result c.too_large.ensures c.if-info-ge-TOO_LARGE.true

pub returns-then-abbrevs-ge-TOO_LARGE-clause-found : goal.returns-then-abbrevs-ge-TOO_LARGE-clause-found
returns-then-abbrevs-ge-TOO_LARGE-clause-found c f has =
    abbrevs_large f c.args.info c.args.abbrevs has c.too_large-then-abbrevs-ge-TOO_LARGE.result c.too_large-then-abbrevs-ge-TOO_LARGE.ensures
    c.if-info-ge-TOO_LARGE.false c.if-abbrevs-ge-TOO_LARGE.true

pub returns-else-abbrevs-ge-TOO_LARGE-clause-found : goal.returns-else-abbrevs-ge-TOO_LARGE-clause-found
returns-else-abbrevs-ge-TOO_LARGE-clause-found c f has = none_large f c.args.info c.args.abbrevs has c.if-info-ge-TOO_LARGE.false c.if-abbrevs-ge-TOO_LARGE.false
