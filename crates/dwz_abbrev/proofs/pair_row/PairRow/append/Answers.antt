use Rattle.std.proofs.Common.{length, drop, sym, subst, ◌∙◌}
use Rattle.dwz_abbrev.specs.ReadParts.{ArePlaced, AreParts, IsIn, SectionRow}
use Rattle.dwz_abbrev.proofs.PairLemmas.{parts_added, parts_grown}
use Rattle.dwz_abbrev.proofs.pair_row.PairRow.append.Goals.{After-push}
use Rattle.dwz_abbrev.proofs.pair_row.PairRow.append.Goals as goal

-- what was read
placed : (c : After-push) → ArePlaced c.self.inside.section.now (drop (length c.self.inside.row.items) c.read_pairs.new.row.items)
    (drop (length c.self.inside.row.items) c.read_pairs.new.places.items) c.at.result
placed c =
    let here = subst (λ (s : SectionRow). IsIn s.section c.args.cursor.now) (sym c.self.view_is) c.requires in
    rw c.at.ensures (c.in_default.ensures.placed c.self.inside.section.now here)

pub invariant_of-self-in_err-push : goal.invariant_of-self-in_err-push
invariant_of-self-in_err-push c =
    let section = c.self.inside.section.now in
    let new = c.read_pairs.new.row.items in
    let more = c.read_pairs.new.places.items in
    subst (AreParts section new more) (sym c.in_err-push.ensures.items)
    (parts_grown section c.self.inside.row.items new c.self.inside.places.items more c.self.inside.parts.items c.at.result c.self.invariant c.read_pairs.ensures.begins c.read_pairs.ensures.before
    (placed (goal.at.invariant_of-self-in_err-push c).After-push))

pub invariant_of-self-2 : goal.invariant_of-self-2
invariant_of-self-2 c =
    let section = c.self.inside.section.now in
    let new = c.read_pairs.new.row.items in
    let more = c.read_pairs.new.places.items in
    subst (AreParts section new more) (sym c.in_ok-push.ensures.items)
    (parts_added section c.self.inside.row.items new c.self.inside.places.items more c.self.inside.parts.items c.at.result c.self.invariant c.read_pairs.ensures.begins c.read_pairs.ensures.before
    (placed (goal.at.invariant_of-self-2 c).After-push) c.len-first.result c.len.result (c.len-first.ensures ∙ c.self.inside.row.ok.0) (c.len.ensures ∙ c.read_pairs.new.row.ok.0))
