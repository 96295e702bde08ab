use Rattle.std.proofs.Common.{◌≡◌, ◌<◌, ℕ, List, All, length, ap, sym, subst, arith, ◌∙◌}
use Rattle.std.proofs.lemmas.List.Elements.{All-contains}
use Rattle.dwz_nodes.specs.Mentions.{sources_of}
use Rattle.dwz_nodes.specs.declared.mentions.Mention.{Mention}
use Rattle.dwz_nodes.proofs.Among.{among-to}
use Rattle.dwz_rounds.specs.Marked.{ArePut}
use Rattle.dwz_rounds.proofs.Mentioned.{sources-inside}
use Rattle.dwz_rounds.proofs.Visiting.{with-from}
use Rattle.dwz_rounds.proofs.pass.look.Goals as goal

pub visit_sources-requires-clause-inside : goal.visit_sources-requires-clause-inside
visit_sources-requires-clause-inside c =
    let n : ℕ = length c.args.numbers.now in
    let pending : List ℕ = c.args.pending.now in
    let marks : length c.as_mut_slice.result.now ≡ n = ap length c.as_mut_slice.ensures.value ∙ c.requires.room.marks.marks_len in
    let inside : All (λ (m : Mention). m.source < n) c.list_mentions.new.mentions.items =
    sources-inside c.args.uses.now c.args.numbers.now pending c.list_mentions.new.mentions.items n c.in_ok-list_mentions.ensures
    (λ t h. c.requires.sources t (let l = All-contains (λ (a : ℕ). a < n) pending t c.requires.pending (among-to pending t h) in let e = c.requires.rows in omega arith)) in
    subst (λ (k : ℕ). All (λ (m : Mention). m.source < k) c.as_slice.result.now) (sym marks)
    (subst (λ (ms : List Mention). All (λ (m : Mention). m.source < n) ms) (sym c.as_slice.ensures.value) inside)

pub returns-clause-all : goal.returns-clause-all
returns-clause-all c =
    let ms : List Mention = c.list_mentions.new.mentions.items in
    let mid : List ℕ = c.visit_sources.new.visit.items in
    with-from c.args.numbers.now (sources_of ms) mid c.visit_wholes.new.visit.items c.visit_wholes.new.wholes.items
    (subst (λ (q : List ℕ × List Mention). ArePut q.0 (sources_of q.1) mid) (λ j. (c.requires.room.none j, c.as_slice.ensures.value j)) c.in_ok-visit_sources.ensures.put)
    c.in_ok-visit_wholes.ensures.with_wholes
