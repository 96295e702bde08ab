use Rattle.std.proofs.Common.{◌≡◌, ℕ, ◌+◌, ◌++◌, ◌∷◌, [], List, take, get_or, ap, sym, subst, ◌∙◌}
use Rattle.std.proofs.lemmas.List.{map-append, take_more}
use Rattle.dwz_nodes.specs.Mentions.{sources_of}
use Rattle.dwz_nodes.specs.declared.mentions.Mention.{Mention}
use Rattle.dwz_rounds.specs.Marked.{ArePut}
use Rattle.dwz_rounds.proofs.Marking.{put-more}
use Rattle.dwz_rounds.proofs.visit.visit_sources.Goals as goal

pub loop-mention-preserved : goal.loop-mention-preserved
loop-mention-preserved c =
    let old : List ℕ = c.args.visit.now.items in
    let mentions : List Mention = c.args.mentions.now in
    let i : ℕ = c.loop-mention.mention-index in
    let none : Mention = record { source = 0; position = 0; number = 0 } in
    let more : sources_of (take (i + 1) mentions) ≡ sources_of (take i mentions) ++ (get_or mentions i none).source ∷ [] =
    ap sources_of (take_more mentions i none c.loop-mention-test.true) ∙ map-append (λ (m : Mention). m.source) (take i mentions) (get_or mentions i none ∷ []) in
    record {
      len = c.put.ensures.len.0 ∙ c.loop-mention.invariant.len;
      marked = c.in_ok-put.ensures.marked;
      put = subst (λ (xs : List ℕ). ArePut old xs c.put.new.list.items) (sym more)
          (put-more old (sources_of (take i mentions)) c.loop-mention.visit.items c.put.new.list.items (get_or mentions i none).source c.loop-mention.invariant.put c.in_ok-put.ensures.put);
    }
