use Rattle.std.proofs.Common.{ℕ, List, take, ap, sym, ◌∙◌}
use Rattle.std.specs.Prelude.{slice_index}
use Rattle.std.proofs.lemmas.List.{take_more}
use Rattle.dwz_nodes.specs.Keys.{mixed, words_hash}
use Rattle.dwz_nodes.proofs.Hashes.{words_hash-push}
use Rattle.dwz_nodes.proofs.keys.hash_words.Goals as goal

pub loop-word-preserved : goal.loop-word-preserved
loop-word-preserved c =
    let words : List ℕ = c.args.words.now in
    let i : ℕ = c.loop-word.word-index in
    c.mix_word-hash.ensures ∙ (ap (λ (h : ℕ). mixed h (slice_index words i)) c.loop-word.invariant
    ∙ (sym (words_hash-push (take i words) (slice_index words i)) ∙ ap words_hash (sym (take_more words i 0 c.loop-word-test.true))))
