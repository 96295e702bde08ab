use Rattle.std.proofs.Common.{◌+◌, ◌++◌, ◌∙◌, List, ℕ, pos, ap, drop, get_or, sym}
use Rattle.dwz_model.specs.declared.place.Pair.{Pair}
use Rattle.dwz_def_reading.specs.Abbrevs.{pair_bytes, pairs_bytes}
use Rattle.dwz_abbrev.proofs.WriteLemmas.{begins_on, last_one, one_more, pairs_all, pairs_more}
use Rattle.dwz_abbrev.proofs.writing.put_pairs.Goals as goal

-- where there is no pair
abbrev no_pair : Pair
no_pair = record { name = 0; form = 0; constant = pos 0 }

pub loop-pair-preserved : goal.loop-pair-preserved
loop-pair-preserved c =
    let pairs = c.args.pairs.now in
    let i = c.loop-pair.pair-index in
    let out = c.loop-pair.out.items in
    let old = c.args.out.now.items in
    let so_far = c.loop-pair.invariant in (
      begins_on old out c.put_pair.new.out.items so_far.0 c.put_pair.ensures.begins,
      one_more out c.put_pair.new.out.items old (pair_bytes (get_or pairs i no_pair)) (pairs_bytes (drop (i + 1) pairs)) (pairs_bytes pairs) c.in_ok-put_pair.ensures.ok
          (ap (λ (w : List ℕ). out ++ w) (sym (pairs_more pairs i no_pair c.loop-pair-test.true)) ∙ so_far.1),
    )

pub returns-clause-ok : goal.returns-clause-ok
returns-clause-ok c =
    let pairs = c.args.pairs.now in
    let out = c.loop-pair.out.items in
    last_one c.extend_from_slice.result c.extend_from_slice.new.self.items out c.args.out.now.items _ (pairs_bytes pairs) c.extend_from_slice.ensures.items
    (ap (λ (w : List ℕ). out ++ w) (sym (pairs_all pairs c.loop-pair.pair-index c.loop-pair-test.false)) ∙ c.loop-pair.invariant.1)
