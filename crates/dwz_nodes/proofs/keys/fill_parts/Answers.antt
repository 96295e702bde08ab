use Rattle.std.proofs.Common.{◌≡◌, ◌<◌, ◌++◌, ◌∷◌, [], ℕ, List, length, length-append, ap, arith, ◌∙◌}
use Rattle.std.specs.Prelude.{slice_index}
use Rattle.dwz_nodes.specs.Mentions.{part_key, words_of}
use Rattle.dwz_nodes.specs.declared.mentions.Mention.{Mention}
use Rattle.dwz_nodes.proofs.FillingKeys.{keys-more}
use Rattle.dwz_nodes.proofs.keys.fill_parts.Goals as goal

pub run_of-requires-clause-few : goal.run_of-requires-clause-few
run_of-requires-clause-few c =
    let inside : slice_index c.args.visit.now c.loop-a.a-index < length c.args.numbers.now = c.requires.inside c.loop-a.a-index 0 c.loop-a-test.true in
    let few = c.requires.few in
    omega arith

pub loop-a-preserved : goal.loop-a-preserved
loop-a-preserved c =
    let i = c.loop-a.invariant in
    let n : ℕ = c.loop-a.a-index in
    let visit : List ℕ = c.args.visit.now in
    let key : ℕ → List ℕ = part_key c.args.numbers.now c.args.mentions.now in
    let new : List ℕ = key (slice_index visit n) in
    let is : c.push_part.new.self ≡ c.loop-a.keys ++ new ∷ [] =
    c.in_ok-push_part.ensures.appended ∙ ap (λ (run : List Mention). c.loop-a.keys ++ (slice_index c.args.numbers.now (slice_index visit n) ∷ words_of run) ∷ []) c.run_of.ensures in
    record {
      len = ap (λ (l : List (List ℕ)). length l) is ∙ let e = i.len in omega (arith, length-append c.loop-a.keys (new ∷ []));
      each = keys-more key visit c.loop-a.keys c.push_part.new.self n i.len is i.each;
    }

pub returns : goal.returns
returns c =
    let i = c.loop-a.invariant in
    let t = c.loop-a-test.false in
    let e = c.loop-a.auto.a-index-end in
    record {
      len = let l = i.len in omega arith;
      each = λ k l. i.each k (omega arith);
    }
