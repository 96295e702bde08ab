use Rattle.std.proofs.Common.{◌≡◌, ◌++◌, ◌∷◌, ◌∙◌, List, ℕ, fold, get_or, pos, sym, take, ap}
use Rattle.std.specs.List.{flat_map}
use Rattle.std.proofs.lemmas.List.{take_all}
use Rattle.std.proofs.lemmas.List.Elements.{All-more}
use Rattle.dwz_model.specs.declared.place.Pair.{Pair}
use Rattle.dwz_def_reading.specs.Abbrevs.{children_byte}
use Rattle.dwz_layout.specs.Keys.{HasBits, mixed, pair_words}
use Rattle.dwz_layout.specs.Shapes.{shape_of}
use Rattle.dwz_layout.proofs.KeyLemmas.{hash_more, key_made, words_more}
use Rattle.dwz_layout.proofs.codes.put_key.Goals as goal
use Rattle.dwz_layout.proofs.codes.put_key.Goals.{then-children, else-children}

-- where there is no pair
abbrev no_pair : Pair
no_pair = record { name = 0; form = 0; constant = pos 0 }

pub loop-pair-preserved : goal.loop-pair-preserved
loop-pair-preserved c =
    let pairs = c.args.pairs.now in
    let i = c.loop-pair.pair-index in
    let p = get_or pairs i no_pair in
    let start : List ℕ → List ℕ = λ w. 0 ∷ c.args.tag ∷ c.if-children.second ∷ w in
    let first = mixed (mixed 0 c.args.tag) c.if-children.second in
    record {
      words =
          c.in_ok-hash.ensures.words ∙ ap (λ (w : List ℕ). w ++ pair_words p) c.loop-pair.invariant.words ∙ sym (ap start (words_more pairs i no_pair c.loop-pair-test.true));
      hash = c.in_ok-hash.ensures.hash ∙ ap (λ (h : ℕ). fold mixed h (pair_words p)) c.loop-pair.invariant.hash ∙ sym (hash_more pairs i no_pair c.loop-pair-test.true first);
      bits = All-more HasBits pairs i no_pair c.loop-pair-test.true c.loop-pair.invariant.bits c.put_pair.ensures.bits;
    }

pub returns-clause-ok : goal.returns-clause-ok
returns-clause-ok c =
    let all : take c.loop-pair.pair-index c.args.pairs.now ≡ c.args.pairs.now = take_all c.loop-pair.pair-index c.args.pairs.now c.loop-pair-test.false in
    let byte : c.if-children.second ≡ children_byte c.args.children = elim c.if-children.branch [
      | then-children w ↦ w.second-is ∙ sym (ap children_byte w.if-children.true)
      | else-children w ↦ w.second-is ∙ sym (ap children_byte w.if-children.false)
    ] in
    key_made (shape_of c.args.tag c.args.children c.args.pairs.now) c.if-children.second c.loop-pair.hash c.loop-pair.key.items byte
    (c.loop-pair.invariant.words ∙ ap (λ (ps : List Pair). 0 ∷ c.args.tag ∷ c.if-children.second ∷ flat_map pair_words ps) all)
    (c.loop-pair.invariant.hash ∙ ap (λ (ps : List Pair). fold mixed 0 (c.args.tag ∷ c.if-children.second ∷ flat_map pair_words ps)) all)
