use Rattle.std.proofs.Common.{◌≡◌, ◌∙◌, List, ℕ, Some, ap, arith, bytes_eq, cond, inr, refl}
use Rattle.std.proofs.lemmas.Grind.{common_steps}
use Rattle.dwz_pool.specs.Numbered.{other_in}
use Rattle.dwz_pool.proofs.KeyLemmas.{updates_at}
use Rattle.dwz_pool.proofs.numbers.Numbers.add.Goals as goal

pub returns-clause-ok : goal.returns-clause-ok
returns-clause-ok c =
    let old = c.args.self.now in
    let copied : c.in_ok-text.text.items ≡ c.args.text.now = c.in_ok-text.ensures.items_if_clones_equal (λ x y e. e) in
    inr (record {
      is_there = grind (arith, common_steps);
      firsts = λ other. refl;
      others = λ other.
          updates_at c.in_ok-text.text.items old.others c.insert.new.self (Some c.args.number) c.in_ok-insert.ensures.updates other
          ∙ ap (λ (text : List ℕ). cond (bytes_eq text other) (Some c.args.number) (other_in old other)) copied;
    })
