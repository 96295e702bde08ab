use Rattle.std.proofs.Common.{◌≡◌, false, subst, sym, true, ◌∙◌, ℕ}
use Rattle.dwz_check_labels.specs.Files.{scope_at}
use Rattle.dwz_check_labels.proofs.AloneLemmas.{named_alone, target_alone}
use Rattle.dwz_check_labels.proofs.SourceLemmas.{TellsName, own_told}
use Rattle.dwz_check_labels.proofs.refs.put_operand_name.Goals as goal

pub put_name-requires-clause-ready : goal.put_name-requires-clause-ready
put_name-requires-clause-ready c = c.requires.ready.own

pub returns-in_ok-put_name-in-Some : goal.returns-in_ok-put_name-in-Some
returns-in_ok-put_name-in-Some c = λ said name u k at named. (
    let x = c.args.source.now in
    let looks = c.in-Some.ensures.looks u at in
    subst (λ (p : ℕ). TellsName (name p) c.args.out.now.items c.put_name.new.out.items c.args.tops.now.items c.put_name.new.tops.items) (looks.1 ∙ target_alone (scope_at x u) c.args.operand.now)
    (own_told x said name k c.requires.ready c.in-Some.entry c.args.out.now.items c.put_name.new.out.items c.args.tops.now.items c.put_name.new.tops.items looks.0 c.in_ok-put_name-in-Some.ensures))

pub returns-in-None : goal.returns-in-None
returns-in-None c = λ said name u k at named. (
    let looks = c.in-None.ensures.looks u at in
    let none : false ≡ true = sym looks ∙ (named_alone (scope_at c.args.source.now u) c.args.operand.now ∙ named) in
    absurd cc)
