use Rattle.dwz_check_sides.proofs.ListNumbers.{apart, keeps, numbered}
use Rattle.dwz_check_sides.proofs.lists.NameLists.number.Goals as goal

pub returns-clause-apart : goal.returns-clause-apart
returns-clause-apart c = λ h. apart c.args.self.now (record { names = c.number_of.new.seen; lists = c.number_under.new.seen }) c.args.outer c.args.name.now c.args.new
    c.in_ok-last.last c.in_ok-number.number c.in_ok-last.ensures c.in_ok-number.ensures c.requires h

pub returns-clause-kept : goal.returns-clause-kept
returns-clause-kept c = keeps c.args.self.now (record { names = c.number_of.new.seen; lists = c.number_under.new.seen }) c.args.outer c.args.name.now c.args.new
    c.in_ok-last.last c.in_ok-number.number c.in_ok-last.ensures c.in_ok-number.ensures

pub returns-clause-number : goal.returns-clause-number
returns-clause-number c = λ names h. numbered c.args.self.now (record { names = c.number_of.new.seen; lists = c.number_under.new.seen }) c.args.outer c.args.name.now c.args.new
    c.in_ok-last.last c.in_ok-number.number c.in_ok-last.ensures c.in_ok-number.ensures names h
