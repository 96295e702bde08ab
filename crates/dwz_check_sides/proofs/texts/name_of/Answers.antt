use Rattle.std.proofs.Common.{◌≡◌, None, Some}
use Rattle.dwz_check_sides.proofs.texts.name_of.Goals as goal

pub returns-in-Some : goal.returns-in-Some
returns-in-Some c = λ said starts e text side got is. (let both : Some c.in-Some.text.now ≡ Some text = c.in-Some.ensures said starts e text side got is in cc)

pub returns-in-None : goal.returns-in-None
returns-in-None c = λ said starts e text side got is. (let no : None ≡ Some text = c.in-None.ensures said starts e text side got is in absurd cc)
