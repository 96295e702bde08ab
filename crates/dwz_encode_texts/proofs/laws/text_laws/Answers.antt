use Rattle.dwz_encode_texts.proofs.LawLemmas.{names_law, stand_law, texts_law}
use Rattle.dwz_encode_texts.proofs.laws.text_laws.Goals as goal

pub returns-clause-stand : goal.returns-clause-stand
returns-clause-stand c = λ beside f t files names. stand_law f t files names

pub returns-clause-texts : goal.returns-clause-texts
returns-clause-texts c = λ beside f t k facts listed stand n bytes x index has keys u i r d read comes.
    texts_law f t k facts listed stand n bytes x index has keys u i r d read comes

pub returns-clause-names : goal.returns-clause-names
returns-clause-names c = λ beside f t k facts listed stand n bytes x index has keys u space i r d text entry read is comes.
    names_law f t k facts listed stand n bytes x index has keys u i r d read comes space text entry is
