use Rattle.dwz_def_explain.proofs.FoundLemmas.{found}
use Rattle.dwz_def_explain.proofs.WhatLemmas.{one_what, what_tells}
use Rattle.dwz_def_explain.proofs.laws.what_laws.Goals as goal

pub returns-clause-tells : goal.returns-clause-tells
returns-clause-tells c = what_tells

pub returns-clause-one : goal.returns-clause-one
returns-clause-one c = one_what

pub returns-clause-either : goal.returns-clause-either
returns-clause-either c = found
