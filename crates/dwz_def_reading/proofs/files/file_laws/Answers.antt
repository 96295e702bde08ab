use Rattle.dwz_def_reading.specs.Files.{files_meaning}
use Rattle.dwz_def_reading.proofs.AgreeLemmas.{just_one}
use Rattle.dwz_def_reading.proofs.FileLemmas.{file_agrees, files_agree}
use Rattle.dwz_def_reading.proofs.files.file_laws.Goals as goal

pub returns-clause-read : goal.returns-clause-read
returns-clause-read c l number files = (files_agree l number files).ok

pub returns-clause-first : goal.returns-clause-first
returns-clause-first c l number files = (files_agree l number files).err

pub returns-clause-one : goal.returns-clause-one
returns-clause-one c l number files = just_one (files_meaning l number files) (files_agree l number files)

pub returns-clause-file : goal.returns-clause-file
returns-clause-file c l bytes units doc = (file_agrees l bytes).ok (units, doc)

pub returns-clause-file_fault : goal.returns-clause-file_fault
returns-clause-file_fault c l bytes = (file_agrees l bytes).err
