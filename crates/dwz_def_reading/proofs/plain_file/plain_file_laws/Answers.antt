use Rattle.dwz_def_reading.proofs.PlainLemmas.{length_plain}
use Rattle.dwz_def_reading.proofs.PlainFaults.{faults_are}
use Rattle.dwz_def_reading.proofs.PlainReads.{contents_seen, fields_read, sections_are}
use Rattle.dwz_def_reading.proofs.plain_file.plain_file_laws.Goals as goal

pub returns-clause-length : goal.returns-clause-length
returns-clause-length c = length_plain

pub returns-clause-fields : goal.returns-clause-fields
returns-clause-fields c = fields_read

pub returns-clause-sections : goal.returns-clause-sections
returns-clause-sections c = sections_are

pub returns-clause-contents : goal.returns-clause-contents
returns-clause-contents c = contents_seen

pub returns-clause-reads : goal.returns-clause-reads
returns-clause-reads c = faults_are
