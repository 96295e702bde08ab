use Rattle.dwz_def_reading.proofs.LinesWritten.{header_table}
use Rattle.dwz_def_reading.proofs.PathTexts.{table_paths}
use Rattle.dwz_def_reading.proofs.line_tables.written_line_laws.Goals as goal

pub returns-clause-table : goal.returns-clause-table
returns-clause-table c = header_table

pub returns-clause-paths : goal.returns-clause-paths
returns-clause-paths c = table_paths
