-- In what manner the code reads a file.
use Rattle.dwz_def_reading.specs.ElfFaults.{ElfManner}
use Rattle.dwz_elf.specs.declared.manner.Manner.{Manner}

abbrev pub manner_of : Manner → ElfManner
manner_of m = record { headers = m.most_headers; sup = m.may_have_sup }
