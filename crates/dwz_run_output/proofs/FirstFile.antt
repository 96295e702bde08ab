-- The first of files that were read has the header that its content says; where there is no file, that would be of zeros.
use Rattle.std.proofs.Common.{◌≡◌, ℕ, List, [], ◌∷◌, get_or, Some, None, refl, subst, ap, ◌∙◌, sym}
use Rattle.std.specs.Prelude.{slice_get}
use Rattle.dwz_def_reading.specs.declared.elf.FileHeader.{FileHeader}
use Rattle.dwz_def_reading.specs.ElfHeaders.{file_header, number_at}
use Rattle.dwz_def_reading.specs.ElfReading.{ElfView, elf_of}
use Rattle.dwz_def_reading.specs.Files.{Limits, no_files_before}
use Rattle.dwz_graph.specs.declared.file.File.{File}
use Rattle.dwz_graph.specs.Files.{AreKept, AreRead}

header_of : (bytes : List ℕ) → (elf_of bytes).file ≡ file_header bytes
unfolding elf_of
header_of bytes = refl

first_read : (end : Limits) (contents : List (List ℕ)) (files : List File) (f : File) → AreRead no_files_before 0 contents files end → slice_get files 0 ≡ Some f
    → f.elf.file ≡ file_header (get_or contents 0 [])
first_read end [] [] f are is = absurd cc
first_read end [] (g ∷ files) f are is = absurd are
first_read end (b ∷ contents) [] f are is = absurd are
first_read end (b ∷ contents) (g ∷ files) f are is =
    let same : g ≡ f = cc in
    subst (λ (h : File). h.elf.file ≡ file_header b) same (ap (λ (e : ElfView). e.file) are.0.elf ∙ header_of b)

pub first_header : (contents : List (List ℕ)) (files : List File) (f : File) → AreKept contents files → Some f ≡ slice_get files 0
    → f.elf.file ≡ file_header (get_or contents 0 [])
first_header contents files f kept is = first_read kept.end contents files f kept.are (sym is)

-- ---- where there is none

none_read : (end : Limits) (contents : List (List ℕ)) (files : List File) → AreRead no_files_before 0 contents files end → None ≡ slice_get files 0
    → get_or contents 0 [] ≡ []
none_read end [] [] are is = refl
none_read end [] (g ∷ files) are is = absurd are
none_read end (b ∷ contents) [] are is = absurd are
none_read end (b ∷ contents) (g ∷ files) are is = absurd cc

no_machine : (file_header []).machine ≡ 0
unfolding number_at
no_machine = refl

no_flags : (file_header []).flags ≡ 0
unfolding number_at
no_flags = refl

module _ (contents : List (List ℕ)) (files : List File) (kept : AreKept contents files) (none : None ≡ slice_get files 0) where
  empty : file_header [] ≡ file_header (get_or contents 0 [])
  empty = ap file_header (sym (none_read kept.end contents files kept.are none))

  pub none_machine : 0 ≡ (file_header (get_or contents 0 [])).machine
  none_machine = sym no_machine ∙ ap (λ (h : FileHeader). h.machine) empty

  pub none_flags : 0 ≡ (file_header (get_or contents 0 [])).flags
  none_flags = sym no_flags ∙ ap (λ (h : FileHeader). h.flags) empty
