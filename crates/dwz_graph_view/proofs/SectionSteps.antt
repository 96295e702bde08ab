-- The section of a file that is kept.
use Rattle.std.proofs.Common.{◌≡◌, ℕ, ◌<◌, List, length, map, take, drop, Some, None, slice_get, get_or, sym, ap, ◌∙◌, arith}
use Rattle.std.specs.Option.{option_and_then, option_map}
use Rattle.std.proofs.lemmas.List.{length-map}
use Rattle.dwz_def_reading.specs.ElfNames.{sections_in}
use Rattle.dwz_def_reading.specs.Files.{Limits}
use Rattle.dwz_def_reading.proofs.SoundFiles.{no_elf_fault}
use Rattle.dwz_unit.specs.Rows.{units_of}
use Rattle.dwz_def_reading.specs.ElfReading.{ElfView, bytes_in, elf_fault, elf_of, section_range}
use Rattle.dwz_def_reading.proofs.ListFacts.{got_map, item_got}
use Rattle.dwz_graph.specs.declared.file.File.{File}
use Rattle.dwz_graph.specs.Files.{HasRead, IsRead}
use Rattle.dwz_graph_view.specs.Sections.{section_at, section_in}

-- its sections are those of its bytes
pub range_is : (contents : List (List ℕ)) (k : ℕ) (bytes : List ℕ) (f : File) (code : ℕ) → HasRead contents k bytes f → section_range f.elf.sections code ≡ section_range (sections_in bytes) code
unfolding elf_of
range_is contents k bytes f code h = ap (λ (e : ElfView). section_range e.sections code) h.read.elf

pub section_is : (contents : List (List ℕ)) (k code : ℕ) (bytes : List ℕ) → slice_get contents k ≡ Some bytes → section_at contents k code ≡ section_in code bytes
section_is contents k code bytes got = ap (option_and_then (section_in code)) got

abbrev range_bytes : List ℕ → ℕ × ℕ → List ℕ
range_bytes bytes range = take range.1 (drop range.0 bytes)

-- ---- of the file with a number

-- the bytes of a file among those of all
pub own_bytes : {X : Type 0} (view : X → List ℕ) (contents : List (List ℕ)) (files : List X) (k : ℕ) (x : X) (bytes : List ℕ) → contents ≡ map view files → k < length contents → x ≡ get_or files k x
    → bytes ≡ view x → slice_get contents k ≡ Some bytes
own_bytes view contents files k x bytes are lt is e =
    let long = ap (λ (w : List (List ℕ)). length w) are in
    let same = length-map files view in
    ap (λ (w : List (List ℕ)). slice_get w k) are ∙ got_map view files k x (item_got files k x (omega arith) is) ∙ ap Some (sym e)

module _ (contents : List (List ℕ)) (k code : ℕ) (bytes : List ℕ) (f : File) (has : HasRead contents k bytes f) (got : slice_get contents k ≡ Some bytes) where
  pub none_there : section_range f.elf.sections code ≡ None → None ≡ section_at contents k code
  none_there none = sym (section_is contents k code bytes got ∙ ap (option_map (range_bytes bytes)) (sym (range_is contents k bytes f code has) ∙ none))

  pub some_there : (range : ℕ × ℕ) (own : List ℕ) → section_range f.elf.sections code ≡ Some range → own ≡ bytes_in bytes (section_range f.elf.sections code) → Some own ≡ section_at contents k code
  some_there range own some e =
      ap Some (e ∙ ap (bytes_in bytes) some) ∙ sym (section_is contents k code bytes got ∙ ap (option_map (range_bytes bytes)) (sym (range_is contents k bytes f code has) ∙ some))

-- ---- a file that was read has no fault of its sections

pub no_fault : (l : Limits) (number : ℕ) (bytes : List ℕ) (f : File) → IsRead l number bytes f → elf_fault bytes ≡ None
no_fault l number bytes f is = no_elf_fault l bytes (units_of f.units) is.doc is.means
