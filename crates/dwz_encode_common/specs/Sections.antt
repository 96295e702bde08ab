-- The two sections of the common file that hold texts.
use Rattle.std.specs.Prelude.{◌≡◌, ℕ, ◌<◌, ◌^◌, List, length}
use Rattle.dwz_def_reading.specs.ElfLayout.{too_large}
use Rattle.dwz_def_encoding.specs.Placing.{lines_bytes, texts_bytes}
use Rattle.dwz_def_readback.specs.Files.{Run, paths, texts}
use Rattle.dwz_def_readback.specs.Sound.{FewTexts}

-- Where both are there and aren't too long, neither are the texts of the common file.
abbrev pub FewTextsLaw : Type 0
FewTextsLaw =
    (r : Run) (strs lines : List ℕ) → strs ≡ texts_bytes (texts r) → lines ≡ lines_bytes (paths r)
    → length strs < 2 ^ 32 → length lines < too_large → FewTexts r
