-- The first fault of the new sections of a file: of its operands, or else of the lengths of its sections.
use Rattle.std.proofs.Common.{◌≡◌, ℕ, zero, suc, ◌+◌, ◌<◌, true, false, List, [], ◌∷◌, ◌++◌, length, get_or, append_assoc, Option, Some, None, refl, sym, subst, ◌∙◌, inl, inr, arith}
use Rattle.std.specs.Option.{option_or}
use Rattle.dwz_model.specs.declared.fault.Fault.{Fault}
use Rattle.dwz_model.specs.declared.sections.Sections.{Sections}
use Rattle.dwz_def_reading.specs.declared.elf.NewContent.{NewContent}
use Rattle.dwz_def_output.specs.Changed.{changes_by, if_new}
use Rattle.dwz_def_tops.specs.Lists.{Nth}
use Rattle.dwz_def_images.specs.Units.{changes}
use Rattle.dwz_def_readback.specs.Files.{CommonFile, Run}
use Rattle.dwz_def_output.specs.Contents.{listed, sections_after_by}
use Rattle.dwz_def_output.specs.Refusals.{FirstNarrowBy, IsLargeSection, SectionsFaultBy, spoken}
use Rattle.dwz_def_reading.specs.FirstOf.{OfFirst, OrElse}
use Rattle.dwz_def_output.proofs.FreeLemmas.{Nothing, not_first, not_then}
use Rattle.dwz_def_output.specs.declared.new_file.NewFile.{NewFile}
use Rattle.dwz_def_output.specs.NewFiles.{IsFound, IsNewFileBy, IsNewOrOldBy, NarrowFaultBy}
use Rattle.dwz_run_output.proofs.FirstFound.{found_joined}

module _ (k : CommonFile) (r : Run) (file : ℕ) (moves : changes r.move r.units file ≡ true) where
  abbrev InInfo : Fault → Type 0
  InInfo = FirstNarrowBy k r file 1 (spoken r file)

  abbrev InLists : Fault → Type 0
  InLists = FirstNarrowBy k r file 7 (listed r file)

  abbrev Large : Fault → Type 0
  Large = OfFirst IsLargeSection (changes_by (sections_after_by k r file) None).new

  narrow_first : (f : Fault) → OrElse InInfo InLists f → OrElse InInfo (OrElse InLists Large) f
  narrow_first f (inl here) = inl here
  narrow_first f (inr later) = inr (later.0, inl later.1)

  none_at_all : Nothing (OrElse InInfo InLists) → Nothing Large → Nothing (OrElse InInfo (OrElse InLists Large))
  none_at_all narrow large f (inl here) = narrow f (inl here)
  none_at_all narrow large f (inr (none, inl there)) = narrow f (inr (none, there))
  none_at_all narrow large f (inr (none, inr (other, last))) = large f last

  pub sections_found : (a b : Option Fault) → IsFound (NarrowFaultBy k r file) a → IsFound Large b → IsFound (SectionsFaultBy k r file) (option_or a b)
  sections_found (Some f) b narrow large = (moves, narrow_first f narrow)
  sections_found None (Some f) narrow large = (moves, inr (not_first InInfo InLists narrow, inr (not_then InInfo InLists narrow, large)))
  sections_found None None narrow large = λ f has. none_at_all narrow large f has.1

-- what is found of the sections that were made
pub new_found : (k : CommonFile) (r : Run) (file : ℕ) (n : NewFile) (b : Option Fault) → IsNewFileBy k r file n → IsFound (OfFirst IsLargeSection (changes_by n.sections None).new) b
    → IsFound (SectionsFaultBy k r file) (option_or n.narrow b)
new_found k r file n b is large =
    sections_found k r file is.moves n.narrow b is.narrow (subst (λ (s : Sections). IsFound (OfFirst IsLargeSection (changes_by s None).new) b) is.sections large)

-- a file of which nothing moves has none
pub old_found : (k : CommonFile) (r : Run) (file : ℕ) → IsNewOrOldBy k r file None → IsFound (SectionsFaultBy k r file) None
old_found k r file same f has = let z : true ≡ false = sym has.0 ∙ same in absurd (let w : true ≡ false = z in cc)

-- ---- rows by number

pub nth_row : {X : Type 0} (xs : List X) (start k : ℕ) (d : X) → k < length xs → Nth start xs (start + k) (get_or xs k d)
nth_row [] start k d less = absurd (omega arith)
nth_row (x ∷ xs) start zero d less = let same : start ≡ start + 0 = omega arith in inl (same, refl)
nth_row {X} (x ∷ xs) start (suc k) d less =
    let same : suc start + k ≡ start + suc k = omega arith in
    inr (subst (λ (n : ℕ). Nth (suc start) xs n (get_or xs k d)) same (nth_row xs (suc start) k d (omega arith)))

pub is_row : {X : Type 0} (xs : List X) (k : ℕ) (x : X) → k < length xs → x ≡ get_or xs k x → Nth 0 xs k x
is_row {X} xs k x less is =
    let same : 0 + k ≡ k = omega arith in
    let row = subst (λ (n : ℕ). Nth 0 xs n (get_or xs k x)) same (nth_row xs 0 k x less) in
    subst (λ (y : X). Nth 0 xs k y) (sym is) row

-- ---- sections that are too large, code by code

abbrev pub AreLarge : List NewContent → Option Fault → Type 0
AreLarge new found = IsFound (OfFirst IsLargeSection new) found

-- what is found of some, or else of those behind them
pub large_next : (xs ys : List NewContent) (a b found : Option Fault) → AreLarge xs a → AreLarge ys b → found ≡ option_or a b → AreLarge (xs ++ ys) found
large_next xs ys a b found first second is = subst (AreLarge (xs ++ ys)) (sym is) (found_joined IsLargeSection xs ys a b first second)

pub large_same : (code : ℕ) (o p : Option (List ℕ)) (found : Option Fault) → o ≡ p → AreLarge (if_new code o) found → AreLarge (if_new code p) found
large_same code o p found same = subst (λ (bytes : Option (List ℕ)). AreLarge (if_new code bytes) found) same

regroup : (a b c d e f g : List NewContent) → (((((a ++ b) ++ c) ++ d) ++ e) ++ f) ++ g ≡ a ++ (b ++ (c ++ (d ++ (e ++ (f ++ g)))))
regroup a b c d e f g = simp append_assoc

-- the new sections up to a code
abbrev pub to_abbrevs : Sections → List NewContent
to_abbrevs s = if_new 1 (Some s.info) ++ if_new 2 (Some s.abbrev)

abbrev pub to_strs : Sections → List NewContent
to_strs s = to_abbrevs s ++ if_new 3 s.strs

abbrev pub to_offsets : Sections → List NewContent
to_offsets s = to_strs s ++ if_new 5 s.offsets

abbrev pub to_line : Sections → List NewContent
to_line s = to_offsets s ++ if_new 6 s.line

abbrev pub to_lists : Sections → List NewContent
to_lists s = to_line s ++ if_new 7 s.loclists

-- those of all codes
pub all_large : (s : Sections) (found : Option Fault) → AreLarge (to_lists s ++ if_new 8 s.aranges) found → AreLarge (changes_by s None).new found
all_large s found =
    subst (λ (new : List NewContent). AreLarge new found)
    (regroup (if_new 1 (Some s.info)) (if_new 2 (Some s.abbrev)) (if_new 3 s.strs) (if_new 5 s.offsets) (if_new 6 s.line) (if_new 7 s.loclists) (if_new 8 s.aranges))
