-- A file that is made with its new sections is what is asked for, and what keeps it from being made is its first fault.
use Rattle.std.proofs.Common.{◌≡◌, ◌⊎◌, ℕ, ◌+◌, ◌<◌, ◌≤◌, Bool, true, false, List, [], ◌∷◌, ◌++◌, length, get_or, append-nil, below_more, Option, Some, None, Err, refl, sym, ap, subst, ◌∙◌, inl}
use Rattle.std.proofs.Common.{inr, arith, IsSome}
use Rattle.std.proofs.lemmas.List.{get_or_append_left, get_or_push, length_push}
use Rattle.dwz_model.specs.declared.fault.Fault.{Fault}
use Rattle.dwz_model.specs.declared.fault.GraphErr.{GraphErr}
use Rattle.dwz_model.specs.declared.fault.GraphErr.TheVariants.{NoMemory, Refused}
use Rattle.dwz_model.specs.declared.sections.Sections.{Sections}
use Rattle.dwz_def_reading.specs.declared.elf.NewContent.{NewContent}
use Rattle.dwz_def_reading.specs.ElfLayout.{Changes, layout_fault, rebuilt_length, too_large}
use Rattle.dwz_def_reading.specs.ElfReading.{ElfView, elf_of}
use Rattle.dwz_elf.specs.Rebuilds.{IsRebuilt, IsTooLarge, RebuildView}
use Rattle.dwz_def_output.specs.Changed.{CanGive, CanGiveAll, changes_by, if_new}
use Rattle.dwz_def_output.specs.Rebuilt.{new_file}
use Rattle.dwz_def_images.specs.Units.{changes}
use Rattle.dwz_def_readback.specs.Files.{CommonFile, Run}
use Rattle.dwz_def_output.specs.Contents.{sections_after_by}
use Rattle.dwz_def_output.specs.FilesAfter.{changes_after_by, file_after_by, order_of, sup_after_by}
use Rattle.dwz_def_output.specs.Refusals.{FileFaultBy, IsUnplacedBy}
use Rattle.dwz_def_output.proofs.FreeLemmas.{Nothing}
use Rattle.dwz_def_output.proofs.Orders.{is_order, same_order}
use Rattle.dwz_def_output.specs.declared.new_file.NewFile.{NewFile}
use Rattle.dwz_run_output.specs.Giving.{IsThere, given, with_sup_if}
use Rattle.dwz_run_output.specs.Making.{AnswersAll, AnswersFile, AreMadeSo, CanMake, made_after, made_if}
use Rattle.dwz_run_output.proofs.FirstFound.{first_found}

-- ---- sections that can be given are there

pub there : (input : List ℕ) (code : ℕ) (bytes : Option (List ℕ)) → CanGive input code bytes → IsThere (elf_of input) code bytes
unfolding elf_of
there input code None can = tt
there input code (Some bytes) can = subst (λ (o : Option (ℕ × ℕ)). IsSome o) (sym can.1) refl

-- what was given: `.debug_sup`, and then from the last code to the first
pub all_given : (e : ElfView) (s : Sections) (sup : Option (List ℕ)) (start : RebuildView) → start.elf ≡ e → start.changes.new ≡ []
    → given 1 (Some s.info) (given 2 (Some s.abbrev) (given 3 s.strs (given 5 s.offsets (given 6 s.line (given 7 s.loclists (given 8 s.aranges (with_sup_if sup start)))))))
    ≡ record { elf = e; changes = changes_by s sup }
all_given e s sup start elf new =
    let list : List NewContent → List NewContent = λ last.
    if_new 1 (Some s.info) ++ (if_new 2 (Some s.abbrev) ++ (if_new 3 s.strs ++ (if_new 5 s.offsets ++ (if_new 6 s.line ++ (if_new 7 s.loclists ++ last))))) in
    let view : ElfView → List NewContent → RebuildView = λ e new. record { elf = e; changes = record { new = list new; sup = sup } } in
    ap (λ (x : ElfView). view x (if_new 8 s.aranges ++ start.changes.new)) elf
    ∙ (ap (λ (x : List NewContent). view e (if_new 8 s.aranges ++ x)) new
    ∙ ap (λ (x : List NewContent). view e x) (append-nil (if_new 8 s.aranges)))

-- ---- one file

abbrev pub view_of : List ℕ → Changes → RebuildView
view_of bytes changes = record { elf = elf_of bytes; changes = changes }

module _ (k : CommonFile) (name : List ℕ) (r : Run) (file : ℕ) (moves : changes r.move r.units file ≡ true) where
  abbrev input : List ℕ
  input = r.input.bytes file

  abbrev new : Changes
  new = changes_after_by k name r file

  abbrev order : List (ℕ × ℕ)
  order = order_of (elf_of input)

  made_free : (out : List ℕ) → IsRebuilt (view_of input new) input out → Nothing (FileFaultBy k name r file)
  made_free out is f (_, inl unplaced) = let z : None ≡ Some f = sym is.fits ∙ unplaced in absurd (let w : None ≡ Some f = z in cc)
  made_free out is f (_, inr (_, large)) =
      let same = same_order (elf_of input) is.order order is.is_order (is_order (elf_of input)) in
      let small = subst (λ (o : List (ℕ × ℕ)). rebuilt_length (elf_of input) new input o < too_large) same is.small in
      let much = large.1 in absurd (omega (arith, small, much))

  made_so : (out : List ℕ) → IsRebuilt (view_of input new) input out → Some out ≡ made_after k name r file
  unfolding file_after_by
  made_so out is =
      let same = same_order (elf_of input) is.order order is.is_order (is_order (elf_of input)) in
      ap (λ (bytes : List ℕ). Some bytes) (is.bytes ∙ ap (λ (o : List (ℕ × ℕ)). new_file input new o) same)
      ∙ sym (ap (λ (b : Bool). made_if b (file_after_by k name r file)) moves)

  not_made : (f : Fault) → (layout_fault (elf_of input) new ≡ Some f) ⊎ IsTooLarge (view_of input new) input f → FileFaultBy k name r file f
  not_made f (inl unplaced) = (moves, inl unplaced)
  not_made f (inr is) =
      let same = same_order (elf_of input) is.order order is.is_order (is_order (elf_of input)) in
      let large = subst (λ (o : List (ℕ × ℕ)). too_large ≤ rebuilt_length (elf_of input) new input o) same is.large in
      let none : Nothing (IsUnplacedBy k name r file) = λ g e. (let z : None ≡ Some g = sym is.fits ∙ e in absurd (let w : None ≡ Some g = z in cc)) in
      (moves, inr (none, (is.fault, large)))

module _ (k : CommonFile) (name : List ℕ) (r : Run) (file : ℕ) (bytes : List ℕ) (n : NewFile) (sup : Option (List ℕ)) (can : CanMake k r file bytes (Some n)) (says : sup ≡ sup_after_by k name r file) where
  same_changes : changes_by n.sections sup ≡ changes_after_by k name r file
  same_changes =
      ap (λ (s : Sections). changes_by s sup) can.is_new.sections
      ∙ ap (λ (x : Option (List ℕ)). changes_by (sections_after_by k r file) x) says

  pub can_give : CanGiveAll bytes n.sections
  can_give = subst (λ (s : Sections). CanGiveAll bytes s) (sym can.is_new.sections) (can.can can.is_new.moves)

  pub file_made : (out : List ℕ) → IsRebuilt (view_of bytes (changes_by n.sections sup)) bytes out
      → Nothing (FileFaultBy k name r file) × (Some out ≡ made_after k name r file)
  file_made out is =
      let so = subst (λ (b : List ℕ). IsRebuilt (view_of b (changes_after_by k name r file)) b out) can.before
      (subst (λ (c : Changes). IsRebuilt (view_of bytes c) bytes out) same_changes is) in
      (made_free k name r file can.is_new.moves out so, made_so k name r file can.is_new.moves out so)

  pub file_refused : (f : Fault) → (layout_fault (elf_of bytes) (changes_by n.sections sup) ≡ Some f) ⊎ IsTooLarge (view_of bytes (changes_by n.sections sup)) bytes f
      → FileFaultBy k name r file f
  file_refused f is =
      let Why : List ℕ → Changes → Type 0 = λ b c. (layout_fault (elf_of b) c ≡ Some f) ⊎ IsTooLarge (view_of b c) b f in
      not_made k name r file can.is_new.moves f (subst (λ (b : List ℕ). Why b (changes_after_by k name r file)) can.before (subst (λ (c : Changes). Why bytes c) same_changes is))

-- a file of which nothing moves stays as it is
pub file_stays : (k : CommonFile) (name : List ℕ) (r : Run) (file : ℕ) → changes r.move r.units file ≡ false → Nothing (FileFaultBy k name r file) × (None ≡ made_after k name r file)
file_stays k name r file stays = (
  λ f has. (let z : true ≡ false = sym has.0 ∙ stays in absurd (let w : true ≡ false = z in cc)),
  sym (ap (λ (b : Bool). made_if b (file_after_by k name r file)) stays),
)

-- ---- one file more

pub one_made : (k : CommonFile) (name : List ℕ) (r : Run) (count : ℕ) (files : List (Option (List ℕ))) (new : Option (List ℕ)) → AreMadeSo k name r count files
    → Nothing (FileFaultBy k name r count) → new ≡ made_after k name r count → AreMadeSo k name r (count + 1) (files ++ new ∷ [])
one_made k name r count files new are free is =
    let Free : ℕ → Type 0 = λ n. Nothing (FileFaultBy k name r n) in
    let IsHere : ℕ → Type 0 = λ n. get_or (files ++ new ∷ []) n None ≡ made_after k name r n in
    record {
      free = below_more Free count are.free free;
      len = length_push files new ∙ ap (λ n. n + 1) are.len;
      each =
          below_more IsHere count (λ n less. let len = are.len in let inside : n < length files = omega (arith, len, less) in get_or_append_left files (new ∷ []) None n inside ∙ are.each n less)
          (get_or_push files new None count are.len ∙ is);
    }

-- a refusal of a file is that of all, where the files before it have no fault
pub one_refused : {A : Type 0} (items : A → List (Option (List ℕ))) (k : CommonFile) (name : List ℕ) (r : Run) (count file : ℕ) (files : List (Option (List ℕ))) (e : GraphErr) → AreMadeSo k name r file files
    → file < count
    → AnswersFile k name r file (Err e) → AnswersAll items k name r count (Err e)
one_refused items k name r count file files (Refused q) are less has = first_found (FileFaultBy k name r) count file q are.free less has
one_refused items k name r count file files NoMemory are less has = tt
