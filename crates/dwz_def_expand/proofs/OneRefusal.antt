-- At most one refusal is the first.
use Rattle.std.proofs.Common.{◌≡◌, ℕ, List, Some, sym, ap, ◌∙◌}
use Rattle.dwz_def_reading.specs.Fault.{Fault}
use Rattle.dwz_def_reading.specs.Sections.{Sections}
use Rattle.dwz_def_output.proofs.OneRefusal.{AtMostOne, or_else_one}
use Rattle.dwz_def_output.specs.Refusals.{InFile}
use Rattle.dwz_def_expand.specs.OneFile.{OneFile}
use Rattle.dwz_def_expand.specs.Output.{ExpandRefusal, new_sections}
use Rattle.dwz_def_expand.proofs.RefusalLemmas.{one_refusal as one_inside}
use Rattle.dwz_def_expand.specs.NewFile.{FileFault, IsLargeFile, IsUnplaced, NewRefusal, at_header}

unplaced_one : (input : List ℕ) (s : Sections) → AtMostOne (IsUnplaced input s)
unplaced_one input s x y a b = let same : a.0 ≡ b.0 = one_some a.0 b.0 (sym a.1 ∙ b.1) in a.2 ∙ ap (at_header input) same ∙ sym b.2 where
  one_some : (f g : Fault) → Some f ≡ Some g → f ≡ g
  one_some f g e = cc

file_one : (input : List ℕ) (s : Sections) → AtMostOne (FileFault input s)
file_one input s = or_else_one (IsUnplaced input s) (IsLargeFile input s) (unplaced_one input s) (λ x y a b. a.0 ∙ sym b.0)

in_file_one : (Has : ℕ → Fault → Type 0) (file : ℕ) → AtMostOne (Has file) → AtMostOne (InFile Has file)
in_file_one Has file one p q a b = a.2 ∙ ap (λ (f : Fault). record { file = file; section = f.section; at = f.at; reason = f.reason }) (one a.0 b.0 a.1 b.1) ∙ sym b.2

pub one_refusal : (f : OneFile) → AtMostOne (NewRefusal f)
one_refusal f =
    let bytes = f.file.bytes in
    let s = new_sections f in
    or_else_one (ExpandRefusal f) (InFile (λ file. FileFault bytes s) 0) (one_inside f) (in_file_one (λ file. FileFault bytes s) 0 (file_one bytes s))
