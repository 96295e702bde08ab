-- What is a fault of a file that is read back is one of a file that is read by itself.
use Rattle.std.proofs.Common.{◌≡◌, ◌⊎◌, ℕ, ◌<◌, true, false, List, [], ◌∷◌, ◌++◌, not, eqb, inl, inr, arith}
use Rattle.std.proofs.lemmas.Bool.{and_parts}
use Rattle.dwz_model.specs.declared.fault.Fault.{Fault}
use Rattle.dwz_def_reading.specs.declared.elf.FileHeader.{FileHeader}
use Rattle.dwz_def_reading.specs.declared.elf.Section.{Section}
use Rattle.dwz_def_reading.specs.ElfFaults.{Either, FieldRowsFor, InOrder, IsElfFault, IsElfFaultFor, IsRewritten, KeptRowsFor, WrongCountFor, by_itself, is_index, read_back}
use Rattle.dwz_def_reading.specs.ElfHeaders.{file_header, has_relocations}
use Rattle.dwz_def_reading.specs.ElfNames.{sections_in}

count : (file : FileHeader) (f : Fault) → WrongCountFor read_back file f → WrongCountFor by_itself file f
count file f h = (h.0, by h.1) where
  by : (file.headers ≡ 0) ⊎ (65279 < file.headers) → (file.headers ≡ 0) ⊎ (65278 < file.headers)
  by (inl none) = inl none
  by (inr many) = inr (omega (arith, many))

fields : (bytes : List ℕ) (file : FileHeader) (f : Fault) → FieldRowsFor read_back Either bytes file f → FieldRowsFor by_itself Either bytes file f
fields bytes file f (inl h) = inl h
fields bytes file f (inr (inl h)) = inr (inl h)
fields bytes file f (inr (inr (inl h))) = inr (inr (inl h))
fields bytes file f (inr (inr (inr (inl h)))) = inr (inr (inr (inl (count file f h))))
fields bytes file f (inr (inr (inr (inr h)))) = inr (inr (inr (inr h)))

kept : (sections : List Section) (s : Section) (f : Fault) → KeptRowsFor read_back Either sections s f → KeptRowsFor by_itself Either sections s f
kept sections s f (inl h) = inl (h.0, (h.1.0, by h.1.1)) where
  by : (is_index true s ≡ true) ⊎ ((has_relocations s.header ≡ true) × IsRewritten sections s.header.info)
      → (is_index false s ≡ true) ⊎ ((has_relocations s.header ≡ true) × IsRewritten sections s.header.info)
  by (inl index) = inl ((and_parts s.name.is_index (not (eqb s.name.code 9)) index).0)
  by (inr moved) = inr moved
kept sections s f (inr h) = inr h

in_each : {X : Type 0} (One Any : X → Fault → Type 0) → ((x : X) (f : Fault) → One x f → Any x f) → (before xs : List X) (f : Fault) → InOrder Either (λ b. One) before xs f
    → InOrder Either (λ b. Any) before xs f
in_each One Any each before [] f h = h
in_each One Any each before (x ∷ xs) f (inl h) = inl (each x f h)
in_each One Any each before (x ∷ xs) f (inr h) = inr (in_each One Any each (before ++ x ∷ []) xs f h)

pub back_by_itself : (bytes : List ℕ) (f : Fault) → IsElfFaultFor read_back bytes f → IsElfFault bytes f
back_by_itself bytes f (inl h) = inl h
back_by_itself bytes f (inr (inl h)) = inr (inl (fields bytes (file_header bytes) f h))
back_by_itself bytes f (inr (inr (inl h))) = inr (inr (inl h))
back_by_itself bytes f (inr (inr (inr (inl h)))) = inr (inr (inr (inl h)))
back_by_itself bytes f (inr (inr (inr (inr (inl h))))) =
    let sections = sections_in bytes in
    inr (inr (inr (inr (inl (in_each (KeptRowsFor read_back Either sections) (KeptRowsFor by_itself Either sections) (kept sections) [] sections f h)))))
back_by_itself bytes f (inr (inr (inr (inr (inr h))))) = inr (inr (inr (inr (inr h))))
