-- Contents that read behind a common file, file by file, with the units as they are stored.
use Rattle.std.proofs.Common.{◌≡◌, ℕ, suc, ◌+◌, List, [], ◌∷◌, length, get_or, Result, Ok, Err, refl, sym, ap, subst, inl, inr, arith, Bool, false}
use Rattle.dwz_def_reading.specs.Fault.{Fault}
use Rattle.dwz_def_reading.specs.Units.{RawUnit}
use Rattle.dwz_def_reading.specs.Values.{AreBytes}
use Rattle.dwz_def_reading.specs.Documents.{Doc}
use Rattle.dwz_def_reading.specs.Files.{Limits, ReadAll, Reads, limits_after}
use Rattle.dwz_def_reading.proofs.FileLemmas.{file_agrees}
use Rattle.dwz_def_tops.specs.Lists.{Nth}
use Rattle.dwz_def_reading.specs.Lists.{Each}
use Rattle.dwz_def_encoding.proofs.ReadAgain.{section_bytes}
use Rattle.dwz_def_readback.specs.AllFiles.{AreRead, FileReads}
use Rattle.dwz_def_output.specs.Written.{ArePrunable, raws, stored_behind}

raws_by : (l : Limits) (bytes : List ℕ) (files : List (List ℕ)) (units : List RawUnit) (doc : Doc ℕ) → Reads l bytes units doc
    → raws l (bytes ∷ files) ≡ units ∷ raws (limits_after l bytes units) files
unfolding raws
raws_by l bytes files units doc reads =
    ap (λ (m : Result (List RawUnit × Doc ℕ) Fault). elim m as (λ _. List (List RawUnit)) [ Ok x ↦ x.0 ∷ raws (limits_after l bytes x.0) files | Err f ↦ [] ]) (((file_agrees l bytes).ok
    (units, doc)).1 reads)

-- the document with a number is what the file with that number says
record ReadAt (s n : ℕ) (contents : List (List ℕ)) (stored : List (List RawUnit)) (prunes : List Bool) (doc : Doc ℕ) : Type 0 where
  index : ℕ
  is_index : n ≡ s + index
  read : FileReads (get_or contents index []) (get_or stored index []) (get_or prunes index false) doc

read_at : (l : Limits) (files : List (List ℕ)) (docs : List (Doc ℕ)) (prunes : List Bool) (s : ℕ) → ReadAll l files docs → ArePrunable files docs prunes → Each AreBytes files
    → (n : ℕ) (doc : Doc ℕ) → Nth s docs n doc → ReadAt s n files (raws l files) prunes doc
read_at l [] [] prunes s all flags are n doc nth = absurd nth
read_at l [] (d ∷ docs) prunes s all flags are n doc nth = absurd all
read_at l (bytes ∷ files) [] prunes s all flags are n doc nth = absurd all
read_at l (bytes ∷ files) (d ∷ docs) [] s all flags are n doc nth = absurd flags
read_at l (bytes ∷ files) (d ∷ docs) (p ∷ prunes) s all flags are n doc (inl e) = record {
  index = 0;
  is_index = let same = e.0 in omega (arith, same);
  read = subst (λ (raw : List (List RawUnit)). FileReads bytes (get_or raw 0 []) p doc) (sym (raws_by l bytes files all.0 d all.1))
      (subst (FileReads bytes all.0 p) e.1 (record { limits = l; reads = all.1; are_bytes = section_bytes bytes 1 are.0; prunable = flags.0 }));
}
read_at l (bytes ∷ files) (d ∷ docs) (p ∷ prunes) s all flags are n doc (inr later) =
    let o = read_at (limits_after l bytes all.0) files docs prunes (suc s) all.2 flags.1 are.1 n doc later in
    let at = o.is_index in
    record {
      index = suc o.index;
      is_index = omega (arith, at);
      read = subst (λ (raw : List (List RawUnit)). FileReads (get_or files o.index []) (get_or raw (suc o.index) []) (get_or prunes o.index false) doc) (sym (raws_by l bytes files all.0 d all.1))
          o.read;
    }

pub are_read_behind : (l : Limits) (contents : List (List ℕ)) (docs : List (Doc ℕ)) (prunes : List Bool) → ReadAll l contents docs → ArePrunable contents docs prunes → Each AreBytes contents
    → AreRead (stored_behind l contents prunes) docs
are_read_behind l contents docs prunes all flags are file doc nth =
    let o = read_at l contents docs prunes 0 all flags are file doc nth in
    let is = o.is_index in
    let at : o.index ≡ file = omega (arith, is) in
    subst (λ (x : ℕ). FileReads (get_or contents x []) (get_or (raws l contents) x []) (get_or prunes x false) doc) at o.read

pub read_length : (l : Limits) (contents : List (List ℕ)) (docs : List (Doc ℕ)) → ReadAll l contents docs → length docs ≡ length contents
read_length l [] [] all = refl
read_length l [] (d ∷ docs) all = absurd all
read_length l (bytes ∷ contents) [] all = absurd all
read_length l (bytes ∷ contents) (d ∷ docs) all = ap suc (read_length (limits_after l bytes all.0) contents docs all.2)
