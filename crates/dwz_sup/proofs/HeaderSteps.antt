-- How far section headers are written: those that are left follow at the next name and the next content.
use Rattle.std.proofs.Common.{◌≡◌, ℕ, ◌+◌, ◌<◌, ◌≤◌, List, [], ◌∷◌, ◌++◌, length, drop, get_or, sym, ap, subst, ◌∙◌, arith, append_assoc, append-nil, length-append}
use Rattle.std.proofs.lemmas.List.{drop_all, drop_more}
use Rattle.dwz_def_reading.specs.ElfLayout.{numbers}
use Rattle.dwz_def_reading.specs.PlainFile.{PlainSection, plain_contents, plain_headers, section_fields, section_names}
use Rattle.dwz_sup.specs.declared.plain.PlainSection.{PlainSection as Given}
use Rattle.dwz_sup.specs.Seen.{section_seen, sections_seen}

pub record HeadersSoFar (old out : List ℕ) (name at : ℕ) (sections rest : List PlainSection) : Type 0 where
  pub headers : out ++ plain_headers name at rest ≡ old ++ plain_headers 1 64 sections
  pub names : name + length (section_names rest) ≡ 1 + length (section_names sections)
  pub contents : at + length (plain_contents rest) ≡ 64 + length (plain_contents sections)

-- the header of the next section is written
one_header : (old out new : List ℕ) (name at : ℕ) (sections rest : List PlainSection) (s : PlainSection)
    → new ≡ out ++ numbers (section_fields name 1 s.flags at (length s.bytes) s.entry_size) → HeadersSoFar old out name at sections (s ∷ rest)
    → HeadersSoFar old new (name + (length s.name + 1)) (at + length s.bytes) sections rest
unfolding plain_headers
one_header old out new name at sections rest s is so_far =
    let header = numbers (section_fields name 1 s.flags at (length s.bytes) s.entry_size) in
    let left = plain_headers (name + (length s.name + 1)) (at + length s.bytes) rest in
    record {
      headers = ap (λ (w : List ℕ). w ++ left) is ∙ append_assoc out header left ∙ so_far.headers;
      names = omega (arith, so_far.names, length-append (s.name ++ 0 ∷ []) (section_names rest), length-append s.name (0 ∷ []));
      contents = omega (arith, so_far.contents, length-append s.bytes (plain_contents rest));
    }

pub next_header : (old out new : List ℕ) (name at i : ℕ) (sections : List Given) (d : Given) → i < length sections
    → new ≡ out ++ numbers (section_fields name 1 (get_or sections i d).flags at (length (get_or sections i d).bytes.now) (get_or sections i d).entry_size)
    → HeadersSoFar old out name at (sections_seen sections) (sections_seen (drop i sections))
    → HeadersSoFar old new (name + (length (get_or sections i d).name.now + 1)) (at + length (get_or sections i d).bytes.now) (sections_seen sections) (sections_seen (drop (i + 1) sections))
next_header old out new name at i sections d lt is so_far =
    let s = section_seen (get_or sections i d) in
    let rest = sections_seen (drop (i + 1) sections) in
    let parts : sections_seen (drop i sections) ≡ s ∷ rest = ap sections_seen (drop_more sections i d lt) in
    one_header old out new name at (sections_seen sections) rest s is (subst (HeadersSoFar old out name at (sections_seen sections)) parts so_far)

pub all_headers : (old out : List ℕ) (name at i : ℕ) (sections : List Given) → length sections ≤ i
    → HeadersSoFar old out name at (sections_seen sections) (sections_seen (drop i sections)) → out ≡ old ++ plain_headers 1 64 (sections_seen sections)
unfolding plain_headers
all_headers old out name at i sections le so_far =
    let none : sections_seen (drop i sections) ≡ [] = ap sections_seen (drop_all i sections le) in
    sym (append-nil out) ∙ (subst (HeadersSoFar old out name at (sections_seen sections)) none so_far).headers
