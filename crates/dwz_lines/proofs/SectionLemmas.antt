-- Tables one behind the other: what is known once some of them are read.
use Rattle.std.proofs.Common.{◌≡◌, ℕ, ◌+◌, ◌<◌, ◌≤◌, Bool, true, false, List, [], ◌∷◌, length, drop, Ok, Err, refl, sym, ap, ◌∙◌, arith}
use Rattle.std.specs.Prelude.{◌||◌}
use Rattle.std.proofs.lemmas.List.{length-drop}
use Rattle.dwz_model.specs.declared.fault.Fault.{Fault}
use Rattle.dwz_def_reading.proofs.CaseFacts.{or_assoc}
use Rattle.dwz_def_reading.specs.LineTables.{FileTable, IsFileTable, TextSections, file_table_at, line_length}
use Rattle.dwz_def_reading.proofs.AgreeLemmas.{same_meaning}
use Rattle.dwz_def_reading.proofs.LineTableLemmas.{file_table_agrees}
use Rattle.dwz_def_reading.specs.LineSection.{AreTablesFrom, IsRowOf, any_strp}
use Rattle.dwz_lines.proofs.HeadLemmas.{whole_unit}

-- whatever the tables are, some were read, and the others begin here
pub record AreRead (s : TextSections) (line : List ℕ) (place : ℕ) (uses : Bool) : Type 0 where
  pub within : place ≤ length line
  pub all : (tables : List FileTable) → AreTablesFrom s line 0 tables → (rest : List FileTable) × AreTablesFrom s line place rest × (any_strp tables ≡ (uses || any_strp rest))
  pub some : (rest : List FileTable) → AreTablesFrom s line place rest → (tables : List FileTable) × AreTablesFrom s line 0 tables × (any_strp tables ≡ (uses || any_strp rest))

pub none_read : (s : TextSections) (line : List ℕ) → AreRead s line 0 false
none_read s line = record { within = omega arith; all = λ tables are. (tables, are, refl); some = λ rest are. (rest, are, refl) }

or_false : (a : Bool) → (a || false) ≡ a
or_false true = refl
or_false false = refl

module _ (s : TextSections) (line : List ℕ) (place : ℕ) (uses : Bool) (are : AreRead s line place uses) where
  module _ (lt : place < length line) where
    -- a table stands there
    module _ (t : FileTable) (is : IsFileTable s line place t) where
      pub fits : place + (4 + line_length (drop place line)) ≤ length line
      fits = let whole = whole_unit (drop place line) is.header in omega (arith, whole, length-drop place line, lt)

      rest_of : (rest : List FileTable) → AreTablesFrom s line place rest → (others : List FileTable) × AreTablesFrom s line (place + (4 + line_length (drop place line))) others
          × (any_strp rest ≡ (t.has_strp || any_strp others))
      rest_of [] none = absurd (omega (arith, none, lt))
      rest_of (u ∷ others) both =
          let same : u ≡ t = same_meaning (file_table_agrees s line place) u t both.0 is in
          (others, both.1, ap (λ (v : FileTable). v.has_strp || any_strp others) same)

      pub one_more : (now : Bool) → now ≡ (uses || t.has_strp) → AreRead s line (place + (4 + line_length (drop place line))) now
      one_more now so = record {
        within = fits;
        all = λ tables row.
            let a = are.all tables row in
            let b = rest_of a.0 a.1 in
            (b.0, b.1, a.2 ∙ ap (λ (v : Bool). uses || v) b.2 ∙ or_assoc uses t.has_strp (any_strp b.0) ∙ ap (λ (v : Bool). v || any_strp b.0) (sym so));
        some = λ rest row.
            let a = are.some (t ∷ rest) (is, row) in
            (a.0, a.1, a.2 ∙ or_assoc uses t.has_strp (any_strp rest) ∙ ap (λ (v : Bool). v || any_strp rest) (sym so));
      }

    -- none stands there
    pub no_row : ((t : FileTable) → IsFileTable s line place t → ⊥) → (tables : List FileTable) → AreTablesFrom s line 0 tables → ⊥
    no_row none tables row = let a = are.all tables row in by a.0 a.1 where
      by : (rest : List FileTable) → AreTablesFrom s line place rest → ⊥
      by [] end = omega (arith, end, lt)
      by (t ∷ rest) both = none t both.0

  -- the section is over
  pub row_ends : length line ≤ place → (tables : List FileTable) × IsRowOf s line tables uses
  row_ends le =
      let end : place ≡ length line = omega (arith, le, are.within) in
      let a = are.some [] end in
      (a.0, record { row = a.1; any = a.2 ∙ or_false uses })

-- what was answered
pub table_is : (s : TextSections) (line : List ℕ) (place : ℕ) (t : FileTable) → file_table_at s line place ≡ Ok t → IsFileTable s line place t
table_is s line place t is = ((file_table_agrees s line place).ok t).0 is

pub none_is : (s : TextSections) (line : List ℕ) (place : ℕ) (f : Fault) → file_table_at s line place ≡ Err f → (t : FileTable) → IsFileTable s line place t → ⊥
none_is s line place f is = (((file_table_agrees s line place).err f).0 is).1
