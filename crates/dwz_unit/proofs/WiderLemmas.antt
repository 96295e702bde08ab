-- What is read up to the end of a unit is read so where the section goes on.
use Rattle.std.proofs.Common.{◌≡◌, ℕ, ◌≤◌, List, ◌++◌, length, take, drop, Ok, sym, ap, subst, ◌∙◌, append_assoc, arith}
use Rattle.std.proofs.lemmas.List.{drop-append-le, length-take, take-append-drop}
use Rattle.dwz_model.specs.declared.place.Pair.{Pair}
use Rattle.dwz_bytes.specs.Input.{Input, input}
use Rattle.dwz_bytes.specs.Reading.{uleb_at}
use Rattle.dwz_def_reading.specs.Abbrevs.{Declaration}
use Rattle.dwz_def_reading.specs.Entries.{RawAttr, RawEntry, attrs_at}
use Rattle.dwz_def_reading.specs.Values.{written_rows}
use Rattle.dwz_def_reading.proofs.AttrReads.{attrs_again, attrs_found}
use Rattle.dwz_def_reading.proofs.ReadLemmas.{uleb_reads}
use Rattle.dwz_unit.proofs.AgainLemmas.{FrontParts}

-- an input with more bytes behind
abbrev wider : List ℕ → Input → Input
wider more i = record { at = i.at; rest = i.rest ++ more }

-- the input at a place, by what stands up to a place behind it
input_wider : (info : List ℕ) (at end : ℕ) → at ≤ end → end ≤ length info → wider (drop end info) (input (take end info) at) ≡ input info at
input_wider info at end before within =
    let inside : at ≤ length (take end info) = omega (arith, before, within, length-take end info) in
    ap (λ (w : List ℕ). record { at = at; rest = w }) (sym (drop-append-le at (take end info) (drop end info) inside) ∙ ap (drop at) (take-append-drop end info))

code_wider : (i mid : Input) (code : ℕ) (more : List ℕ) → uleb_at i ≡ Ok (code, mid) → uleb_at (wider more i) ≡ Ok (code, wider more mid)
code_wider i mid code more read =
    let t = uleb_reads.found i mid code read in
    ap (λ (w : List ℕ). uleb_at (record { at = i.at; rest = w })) (ap (λ (w : List ℕ). w ++ more) t.parts ∙ append_assoc t.front mid.rest more)
    ∙ uleb_reads.again i.at code t.front (mid.rest ++ more) t.spelled
    ∙ ap (λ (n : ℕ). Ok (code, record { at = n; rest = mid.rest ++ more })) (sym t.place)

attrs_wider : (entry : ℕ) (pairs : List Pair) (i j : Input) (attrs : List RawAttr) (more : List ℕ) → attrs_at written_rows entry pairs i ≡ Ok (attrs, j)
    → attrs_at written_rows entry pairs (wider more i) ≡ Ok (attrs, wider more j)
attrs_wider entry pairs i j attrs more read =
    let t = attrs_found written_rows pairs entry i j attrs read in
    ap (λ (w : List ℕ). attrs_at written_rows entry pairs (record { at = i.at; rest = w })) (ap (λ (w : List ℕ). w ++ more) t.takes.parts ∙ append_assoc t.bytes j.rest more)
    ∙ attrs_again written_rows pairs attrs entry i.at t.bytes (j.rest ++ more) t.spelled
    ∙ ap (λ (n : ℕ). Ok (attrs, record { at = n; rest = j.rest ++ more })) (sym t.takes.place)

front_wider : (table : List Declaration) (i j : Input) (e : RawEntry) (more : List ℕ) → FrontParts table i j e → FrontParts table (wider more i) (wider more j) e
front_wider table i j e more f = record {
  code = f.code;
  behind_code = wider more f.behind_code;
  read = code_wider i f.behind_code f.code more f.read;
  decl = f.decl;
  found = f.found;
  tag = f.tag;
  values = attrs_wider i.at f.decl.pairs f.behind_code j e.attrs more f.values;
}

-- the parts of a front, where the section goes on behind the unit
pub front_in_section : (table : List Declaration) (info : List ℕ) (at end : ℕ) (j : Input) (e : RawEntry) → at ≤ end → end ≤ length info → FrontParts table (input (take end info) at) j e
    → FrontParts table (input info at) (wider (drop end info) j) e
front_in_section table info at end j e before within f =
    subst (λ (i : Input). FrontParts table i (wider (drop end info) j) e) (input_wider info at end before within) (front_wider table (input (take end info) at) j e (drop end info) f)
