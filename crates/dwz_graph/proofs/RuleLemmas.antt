-- What is known of a file that is read by a rule of the code: what surrounds its units, and that these are few.
use Rattle.std.proofs.Common.{◌≡◌, ℕ, ◌<◌, ◌≤◌, ◌^◌, false, List, length, Option, Some, None, Result, Ok, Err, refl, ap, ◌∙◌, arith}
use Rattle.dwz_def_reading.specs.Input.{input}
use Rattle.dwz_def_reading.specs.ElfReading.{bytes_in}
use Rattle.dwz_def_reading.specs.Entries.{Mode}
use Rattle.dwz_def_reading.specs.Files.{Limits, is_too_long, sources_of}
use Rattle.dwz_def_reading.specs.Meanings.{all_places}
use Rattle.dwz_def_reading.specs.Units.{RawUnit, entries_in, units_at}
use Rattle.dwz_def_reading.proofs.RangeBytes.{bytes_short as in_bytes}
use Rattle.dwz_model.specs.declared.fault.ReadErr.{ReadErr}
use Rattle.dwz_graph.specs.declared.file.File.{File}
use Rattle.dwz_graph.specs.declared.rule.Rule.{Rule}
use Rattle.dwz_graph.specs.declared.rule.Rule.TheVariants.{Given, Common, Back}
use Rattle.dwz_graph_resolve.specs.declared.surroundings.Surroundings.{Surroundings}
use Rattle.dwz_graph.specs.ByRule.{IsGoodRule, ReadsFileBy, around_beside, common_of, rule_view}
use Rattle.dwz_graph.specs.Files.{ReadsFile}
use Rattle.dwz_graph_resolve.specs.Resolved.{sources_view}
use Rattle.dwz_graph_resolve.specs.Surroundings.{around_in, common_view, entries_among}
use Rattle.dwz_graph.proofs.FileLemmas.{fits_file}
use Rattle.dwz_graph.proofs.IndexRoom.{units_fit}

around_is : (rule : Rule) (bytes : List ℕ) (raw : List RawUnit) → around_beside (common_of rule) bytes raw ≡ (rule_view rule).around bytes raw
around_is Given bytes raw = refl
around_is Common bytes raw = refl
around_is (Back c) bytes raw = refl

pub around_known : (rule : Rule) (s : Surroundings) (bytes : List ℕ) (raw : List RawUnit) → sources_view s.sections ≡ sources_of bytes → common_view s.common ≡ common_of rule
    → around_in s raw ≡ (rule_view rule).around bytes raw
around_known rule s bytes raw same common = (λ i. record { sources = same i; all = all_places raw; place = λ (n : ℕ). n; common = common i }) ∙ around_is rule bytes raw

pub own_few : (l : Limits) (bytes info abbrevs : List ℕ) (o : Option (ℕ × ℕ)) (mode : Mode) (raw : List RawUnit) → is_too_long l bytes ≡ false → info ≡ bytes_in bytes o
    → units_at abbrevs mode 0 (input info 0) ≡ Ok raw → entries_in raw ≤ 2 ^ 28
own_few l bytes info abbrevs o mode raw size is e =
    let fits = fits_file l bytes size in
    let within = in_bytes bytes o in
    let len = ap (λ (w : List ℕ). length w) is in
    let few = units_fit abbrevs mode info raw e in
    omega arith

pub room_among : (rule : Rule) (raw : List RawUnit) → IsGoodRule rule → entries_in raw ≤ 2 ^ 28 → entries_among (common_of rule) raw < 2 ^ 32
room_among Given raw good few = omega (arith, few)
room_among Common raw good few = omega (arith, few)
room_among (Back None) raw good few = omega (arith, few)
room_among (Back (Some c)) raw good few = (let more = good.few in omega (arith, few, more))

-- a file that was read by itself
pub given_reads : (l : Limits) (number : ℕ) (bytes : List ℕ) (r : Result File ReadErr) → ReadsFileBy Given l number bytes r → ReadsFile l number bytes r
given_reads l number bytes (Ok f) r = record {
  doc = r.doc;
  means = r.means;
  named = r.named;
  within = r.within;
  parts = r.parts;
  lines = r.lines;
  operands = r.operands;
  of_file = r.of_file;
  elf = r.elf;
  given = r.kind;
  info = r.info;
  sections = r.sections;
  aranges = r.aranges;
}
given_reads l number bytes (Err e) r = r
