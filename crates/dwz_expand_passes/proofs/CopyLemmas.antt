-- The copy that an entry stands for, and the first entry that a value names.
use Rattle.std.proofs.Common.{◌≡◌, ℕ, ◌+◌, ◌<◌, List, [], ◌∷◌, map, Option, Some, None, refl, sym, ap, ◌∙◌}
use Rattle.std.specs.Prelude.{IfSome, unwrap_or}
use Rattle.std.specs.Option.{option_map}
use Rattle.dwz_def_expand.specs.Source.{copy, source_places, unit_for}
use Rattle.dwz_graph.specs.Surroundings.{entries_among}
use Rattle.dwz_expand_sources.specs.Imports.{same}
use Rattle.dwz_expand_sources.specs.Copies.{IsCopyFor, IsCopyNumber}
use Rattle.dwz_expand_sources.specs.declared.copies.CopyAt.{CopyAt}
use Rattle.dwz_expand_passes.specs.declared.files.SourceEntry.{SourceEntry}
use Rattle.dwz_expand_passes.specs.Copied.{IsAnswer, IsCopied, Lost}
use Rattle.dwz_expand_passes.specs.Known.{Fits, Setting, StandsAt, copied, place_named, raw_of}

-- where a copy is found, it is the copy of the definition
pub unit_is : (q : Setting) (p : ℕ) (c : CopyAt) → IsCopied q p c → (copied q p).unit ≡ c.unit
unit_is q p c is = ap (λ (o : Option ℕ). unwrap_or o q.unit) is.known

pub not_lost : (q : Setting) (p : ℕ) (c : CopyAt) → IsCopied q p c → ¬ Lost q p
not_lost q p c is lost = (let z : None ≡ Some c.unit = sym lost ∙ is.known in cc)

pub answer_is : (x : SourceEntry) (q : Setting) (p : ℕ) (answer : Option CopyAt) → Fits x q → IsCopyFor q.w x.known.copies.now.unit p answer → IsAnswer q p answer
answer_is x q p answer fits is = by answer (is.unit ∙ ap (λ (n : ℕ). unit_for same (source_places same q.w) n p) fits.unit) is.number where
  by : (o : Option CopyAt) → option_map (λ (c : CopyAt). c.unit) o ≡ unit_for same (source_places same q.w) q.unit p
      → IfSome o (λ c. IsCopyNumber (source_places same q.w) c.unit p c.number) → IsAnswer q p o
  by None unit number = sym unit
  by (Some c) unit number = record {
    known = sym unit;
    key = fits.keys c.unit p c.number number ∙ ap (λ (u : ℕ). copy u p) (ap (λ (o : Option ℕ). unwrap_or o q.unit) unit);
  }

-- ---- what stands at the places that are named

pub first_there : (f : ℕ → ℕ) (refs : List ℕ) (p : ℕ) (others : List ℕ) → map f refs ≡ p ∷ others → (j : ℕ) × (rest : List ℕ) × (refs ≡ j ∷ rest) × (f j ≡ p)
first_there f [] p others e = absurd cc
first_there f (j ∷ rest) p others e = (let same : f j ≡ p = cc in (j, rest, refl, same))

pub stands_named : (x : SourceEntry) (q : Setting) (j p : ℕ) → Fits x q → j < entries_among q.around.common (raw_of x) → place_named q (raw_of x) j ≡ p → StandsAt q.w (x.first + j) p
stands_named x q j p fits low is = (let s = fits.found j low in (s.0, s.1, s.2 ∙ is))
